-- The accumulator refuses two well-formed records exactly where their merge would not be well formed.
use mathlib.Core.Path.{ap, ap₂, ◌∙◌}
use Rattle.accumulator.specs.declared.StatisticsAccumulator.{StatisticsAccumulator}
use Rattle.accumulator.specs.Record.{well_formed}
use Rattle.accumulator.specs.Steps.{merged_of}
use Rattle.lent.proofs.Matches.{account-fits}
use Rattle.merges.proofs.matching.account_fits.Goals as goal

pub returns : goal.returns
returns c = c.is_ok.ensures.value ∙ account-fits c.merge_samples_no_reset.result c.load-mine.result c.load-joining.result (ap well_formed c.load-mine.ensures ∙ c.requires.4) (ap well_formed c.load-joining.ensures ∙ c.requires.5) c.merge_samples_no_reset.ensures ∙ ap₂ (λ (a b : StatisticsAccumulator). well_formed (merged_of a b)) c.load-mine.ensures c.load-joining.ensures
