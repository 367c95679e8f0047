-- Found so far, or listed among those left, stays the answer; it begins with the comparison with `bins`.
use mathlib.Core.Path.{sym, ◌∙◌}
use Rattle.model.specs.Sound.{listed}
use Rattle.lent.proofs.Judges.{listed-on, listed-out}
use Rattle.judges.proofs.judging.is_listed.Goals as goal

pub loop-value-preserved : goal.loop-value-preserved
loop-value-preserved c = listed-on c.args.n c.args.values.now c.loop-value.value-index c.loop-value.found c.loop-value-test.true ∙ c.loop-value.invariant

pub returns : goal.returns
unfolding listed
returns c = sym (listed-out c.args.n c.args.values.now c.loop-value.value-index c.loop-value.found c.loop-value-test.false) ∙ c.loop-value.invariant
