-- The phase decides.
use mathlib.Core.Path.{◌≡◌, refl, ◌∙◌}
use denote.Enum.Bare.{sameb}
use Rattle.feed.specs.contracts.Phase.{the_type}
use Rattle.feed.specs.declared.Phase.{Phase}
use Rattle.feed.specs.declared.Phase.TheVariants as phase
use Rattle.feed.specs.Said.{is_over_in, is_over_of}
use Rattle.feed.proofs.is_over.Goals as goal

over-same : (p : Phase) → sameb the_type p phase.Over ≡ is_over_in p
unfolding is_over_in
over-same phase.Plan = refl
over-same phase.Stream = refl
over-same phase.Samples = refl
over-same phase.Over = refl

pub returns : goal.returns
unfolding is_over_of
returns c = c.eq.ensures ∙ over-same c.args.run.phase
