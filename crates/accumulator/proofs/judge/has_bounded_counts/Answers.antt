-- Five comparisons with 2^53, joined in the order of the definition.
use mathlib.Core.Path.{refl}
use Rattle.accumulator.specs.Record.{bounded, bounded_counts}
use Rattle.accumulator.proofs.judge.has_bounded_counts.Goals as goal

pub returns : goal.returns
unfolding bounded_counts bounded
returns c = refl
