-- The sums' answer and the counts' answer, joined as the definition joins them.
use Rattle.accumulator.specs.Record.{well_formed}
use Rattle.accumulator.proofs.judge.is_well_formed.Goals as goal

pub returns : goal.returns
unfolding well_formed
returns c = rw (c.has_bounded_counts.ensures, c.has_finite_sums.ensures)
