-- Each cell that the record judges, by its own test.
use Rattle.accumulator.specs.Record.{well_formed, finite_sums, bounded_counts, bounded}
use Rattle.lent.specs.Memory.{record_at}
use Rattle.judges.proofs.judge.is_sound.Goals as goal

pub returns : goal.returns
unfolding well_formed finite_sums bounded_counts bounded record_at
returns c = rw (c.is_finite_at.ensures, c.is_finite_at-2.ensures, c.is_finite_at-3.ensures, c.is_finite_at-4.ensures, c.is_bounded_at.ensures, c.is_bounded_at-2.ensures, c.is_bounded_at-3.ensures, c.is_bounded_at-4.ensures, c.is_bounded_at-5.ensures)
