-- Each stretch by its own scan.
use Rattle.lent.specs.Judged.{counts_fit}
use Rattle.judges.proofs.judging.counts_fit.Goals as goal

pub returns : goal.returns
unfolding counts_fit
returns c = rw (c.are_bounded-waits.ensures, c.are_bounded-nils.ensures, c.are_bounded-counted.ensures, c.is_bounded_at.ensures, c.part.ensures, c.part-2.ensures, c.part-3.ensures)
