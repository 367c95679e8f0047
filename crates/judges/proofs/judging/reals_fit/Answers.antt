-- Each stretch by its own scan.
use Rattle.lent.specs.Judged.{reals_fit}
use Rattle.judges.proofs.judging.reals_fit.Goals as goal

pub returns : goal.returns
unfolding reals_fit
returns c = rw (c.is_well_formed-rising.ensures, c.are_finite-gathered.ensures, c.are_finite-summed.ensures, c.are_finite-squared.ensures, c.part.ensures, c.part-2.ensures, c.part-3.ensures, c.part-4.ensures)
