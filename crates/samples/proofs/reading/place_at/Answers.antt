-- The run's words, read one by one.
use Rattle.lent.specs.Tree.{axes_place}
use Rattle.samples.proofs.reading.place_at.Goals as goal

pub returns : goal.returns
unfolding axes_place
returns c = rw (c.double.ensures, c.count_at.ensures, c.count_at-2.ensures, c.count_at-3.ensures, c.count_at-4.ensures, c.count_at-5.ensures)
