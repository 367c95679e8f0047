-- The run's words, read one by one.
use Rattle.lent.specs.Tree.{axes_place}
use Rattle.lent.proofs.layout.place_there.Goals as goal

pub returns : goal.returns
unfolding axes_place
returns c = rw (c.double.ensures, c.word.ensures, c.word-2.ensures, c.word-3.ensures, c.word-4.ensures, c.word-5.ensures)
