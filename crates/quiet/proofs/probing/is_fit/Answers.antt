-- `probing::is_fit` meets its contract: an open coordinate fits, a given one where it lies in [0, 1].
use Rattle.quiet.proofs.probing.is_fit.Goals as goal

pub returns : goal.returns
returns c = rw c.if-free.false c.in_unit.ensures
