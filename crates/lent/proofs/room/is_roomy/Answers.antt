-- Room for one axis is room for axes that are one.
use Rattle.lent.specs.Laid.{roomy}
use Rattle.lent.proofs.room.is_roomy.Goals as goal

pub returns : goal.returns
unfolding roomy
returns c = rw c.has_axes-room.ensures
