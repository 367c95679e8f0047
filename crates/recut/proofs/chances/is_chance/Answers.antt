-- `finite` answers one half of the definition, and the comparison with 0 is the other.
use Rattle.recut.specs.Chances.{chance}
use Rattle.recut.proofs.chances.is_chance.Goals as goal

pub returns : goal.returns
unfolding chance
returns c = rw c.finite.ensures
