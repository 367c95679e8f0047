-- Highest, raise, total, divide: one call's result put into the next is `adapted_to`, and the scan judges what came out.
use mathlib.Core.Path.{refl}
use Rattle.recut.specs.Chances.{adapted_to}
use Rattle.recut.proofs.adapt.Goals as goal

pub returns : goal.returns
unfolding adapted_to
returns c = rw (c.are_chances.ensures, c.divide.ensures, c.total-total.ensures, c.raise.ensures, c.highest_of.ensures) (refl, refl)
