-- The quotient is the definition.
use Rattle.recut.specs.Chances.{share_of}
use mathlib.Core.Path.{refl}
use Rattle.recut.proofs.chances.share_of.Goals as goal

pub returns : goal.returns
unfolding share_of
returns c = refl
