-- `inv` is its definition. Assumes nothing.
use Rattle.std.proofs.Common.{refl}
use Rattle.doubles.specs.Inverse.{inv_of}
use Rattle.plain.proofs.inv.Goals as goal

pub returns : goal.returns
unfolding inv_of
returns c = refl
