-- `bins::bin_place` meets its contract: each field is the sum that the definition names.
use mathlib.Core.Path.{refl}
use Rattle.merges.specs.Bins.{bin_place}
use Rattle.merges.proofs.bins.bin_place.Goals as goal

pub returns : goal.returns
unfolding bin_place
returns c = refl
