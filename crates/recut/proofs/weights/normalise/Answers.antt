-- The definition divides each importance by its count.
use Rattle.std.proofs.Common.{rules}
use Rattle.recut.specs.Weights.{normalised}
use Rattle.recut.proofs.weights.normalise.Goals as goal

pub returns : goal.returns
unfolding normalised
returns c = search rules
