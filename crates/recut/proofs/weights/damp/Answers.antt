-- The definition damps each importance.
use Rattle.std.proofs.Common.{rules}
use Rattle.recut.specs.Weights.{damped}
use Rattle.recut.proofs.weights.damp.Goals as goal

pub returns : goal.returns
unfolding damped
returns c = search rules
