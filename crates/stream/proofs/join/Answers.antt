-- Four exclusive ors, field by field those of `joined`.
use Rattle.std.proofs.Common.{refl}
use Rattle.stream.specs.Jumps.{joined}
use Rattle.stream.proofs.join.Goals as goal

pub returns : goal.returns
unfolding joined
returns c = refl
