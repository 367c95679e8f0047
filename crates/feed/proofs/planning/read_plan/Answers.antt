-- What was measured decides, and a plan ends within the bytes.
use Rattle.std.proofs.Common.{arith}
use Rattle.feed.proofs.Rungs.{found_inside}
use Rattle.feed.proofs.planning.read_plan.Goals as goal

pub found-requires : goal.found-requires
found-requires c = found_inside _ _ _ (λ i. omega (arith, c.type_inv.bytes i)) c.measure_prefix.ensures c.in-Ok.is
