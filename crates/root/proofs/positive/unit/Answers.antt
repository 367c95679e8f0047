-- `unit`: the bits lie from those of 1/2 to below those of 2. Assumes nothing.
use Rattle.std.proofs.Common.{ℕ, ◌+◌, ◌*◌, ◌%◌, ◌^◌, ◌≤◌, arith}
use Rattle.doubles.proofs.Bits.{no-nan-bits}
use Rattle.root.proofs.positive.unit.Goals as goal

top : (b : ℕ) → b % 2 ^ 53 + 0x3fe0_0000_0000_0000 ≤ 2047 * 2 ^ 52
top b = omega arith

pub float_from_bits-result : goal.float_from_bits-result
float_from_bits-result c = no-nan-bits _ (top c.args.bits)
