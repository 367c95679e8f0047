-- `mantissa`: no such bits are a NaN's. Assumes nothing.
use Prim.Native.Nat.{ℕ, ◌+◌, ◌*◌, ◌^◌, ◌≤◌, ◌<◌}
use native.Mathlib.Omega.{arith}
use Rattle.doubles.proofs.Bits.{no-nan-bits}
use Rattle.real.proofs.log.mantissa.Goals as goal

room : (m : ℕ) → m < 2 ^ 53 → m + 0x3fe0_0000_0000_0000 ≤ 2047 * 2 ^ 52
room m h = omega arith

pub float_from_bits-result : goal.float_from_bits-result
float_from_bits-result c = no-nan-bits _ (room c.args.digits c.requires)
