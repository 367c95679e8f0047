-- `guess`: the leading digits are few, so that both starts' bits are those of numbers. Assumes nothing.
use Rattle.std.proofs.Common.{◌≡◌, ℕ, ◌+◌, ◌-◌, ◌*◌, ◌/◌, ◌%◌, ◌^◌, ◌<◌, ◌≤◌, arith}
use Rattle.doubles.proofs.Bits.{no-nan-bits}
use Rattle.root.proofs.positive.guess.Goals as goal

-- both starts' bits lie below those of infinity
at_unit : (b p : ℕ) → p ≤ 2 ^ 55 → (1021 + b % 2) * 2 ^ 52 + p ≤ 2047 * 2 ^ 52
at_unit b p h = omega arith

at-root : (b p r : ℕ) → b < 2 ^ 63 → p ≤ 2 ^ 55 → r ≡ (b / 2 + 0x1ff8_0000_0000_0000) / 2 ^ 52 * 2 ^ 52 → r - 2 ^ 52 + p ≤ 2047 * 2 ^ 52
at-root b p r h l e = omega arith

pub float_from_bits-h : goal.float_from_bits-h
float_from_bits-h c = no-nan-bits _ (at_unit (c.args.bits / 2 ^ 52) c.leading-p.result c.leading-p.ensures)

pub float_from_bits-k : goal.float_from_bits-k
float_from_bits-k c = no-nan-bits _ (at-root c.args.bits c.leading-p.result c.power.result c.requires c.leading-p.ensures c.power.ensures)
