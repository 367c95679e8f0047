-- The unit draw: the product that the code rounds is the quotient of the definition, it is exact, and it lies in [0, 1 - 2^-53].
use Rattle.std.proofs.Common.{◌≡◌, ℕ, zero, suc, ◌-◌, ◌/◌, ◌^◌, ◌<◌, ◌≤◌, false, T, pos, sym, refl, ◌∙◌, ap₂, lt_of_lt_of_le, le_of_lt, zero-lt-suc, mul_assoc, one-mul, mul-one, arith, lit<, lit≤, pow_pos, shl_lt, shr_lt}
use lib.Ieee.{Float, binary64, round, mul, of_int, of_bits, le}
use lib.Ieee.Exact.{HasValue, round_exact}
use lib.Ieee.Order.{le_of_values}
use lib.Ieee.Positive.{mul_at, positive_of_value}
use lib.Ieee.Back.{round_whole}
use Rattle.stream.specs.Calls.{unit_of}

-- a whole number of at most 53 digits is its own double
counted : (k : ℕ) → k ≤ 2 ^ 53 → HasValue (of_int binary64 (pos k)) false k 1
unfolding of_int
counted k h = round_whole binary64 false k h

-- k times 2^-53, rounded, is the quotient k / 2^53, rounded
pub scaled : (k : ℕ) → k < 2 ^ 53 → mul binary64 (of_int binary64 (pos k)) (of_bits binary64 4368491638549381120) ≡ round binary64 false k (2 ^ 53)
unfolding mul of_int of_bits round
scaled zero h = refl
scaled (suc k) h =
    mul_at binary64 (of_int binary64 (pos (suc k))) (of_bits binary64 4368491638549381120) (suc k) 1 1 (2 ^ 53)
    (positive_of_value (of_int binary64 (pos (suc k))) (suc k) 1 (counted (suc k) (le_of_lt h)) (zero-lt-suc k)) tt (lit< tt) (pow_pos 53)
    (counted (suc k) (le_of_lt h)) (refl, refl)
    ∙ ap₂ (round binary64 false) (mul-one (suc k)) (one-mul (2 ^ 53))

-- the draw is exactly the top 53 bits over 2^53
pub unit-exact : (w : ℕ) → w < 2 ^ 64 → HasValue (unit_of w) false (w / 2 ^ 11) (2 ^ 53)
unfolding unit_of
unit-exact w h =
    let k : w / 2 ^ 11 < 2 ^ 53 = shr_lt 53 11 h in
    round_exact binary64 false (w / 2 ^ 11) (2 ^ 53) (w / 2 ^ 11) 1021 (pow_pos 53) k
    (lt_of_lt_of_le (shl_lt 53 1021 k) (lit≤ tt)) (sym (mul_assoc (w / 2 ^ 11) (2 ^ 1021) (2 ^ 53)))

-- 1 - 2^-53
abbrev pub largest : Float
largest = of_bits binary64 0x3fef_ffff_ffff_ffff

pub unit-low : (w : ℕ) → w < 2 ^ 64 → T (le (of_bits binary64 0) (unit_of w))
unfolding of_bits
unit-low w h = le_of_values (of_bits binary64 0) (unit_of w) 0 1 (w / 2 ^ 11) (2 ^ 53) (lit< tt) (pow_pos 53) (refl, refl) (unit-exact w h) (omega arith)

pub unit-high : (w : ℕ) → w < 2 ^ 64 → T (le (unit_of w) largest)
unfolding of_bits
unit-high w h =
    let k : w / 2 ^ 11 < 2 ^ 53 = shr_lt 53 11 h in
    le_of_values (unit_of w) largest (w / 2 ^ 11) (2 ^ 53) (2 ^ 53 - 1) (2 ^ 53) (pow_pos 53) (pow_pos 53) (unit-exact w h) (refl, refl) (omega arith)
