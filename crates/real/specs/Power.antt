-- The power y ^ a, every step one rounded double operation. Definitions only.
use Rattle.std.specs.Prelude.{ℕ, zero, suc, ◌+◌, ◌-◌, ◌*◌, ◌/◌, Bool, true, false, cond, ◌&&◌, ℤ, pos, neg_ℤ, Float}
use Rattle.std.specs.Float.{nan, inf, fin, binary64}
use Rattle.std.specs.Float.Ieee.{up, down, add, sub, mul, div, le, of_int, of_bits}
use Rattle.doubles.specs.Numbers.{zero64, half64, one64, two64}
use Rattle.doubles.specs.Count.{count_of}
use Rattle.real.specs.Ln.{ln2, ln_of}

-- the least whole number not below the size of v
unfoldable pub ceil_of : Float → ℕ
ceil_of nan = 0
ceil_of (inf s) = 0
ceil_of (fin s m e) = (m * up e + down e - 1) / down e

-- the greatest whole number not above v, for a finite v
unfoldable pub floor_of : Float → ℤ
floor_of nan = pos 0
floor_of (inf s) = pos 0
floor_of (fin false m e) = pos (m * up e / down e)
floor_of (fin true m e) = neg_ℤ (pos (ceil_of (fin true m e)))

-- p after n steps: p = 1; for j = 14 down: p = 1 + (r * p) / j
unfoldable pub exp_of : Float → ℕ → Float
exp_of r zero = one64
exp_of r (suc n) = add binary64 one64 (div binary64 (mul binary64 r (exp_of r n)) (count_of (14 - n)))

-- y in [2 ^ -10, 2] and a in [0, 10]; minus zero counts as zero
unfoldable pub in_domain : Float → Float → Bool
in_domain y a = le (of_bits binary64 0x3f50_0000_0000_0000) y && le y two64 && (le zero64 a && le a (of_bits binary64 0x4024_0000_0000_0000))

-- k is the greatest whole number not above 0.5 - t / LN2
unfoldable pub k_of : Float → ℤ
k_of t = floor_of (sub binary64 half64 (div binary64 t ln2))

-- r = t + k * LN2, p after the fourteen steps to j = 1; the answer is p * 2 ^ -k
unfoldable pub scaled_of : Float → ℤ → Float
scaled_of t k = mul binary64 (exp_of (add binary64 t (mul binary64 (of_int binary64 k) ln2)) 14) (fin false 1 (neg_ℤ k))

-- t = a * ln y. The power for a y outside [2 ^ -10, 2] or an a outside [0, 10] is NaN.
unfoldable pub power_of : Float → Float → Float
power_of y a = let t = mul binary64 a (ln_of y) in cond (in_domain y a) (scaled_of t (k_of t)) nan
