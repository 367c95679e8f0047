-- The logarithm of a double, every step one rounded double operation. Definitions only.
use Rattle.std.specs.Prelude.{ℕ, zero, suc, ◌-◌, ◌*◌, ◌/◌, ◌^◌, false, cond, ℤ, Float}
use Rattle.std.proofs.Math.IntN.{suc_ℤ}
use Rattle.std.specs.Float.{nan, binary64}
use Rattle.std.specs.Float.Ieee.{minus, size, round, add, sub, mul, div, lt, of_int, of_bits}
use Rattle.std.specs.Float.Ieee.Positive.{num, den, positive}
use Rattle.doubles.specs.Numbers.{half64, one64, two64}
use Rattle.doubles.specs.Count.{count_of}

-- LN2 has bits 3fe62e42fefa39ef
abbrev pub ln2 : Float
ln2 = of_bits binary64 0x3fe6_2e42_fefa_39ef

-- 1.4140625
abbrev pub turn : Float
turn = of_bits binary64 0x3ff6_a000_0000_0000

-- x in units of 2 ^ -1074, the smallest double: a whole number for every double above 0
unfoldable pub units_of : Float → ℕ
units_of x = num x * 2 ^ 1074 / den x

-- x = m * 2 ^ e, m in [1, 2): where x is N units and the highest set bit of N is its z-th, e is z - 1075 and m is N / 2 ^ (z - 1), which is a double
unfoldable pub exponent_of : Float → ℤ
exponent_of x = minus (size (units_of x)) 1075

unfoldable pub mantissa_of : Float → Float
mantissa_of x = round binary64 false (units_of x) (2 ^ (size (units_of x) - 1))

-- c after n steps: c = 1 / 21; for j = 19, 17, .. : c = 1 / j + z * c
unfoldable pub tail_of : Float → ℕ → Float
tail_of z zero = div binary64 one64 (count_of 21)
tail_of z (suc n) = add binary64 (div binary64 one64 (count_of (19 - 2 * n))) (mul binary64 z (tail_of z n))

-- s = (m - 1) / (m + 1), z = s * s, c after the ten steps to j = 1; the answer is e * LN2 + (2 * s) * c
unfoldable pub log_of : Float → Float → Float
log_of m e =
    let s = div binary64 (sub binary64 m one64) (add binary64 m one64) in
    add binary64 (mul binary64 e ln2) (mul binary64 (mul binary64 two64 s) (tail_of (mul binary64 s s) 10))

-- If m > 1.4140625, m is halved and 1 added to e.
unfoldable pub turned_of : Float → ℤ → Float
turned_of m e = cond (lt turn m) (log_of (mul binary64 m half64) (of_int binary64 (suc_ℤ e))) (log_of m (of_int binary64 e))

-- The logarithm of anything not finite and above 0 is NaN.
unfoldable pub ln_of : Float → Float
ln_of x = cond (positive x) (turned_of (mantissa_of x) (exponent_of x)) nan
