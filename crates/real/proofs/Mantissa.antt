-- x = m * 2 ^ e as the definition of the logarithm has it and as the code finds it. Assumes nothing.
use mathlib.Core.Path.{◌≡◌, sym, ap, ◌∙◌, subst}
use Prim.Native.Nat.{ℕ, suc, ◌+◌, ◌-◌, ◌*◌, ◌/◌, ◌^◌}
use native.Mathlib.Nat.{le_trans, le_of_eq, lt_of_lt_of_le, lt_of_le_of_lt, mul_comm, mul_assoc, mul_right_comm, mul-le-mul_right, mul-lt-mul_of_pos_right, mul-div_cancel, eq_of_mul-eq-mul_right, le_of_mul-le-mul_right, lt_of_mul-lt-mul_right, pow-succ'}
use native.Mathlib.Omega.{arith}
use native.Mathlib.Numerals.{add-one}
use mathlib.Core.Bool.{true, false}
use lib.Dec.{T, lit≤}
use lib.Pow.{pow_pos}
use lib.Ieee.{Float, nan, inf, fin, binary64, down, size, minus, round, fits, of_bits}
use lib.Ieee.Fits.{down_pos, round-fits}
use lib.Ieee.Exact.{HasValue, round_exact}
use lib.Ieee.Positive.{positive, num, den, den_pos, value→cross}
use Rattle.doubles.specs.Split.{Split}
use Rattle.real.specs.Ln.{units_of, exponent_of, mantissa_of}
use Rattle.doubles.proofs.Exact.{held, rescale}
use Rattle.doubles.proofs.Bits.{bits_of, size-at}

-- a double is a whole number of units
units-exact : (x : Float) → T (fits binary64 x) → T (positive x) → num x * 2 ^ 1074 ≡ units_of x * den x
unfolding units_of
units-exact nan f p = absurd p
units-exact (inf s) f p = absurd p
units-exact (fin true m e) f p = absurd p
units-exact (fin false m e) f p =
    let h = held binary64 false m e f in
    h.units ∙ ap (λ (z : ℕ). z * down e) (sym (ap (λ (z : ℕ). z / down e) h.units ∙ mul-div_cancel (h.q * 2 ^ h.j) (down_pos e)))

module _ (x : Float) (m k : ℕ) (f : T (fits binary64 x)) (p : T (positive x)) (s : Split x m k) where
  same : m * 2 ^ k ≡ units_of x * 2 ^ 52
  same =
      eq_of_mul-eq-mul_right (den x) (den_pos x) (m * 2 ^ k) (units_of x * 2 ^ 52)
      (sym (value→cross x (m * 2 ^ k) (2 ^ 1126) s.value) ∙ sym (mul_assoc (num x) (2 ^ 1074) (2 ^ 52)) ∙ ap (λ (z : ℕ). z * 2 ^ 52) (units-exact x f p) ∙ mul_right_comm (units_of x) (den x) (2 ^ 52))

  pub digits : size (units_of x) ≡ suc k
  digits =
      size-at (units_of x) k
      (le_of_mul-le-mul_right (le_trans (le_of_eq (mul_comm (2 ^ k) (2 ^ 52))) (le_trans (mul-le-mul_right (2 ^ k) s.long) (le_of_eq same))) (pow_pos 52))
      (lt_of_mul-lt-mul_right (2 ^ 52) (lt_of_le_of_lt (le_of_eq (sym same)) (lt_of_lt_of_le (mul-lt-mul_of_pos_right s.short (pow_pos k)) (le_of_eq (scale (2 ^ k) ∙ ap (λ (z : ℕ). z * 2 ^ 52) (sym (pow-succ' 2 k)))))))
    where
      scale : (a : ℕ) → 2 ^ 53 * a ≡ 2 * a * 2 ^ 52
      scale a = omega arith

  pub exponent-is : exponent_of x ≡ minus (k + 1) 1075
  unfolding exponent_of
  exponent-is = ap (λ (z : ℕ). minus z 1075) (digits ∙ sym (add-one k))

  value : units_of x * 2 ^ 1074 ≡ m * 2 ^ 1022 * 2 ^ k
  value = sym (mul_assoc (units_of x) (2 ^ 52) (2 ^ 1022)) ∙ ap (λ (z : ℕ). z * 2 ^ 1022) (sym same) ∙ mul_right_comm m (2 ^ k) (2 ^ 1022)

  shift : size (units_of x) - 1 ≡ k
  shift = let d = digits in omega arith

  -- nothing is rounded: the mantissa is N / 2 ^ k exactly
  exact : HasValue (round binary64 false (units_of x) (2 ^ k)) false (units_of x) (2 ^ k)
  exact = round_exact binary64 false (units_of x) (2 ^ k) m 1022 (pow_pos k) s.short (lt_of_lt_of_le (mul-lt-mul_of_pos_right s.short (pow_pos 1022)) (lit≤ tt)) value

  pub mantissa-exact : HasValue (mantissa_of x) false (units_of x) (2 ^ (size (units_of x) - 1))
  unfolding mantissa_of
  mantissa-exact = subst (λ (z : ℕ). HasValue (round binary64 false (units_of x) (2 ^ z)) false (units_of x) (2 ^ z)) (sym shift) exact

  pub mantissa-is : of_bits binary64 (m + 0x3fe0_0000_0000_0000) ≡ mantissa_of x
  unfolding mantissa_of
  mantissa-is =
      let r = round binary64 false (units_of x) (2 ^ k) in
      ap (λ (z : ℕ). of_bits binary64 z) (swap m)
      ∙ bits_of r m 1022 (round-fits binary64 false (units_of x) (2 ^ k)) s.long s.short (rescale r false (units_of x) (2 ^ k) (m * 2 ^ 1022) (2 ^ 1074) (pow_pos k) (sym value) exact)
      ∙ ap (λ (z : ℕ). round binary64 false (units_of x) (2 ^ z)) (sym shift)
    where
      swap : (m : ℕ) → m + 0x3fe0_0000_0000_0000 ≡ 1022 * 2 ^ 52 + m
      swap m = omega arith
