-- A rounded fraction lies within half a unit of its last digit. Assumes nothing.
use mathlib.Core.Path.{◌≡◌, sym, ap, ◌∙◌, subst}
use Prim.Native.Nat.{ℕ, zero, suc, ◌+◌, ◌-◌, ◌*◌, ◌/◌, ◌%◌, ◌^◌, ◌≤◌, ◌<◌, compare, Ordering}
use native.Mathlib.Nat.{mul_comm, mul_assoc, mul-pos, div-add-mod', mod-lt, le-div_iff_mul-le}
use native.Mathlib.Omega.{arith}
use mathlib.Core.Bool.{not}
use lib.Dec.{T, is_le, compare_is_eq, leb→le, nleb→lt, eqb→eq}
use lib.Pow.{pow_pos}
use lib.Ieee.{Format, prec, low, size, nearest}
use lib.Ieee.Digits.{size_reaches}
use lib.Ieee.Fits.{two, two-le_pos}
use lib.Ieee.Nearest.{closest}
use lib.Ieee.Order.{drop}
use lib.Ieee.Scale.{grid}

-- q * b + r, moved up or not as twice r compares with b
record Half (a b c : ℕ) : Type 0 where
  high : 2 * (c * b) ≤ 2 * a + b
  low : 2 * a ≤ 2 * (c * b) + b

half : (q r b : ℕ) → r < b → Half (q * b + r) b (nearest q (compare (r * 2) b))
half q r b h = go (compare (r * 2) b) (leb→le (r * 2) b) (nleb→lt (r * 2) b) (eqb→eq (r * 2) b)
  where
    go : (o : Ordering) → (T (is_le o) → r * 2 ≤ b) → (T (not (is_le o)) → b < r * 2) → (T (compare_is_eq o) → r * 2 ≡ b) → Half (q * b + r) b (nearest q o)
    go Ordering.lt y n e = let l = y tt in record { high = omega arith; low = omega arith }
    go Ordering.eq y n e = even (q % 2) (parity q) (e tt)
      where
        parity : (q : ℕ) → q % 2 ≤ 1
        parity q = omega arith

        even : (z : ℕ) → z ≤ 1 → r * 2 ≡ b → Half (q * b + r) b (q + z)
        even zero s i = record { high = omega arith; low = omega arith }
        even (suc zero) s i = record { high = omega arith; low = omega arith }
        even (suc (suc z)) s i = absurd (omega arith)
    go Ordering.gt y n e = let l = n tt in record { high = omega arith; low = omega arith }

pub record Near (f : Format) (a c : ℕ) : Type 0 where
  pub high : 2 * (grid f a c * c) ≤ 2 * (a * 2 ^ low f) + c * 2 ^ drop (prec f) (a * 2 ^ low f) c
  pub low : 2 * (a * 2 ^ low f) ≤ 2 * (grid f a c * c) + c * 2 ^ drop (prec f) (a * 2 ^ low f) c

-- the fraction a / c and its rounding, in units of the smallest value; a unit of the last digit is 2 ^ drop of them
pub round-error : (f : Format) (a c : ℕ) → 0 < c → Near f a c
round-error f a c C =
    let n = a * 2 ^ low f in
    let u = c * 2 ^ drop (prec f) n c in
    let U : 0 < u = mul-pos C (pow_pos (drop (prec f) n c)) in
    let h : Half n u (closest n u) = subst (λ (z : ℕ). Half z u (closest n u)) (div-add-mod' n u) (half (n / u) (n % u) u (mod-lt n U)) in
    let e : closest n u * u ≡ grid f a c * c = ap (λ (z : ℕ). closest n u * z) (mul_comm c (2 ^ drop (prec f) n c)) ∙ sym (mul_assoc (closest n u) (2 ^ drop (prec f) n c) c) in
    record { high = subst (λ (z : ℕ). 2 * z ≤ 2 * n + u) e h.high; low = subst (λ (z : ℕ). 2 * n ≤ 2 * z + u) e h.low }

-- where digits are dropped, the fraction has all that the format keeps before them
pub dropped-below : (f : Format) (a c : ℕ) → 0 < c → 0 < drop (prec f) (a * 2 ^ low f) c → 2 ^ (prec f - 1 + drop (prec f) (a * 2 ^ low f) c) * c ≤ a * 2 ^ low f
dropped-below f a c C h = (le-div_iff_mul-le C).0 (size_reaches (a * 2 ^ low f / c) (prec f - 1 + drop (prec f) (a * 2 ^ low f) c) (last (size (a * 2 ^ low f / c)) (prec f) (two-le_pos (prec f) (two f)) h))
  where
    last : (z p : ℕ) → 0 < p → 0 < z - p → p - 1 + (z - p) < z
    last z p P h = omega arith
