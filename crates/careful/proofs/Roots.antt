-- The definition of the root rounds to the whole number nearest to the root of a double's digits. Assumes nothing.
use mathlib.Core.Path.{◌≡◌, refl, sym, ap, ◌∙◌, subst}
use Prim.Native.Nat.{ℕ, zero, suc, ◌+◌, ◌-◌, ◌*◌, ◌/◌, ◌%◌, ◌^◌, ◌≤◌, ◌<◌, compare, Ordering}
use native.Mathlib.Nat.{le_trans, le_of_eq, le_of_lt, lt_irrefl, lt_of_lt_of_le, lt_of_le_of_lt, lt_of_not-le, not-le_of_lt, mul_assoc, mul_right_comm, mul-le-mul, mul-le-mul_left, mul-le-mul_right, mul-pos, le-mul_of_pos_right, mul-lt-mul_of_pos_right, mul-div_cancel, mul-div-mul_right, pow-succ'}
use native.Mathlib.Omega.{arith}
use mathlib.Core.Bool.{Bool, true, false, not, cond}
use lib.Arith.{digits_div, digits_mod}
use lib.Dec.{T, is_le, compare_is_eq, leb, leb→le, nleb→lt, eqb→eq, lit<}
use lib.Pow.{pow-add, pow_pos, pow_mono, shl_lt}
use lib.Ieee.{Float, nan, inf, fin, binary64, up, down, size, units, round, nearest, fits, of_bits}
use lib.Ieee.Fits.{down_pos, round_is, round-fits}
use lib.Ieee.Exact.{HasValue, units_val}
use lib.Ieee.Nearest.{closest, closest_same}
use lib.Ieee.Positive.{positive}
use Rattle.careful.specs.Root.{isqrt, squares, root_of}
use Rattle.doubles.specs.Split.{Split}
use Rattle.careful.specs.Digits.{Radicand, NearRoot}
use Rattle.doubles.proofs.Bits.{bits_of, dropped}

-- ---- `isqrt` is the whole part of the root
pub record Rooted (r n : ℕ) : Type 0 where
  pub low : r * r ≤ n
  pub high : n < (r + 1) * (r + 1)

pub isqrt-is : (k n : ℕ) → n < 4 ^ k → Rooted (isqrt k n) n
unfolding isqrt
isqrt-is zero n h = record { low = omega arith; high = omega arith }
isqrt-is (suc k) n h =
    let p : 4 ^ suc k ≡ 4 * 4 ^ k = pow-succ' 4 k in
    let l : n / 4 < 4 ^ k = omega arith in
    go (isqrt k (n / 4)) (isqrt-is k (n / 4) l) (leb ((2 * isqrt k (n / 4) + 1) * (2 * isqrt k (n / 4) + 1)) n) (leb→le _ n) (nleb→lt _ n)
  where
    go : (s : ℕ) → Rooted s (n / 4) → (b : Bool) → (T b → (2 * s + 1) * (2 * s + 1) ≤ n) → (T (not b) → n < (2 * s + 1) * (2 * s + 1))
        → Rooted (cond b (2 * s + 1) (2 * s)) n
    go s i true h k = let a = h tt in record { low = a; high = omega arith }
    go s i false h k = record { low = omega arith; high = k tt }

below-square : (a b : ℕ) → a * a < b * b → a < b
below-square a b h = lt_of_not-le (λ (g : b ≤ a). not-le_of_lt h (mul-le-mul g g))

at_most : (r n a : ℕ) → Rooted r n → a * a ≤ n → a ≤ r
at_most r n a s h =
    let l : a < r + 1 = below-square a (r + 1) (lt_of_le_of_lt h s.high) in
    omega arith

less-than : (r n a : ℕ) → Rooted r n → n < a * a → r < a
less-than r n a s h = below-square r a (lt_of_le_of_lt s.low h)

-- ---- the rounding of R + 1/2 to a multiple of P = 2 * H
cmp-lt : (a b : ℕ) → a < b → compare a b ≡ Ordering.lt
cmp-lt a b h = go (compare a b) (nleb→lt a b) (eqb→eq a b)
  where
    go : (o : Ordering) → (T (not (is_le o)) → b < a) → (T (compare_is_eq o) → a ≡ b) → o ≡ Ordering.lt
    go Ordering.lt g e = refl
    go Ordering.eq g e = absurd (lt_irrefl b (subst (λ (x : ℕ). x < b) (e tt) h))
    go Ordering.gt g e = absurd (not-le_of_lt h (le_of_lt (g tt)))

cmp-gt : (a b : ℕ) → b < a → compare a b ≡ Ordering.gt
cmp-gt a b h = go (compare a b) (leb→le a b)
  where
    go : (o : Ordering) → (T (is_le o) → a ≤ b) → o ≡ Ordering.gt
    go Ordering.lt g = absurd (not-le_of_lt h (g tt))
    go Ordering.eq g = absurd (not-le_of_lt h (g tt))
    go Ordering.gt g = refl

-- 2 * R + 1 is ρ * (2 * P) + (2 * u + 1)
closest-at : (R H ρ u : ℕ) (o : Ordering) → R ≡ ρ * (2 * H) + u → u < 2 * H → compare ((2 * u + 1) * 2) (2 * (2 * H)) ≡ o → closest (2 * R + 1) (2 * (2 * H)) ≡ nearest ρ o
closest-at R H ρ u o e l c =
    let w : 2 * R + 1 ≡ ρ * (2 * (2 * H)) + (2 * u + 1) = omega arith in
    let s : 2 * u + 1 < 2 * (2 * H) = omega arith in
    ap (λ (z : ℕ). closest z (2 * (2 * H))) w
    ∙ ap (λ (z : ℕ). nearest z (compare ((ρ * (2 * (2 * H)) + (2 * u + 1)) % (2 * (2 * H)) * 2) (2 * (2 * H)))) (digits_div ρ s)
    ∙ ap (λ (z : ℕ). nearest ρ (compare (z * 2) (2 * (2 * H)))) (digits_mod ρ s)
    ∙ ap (λ (z : Ordering). nearest ρ z) c

-- R between the middles below and above p + 1
closest-near : (R H p : ℕ) → (2 * p + 1) * H ≤ R → R < (2 * p + 3) * H → closest (2 * R + 1) (2 * (2 * H)) ≡ suc p
closest-near R H p a b = go (leb (suc p * (2 * H)) R) (leb→le (suc p * (2 * H)) R) (nleb→lt (suc p * (2 * H)) R)
  where
    go : (c : Bool) → (T c → suc p * (2 * H) ≤ R) → (T (not c) → R < suc p * (2 * H)) → closest (2 * R + 1) (2 * (2 * H)) ≡ suc p
    go true y n = let l = y tt in closest-at R H (suc p) (R - suc p * (2 * H)) Ordering.lt (omega arith) (omega arith) (cmp-lt _ _ (omega arith))
    go false y n = let l = n tt in closest-at R H p (R - p * (2 * H)) Ordering.gt (omega arith) (omega arith) (cmp-gt _ _ (omega arith))

-- R is the whole part of the root of A * (P * P), and q is nearest to the root of A
chosen : (R H A q : ℕ) → 0 < H → 0 < A → Rooted R (A * (2 * H * (2 * H))) → NearRoot A q → closest (2 * R + 1) (2 * (2 * H)) ≡ q
chosen R H A zero d a s n = let h = n.high in absurd (omega arith)
chosen R H A (suc p) d a s n =
    let sq : 0 < H * H = mul-pos d d in
    let up : A * (H * H) ≤ (suc p * suc p + suc p) * (H * H) = mul-le-mul_right (H * H) n.high in
    let lo : p * p + p + 1 ≤ A = let l = n.low in omega arith in
    let down : (p * p + p + 1) * (H * H) ≤ A * (H * H) = mul-le-mul_right (H * H) lo in
    closest-near R H p
    (at_most R (A * (2 * H * (2 * H))) ((2 * p + 1) * H) s (omega arith))
    (less-than R (A * (2 * H * (2 * H))) ((2 * p + 3) * H) s (omega arith))

-- ---- rounded
half_is : (R : ℕ) → (2 * R + 1) * 2 ^ 1074 / 2 ^ 1075 ≡ R
half_is R = mul-div-mul_right (2 * R + 1) 2 (pow_pos 1074) ∙ half R
  where
    half : (R : ℕ) → (2 * R + 1) / 2 ≡ R
    half R = omega arith

digits-dropped : (R d g : ℕ) → Radicand d → Rooted R (d * 2 ^ 52 * (2 ^ g * 2 ^ g)) → size R - 53 ≡ g
digits-dropped R d g r s =
    let l : 2 ^ 52 * 2 ^ 52 ≤ d * 2 ^ 52 = let i = r.long in omega arith in
    let h : d * 2 ^ 52 < 2 ^ 53 * 2 ^ 53 = let i = r.short in omega arith in
    dropped R g
    (at_most R (d * 2 ^ 52 * (2 ^ g * 2 ^ g)) (2 ^ 52 * 2 ^ g) s (le_trans (le_of_eq (square (2 ^ 52) (2 ^ g))) (mul-le-mul_right (2 ^ g * 2 ^ g) l)))
    (less-than R (d * 2 ^ 52 * (2 ^ g * 2 ^ g)) (2 ^ 53 * 2 ^ g) s (lt_of_lt_of_le (mul-lt-mul_of_pos_right h (mul-pos (pow_pos g) (pow_pos g))) (le_of_eq (sym (square (2 ^ 53) (2 ^ g))))))
  where
    square : (a b : ℕ) → a * b * (a * b) ≡ a * a * (b * b)
    square a b = omega arith

rounded : (R d q g : ℕ) → 0 < g → Radicand d → Rooted R (d * 2 ^ 52 * (2 ^ g * 2 ^ g)) → NearRoot (d * 2 ^ 52) q
    → round binary64 false (2 * R + 1) (2 ^ 1075) ≡ units binary64 false q g
rounded R d q g G r s n =
    let H = 2 ^ (g - 1) in
    let P : 2 * H ≡ 2 ^ g = sym (pow-succ' 2 (g - 1)) ∙ ap (λ (z : ℕ). 2 ^ z) (one_more g G) in
    let k : size ((2 * R + 1) * 2 ^ 1074 / 2 ^ 1075) - 53 ≡ g = ap (λ (z : ℕ). size z - 53) (half_is R) ∙ digits-dropped R d g r s in
    let A : 0 < d * 2 ^ 52 = let l = r.long in omega arith in
    round_is binary64 false (2 * R + 1) (2 ^ 1075)
    ∙ ap (λ (z : ℕ). units binary64 false (closest ((2 * R + 1) * 2 ^ 1074) (2 ^ 1075 * 2 ^ z)) z) k
    ∙ ap (λ (z : ℕ). units binary64 false z g)
    (closest_same ((2 * R + 1) * 2 ^ 1074) (2 ^ 1075 * 2 ^ g) (2 * R + 1) (2 * (2 * H)) (mul-pos (pow_pos 1075) (pow_pos g)) (mul-pos (lit< tt) (mul-pos (lit< tt) (pow_pos (g - 1)))) (cross (2 * R + 1) (2 ^ 1074) H (2 ^ g) P)
    ∙ chosen R H (d * 2 ^ 52) q (pow_pos (g - 1)) A (subst (λ (z : ℕ). Rooted R (d * 2 ^ 52 * (z * z))) (sym P) s) n)
  where
    cross : (a L H P : ℕ) → 2 * H ≡ P → a * L * (2 * (2 * H)) ≡ a * (L * 2 * P)
    cross a L H P e = ap (λ (z : ℕ). a * L * (2 * z)) e ∙ mul_assoc a L (2 * P) ∙ ap (λ (z : ℕ). a * z) (sym (mul_assoc L 2 P))

    one_more : (g : ℕ) → 0 < g → suc (g - 1) ≡ g
    one_more g h = omega arith

-- ---- the code's numbers
digits-scaled : (m k : ℕ) → m * 2 ^ k * 2 ^ 1022 ≡ m * (1 + k % 2) * 2 ^ 52 * (2 ^ (k / 2 + 485) * 2 ^ (k / 2 + 485))
digits-scaled m k =
    let o = k % 2 in
    let g = k / 2 + 485 in
    let two : 1 + o ≡ 2 ^ o = digit o (omega arith) in
    let e : k + 1022 ≡ o + (52 + (g + g)) = omega arith in
    mul_assoc m (2 ^ k) (2 ^ 1022)
    ∙ ap (λ (z : ℕ). m * z) (sym (pow-add 2 k 1022) ∙ ap (λ (z : ℕ). 2 ^ z) e ∙ pow-add 2 o (52 + (g + g)) ∙ ap (λ (z : ℕ). 2 ^ o * z) (pow-add 2 52 (g + g) ∙ ap (λ (z : ℕ). 2 ^ 52 * z) (pow-add 2 g g)))
    ∙ sym (mul_assoc (m * 2 ^ o) (2 ^ 52) (2 ^ g * 2 ^ g) ∙ mul_assoc m (2 ^ o) (2 ^ 52 * (2 ^ g * 2 ^ g)))
    ∙ ap (λ (z : ℕ). m * z * 2 ^ 52 * (2 ^ g * 2 ^ g)) (sym two)
  where
    digit : (o : ℕ) → o < 2 → 1 + o ≡ 2 ^ o
    digit zero h = refl
    digit (suc zero) h = refl
    digit (suc (suc o)) h = absurd (omega arith)

pub radicand : (m o : ℕ) → 2 ^ 52 ≤ m → m < 2 ^ 53 → o ≤ 1 → Radicand (m * (1 + o))
radicand m o l h u =
    let a : m ≤ m * (1 + o) = le-mul_of_pos_right m (omega arith) in
    let b : m * (1 + o) ≤ m * 2 = mul-le-mul_left m (omega arith) in
    record { long = omega arith; short = omega arith }

pub squares-is : (x : Float) (a : ℕ) → HasValue x false a (2 ^ 1126) → squares x ≡ a * 2 ^ 1022
unfolding squares
squares-is nan a v = absurd v
squares-is (inf s) a v = absurd v
squares-is (fin s m e) a v =
    ap (λ (z : ℕ). z / down e) (sym (mul_assoc (m * up e) (2 ^ 1126) (2 ^ 1022)) ∙ ap (λ (z : ℕ). z * 2 ^ 1022) v.1 ∙ mul_right_comm a (down e) (2 ^ 1022)) ∙ mul-div_cancel (a * 2 ^ 1022) (down_pos e)

root_is : (x : Float) → T (positive x) → root_of x ≡ round binary64 false (2 * isqrt 1586 (squares x) + 1) (2 ^ 1075)
unfolding root_of
root_is nan p = absurd p
root_is (inf s) p = absurd p
root_is (fin s zero e) p = absurd (none s p)
  where
    none : (s : Bool) → T (positive (fin s zero e)) → ⊥
    none true p = p
    none false p = p
root_is (fin true (suc m) e) p = absurd p
root_is (fin false (suc m) e) p = refl

-- the root of a double with the digits m, by the whole number q nearest to the root of its digits
module _ (x : Float) (m k q : ℕ) (p : T (positive x)) (s : Split x m k) (n : NearRoot (m * (1 + k % 2) * 2 ^ 52) q) (h : q < 2 ^ 53) where
  pub squares-digits : squares x ≡ m * (1 + k % 2) * 2 ^ 52 * (2 ^ (k / 2 + 485) * 2 ^ (k / 2 + 485))
  squares-digits = squares-is x (m * 2 ^ k) s.value ∙ digits-scaled m k

  pub long : 2 ^ 52 ≤ q
  long = let r = (radicand m (k % 2) s.long s.short (omega arith)).long in reach (lt_of_not-le (λ (g : suc q ≤ 2 ^ 52). not-le_of_lt (short g) (omega (arith, n.high))))
    where
      short : suc q ≤ 2 ^ 52 → q * q + q < 2 ^ 104
      short g =
          let a : q ≤ 2 ^ 52 - 1 = omega arith in
          let b : q * q ≤ (2 ^ 52 - 1) * (2 ^ 52 - 1) = mul-le-mul a a in
          omega arith

      reach : 2 ^ 52 < suc q → 2 ^ 52 ≤ q
      reach g = omega arith

  within : squares x < 4 ^ 1586
  within =
      let e : 53 + k ≤ 2150 = let l = s.small in omega arith in
      lt_of_le_of_lt (le_of_eq (squares-is x (m * 2 ^ k) s.value))
      (mul-lt-mul_of_pos_right (lt_of_lt_of_le (shl_lt 53 k s.short) (pow_mono e)) (pow_pos 1022))

  root-units : root_of x ≡ units binary64 false q (k / 2 + 485)
  root-units =
      root_is x p ∙ rounded (isqrt 1586 (squares x)) (m * (1 + k % 2)) q (k / 2 + 485) (omega arith) (radicand m (k % 2) s.long s.short (omega arith))
      (subst (λ (z : ℕ). Rooted (isqrt 1586 (squares x)) z) squares-digits (isqrt-is 1586 (squares x) within)) n

  pub root-value : HasValue (root_of x) false (q * 2 ^ (k / 2 + 485)) (2 ^ 1074)
  root-value =
      let g = k / 2 + 485 in
      let G : g ≤ 1600 = let l = s.small in omega arith in
      let room : q * 2 ^ g < 2 ^ 2098 = lt_of_le_of_lt (mul-le-mul (le_of_lt h) (pow_mono G)) (lit< tt) in
      subst (λ (z : Float). HasValue z false (q * 2 ^ g) (2 ^ 1074)) (sym root-units) (units_val binary64 false q g room)

  pub root-bits : of_bits binary64 ((k / 2 + 485) * 2 ^ 52 + q) ≡ root_of x
  root-bits =
      bits_of (root_of x) q (k / 2 + 485) (subst (λ (z : Float). T (fits binary64 z)) (sym (root_is x p)) (round-fits binary64 false (2 * isqrt 1586 (squares x) + 1) (2 ^ 1075))) long h root-value
