-- A point between two numbers in [0, 1], p + t * (q - p) with each operation rounded, is in [0, 1]. Nothing is asked of p and q but their
-- order, and minus zero is a zero. Assumes nothing.
use mathlib.Core.Path.{◌≡◌, refl, sym, ap, ap₂, ◌∙◌, subst}
use mathlib.Core.Logic.{◌⊎◌, inl, inr}
use Prim.Native.Nat.{ℕ, zero, suc, ◌+◌, ◌-◌, ◌*◌, ◌/◌, ◌^◌, ◌≤◌, ◌<◌}
use native.Mathlib.Nat.{le_trans, le_of_eq, le_refl, lt_of_le_of_lt, mul-one, one-mul, mul_comm, mul_assoc, add-mul, mul-pos, mul-le-mul_left, mul-le-mul_right, le_of_mul-le-mul_right, div-lt_iff_lt-mul}
use native.Mathlib.Omega.{arith}
use mathlib.Core.Bool.{Bool, true, false, not, cond, false≢true}
use lib.IntN.{ℤ, pos}
use lib.Dec.{T, ltb, ltb→lt, nltb→le, lit<}
use borrow.Author.Tests.{le-ltb}
use lib.Pow.{pow_pos, pow_mono}
use lib.Ieee.{Float, nan, inf, fin, binary64, up, down, size, fits, round, sum, add, sub, neg, mul, lt, le, of_bits}
use lib.Ieee.Fits.{up_pos, sub-fits}
use lib.Ieee.Digits.{size-le}
use lib.Ieee.Exact.{HasValue}
use lib.Ieee.Order.{drop, round_mono}
use lib.Ieee.Scale.{grid, round_val}
use lib.Ieee.Positive.{num, den, den_pos}
use Rattle.doubles.specs.Numbers.{zero64, one64}
use Rattle.doubles.proofs.Truth.{is}
use Rattle.doubles.proofs.Order.{le-under, le_lt_trans, lt-le, le-trans-float}
use Rattle.doubles.proofs.Fractions.{le-values, values-le}
use Rattle.doubles.proofs.Rounding.{add_at, sub_at, mul_at, round-below, round-above}
use Rattle.doubles.proofs.Monotone.{unsigned, own, value-unsigned, le-cross, add-mono, sub-mono, round-unsigned, one_value}
use Rattle.doubles.proofs.Error.{round-error}

zero-value : HasValue zero64 false 0 1
unfolding of_bits
zero-value = (refl, refl)

zero-fits : T (fits binary64 zero64)
unfolding fits of_bits
zero-fits = tt

one-unsigned : T (unsigned one64)
one-unsigned = value-unsigned one64 1 1 one_value

-- the middle between 1 and the next double rounds to 1, the even one
middle-is : round binary64 false (2 ^ 53 + 1) (2 ^ 53) ≡ one64
unfolding round of_bits
middle-is = refl

-- ---- what a part of 1 is rounded by: a unit of its last digit is 2 ^ 1022 of the smallest at most
module _ (a c : ℕ) (C : 0 < c) (A : a ≤ c) where
  last-digit : drop 53 (a * 2 ^ 1074) c ≤ 1022
  last-digit = few (size (a * 2 ^ 1074 / c)) (size-le (a * 2 ^ 1074 / c) 1075 ((div-lt_iff_lt-mul C).1 below))
    where
      few : (s : ℕ) → s ≤ 1075 → s - 53 ≤ 1022
      few s h = omega arith

      twice : (c U : ℕ) → 0 < c → 0 < U → c * U < U * 2 * c
      twice c U p q = let r : 0 < c * U = mul-pos p q in omega arith

      below : a * 2 ^ 1074 < 2 ^ 1075 * c
      below = lt_of_le_of_lt (mul-le-mul_right (2 ^ 1074) A) (twice c (2 ^ 1074) C (pow_pos 1074))

-- ---- 1 less p, put back on p, is 1 at most: it lies 2 ^ -53 above 1 at most, and that is the middle
-- U is 2 ^ 1021, G the rounded difference in units of 2 ^ -1074, D a unit of its last digit
put_back : (a c G D U : ℕ) → a ≤ c → D ≤ 2 * U → 2 * (G * c) ≤ 2 * ((c - a) * (2 ^ 53 * U)) + c * D → a * (2 ^ 53 * U) + G * c ≤ (2 ^ 53 + 1) * (c * U)
put_back a c G D U A d e =
    let f : c * D ≤ c * (2 * U) = mul-le-mul_left c d in
    let g : (c - a) * (2 ^ 53 * U) + a * (2 ^ 53 * U) ≡ c * (2 ^ 53 * U) = together (c - a) a c (2 ^ 53 * U) (back a c A) in
    omega arith
  where
    back : (a c : ℕ) → a ≤ c → c - a + a ≡ c
    back a c h = omega arith

    together : (i j k u : ℕ) → i + j ≡ k → i * u + j * u ≡ k * u
    together i j k u e = sym (add-mul i j u) ∙ ap (λ (z : ℕ). z * u) e

small : (a c G U : ℕ) → 0 < c → a * (2 ^ 53 * U) + G * c ≤ (2 ^ 53 + 1) * (c * U) → G ≤ (2 ^ 53 + 1) * U
small a c G U C h = le_of_mul-le-mul_right (le_trans (more (a * (2 ^ 53 * U)) (G * c) _ h) (le_of_eq (swap c U))) C
  where
    more : (i j k : ℕ) → i + j ≤ k → j ≤ k
    more i j k h = omega arith

    swap : (c U : ℕ) → (2 ^ 53 + 1) * (c * U) ≡ (2 ^ 53 + 1) * U * c
    swap c U = omega arith

module _ (p : Float) (u : T (unsigned p)) (h : le p one64 ≡ true) where
  under : num p * 1 ≤ 1 * den p
  under = le-values p one64 (num p) (den p) 1 1 (own p u) one_value h

  within : num p ≤ den p
  within = let e = under in omega arith

  reaches : num p * 2 ^ 1074 + grid binary64 (den p - num p) (den p) * den p ≤ (2 ^ 53 + 1) * (den p * 2 ^ 1021)
  reaches =
      put_back (num p) (den p) (grid binary64 (den p - num p) (den p)) (2 ^ drop 53 ((den p - num p) * 2 ^ 1074) (den p)) (2 ^ 1021) within
      (pow_mono (last-digit (den p - num p) (den p) (den_pos p) (less (den p) (num p)))) (round-error binary64 (den p - num p) (den p) (den_pos p)).high
    where
      less : (i j : ℕ) → i - j ≤ i
      less i j = omega arith

  rest-is : sub binary64 one64 p ≡ round binary64 false (den p - num p) (den p)
  rest-is =
      sub_at binary64 one64 p 1 1 (num p) (den p) (lit< tt) (den_pos p) one_value (own p u) under
      ∙ ap₂ (λ (i j : ℕ). round binary64 false i j) (ap₂ (λ (i j : ℕ). i - j) (one-mul (den p)) (mul-one (num p))) (one-mul (den p))

  rest-value : HasValue (sub binary64 one64 p) false (grid binary64 (den p - num p) (den p)) (2 ^ 1074)
  rest-value =
      subst (λ (x : Float). HasValue x false (grid binary64 (den p - num p) (den p)) (2 ^ 1074)) (sym rest-is)
      (round_val binary64 (den p - num p) (den p) (lt_of_le_of_lt (small (num p) (den p) (grid binary64 (den p - num p) (den p)) (2 ^ 1021) (den_pos p) reaches) (lit< tt)))

  back-at-most : le (add binary64 p (sub binary64 one64 p)) one64 ≡ true
  back-at-most =
      subst (λ (x : Float). le (add binary64 p (sub binary64 one64 p)) x ≡ true) middle-is
      (subst (λ (x : Float). le x (round binary64 false (2 ^ 53 + 1) (2 ^ 53)) ≡ true) (sym (add_at binary64 p (sub binary64 one64 p) (num p) (den p) (grid binary64 (den p - num p) (den p)) (2 ^ 1074) (den_pos p) (pow_pos 1074) (own p u) rest-value))
      (is (round_mono binary64 (num p * 2 ^ 1074 + grid binary64 (den p - num p) (den p) * den p) (den p * 2 ^ 1074) (2 ^ 53 + 1) (2 ^ 53) (mul-pos (den_pos p) (pow_pos 1074)) (pow_pos 53) cross)))
    where
      cross : (num p * 2 ^ 1074 + grid binary64 (den p - num p) (den p) * den p) * 2 ^ 53 ≤ (2 ^ 53 + 1) * (den p * 2 ^ 1074)
      cross = le_trans (mul-le-mul_right (2 ^ 53) reaches) (le_of_eq (mul_assoc (2 ^ 53 + 1) (den p * 2 ^ 1021) (2 ^ 53) ∙ ap (λ (z : ℕ). (2 ^ 53 + 1) * z) (mul_assoc (den p) (2 ^ 1021) (2 ^ 53))))

le-self : (x : Float) → T (unsigned x) → le x x ≡ true
le-self x u = values-le x x (num x) (den x) (num x) (den x) (den_pos x) (den_pos x) (own x u) (own x u) (le_refl (num x * den x))

-- a factor that is 1 at most, in front
part-at-most : (t w : Float) → T (unsigned t) → T (unsigned w) → T (fits binary64 w) → le t one64 ≡ true → le (mul binary64 t w) w ≡ true
part-at-most t w ut uw fw l =
    subst (λ (x : Float). le x w ≡ true) (sym (mul_at binary64 t w (num t) (den t) (num w) (den w) (den_pos t) (den_pos w) (own t ut) (own w uw)))
    (round-below binary64 (num t * num w) (den t * den w) w (num w) (den w) (mul-pos (den_pos t) (den_pos w)) (den_pos w) fw (own w uw) (cross (num t) (den t) (num w) (den w) (within t ut l)))
  where
    cross : (a c b d : ℕ) → a ≤ c → a * b * d ≤ b * (c * d)
    cross a c b d h = le_trans (mul-le-mul_right d (mul-le-mul_right b h)) (le_of_eq (ap (λ (z : ℕ). z * d) (mul_comm c b) ∙ mul_assoc b c d))

part-unsigned : (t w : Float) → T (unsigned t) → T (unsigned w) → T (fits binary64 w) → le t one64 ≡ true → T (unsigned (mul binary64 t w))
part-unsigned t w ut uw fw l =
    subst (λ (x : Float). T (unsigned x)) (sym e)
    (round-unsigned binary64 (num t * num w) (den t * den w) w uw (subst (λ (x : Float). le x w ≡ true) e (part-at-most t w ut uw fw l)))
  where
    e : mul binary64 t w ≡ round binary64 false (num t * num w) (den t * den w)
    e = mul_at binary64 t w (num t) (den t) (num w) (den w) (den_pos t) (den_pos w) (own t ut) (own w uw)

-- ---- the point, where p is no minus zero
module _ (p q t : Float) (up : T (unsigned p)) (uq : T (unsigned q)) (ut : T (unsigned t)) (h : le p q ≡ true) (k : le q one64 ≡ true) (l : le t one64 ≡ true) where
  low : le p one64 ≡ true
  low = le-trans-float p q one64 h k

  rest-unsigned : T (unsigned (sub binary64 one64 p))
  rest-unsigned = value-unsigned (sub binary64 one64 p) (grid binary64 (den p - num p) (den p)) (2 ^ 1074) (rest-value p up low)

  width-within : le (sub binary64 q p) (sub binary64 one64 p) ≡ true
  width-within = sub-mono binary64 q one64 p p uq one-unsigned up up k (le-self p up) h low

  width-unsigned : T (unsigned (sub binary64 q p))
  width-unsigned =
      subst (λ (x : Float). T (unsigned x)) (sym e)
      (round-unsigned binary64 (num q * den p - num p * den q) (den q * den p) (sub binary64 one64 p) rest-unsigned (subst (λ (x : Float). le x (sub binary64 one64 p) ≡ true) e width-within))
    where
      e : sub binary64 q p ≡ round binary64 false (num q * den p - num p * den q) (den q * den p)
      e = sub_at binary64 q p (num q) (den q) (num p) (den p) (den_pos q) (den_pos p) (own q uq) (own p up) (le-cross p q up uq h)

  way-unsigned : T (unsigned (mul binary64 t (sub binary64 q p)))
  way-unsigned = part-unsigned t (sub binary64 q p) ut width-unsigned (sub-fits binary64 q p) l

  way-within : le (mul binary64 t (sub binary64 q p)) (sub binary64 one64 p) ≡ true
  way-within = le-trans-float (mul binary64 t (sub binary64 q p)) (sub binary64 q p) (sub binary64 one64 p) (part-at-most t (sub binary64 q p) ut width-unsigned (sub-fits binary64 q p) l) width-within

  from_zero : le zero64 (add binary64 p (mul binary64 t (sub binary64 q p))) ≡ true
  from_zero =
      let w = mul binary64 t (sub binary64 q p) in
      rw (add_at binary64 p w (num p) (den p) (num w) (den w) (den_pos p) (den_pos w) (own p up) (own w way-unsigned))
      (round-above binary64 (num p * den w + num w * den p) (den p * den w) zero64 0 1 (mul-pos (den_pos p) (den_pos w)) (lit< tt) zero-fits zero-value (none (den p * den w) (num p * den w + num w * den p)))
    where
      none : (i j : ℕ) → 0 * i ≤ j * 1
      none i j = omega arith

  at_most_one : le (add binary64 p (mul binary64 t (sub binary64 q p))) one64 ≡ true
  at_most_one =
      le-trans-float (add binary64 p (mul binary64 t (sub binary64 q p))) (add binary64 p (sub binary64 one64 p)) one64
      (add-mono binary64 p p (mul binary64 t (sub binary64 q p)) (sub binary64 one64 p) up up way-unsigned rest-unsigned (le-self p up) way-within) (back-at-most p up low)

-- ---- minus zero counts as zero
nothing-value : (e : ℤ) → HasValue (fin false 0 e) false 0 1
nothing-value e = (refl, none (up e) (down e))
  where
    none : (u d : ℕ) → 0 * u * 1 ≡ 0 * d
    none u d = omega arith

sum-none : (a b c : ℕ) → a ≡ 0 → sum binary64 true a false b c ≡ round binary64 false (a + b) c
unfolding sum
sum-none a b c z = go (ltb a b) (ltb→lt a b) (nltb→le a b)
  where
    go : (t : Bool) → (T t → a < b) → (T (not t) → b ≤ a) → cond t (round binary64 false (b - a) c) (round binary64 (ltb b a) (a - b) c) ≡ round binary64 false (a + b) c
    go true y n = let e : b - a ≡ a + b = omega arith in rw e
    go false y n =
        let l = n tt in
        let e : a - b ≡ a + b = omega arith in
        rw (e, le-ltb b a (omega arith))

none-add : (e : ℤ) (y : Float) → T (unsigned y) → add binary64 (fin true 0 e) y ≡ add binary64 (fin false 0 e) y
unfolding add
none-add e nan u = absurd u
none-add e (inf s) u = absurd u
none-add e (fin true n d) u = absurd u
none-add e (fin false n d) u = sum-none (0 * up e * down d) (n * up d * down e) (down e * down d) (none (up e) (down d))
  where
    none : (u d : ℕ) → 0 * u * d ≡ 0
    none u d = omega arith

none-less : (e : ℤ) (y : Float) → T (unsigned y) → sub binary64 y (fin true 0 e) ≡ sub binary64 y (fin false 0 e)
unfolding sub neg
none-less e y u =
    add_at binary64 y (fin false 0 e) (num y) (den y) 0 1 (den_pos y) (lit< tt) (own y u) (nothing-value e)
    ∙ ap (λ (z : ℕ). round binary64 false z (den y * 1)) (same (num y) (den y))
    ∙ sym (sub_at binary64 y (fin false 0 e) (num y) (den y) 0 1 (den_pos y) (lit< tt) (own y u) (nothing-value e) (none (num y) (den y)))
  where
    same : (a d : ℕ) → a * 1 + 0 * d ≡ a * 1 - 0 * d
    same a d = omega arith

    none : (a d : ℕ) → 0 * d ≤ a * 1
    none a d = omega arith

-- a number in [0, 1] has no sign or is minus zero
kind : (x : Float) → le zero64 x ≡ true → le x one64 ≡ true → T (unsigned x) ⊎ ((e : ℤ) × (x ≡ fin true 0 e))
unfolding le of_bits
kind nan h k = absurd (false≢true h)
kind (inf true) h k = absurd (false≢true h)
kind (inf false) h k = absurd (false≢true k)
kind (fin false m e) h k = inl tt
kind (fin true m e) h k = inr (e, ap (λ (z : ℕ). fin true z e) (none m (up e) (down e) (up_pos e) (le-under false 0 (pos 0) true m e h)))
  where
    none : (m u d : ℕ) → 0 < u → 0 * 1 * d + m * u * 1 ≤ 0 → m ≡ 0
    none zero u d U g = refl
    none (suc m) u d U g = absurd (omega arith)

above_zero : (x : Float) → lt zero64 x ≡ true → le x one64 ≡ true → T (unsigned x)
unfolding lt of_bits
above_zero x h k = elim (kind x (lt-le zero64 x h) k) [
  | inl u ↦ u
  | inr z ↦ absurd (false≢true (subst (λ (y : Float). lt zero64 y ≡ true) z.1 h))
]

-- ---- p + t * (q - p) for 0 ≤ p < q ≤ 1 and a part t of 1
pub record Between (p q t : Float) : Type 0 where
  pub from_zero : le zero64 (add binary64 p (mul binary64 t (sub binary64 q p))) ≡ true
  pub at_most_one : le (add binary64 p (mul binary64 t (sub binary64 q p))) one64 ≡ true

pub between : (p q t : Float) → le zero64 p ≡ true → lt p q ≡ true → le q one64 ≡ true → T (unsigned t) → le t one64 ≡ true → Between p q t
between p q t z h k ut l = elim (kind p z (le-trans-float p q one64 (lt-le p q h) k)) [
  | inl up ↦ record { from_zero = from_zero p q t up uq ut (lt-le p q h) k l; at_most_one = at_most_one p q t up uq ut (lt-le p q h) k l }
  | inr n ↦
      let o = fin false 0 n.0 in
      let b : le o q ≡ true = values-le o q 0 1 (num q) (den q) (lit< tt) (den_pos q) (nothing-value n.0) (own q uq) (least (num q) (den q)) in
      let s : add binary64 p (mul binary64 t (sub binary64 q p)) ≡ add binary64 o (mul binary64 t (sub binary64 q o)) =
      ap (λ (x : Float). add binary64 x (mul binary64 t (sub binary64 q x))) n.1
      ∙ ap (λ (x : Float). add binary64 (fin true 0 n.0) (mul binary64 t x)) (none-less n.0 q uq)
      ∙ none-add n.0 (mul binary64 t (sub binary64 q o)) (way-unsigned o q t tt uq ut b k l) in
      record { from_zero = ap (λ (x : Float). le zero64 x) s ∙ from_zero o q t tt uq ut b k l; at_most_one = ap (λ (x : Float). le x one64) s ∙ at_most_one o q t tt uq ut b k l }
]
  where
    uq : T (unsigned q)
    uq = above_zero q (le_lt_trans zero64 p q z h) k

    least : (a d : ℕ) → 0 * d ≤ a * 1
    least a d = omega arith
