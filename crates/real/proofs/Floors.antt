-- The whole numbers next to a small double. Assumes nothing.
use mathlib.Core.Path.{◌≡◌, refl, sym, ap, ◌∙◌}
use Prim.Native.Nat.{ℕ, suc, ◌+◌, ◌-◌, ◌*◌, ◌/◌, ◌≤◌, ◌<◌}
use native.Mathlib.Nat.{le_trans, le_of_eq, le_of_lt, lt_of_lt_of_le, lt_of_le_of_lt, mul-pos, mul-lt-mul_of_pos_right, lt_of_mul-lt-mul_right, div-lt_iff_lt-mul, div-eq_of_lt, div-eq_of_lt-le, div-mul-le_self, lt-div-mul-add, lt_of_not-le}
use native.Mathlib.Omega.{arith}
use mathlib.Core.Bool.{true, false, true≢false}
use lib.IntN.{ℤ, pos, neg_ℤ}
use lib.Dec.{T, lit<, lit≤, ltb→lt}
use lib.Ieee.{Float, nan, inf, fin, up, down, of_bits, lt, le, to_unsigned}
use lib.Ieee.Fits.{up_pos, down_pos}
use lib.Ieee.Positive.{positive, first_pos}
use Rattle.doubles.specs.Numbers.{zero64}
use Rattle.doubles.specs.Whole.{whole_of}
use Rattle.doubles.specs.Count.{count_of}
use Rattle.real.specs.Power.{ceil_of, floor_of}
use Rattle.doubles.specs.Bound.{Within}
use Rattle.doubles.proofs.Order.{le-under}
use Rattle.doubles.proofs.Fractions.{lt-values, values-lt}
use Rattle.doubles.proofs.Wholes.{count-value, whole_is}

below-1000 : (a d : ℕ) → 0 < d → a ≤ 999 * d → a / d < 1000
below-1000 a d D h = (div-lt_iff_lt-mul D).1 (lt_of_le_of_lt h (mul-lt-mul_of_pos_right (lit< tt) D))

-- ---- downwards, from 0 on
no-digits : (m : ℕ) (e : ℤ) → le zero64 (fin true m e) ≡ true → m * up e ≡ 0
unfolding of_bits
no-digits m e h = let l : 0 * down e + m * up e * 1 ≤ 0 = le-under false 0 (pos 0) true m e h in omega arith

pub floor-is : (v : Float) → Within v 999 → le zero64 v ≡ true → (pos (whole_of v) ≡ floor_of v) × (whole_of v < 1000)
unfolding floor_of ceil_of whole_of to_unsigned
floor-is nan w h = absurd w
floor-is (inf s) w h = absurd w
floor-is (fin true m e) w h =
    let z = no-digits m e h in
    let D = down_pos e in
    let l : m * up e + down e - 1 < down e = omega arith in
    (ap (λ (n : ℕ). neg_ℤ (pos n)) (sym (div-eq_of_lt l)), lit< tt)
floor-is (fin false m e) w h =
    let l = below-1000 (m * up e) (down e) (down_pos e) w in
    let i : whole_of (fin false m e) ≡ m * up e / down e = whole_is (fin false m e) (m * up e) (down e) (down_pos e) (refl, refl) (lt_of_lt_of_le l (lit≤ tt)) in
    (ap pos i, lt_of_le_of_lt (le_of_eq i) l)

-- ---- upwards, above 0
pub record Ceiling (v : Float) (n : ℕ) : Type 0 where
  pub least : n ≡ ceil_of v
  pub some : 1 ≤ n
  pub small : n < 1000

-- n is the whole part of a / d
module _ (a d n : ℕ) (D : 0 < d) (i : n ≡ a / d) where
  reached : n * d ≤ a
  reached = le_trans (le_of_eq (ap (λ (z : ℕ). z * d) i)) (div-mul-le_self a d)

  not-passed : a < n * d + d
  not-passed = lt_of_lt_of_le (lt-div-mul-add D) (le_of_eq (ap (λ (z : ℕ). z * d + d) (sym i)))

  up_one : n * d < a → (a + d - 1) / d ≡ n + 1
  up_one h = let u = not-passed in div-eq_of_lt-le d (omega arith) (omega arith)

  itself : a ≤ n * d → (a + d - 1) / d ≡ n
  itself h = let u = reached in div-eq_of_lt-le d (omega arith) (omega arith)

whole-small : (m : ℕ) (e : ℤ) (n : ℕ) → Within (fin false m e) 999 → n ≡ whole_of (fin false m e) → (n ≡ m * up e / down e) × (n < 1000)
whole-small m e n w i =
    let l = below-1000 (m * up e) (down e) (down_pos e) w in
    let j : n ≡ m * up e / down e = i ∙ whole_is (fin false m e) (m * up e) (down e) (down_pos e) (refl, refl) (lt_of_lt_of_le l (lit≤ tt)) in
    (j, lt_of_le_of_lt (le_of_eq j) l)

pub ceiling-room : (v : Float) (n : ℕ) → Within v 999 → T (positive v) → n ≡ whole_of v → n < 1000
ceiling-room nan n w p i = absurd w
ceiling-room (inf s) n w p i = absurd w
ceiling-room (fin true m e) n w p i = absurd p
ceiling-room (fin false m e) n w p i = (whole-small m e n w i).1

pub ceiling-next : (v : Float) (n : ℕ) → Within v 999 → T (positive v) → n ≡ whole_of v → lt (count_of n) v ≡ true → Ceiling v (n + 1)
unfolding ceil_of
ceiling-next nan n w p i h = absurd w
ceiling-next (inf s) n w p i h = absurd w
ceiling-next (fin true m e) n w p i h = absurd p
ceiling-next (fin false m e) n w p i h =
    let D = down_pos e in
    let s = whole-small m e n w i in
    let b : n * down e < m * up e * 1 = lt-values (count_of n) (fin false m e) n 1 (m * up e) (down e) (lit< tt) D (count-value n (le_trans (le_of_lt s.1) (lit≤ tt))) (refl, refl) h in
    let c : n * down e < m * up e = omega arith in
    let l : n < 999 = lt_of_mul-lt-mul_right (down e) (lt_of_lt_of_le c w) in
    record { least = sym (up_one (m * up e) (down e) n D s.0 c); some = omega arith; small = omega arith }

pub ceiling-same : (v : Float) (n : ℕ) → Within v 999 → T (positive v) → n ≡ whole_of v → lt (count_of n) v ≡ false → Ceiling v n
unfolding ceil_of
ceiling-same nan n w p i h = absurd w
ceiling-same (inf s) n w p i h = absurd w
ceiling-same (fin true m e) n w p i h = absurd p
ceiling-same (fin false m e) n w p i h =
    let D = down_pos e in
    let s = whole-small m e n w i in
    let b : m * up e ≤ n * down e = under (m * up e) (n * down e) (λ g. true≢false (sym (values-lt (count_of n) (fin false m e) n 1 (m * up e) (down e) (count-value n (le_trans (le_of_lt s.1) (lit≤ tt))) (refl, refl) g) ∙ h)) in
    let a : 0 < m * up e = mul-pos (ltb→lt 0 m p) (up_pos e) in
    let c : 0 < n * down e = lt_of_lt_of_le a b in
    record { least = sym (itself (m * up e) (down e) n D s.0 b); some = first_pos n (down e) c; small = s.1 }
  where
    under : (a b : ℕ) → (b < a * 1 → ⊥) → a ≤ b
    under a b f = let l : a * 1 < suc b = lt_of_not-le f in omega arith
