-- Whole numbers as doubles, and the whole part of a double that is not negative. Assumes nothing.
use mathlib.Core.Path.{◌≡◌, refl, sym, ap, ◌∙◌}
use mathlib.Core.Logic.{inl, inr}
use Prim.Native.Nat.{ℕ, ◌+◌, ◌-◌, ◌*◌, ◌/◌, ◌^◌, ◌≤◌, ◌<◌, min}
use native.Mathlib.Nat.{le_of_lt, mul-pos, eq-zero-or-pos, div-eq_of_lt-le, min-eq_left}
use native.Mathlib.Omega.{arith}
use mathlib.Core.Bool.{true, false, true≢false, false≢true}
use lib.Dec.{lit<}
use lib.Pow.{le_ones}
use lib.Ieee.{Float, nan, inf, fin, binary64, up, down, of_int, to_unsigned, round, add, sub, mul, div, lt, le}
use lib.Ieee.Fits.{down_pos}
use lib.Ieee.Exact.{HasValue}
use lib.Ieee.Back.{round_whole}
use lib.Ieee.Nearest.{div_same}
use lib.Ieee.Scale.{round_same}
use Rattle.doubles.specs.Whole.{whole_of}
use Rattle.doubles.specs.Count.{count_of}
use Rattle.doubles.proofs.Order.{le-under}
use Rattle.doubles.proofs.Fractions.{lt-values, values-lt, le-values, values-le}
use Rattle.doubles.proofs.Rounding.{add_at, sub_at, mul_at, div-at}

-- a count up to 2 ^ 53 is exact
pub count-value : (n : ℕ) → n ≤ 2 ^ 53 → HasValue (count_of n) false n 1
unfolding count_of of_int
count-value n h = round_whole binary64 false n h

-- so sums, differences and products of counts are rounded once, and the order of counts is that of the numbers
module _ (a b : ℕ) (A : a ≤ 2 ^ 53) (B : b ≤ 2 ^ 53) where
  pub count_add : add binary64 (count_of a) (count_of b) ≡ count_of (a + b)
  unfolding count_of of_int
  count_add =
      add_at binary64 (count_of a) (count_of b) a 1 b 1 (lit< tt) (lit< tt) (count-value a A) (count-value b B)
      ∙ round_same binary64 false (a * 1 + b * 1) 1 (a + b) 1 (lit< tt) (lit< tt) (omega arith)

  pub count-sub : b ≤ a → sub binary64 (count_of a) (count_of b) ≡ count_of (a - b)
  unfolding count_of of_int
  count-sub h =
      sub_at binary64 (count_of a) (count_of b) a 1 b 1 (lit< tt) (lit< tt) (count-value a A) (count-value b B) (omega arith)
      ∙ round_same binary64 false (a * 1 - b * 1) 1 (a - b) 1 (lit< tt) (lit< tt) (omega arith)

  pub count-mul : mul binary64 (count_of a) (count_of b) ≡ count_of (a * b)
  unfolding count_of of_int
  count-mul = mul_at binary64 (count_of a) (count_of b) a 1 b 1 (lit< tt) (lit< tt) (count-value a A) (count-value b B)

  pub count-div : 0 < b → div binary64 (count_of a) (count_of b) ≡ round binary64 false a b
  count-div h =
      div-at binary64 (count_of a) (count_of b) a 1 b 1 (lit< tt) (lit< tt) h (count-value a A) (count-value b B)
      ∙ round_same binary64 false (a * 1) (b * 1) a b (omega arith) h (omega arith)

  pub count-lt : a < b → lt (count_of a) (count_of b) ≡ true
  count-lt h = values-lt (count_of a) (count_of b) a 1 b 1 (count-value a A) (count-value b B) (omega arith)

  pub count-le : a ≤ b → le (count_of a) (count_of b) ≡ true
  count-le h = values-le (count_of a) (count_of b) a 1 b 1 (lit< tt) (lit< tt) (count-value a A) (count-value b B) (omega arith)

-- the whole part, by any fraction that the value equals
pub whole_is : (x : Float) (a c : ℕ) → 0 < c → HasValue x false a c → a / c < 2 ^ 64 → whole_of x ≡ a / c
unfolding whole_of to_unsigned
whole_is nan a c C v h = absurd v
whole_is (inf s) a c C v h = absurd v
whole_is (fin true m e) a c C v h = absurd (true≢false v.0)
whole_is (fin false m e) a c C v h =
    let i : m * up e / down e ≡ a / c = div_same (m * up e) (down e) a c (down_pos e) C v.1 in
    ap (λ (z : ℕ). min z (2 ^ 64 - 1)) i ∙ min-eq_left (le_ones 64 h)

-- ---- what lies from k on and below k + 1 has the whole part k
no_whole : (k n d u m : ℕ) → 0 < d → 0 < u → n * 1 ≡ k * d → n * u + m ≤ 0 → k ≡ 0
no_whole k n d u m D U e h = elim (eq-zero-or-pos k) [
  | inl z ↦ z
  | inr l ↦
      let p : 0 < k * d = mul-pos l D in
      let q : 0 < n = omega arith in
      let r : 0 < n * u = mul-pos q U in
      absurd (omega arith)
]

between : (x low high : Float) (k : ℕ) → k < 2 ^ 53 → HasValue low false k 1 → HasValue high false (k + 1) 1
    → le low x ≡ true → lt x high ≡ true → whole_of x ≡ k
unfolding whole_of to_unsigned le
between x nan high k K v w h l = absurd v
between x (inf s) high k K v w h l = absurd v
between x (fin true n g) high k K v w h l = absurd (true≢false v.0)
between x (fin false n g) nan k K v w h l = absurd w
between x (fin false n g) (inf s) k K v w h l = absurd w
between nan (fin false n g) (fin t i j) k K v w h l = absurd (false≢true h)
between (inf true) (fin false n g) (fin t i j) k K v w h l = absurd (false≢true h)
between (inf false) (fin false n g) (fin t i j) k K v w h l = absurd (false≢true l)
between (fin true m e) (fin false n g) (fin t i j) k K v w h l =
    sym (no_whole k (n * up g) (down g) (down e) (m * up e * down g) (down_pos g) (down_pos e) v.1 (le-under false n g true m e h))
between (fin false m e) (fin false n g) (fin t i j) k K v w h l =
    let D = down_pos e in
    let a : k * down e ≤ m * up e * 1 = le-values (fin false n g) (fin false m e) k 1 (m * up e) (down e) v (refl, refl) h in
    let b : m * up e * 1 < (k + 1) * down e = lt-values (fin false m e) (fin t i j) (m * up e) (down e) (k + 1) 1 D (lit< tt) (refl, refl) w l in
    let q : m * up e / down e ≡ k = div-eq_of_lt-le (down e) (omega arith) (omega arith) in
    let small : m * up e / down e < 2 ^ 64 = omega arith in
    whole_is (fin false m e) (m * up e) (down e) D (refl, refl) small ∙ q

pub whole-between : (x : Float) (k : ℕ) → k < 2 ^ 53 → le (count_of k) x ≡ true → lt x (count_of (k + 1)) ≡ true → whole_of x ≡ k
whole-between x k K h l = between x (count_of k) (count_of (k + 1)) k K (count-value k (le_of_lt K)) (count-value (k + 1) (omega arith)) h l
