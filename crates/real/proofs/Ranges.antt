-- The logarithm is within 33 on the power's domain, so 0.5 - t / LN2 is within 661: its whole part fits its cast, and 2 ^ -k is a normal double.
-- Of every double that is finite and above 0 the logarithm is finite. Assumes nothing.
use mathlib.Core.Path.{◌≡◌, refl, sym, ap, ◌∙◌, subst}
use Prim.Native.Nat.{ℕ, zero, suc, ◌+◌, ◌-◌, ◌*◌, ◌/◌, ◌^◌, ◌≤◌, ◌<◌}
use native.Mathlib.Nat.{le_trans, le_of_eq, le_of_lt, lt_of_lt_of_le, lt_of_le_of_lt, lt_of_not-le, not-le_of_lt, le-suc, mul-one, mul_comm, mul_assoc, mul_right_comm, mul-pos, mul-le-mul_right, mul-lt-mul_of_pos_right, pow-succ', le-div_iff_mul-le, div-lt_iff_lt-mul}
use native.Mathlib.Omega.{arith}
use mathlib.Core.Bool.{Bool, true, false, not, ◌&&◌, cond, true≢false, false≢true}
use lib.IntN.{ℤ, pos, negsuc, suc_ℤ}
use lib.Dec.{T, leb, ltb, leb→le, nleb→lt, lit<, lit≤}
use lib.Pow.{pow_pos, pow_mono}
use lib.Ieee.{Float, nan, inf, fin, binary64, up, down, minus, size, round, neg, sum, add, sub, mul, div, le, lt, fits, of_int, of_bits}
use lib.Ieee.Fits.{down_pos}
use lib.Ieee.Exact.{HasValue}
use lib.Ieee.Bits.{of_bits-fits}
use lib.Ieee.Digits.{size-lt, size-le}
use lib.Ieee.Positive.{positive, num, den, den_pos, first_pos}
use borrow.Author.Tests.{lt-ltb}
use Rattle.doubles.specs.Numbers.{zero64, half64, one64, two64}
use Rattle.doubles.specs.Bound.{Within}
use Rattle.doubles.specs.Count.{count_of}
use Rattle.real.specs.Ln.{ln2, turn, tail_of, log_of, turned_of, ln_of, mantissa_of, exponent_of, units_of}
use Rattle.real.specs.Power.{in_domain}
use Rattle.doubles.proofs.Truth.{is, both}
use Rattle.doubles.proofs.Order.{le-under}
use Rattle.doubles.proofs.Bits.{split-of}
use Rattle.doubles.proofs.Signs.{suc-minus, minus_pos, minus-neg}
use Rattle.doubles.proofs.Rounding.{round-finite}
use Rattle.real.proofs.Mantissa.{digits}
use Rattle.doubles.proofs.Bounds.{Above, value-within, within-round, within-mul, within-add, within-sub, within-div, weaken, above-round, above-count}

-- ---- the constants
one-within : Within one64 1
unfolding of_bits
one-within = lit≤ tt

two-within : Within two64 2
unfolding of_bits
two-within = lit≤ tt

half-within : Within half64 1
unfolding of_bits
half-within = lit≤ tt

ln2-within : Within ln2 1
unfolding of_bits
ln2-within = lit≤ tt

ln2-above : Above ln2 2
unfolding of_bits
ln2-above = lit≤ tt

-- ---- the series, for an m = a / b from 0 to 2
tail_within : (z : Float) → Within z 1 → (n : ℕ) → n ≤ 10 → Within (tail_of z n) (n + 1)
unfolding tail_of
tail_within z w zero h = within-div one64 (count_of 21) 1 1 one-within (above-count 21 (lit≤ tt) (lit≤ tt)) (lit≤ tt)
tail_within z w (suc n) h =
    let j : 1 ≤ 19 - 2 * n = omega arith in
    let i : 19 - 2 * n ≤ 2 ^ 53 = omega arith in
    let a = within-div one64 (count_of (19 - 2 * n)) 1 1 one-within (above-count (19 - 2 * n) j i) (lit≤ tt) in
    let b = within-mul z (tail_of z n) 1 (n + 1) w (tail_within z w n (omega arith)) (omega arith) in
    weaken (add binary64 (div binary64 one64 (count_of (19 - 2 * n))) (mul binary64 z (tail_of z n))) (1 * 1 + 1 * (n + 1)) (suc n + 1) (omega arith)
    (within-add (div binary64 one64 (count_of (19 - 2 * n))) (mul binary64 z (tail_of z n)) (1 * 1) (1 * (n + 1)) a b (omega arith))

-- m from 0 to 2, with no sign
abbrev ToTwo : Float → Type 0
ToTwo nan = ⊥
ToTwo (inf s) = ⊥
ToTwo (fin true m e) = ⊥
ToTwo (fin false m e) = m * up e ≤ 2 * down e

less_one : (m : Float) → ToTwo m → Within (sub binary64 m one64) 1
unfolding sub add neg sum of_bits
less_one nan w = absurd w
less_one (inf s) w = absurd w
less_one (fin true m e) w = absurd w
less_one (fin false m e) w = go (ltb (m * up e * 1) (1 * down e)) (ltb (1 * down e) (m * up e * 1))
  where
    go : (b c : Bool) → Within (cond b (round binary64 true (1 * down e - m * up e * 1) (down e * 1)) (round binary64 (false && c) (m * up e * 1 - 1 * down e) (down e * 1))) 1
    go true c = within-round true (1 * down e - m * up e * 1) (down e * 1) 1 (mul-pos (down_pos e) (lit< tt)) (lit≤ tt) (omega arith)
    go false c = within-round false (m * up e * 1 - 1 * down e) (down e * 1) 1 (mul-pos (down_pos e) (lit< tt)) (lit≤ tt) (omega arith)

more-one : (m : Float) → ToTwo m → Above (add binary64 m one64) 1
unfolding add sum of_bits
more-one nan w = absurd w
more-one (inf s) w = absurd w
more-one (fin true m e) w = absurd w
more-one (fin false m e) w = above-round (m * up e * 1 + 1 * down e) (down e * 1) 3 (mul-pos (down_pos e) (lit< tt)) (lit≤ tt) (omega arith) (omega arith)

log-within : (m e : Float) (N : ℕ) → N ≤ 4000 → ToTwo m → Within e N → Within (log_of m e) (N * 1 + 22)
unfolding log_of
log-within m e N l w h =
    let s = div binary64 (sub binary64 m one64) (add binary64 m one64) in
    let S : Within s 1 = within-div (sub binary64 m one64) (add binary64 m one64) 1 1 (less_one m w) (more-one m w) (lit≤ tt) in
    let Z = within-mul s s 1 1 S S (lit≤ tt) in
    let C = tail_within (mul binary64 s s) Z 10 (lit≤ tt) in
    let D = within-mul two64 s 2 1 two-within S (lit≤ tt) in
    let E = within-mul (mul binary64 two64 s) (tail_of (mul binary64 s s) 10) 2 11 D C (lit≤ tt) in
    let F = within-mul e ln2 N 1 h ln2-within (omega arith) in
    within-add (mul binary64 e ln2) (mul binary64 (mul binary64 two64 s) (tail_of (mul binary64 s s) 10)) (N * 1) 22 F E (omega arith)

-- ---- the mantissa and the exponent
two-value : HasValue two64 false 2 1
unfolding of_bits
two-value = (refl, refl)

value-to-two : (x : Float) (a c : ℕ) → 0 < c → HasValue x false a c → a ≤ 2 * c → ToTwo x
value-to-two nan a c C v h = v
value-to-two (inf s) a c C v h = v
value-to-two (fin true m e) a c C v h = true≢false v.0
value-to-two (fin false m e) a c C v h = value-within (fin false m e) false a c 2 C v h

round-to-two : (a b : ℕ) → 0 < b → a ≤ 2 * b → ToTwo (round binary64 false a b)
round-to-two a b B h =
    let g = round-finite binary64 a b two64 2 1 B (lit< tt) (of_bits-fits binary64 0x4000_0000_0000_0000) two-value (le_trans (le_of_eq (mul-one a)) h) in
    value-to-two (round binary64 false a b) g.0 (2 ^ 1074) (pow_pos 1074) g.1 (le_trans (le_of_eq (sym (mul-one g.0))) g.2)

half-to-two : (m : Float) → ToTwo m → ToTwo (mul binary64 m half64)
unfolding mul of_bits
half-to-two nan w = absurd w
half-to-two (inf s) w = absurd w
half-to-two (fin true m e) w = absurd w
half-to-two (fin false m e) w = round-to-two (m * up e * 1) (down e * 2) (mul-pos (down_pos e) (lit< tt)) (omega arith)

mantissa-to-two : (x : Float) → ToTwo (mantissa_of x)
unfolding mantissa_of
mantissa-to-two x = round-to-two (units_of x) (2 ^ (size (units_of x) - 1)) (pow_pos (size (units_of x) - 1)) (go (size (units_of x)) (size-lt (units_of x)))
  where
    go : (z : ℕ) → units_of x < 2 ^ z → units_of x ≤ 2 * 2 ^ (z - 1)
    go zero h = le_trans (le_of_lt h) (lit≤ tt)
    go (suc k) h = let i : suc k - 1 ≡ k = omega arith in le_trans (le_of_lt h) (le_of_eq (pow-succ' 2 k ∙ ap (λ (z : ℕ). 2 * 2 ^ z) (sym i)))

int-within : (a N : ℕ) → N ≤ 4000 → 1075 ≤ a + N → a ≤ 1075 + N → Within (of_int binary64 (minus a 1075)) N
unfolding of_int
int-within a N s l h = go (leb 1075 a) (leb→le 1075 a) (nleb→lt 1075 a)
  where
    go : (b : Bool) → (T b → 1075 ≤ a) → (T (not b) → a < 1075) → Within (of_int binary64 (minus a 1075)) N
    go true y n = subst (λ (z : ℤ). Within (of_int binary64 z) N) (sym (minus_pos a 1075 (y tt))) (within-round false (a - 1075) 1 N (lit< tt) (le_trans s (lit≤ tt)) (let g = y tt in omega arith))
    go false y n = subst (λ (z : ℤ). Within (of_int binary64 z) N) (sym (minus-neg a 1075 (n tt))) (within-round true (suc (1075 - suc a)) 1 N (lit< tt) (le_trans s (lit≤ tt)) (let g = n tt in omega arith))

exponent-low : (y : Float) (N : ℕ) → Within (of_int binary64 (minus (size (units_of y)) 1075)) N → Within (of_int binary64 (exponent_of y)) N
unfolding exponent_of
exponent-low y N w = w

exponent-high : (y : Float) (N : ℕ) → Within (of_int binary64 (minus (suc (size (units_of y))) 1075)) N → Within (of_int binary64 (suc_ℤ (exponent_of y))) N
unfolding exponent_of
exponent-high y N w = subst (λ (z : ℤ). Within (of_int binary64 z) N) (sym (suc-minus (size (units_of y)) 1075)) w

-- a bound N on the exponent gives one on the logarithm
ln-bounded : (y : Float) (N : ℕ) → N ≤ 4000 → positive y ≡ true → 1075 ≤ size (units_of y) + N → suc (size (units_of y)) ≤ 1075 + N → Within (ln_of y) (N * 1 + 22)
unfolding ln_of turned_of
ln-bounded y N s p a b =
    go (positive y) p (lt turn (mantissa_of y))
    (exponent-low y N (int-within (size (units_of y)) N s a (le_trans (le-suc (size (units_of y))) b)))
    (exponent-high y N (int-within (suc (size (units_of y))) N s (more (size (units_of y)) N a) b))
  where
    more : (z N : ℕ) → 1075 ≤ z + N → 1075 ≤ suc z + N
    more z N h = omega arith

    go : (p : Bool) → p ≡ true → (c : Bool) → Within (of_int binary64 (exponent_of y)) N → Within (of_int binary64 (suc_ℤ (exponent_of y))) N
        → Within (cond p (cond c (log_of (mul binary64 (mantissa_of y) half64) (of_int binary64 (suc_ℤ (exponent_of y)))) (log_of (mantissa_of y) (of_int binary64 (exponent_of y)))) nan) (N * 1 + 22)
    go false h c e0 e1 = absurd (false≢true h)
    go true h true e0 e1 = log-within (mul binary64 (mantissa_of y) half64) (of_int binary64 (suc_ℤ (exponent_of y))) N s (half-to-two (mantissa_of y) (mantissa-to-two y)) e1
    go true h false e0 e1 = log-within (mantissa_of y) (of_int binary64 (exponent_of y)) N s (mantissa-to-two y) e0

-- ---- y from 2 ^ -10 to 2, as a fraction
record Base (y : Float) : Type 0 where
  above : positive y ≡ true
  low : den y ≤ num y * 1024
  high : num y ≤ 2 * den y

base : (y : Float) → le (of_bits binary64 0x3f50_0000_0000_0000) y ≡ true → le y two64 ≡ true → Base y
unfolding of_bits le
base nan a b = absurd (false≢true a)
base (inf true) a b = absurd (false≢true a)
base (inf false) a b = absurd (false≢true b)
base (fin true m e) a b =
    let i : 1 * 1 * down e + m * up e * 1024 ≤ 0 = le-under false 1 (negsuc 9) true m e a in
    let D = down_pos e in
    absurd (omega arith)
base (fin false m e) a b =
    let i : 1 * 1 * down e ≤ m * up e * 1024 = le-under false 1 (negsuc 9) false m e a in
    let j : m * up e * 1 ≤ 1 * 2 * down e = le-under false m e false 1 (pos 1) b in
    let D = down_pos e in
    let N : 0 < m * up e = omega arith in
    record { above = lt-ltb 0 m (first_pos m (up e) N); low = omega arith; high = omega arith }

digits-range : (y : Float) → Base y → (1064 < size (units_of y)) × (size (units_of y) ≤ 1076)
unfolding units_of
digits-range y b =
    let D = den_pos y in
    let lo : 2 ^ 1064 ≤ num y * 2 ^ 1074 / den y = (le-div_iff_mul-le D).1 (le_trans (le_of_eq (mul_comm (2 ^ 1064) (den y))) (le_trans (mul-le-mul_right (2 ^ 1064) b.low) (le_of_eq (mul_assoc (num y) 1024 (2 ^ 1064))))) in
    let hi : num y * 2 ^ 1074 / den y < 2 ^ 1076 = (div-lt_iff_lt-mul D).1 (lt_of_le_of_lt (mul-le-mul_right (2 ^ 1074) b.high) (lt_of_le_of_lt (le_of_eq (mul_right_comm 2 (den y) (2 ^ 1074))) (mul-lt-mul_of_pos_right (lit< tt) D))) in
    (lt_of_not-le (λ g. not-le_of_lt (lt_of_lt_of_le (size-lt (num y * 2 ^ 1074 / den y)) (pow_mono g)) lo), size-le (num y * 2 ^ 1074 / den y) 1076 hi)

pub ln-within : (y : Float) → le (of_bits binary64 0x3f50_0000_0000_0000) y ≡ true → le y two64 ≡ true → Within (ln_of y) 33
ln-within y a b =
    let B = base y a b in
    let r = digits-range y B in
    ln-bounded y 11 (lit≤ tt) B.above (low (size (units_of y)) r.0) (high (size (units_of y)) r.1)
  where
    low : (z : ℕ) → 1064 < z → 1075 ≤ z + 11
    low z h = omega arith

    high : (z : ℕ) → z ≤ 1076 → suc z ≤ 1086
    high z h = omega arith

pub ln-finite : (x : Float) → T (fits binary64 x) → T (positive x) → Within (ln_of x) 1122
ln-finite x f p =
    let s = split-of x f p in
    let d = digits x s.0 s.1 f p s.2 in
    let k : s.1 < 2098 = s.2.small in
    ln-bounded x 1100 (lit≤ tt) (is p) (omega arith) (omega arith)

-- ---- the power's exponent
rate-within : (a : Float) → le zero64 a ≡ true → le a (of_bits binary64 0x4024_0000_0000_0000) ≡ true → Within a 10
unfolding of_bits le
rate-within nan p q = absurd (false≢true p)
rate-within (inf true) p q = absurd (false≢true p)
rate-within (inf false) p q = absurd (false≢true q)
rate-within (fin true m e) p q = let i : 0 * down e + m * up e * 1 ≤ 0 = le-under false 0 (pos 0) true m e p in omega arith
rate-within (fin false m e) p q = let j : m * up e * 1 ≤ 5 * 2 * down e = le-under false m e false 5 (pos 1) q in omega arith

pub exponent-within : (y a : Float) → in_domain y a ≡ true → Within (sub binary64 half64 (div binary64 (mul binary64 a (ln_of y)) ln2)) 999
unfolding in_domain
exponent-within y a h =
    let p = both (le (of_bits binary64 0x3f50_0000_0000_0000) y && le y two64) (le zero64 a && le a (of_bits binary64 0x4024_0000_0000_0000)) h in
    let q = both (le (of_bits binary64 0x3f50_0000_0000_0000) y) (le y two64) p.0 in
    let r = both (le zero64 a) (le a (of_bits binary64 0x4024_0000_0000_0000)) p.1 in
    let t = within-mul a (ln_of y) 10 33 (rate-within a r.0 r.1) (ln-within y q.0 q.1) (lit≤ tt) in
    let v = within-div (mul binary64 a (ln_of y)) ln2 330 2 t ln2-above (lit≤ tt) in
    weaken (sub binary64 half64 (div binary64 (mul binary64 a (ln_of y)) ln2)) 661 999 (lit≤ tt) (within-sub half64 (div binary64 (mul binary64 a (ln_of y)) ln2) 1 660 half-within v (lit≤ tt))
