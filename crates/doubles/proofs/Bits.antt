-- What the bits of a double above 0 say of its value, and the bits of a double by its value. Assumes nothing.
use mathlib.Core.Path.{◌≡◌, refl, sym, ap, ◌∙◌, subst}
use Prim.Native.Nat.{ℕ, zero, suc, ◌+◌, ◌-◌, ◌*◌, ◌/◌, ◌%◌, ◌^◌, ◌≤◌, ◌<◌}
use native.Mathlib.Nat.{mul-one, mul_comm, mul_assoc, le_trans, le_of_eq, lt_of_lt_of_le, lt_of_le_of_lt, lt_of_not-le, not-le_of_lt, le_antisymm, mul-le-mul_right, mul-lt-mul_of_pos_right, le_of_mul-le-mul_right, mul-div_cancel, mod-eq_of_lt}
use native.Mathlib.Omega.{arith}
use mathlib.Core.Bool.{Bool, true, false, not, cond, true≢false}
use lib.Arith.{le→nltb}
use lib.Dec.{T, eqb, leb, ltb, eqb_refl, lit<, lit≤}
use lib.Pow.{pow-add, pow_pos, pow_mono, shl_lt}
use lib.Count.{count_leading_zeros, leading_top}
use lib.Ieee.{Float, nan, inf, fin, binary64, up, down, size, odd, fits, is_nan, nan_bits, of_fields, of_bits, to_bits, le, hid, top}
use lib.Ieee.Digits.{size-lt, size-le}
use lib.Ieee.Fits.{down_pos}
use lib.Ieee.Exact.{HasValue, odd_sign}
use lib.Ieee.Positive.{positive, value_pos}
use lib.Ieee.Bits.{of_bits-to_bits, nan_bits_above}
use borrow.Author.Tests.{leb-false, ltb-true, ltb-false, ne_eqb}
use Rattle.doubles.specs.declared.Parts.{Parts}
use Rattle.doubles.specs.Split.{Split, parts, lifted_of, split_of}
use Rattle.doubles.proofs.Exact.{rescale}
use Rattle.doubles.proofs.Fractions.{le-values}

-- ---- from the fields to the value: X is the exponent's field, t the digits'
abbrev size_of : ℕ → ℕ → ℕ
size_of zero t = t
size_of (suc k) t = (2 ^ 52 + t) * 2 ^ k

unsigned : (x : Float) (s : Bool) (a c : ℕ) → T (positive x) → HasValue x s a c → s ≡ false
unsigned nan s a c p v = absurd p
unsigned (inf t) s a c p v = absurd p
unsigned (fin true m e) s a c p v = absurd p
unsigned (fin false m e) s a c p v = sym v.0

fields_value : (s : Bool) (X t : ℕ) → T (positive (of_fields binary64 s X t)) → (s ≡ false) × HasValue (of_fields binary64 s X t) false (size_of X t) (2 ^ 1074) × (X ≡ 2047 → ⊥)
unfolding of_fields
fields_value s zero t p =
    let v = subst (λ (a : ℕ). HasValue (odd 53 s t 0 1074) s a (2 ^ 1074)) (mul-one t) (odd_sign 53 s t 0 1074) in
    let e = unsigned (odd 53 s t 0 1074) s t (2 ^ 1074) p v in
    (e, subst (λ (u : Bool). HasValue (odd 53 s t 0 1074) u t (2 ^ 1074)) e v, λ (h : ◌≡◌ {A = ℕ} 0 2047). omega arith)
fields_value s (suc k) t p = go (eqb (suc k) 2047) (λ (h : suc k ≡ 2047). subst (λ (z : ℕ). T (eqb (suc k) z)) h (eqb_refl (suc k))) (eqb t 0) p
  where
    go : (b : Bool) → (suc k ≡ 2047 → T b) → (z : Bool) → T (positive (cond b (cond z (inf s) nan) (odd 53 s (2 ^ 52 + t) k 1074)))
        → (s ≡ false) × HasValue (cond b (cond z (inf s) nan) (odd 53 s (2 ^ 52 + t) k 1074)) false ((2 ^ 52 + t) * 2 ^ k) (2 ^ 1074) × (suc k ≡ 2047 → ⊥)
    go true h true p = absurd p
    go true h false p = absurd p
    go false h z p =
        let v = odd_sign 53 s (2 ^ 52 + t) k 1074 in
        let e = unsigned (odd 53 s (2 ^ 52 + t) k 1074) s ((2 ^ 52 + t) * 2 ^ k) (2 ^ 1074) p v in
        (e, subst (λ (u : Bool). HasValue (odd 53 s (2 ^ 52 + t) k 1074) u ((2 ^ 52 + t) * 2 ^ k) (2 ^ 1074)) e v, h)

pub bits-value : (x : Float) → T (fits binary64 x) → T (positive x)
    → (to_bits binary64 x < 2047 * 2 ^ 52) × HasValue x false (size_of (to_bits binary64 x / 2 ^ 52) (to_bits binary64 x % 2 ^ 52)) (2 ^ 1074)
unfolding of_bits
bits-value x f p =
    let b = to_bits binary64 x in
    let same : of_fields binary64 (leb (top binary64) b) (b % top binary64 / hid binary64) (b % hid binary64) ≡ x = of_bits-to_bits binary64 x f in
    let v = fields_value (leb (top binary64) b) (b % top binary64 / hid binary64) (b % hid binary64) (subst (λ (z : Float). T (positive z)) (sym same) p) in
    let l : b < top binary64 = leb-false (top binary64) b v.0 in
    let cut : b % top binary64 ≡ b = mod-eq_of_lt l in
    let w : HasValue x false (size_of (b % top binary64 / hid binary64) (b % hid binary64)) (2 ^ 1074) = subst (λ (z : Float). HasValue z false (size_of (b % top binary64 / hid binary64) (b % hid binary64)) (2 ^ 1074)) same v.1 in
    (below b l (λ h. v.2 (ap (λ (z : ℕ). z / 2 ^ 52) cut ∙ h)), subst (λ (z : ℕ). HasValue x false (size_of (z / 2 ^ 52) (b % 2 ^ 52)) (2 ^ 1074)) cut w)
  where
    below : (b : ℕ) → b < 2 ^ 52 * 2048 → (b / 2 ^ 52 ≡ 2047 → ⊥) → b < 2047 * 2 ^ 52
    below b l n = lt_of_not-le (λ g. n (omega arith))

least : HasValue (of_bits binary64 0x0010_0000_0000_0000) false (2 ^ 52) (2 ^ 1074)
unfolding of_bits
least = (refl, refl)

-- a double from the least normal one on has its hidden digit
pub high_bits : (x : Float) → T (fits binary64 x) → T (positive x) → le (of_bits binary64 0x0010_0000_0000_0000) x ≡ true → 2 ^ 52 ≤ to_bits binary64 x
high_bits x f p h = go (to_bits binary64 x) (to_bits binary64 x / 2 ^ 52) refl (bits-value x f p).1
  where
    go : (b X : ℕ) → b / 2 ^ 52 ≡ X → HasValue x false (size_of X (b % 2 ^ 52)) (2 ^ 1074) → 2 ^ 52 ≤ b
    go b zero e v =
        let l : 2 ^ 52 ≤ b % 2 ^ 52 = le_of_mul-le-mul_right (le-values (of_bits binary64 0x0010_0000_0000_0000) x (2 ^ 52) (2 ^ 1074) (b % 2 ^ 52) (2 ^ 1074) least v h) (pow_pos 1074) in
        absurd (below (b % 2 ^ 52) l (omega arith))
      where
        below : (t : ℕ) → 2 ^ 52 ≤ t → t < 2 ^ 52 → ⊥
        below t l h = omega arith
    go b (suc k) e v = omega arith

-- ---- the split of a normal double
pub high-split : (x : Float) → T (fits binary64 x) → T (positive x) → 2 ^ 52 ≤ to_bits binary64 x → Split x (to_bits binary64 x % 2 ^ 52 + 2 ^ 52) (to_bits binary64 x / 2 ^ 52 + 51)
high-split x f p l = go (to_bits binary64 x) (bits-value x f p).0 l (to_bits binary64 x / 2 ^ 52) refl (bits-value x f p).1
  where
    none : (b : ℕ) → 2 ^ 52 ≤ b → b / 2 ^ 52 ≡ 0 → ⊥
    none b l e = omega arith

    go : (b : ℕ) → b < 2047 * 2 ^ 52 → 2 ^ 52 ≤ b → (X : ℕ) → b / 2 ^ 52 ≡ X → HasValue x false (size_of X (b % 2 ^ 52)) (2 ^ 1074) → Split x (b % 2 ^ 52 + 2 ^ 52) (b / 2 ^ 52 + 51)
    go b u l zero e v = absurd (none b l e)
    go b u l (suc k) e v =
        let t = b % 2 ^ 52 in
        let K : b / 2 ^ 52 + 51 ≡ k + 52 = omega arith in
        let o : t + 2 ^ 52 ≡ 2 ^ 52 + t = omega arith in
        let g : (t + 2 ^ 52) * 2 ^ (k + 52) ≡ (2 ^ 52 + t) * 2 ^ k * 2 ^ 52 = ap (λ (z : ℕ). (t + 2 ^ 52) * z) (pow-add 2 k 52) ∙ sym (mul_assoc (t + 2 ^ 52) (2 ^ k) (2 ^ 52)) ∙ ap (λ (z : ℕ). z * 2 ^ k * 2 ^ 52) o in
        subst (λ (z : ℕ). Split x (t + 2 ^ 52) z) (sym K) (record {
          value = rescale x false ((2 ^ 52 + t) * 2 ^ k) (2 ^ 1074) ((t + 2 ^ 52) * 2 ^ (k + 52)) (2 ^ 1126) (pow_pos 1074) (ap (λ (z : ℕ). z * 2 ^ 1074) g ∙ mul_assoc ((2 ^ 52 + t) * 2 ^ k) (2 ^ 52) (2 ^ 1074)) v;
          long = omega arith;
          short = omega arith;
          small = omega arith;
        })

-- ---- the split of a subnormal: its bits are its size in units of the smallest double, and its digits are moved up to 53
low_value : (x : Float) → T (fits binary64 x) → T (positive x) → to_bits binary64 x < 2 ^ 52 → HasValue x false (to_bits binary64 x) (2 ^ 1074)
low_value x f p l =
    let b = to_bits binary64 x in
    let none : b / 2 ^ 52 ≡ 0 = omega arith in
    let all : b % 2 ^ 52 ≡ b = omega arith in
    subst (λ (z : ℕ). HasValue x false z (2 ^ 1074)) (ap (λ (X : ℕ). size_of X (b % 2 ^ 52)) none ∙ all) (bits-value x f p).1

moved : (x : Float) (b j : ℕ) → HasValue x false b (2 ^ 1074) → b < 2 ^ 52 → 2 ^ j ≤ b → b < 2 ^ suc j → Split x (b * 2 ^ (52 - j)) j
moved x b j v s l h =
    let J : j < 52 = lt_of_not-le (λ (g : 52 ≤ j). not-le_of_lt s (le_trans (pow_mono g) l)) in
    let i : 52 - j + j ≡ 52 = omega arith in
    let i' : suc j + (52 - j) ≡ 53 = omega arith in
    let e : 2 ^ (52 - j) * 2 ^ j ≡ 2 ^ 52 = sym (pow-add 2 (52 - j) j) ∙ ap (λ (z : ℕ). 2 ^ z) i in
    let g : b * 2 ^ (52 - j) * 2 ^ j ≡ b * 2 ^ 52 = mul_assoc b (2 ^ (52 - j)) (2 ^ j) ∙ ap (λ (z : ℕ). b * z) e in
    record {
      value = rescale x false b (2 ^ 1074) (b * 2 ^ (52 - j) * 2 ^ j) (2 ^ 1126) (pow_pos 1074) (ap (λ (z : ℕ). z * 2 ^ 1074) g ∙ mul_assoc b (2 ^ 52) (2 ^ 1074)) v;
      long = le_trans (le_of_eq (sym e ∙ mul_comm (2 ^ (52 - j)) (2 ^ j))) (mul-le-mul_right (2 ^ (52 - j)) l);
      short = subst (λ (z : ℕ). b * 2 ^ (52 - j) < 2 ^ z) i' (shl_lt (suc j) (52 - j) h);
      small = omega arith;
    }

-- as the code does it, from the zeros that lead
pub leading : (b : ℕ) → 0 < b → b < 2 ^ 52 → (12 ≤ count_leading_zeros 64 b) × (count_leading_zeros 64 b ≤ 63)
leading b p l =
    let t = leading_top 64 b p (lt_of_lt_of_le l (lit≤ tt)) in
    let J : t.0 < 52 = lt_of_not-le (λ (g : 52 ≤ t.0). not-le_of_lt l (le_trans (pow_mono g) t.2)) in
    (omega (arith, t.1), omega (arith, t.1))

low-split : (x : Float) (b : ℕ) → HasValue x false b (2 ^ 1074) → 0 < b → b < 2 ^ 52 → Split x (b * 2 ^ (count_leading_zeros 64 b - 11) % 2 ^ 64) (52 - (count_leading_zeros 64 b - 11))
low-split x b v p l =
    let z = count_leading_zeros 64 b in
    let t = leading_top 64 b p (lt_of_lt_of_le l (lit≤ tt)) in
    let j = t.0 in
    let J : j < 52 = lt_of_not-le (λ (g : 52 ≤ j). not-le_of_lt l (le_trans (pow_mono g) t.2)) in
    let e : z + suc j ≡ 64 = t.1 in
    let a : 52 - j ≡ z - 11 = omega arith in
    let a' : j ≡ 52 - (z - 11) = omega arith in
    let s = moved x b j v l t.2 t.3 in
    let m : b * 2 ^ (52 - j) ≡ b * 2 ^ (z - 11) % 2 ^ 64 = sym (mod-eq_of_lt (lt_of_lt_of_le s.short (lit≤ tt))) ∙ ap (λ (y : ℕ). b * 2 ^ y % 2 ^ 64) a in
    subst (λ (y : ℕ). Split x y (52 - (z - 11))) m (subst (λ (y : ℕ). Split x (b * 2 ^ (52 - j)) y) a' s)

-- ---- the definition splits every double above 0
pub splits : (x : Float) (r : Parts) → T (fits binary64 x) → T (positive x) → r ≡ split_of (to_bits binary64 x) → Split x r.digits r.shift
unfolding split_of lifted_of
splits x r f p e = subst (λ (q : Parts). Split x q.digits q.shift) (sym e) (go (ltb (to_bits binary64 x) (2 ^ 52)) refl)
  where
    go : (b : Bool) → ltb (to_bits binary64 x) (2 ^ 52) ≡ b
        → let q = cond b (lifted_of (to_bits binary64 x)) (parts (to_bits binary64 x % 2 ^ 52 + 2 ^ 52) (to_bits binary64 x / 2 ^ 52 + 51)) in Split x q.digits q.shift
    go true h =
        let l = ltb-true (to_bits binary64 x) (2 ^ 52) h in
        let v = low_value x f p l in
        let s = value_pos x (to_bits binary64 x) (2 ^ 1074) p (pow_pos 1074) v in
        rw (ne_eqb (to_bits binary64 x) 0 (λ (n : to_bits binary64 x ≡ 0). omega arith)) (low-split x (to_bits binary64 x) v s l)
    go false h = high-split x f p (ltb-false (to_bits binary64 x) (2 ^ 52) h)

-- every double above 0 has its split
pub split-of : (x : Float) → T (fits binary64 x) → T (positive x) → (m : ℕ) × (k : ℕ) × Split x m k
split-of x f p = (_, _, splits x _ f p refl)

-- ---- from the value to the bits
pub size-at : (n j : ℕ) → 2 ^ j ≤ n → n < 2 ^ suc j → size n ≡ suc j
size-at n j l h =
    le_antisymm (size-le n (suc j) h) (lt_of_not-le (λ (g : size n ≤ j). not-le_of_lt (lt_of_lt_of_le (size-lt n) (pow_mono g)) l))

-- a number from 2 ^ 52 * 2 ^ k up to below 2 ^ 53 * 2 ^ k drops k digits
pub dropped : (n k : ℕ) → 2 ^ 52 * 2 ^ k ≤ n → n < 2 ^ 53 * 2 ^ k → size n - 53 ≡ k
dropped n k l h =
    let e : size n ≡ suc (52 + k) = size-at n (52 + k) (le_trans (le_of_eq (pow-add 2 52 k)) l) (lt_of_lt_of_le h (le_of_eq (sym (pow-add 2 53 k) ∙ ap (λ (z : ℕ). 2 ^ z) (next k)))) in
    omega arith
  where
    next : (k : ℕ) → 53 + k ≡ suc (52 + k)
    next k = omega arith

pub value-bits : (v : Float) (q k : ℕ) → 2 ^ 52 ≤ q → q < 2 ^ 53 → HasValue v false (q * 2 ^ k) (2 ^ 1074) → to_bits binary64 v ≡ k * 2 ^ 52 + q
unfolding to_bits
value-bits nan q k l h w = absurd w
value-bits (inf t) q k l h w = absurd w
value-bits (fin true m e) q k l h w = absurd (true≢false w.0)
value-bits (fin false m e) q k l h w =
    let n : m * up e * 2 ^ 1074 / down e ≡ q * 2 ^ k = ap (λ (z : ℕ). z / down e) w.1 ∙ mul-div_cancel (q * 2 ^ k) (down_pos e) in
    let z : size (m * up e * 2 ^ 1074 / down e) - 53 ≡ k = ap (λ (i : ℕ). size i - 53) n ∙ dropped (q * 2 ^ k) k (mul-le-mul_right (2 ^ k) l) (mul-lt-mul_of_pos_right h (pow_pos k)) in
    ap (λ (j : ℕ). 0 + j * 2 ^ 52 + m * up e * 2 ^ 1074 / down e / 2 ^ j) z ∙ ap (λ (i : ℕ). 0 + k * 2 ^ 52 + i / 2 ^ k) n ∙ ap (λ (i : ℕ). 0 + k * 2 ^ 52 + i) (mul-div_cancel q (pow_pos k)) ∙ done (k * 2 ^ 52) q
  where
    done : (a b : ℕ) → 0 + a + b ≡ a + b
    done a b = omega arith

-- the double with these digits, by its bits
pub bits_of : (v : Float) (q k : ℕ) → T (fits binary64 v) → 2 ^ 52 ≤ q → q < 2 ^ 53 → HasValue v false (q * 2 ^ k) (2 ^ 1074) → of_bits binary64 (k * 2 ^ 52 + q) ≡ v
bits_of v q k f l h w = ap (λ (z : ℕ). of_bits binary64 z) (sym (value-bits v q k l h w)) ∙ of_bits-to_bits binary64 v f

-- ---- what the code asks before it reads or makes bits
pub no-nan-bits : (n : ℕ) → n ≤ 2047 * 2 ^ 52 → T (not (nan_bits binary64 n))
no-nan-bits n h =
    let m : n % top binary64 ≡ n = mod-eq_of_lt (lt_of_le_of_lt h (lit< tt)) in
    subst (λ (b : Bool). T (not b)) (sym (nan_bits_above binary64 n)) (subst (λ (z : ℕ). T (not (ltb (2047 * 2 ^ 52) z))) (sym m) (le→nltb (2047 * 2 ^ 52) n h))

pub no_nan : (x : Float) → T (positive x) → T (not (is_nan x))
unfolding is_nan
no_nan nan p = absurd p
no_nan (inf s) p = absurd p
no_nan (fin s m e) p = tt
