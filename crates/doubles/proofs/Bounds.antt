-- Coarse bounds: an operation on values within whole numbers is within a whole number. Assumes nothing.
use mathlib.Core.Path.{◌≡◌, sym, ap, ◌∙◌, subst}
use Prim.Native.Nat.{ℕ, zero, suc, ◌+◌, ◌-◌, ◌*◌, ◌^◌, ◌≤◌, ◌<◌}
use native.Mathlib.Nat.{le_trans, le_of_eq, mul-one, one-mul, mul_comm, mul_assoc, mul_right_comm, mul-le-mul, mul-le-mul_right, le_of_mul-le-mul_right, mul-pos, mul-mul-mul_comm, add-le-add, add-mul, zero-lt-suc}
use native.Mathlib.Omega.{arith}
use mathlib.Core.Bool.{Bool, true, false, ◌&&◌, beq, cond}
use lib.Dec.{ltb, eqb, lit<, lit≤, eqb-suc-zero}
use lib.Pow.{pow_pos}
use lib.Ieee.{Float, nan, inf, fin, binary64, up, down, unlike, round, neg, sum, add, sub, mul, div}
use lib.Ieee.Fits.{up_pos, down_pos, round-fits}
use lib.Ieee.Exact.{HasValue}
use lib.Ieee.Back.{round_whole}
use Rattle.doubles.specs.Bound.{Within}
use Rattle.doubles.specs.Count.{count_of}
use Rattle.doubles.proofs.Fractions.{le-values}
use Rattle.doubles.proofs.Rounding.{round-finite, round-above}
use Rattle.doubles.proofs.Signs.{neg-round}
use Rattle.doubles.proofs.Wholes.{count-value}

-- y is 1 / c at least, in size
abbrev pub Above : Float → ℕ → Type 0
Above nan c = ⊥
Above (inf s) c = ⊥
Above (fin s m e) c = down e ≤ c * (m * up e)

-- ---- from a value given as a fraction
pub value-within : (x : Float) (s : Bool) (a c n : ℕ) → 0 < c → HasValue x s a c → a ≤ n * c → Within x n
value-within nan s a c n C v h = v
value-within (inf t) s a c n C v h = v
value-within (fin t m e) s a c n C v h =
    le_of_mul-le-mul_right (le_trans (le_of_eq v.1) (le_trans (mul-le-mul_right (down e) h) (le_of_eq (mul_right_comm n c (down e))))) C

pub value-above : (x : Float) (s : Bool) (a c n : ℕ) → 0 < c → HasValue x s a c → c ≤ n * a → Above x n
value-above nan s a c n C v h = v
value-above (inf t) s a c n C v h = v
value-above (fin t m e) s a c n C v h =
    le_of_mul-le-mul_right (le_trans (le_of_eq (mul_comm (down e) c)) (le_trans (mul-le-mul_right (down e) h) (le_of_eq (mul_assoc n a (down e) ∙ ap (λ (z : ℕ). n * z) (sym v.1) ∙ sym (mul_assoc n (m * up e) c))))) C

pub weaken : (x : Float) (a b : ℕ) → a ≤ b → Within x a → Within x b
weaken nan a b h p = p
weaken (inf s) a b h p = p
weaken (fin s m e) a b h p = le_trans p (mul-le-mul_right (down e) h)

-- ---- rounding
within-round-up : (a b n : ℕ) → 0 < b → n ≤ 2 ^ 53 → a ≤ n * b → Within (round binary64 false a b) n
within-round-up a b n B N h =
    let g = round-finite binary64 a b (round binary64 false n 1) n 1 B (lit< tt) (round-fits binary64 false n 1) (round_whole binary64 false n N) (le_trans (le_of_eq (mul-one a)) h) in
    value-within (round binary64 false a b) false g.0 (2 ^ 1074) n (pow_pos 1074) g.1 (le_trans (le_of_eq (sym (mul-one g.0))) g.2)

pub within-neg : (x : Float) (n : ℕ) → Within x n → Within (neg x) n
unfolding neg
within-neg nan n h = h
within-neg (inf s) n h = h
within-neg (fin s m e) n h = h

pub within-round : (s : Bool) (a b n : ℕ) → 0 < b → n ≤ 2 ^ 53 → a ≤ n * b → Within (round binary64 s a b) n
within-round false a b n B N h = within-round-up a b n B N h
within-round true a b n B N h = subst (λ (z : Float). Within z n) (neg-round binary64 a b) (within-neg (round binary64 false a b) n (within-round-up a b n B N h))

-- a fraction from 1 to n rounds to 1 at least
pub above-round : (a b n : ℕ) → 0 < b → n ≤ 2 ^ 53 → b ≤ a → a ≤ n * b → Above (round binary64 false a b) 1
above-round a b n B N l h =
    let one = round binary64 false 1 1 in
    let v = round_whole binary64 false 1 (lit≤ tt) in
    let g = round-finite binary64 a b (round binary64 false n 1) n 1 B (lit< tt) (round-fits binary64 false n 1) (round_whole binary64 false n N) (le_trans (le_of_eq (mul-one a)) h) in
    let k : 1 * 2 ^ 1074 ≤ g.0 * 1 = le-values one (round binary64 false a b) 1 1 g.0 (2 ^ 1074) v g.1 (round-above binary64 a b one 1 1 B (lit< tt) (round-fits binary64 false 1 1) v (le_trans (le_of_eq (one-mul b)) (le_trans l (le_of_eq (sym (mul-one a)))))) in
    value-above (round binary64 false a b) false g.0 (2 ^ 1074) 1 (pow_pos 1074) g.1 (swap (2 ^ 1074) g.0 k)
  where
    swap : (l a : ℕ) → 1 * l ≤ a * 1 → l ≤ 1 * a
    swap l a h = omega arith

pub above-count : (j : ℕ) → 1 ≤ j → j ≤ 2 ^ 53 → Above (count_of j) 1
above-count j l h = value-above (count_of j) false j 1 1 (lit< tt) (count-value j h) (omega arith)

-- ---- operations
pub within-mul : (x y : Float) (a b : ℕ) → Within x a → Within y b → a * b ≤ 2 ^ 53 → Within (mul binary64 x y) (a * b)
unfolding mul
within-mul nan y a b p q h = absurd p
within-mul (inf s) y a b p q h = absurd p
within-mul (fin s m e) nan a b p q h = absurd q
within-mul (fin s m e) (inf t) a b p q h = absurd q
within-mul (fin s m e) (fin t n d) a b p q h =
    within-round (unlike s t) (m * up e * (n * up d)) (down e * down d) (a * b) (mul-pos (down_pos e) (down_pos d)) h (le_trans (mul-le-mul p q) (le_of_eq (mul-mul-mul_comm a (down e) b (down d))))

within-sum : (s t : Bool) (a b c n : ℕ) → 0 < c → n ≤ 2 ^ 53 → a + b ≤ n * c → Within (sum binary64 s a t b c) n
unfolding sum
within-sum s t a b c n C N h = go (beq s t) (ltb a b) (s && ltb b a)
  where
    less : (a b c : ℕ) → a + b ≤ c → a - b ≤ c
    less a b c h = omega arith

    back : (a b c : ℕ) → a + b ≤ c → b - a ≤ c
    back a b c h = omega arith

    go : (p q r : Bool) → Within (cond p (round binary64 s (a + b) c) (cond q (round binary64 t (b - a) c) (round binary64 r (a - b) c))) n
    go true q r = within-round s (a + b) c n C N h
    go false true r = within-round t (b - a) c n C N (back a b (n * c) h)
    go false false r = within-round r (a - b) c n C N (less a b (n * c) h)

pub within-add : (x y : Float) (a b : ℕ) → Within x a → Within y b → a + b ≤ 2 ^ 53 → Within (add binary64 x y) (a + b)
unfolding add
within-add nan y a b p q h = absurd p
within-add (inf s) y a b p q h = absurd p
within-add (fin s m e) nan a b p q h = absurd q
within-add (fin s m e) (inf t) a b p q h = absurd q
within-add (fin s m e) (fin t n d) a b p q h =
    within-sum s t (m * up e * down d) (n * up d * down e) (down e * down d) (a + b) (mul-pos (down_pos e) (down_pos d)) h
    (le_trans (add-le-add (le_trans (mul-le-mul_right (down d) p) (le_of_eq (mul_assoc a (down e) (down d)))) (le_trans (mul-le-mul_right (down e) q) (le_of_eq (mul_assoc b (down d) (down e) ∙ ap (λ (z : ℕ). b * z) (mul_comm (down d) (down e))))))
    (le_of_eq (sym (add-mul a b (down e * down d)))))

pub within-sub : (x y : Float) (a b : ℕ) → Within x a → Within y b → a + b ≤ 2 ^ 53 → Within (sub binary64 x y) (a + b)
unfolding sub
within-sub x y a b p q h = within-add x (neg y) a b p (within-neg y b q) h

pub within-div : (x y : Float) (a c : ℕ) → Within x a → Above y c → a * c ≤ 2 ^ 53 → Within (div binary64 x y) (a * c)
unfolding div
within-div nan y a c p q h = absurd p
within-div (inf s) y a c p q h = absurd p
within-div (fin s m e) nan a c p q h = absurd q
within-div (fin s m e) (inf t) a c p q h = absurd q
within-div (fin s m e) (fin t zero d) a c p q h = absurd (none (up d) (down d) c (down_pos d) q)
  where
    none : (u w c : ℕ) → 0 < w → w ≤ c * (0 * u) → ⊥
    none u w c h g = omega arith
within-div (fin s m e) (fin t (suc n) d) a c p q h =
    subst (λ (b : Bool). Within (cond b (cond (eqb m 0) nan (inf (unlike s t))) (round binary64 (unlike s t) (m * up e * down d) (suc n * up d * down e))) (a * c)) (sym (eqb-suc-zero n))
    (within-round (unlike s t) (m * up e * down d) (suc n * up d * down e) (a * c) (mul-pos (mul-pos (zero-lt-suc n) (up_pos d)) (down_pos e)) h
    (le_trans (mul-le-mul p q) (le_of_eq (swap a (down e) c (suc n * up d)))))
  where
    swap : (a e c n : ℕ) → a * e * (c * n) ≡ a * c * (n * e)
    swap a e c n = omega arith
