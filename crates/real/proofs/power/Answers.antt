-- `power`: k is the whole part of 0.5 - t / LN2 from 0 up, and minus the ceiling below; the range of the logarithm keeps it small. Assumes nothing.
use mathlib.Core.Path.{◌≡◌, refl, sym, ap, ap₂, ◌∙◌, subst}
use Prim.Native.Nat.{ℕ, zero, suc, ◌+◌, ◌-◌, ◌≤◌, ◌<◌}
use native.Mathlib.Nat.{zero-lt-suc}
use native.Mathlib.Omega.{arith}
use mathlib.Core.Bool.{true, false, true≢false}
use lib.IntN.{ℤ, pos, negsuc, neg_ℤ}
use lib.Dec.{T, lt→ltb}
use lib.Ieee.{Float, nan, inf, fin, binary64, minus, of_bits, of_int, le, neg, add, sub, mul, div}
use lib.Ieee.Positive.{positive}
use Rattle.doubles.specs.Numbers.{zero64, half64}
use Rattle.doubles.specs.Bound.{Within}
use Rattle.doubles.specs.Count.{count_of}
use Rattle.real.specs.Ln.{ln2, ln_of}
use Rattle.real.specs.Power.{ceil_of, floor_of, exp_of, k_of, in_domain, scaled_of, power_of}
use Rattle.doubles.proofs.Truth.{failed, passed}
use Rattle.doubles.proofs.Order.{under-le}
use Rattle.doubles.proofs.Signs.{minus_pos, minus-neg, neg-of_int}
use Rattle.doubles.proofs.Bounds.{within-neg}
use Rattle.real.proofs.Floors.{floor-is}
use Rattle.real.proofs.Ranges.{exponent-within}
use Rattle.real.proofs.power.Goals as goal
use Rattle.real.proofs.power.Goals.{After-ln, After-whole-k, Else-not-in_domain}

-- 0.5 - t / LN2, for t = a * l
abbrev place : Float → Float → Float
place a l = sub binary64 half64 (div binary64 (mul binary64 a l) ln2)

-- ---- what lies below 0
below-zero : (v : Float) → Within v 999 → le zero64 v ≡ false → T (positive (neg v)) × (neg_ℤ (pos (ceil_of (neg v))) ≡ floor_of v)
unfolding le of_bits neg floor_of ceil_of
below-zero nan w h = absurd w
below-zero (inf s) w h = absurd w
below-zero (fin true zero e) w h = absurd (true≢false (sym (under-le false 0 (pos 0) true 0 e (omega arith)) ∙ h))
below-zero (fin true (suc m) e) w h = (lt→ltb 0 (suc m) (zero-lt-suc m), refl)
below-zero (fin false m e) w h = absurd (true≢false (sym (under-le false 0 (pos 0) false m e (omega arith)) ∙ h))

-- ---- the scale 2 ^ -k
scale-down : (k : ℕ) → k < 1000 → minus (1023 - k) 1023 ≡ neg_ℤ (pos k)
scale-down zero h = refl
scale-down (suc j) h =
    let l : 1023 - suc j < 1023 = omega arith in
    let i : 1023 - suc (1023 - suc j) ≡ j = omega arith in
    minus-neg (1023 - suc j) 1023 l ∙ ap negsuc i

scale-up : (n : ℕ) → minus (1023 + n) 1023 ≡ pos n
scale-up n =
    let l : 1023 ≤ 1023 + n = omega arith in
    let i : 1023 + n - 1023 ≡ n = omega arith in
    minus_pos (1023 + n) 1023 l ∙ ap pos i

scaled-down : (t r : Float) (k : ℕ) → k < 1000 → r ≡ mul binary64 (exp_of (add binary64 t (mul binary64 (count_of k) ln2)) 14) (fin false 1 (minus (1023 - k) 1023)) → r ≡ scaled_of t (pos k)
unfolding scaled_of count_of
scaled-down t r k h e = e ∙ ap (λ (z : ℤ). mul binary64 (exp_of (add binary64 t (mul binary64 (of_int binary64 (pos k)) ln2)) 14) (fin false 1 z)) (scale-down k h)

scaled-up : (t r : Float) (n : ℕ) → 1 ≤ n → r ≡ mul binary64 (exp_of (add binary64 t (mul binary64 (neg (count_of n)) ln2)) 14) (fin false 1 (minus (1023 + n) 1023)) → r ≡ scaled_of t (neg_ℤ (pos n))
unfolding scaled_of count_of
scaled-up t r zero h e = absurd (omega arith)
scaled-up t r (suc n) h e = e ∙ ap₂ (λ (x : Float) (z : ℤ). mul binary64 (exp_of (add binary64 t (mul binary64 x ln2)) 14) (fin false 1 z)) (neg-of_int binary64 n) (scale-up (suc n))

-- ---- the three answers
no_power : (y a : Float) → in_domain y a ≡ false → div binary64 zero64 zero64 ≡ power_of y a
unfolding power_of div of_bits
no_power y a h = rw h

power-down : (y a l r : Float) (k : ℕ) → in_domain y a ≡ true → l ≡ ln_of y → pos k ≡ floor_of (place a l) → r ≡ scaled_of (mul binary64 a l) (pos k) → r ≡ power_of y a
unfolding power_of k_of
power-down y a l r k d e f g = g ∙ rw (d, f, e)

power-up : (y a l r : Float) (n : ℕ) → in_domain y a ≡ true → l ≡ ln_of y → neg_ℤ (pos n) ≡ floor_of (place a l) → r ≡ scaled_of (mul binary64 a l) (neg_ℤ (pos n)) → r ≡ power_of y a
unfolding power_of k_of
power-up y a l r n d e f g = g ∙ rw (d, f, e)

-- ---- at the places of the code
domain : (c : Else-not-in_domain) → in_domain c.args.y c.args.a ≡ true
domain c = passed c.in_domain.ensures c.if-not-in_domain.false

bounded : (c : After-ln) → Within (place c.args.a c.ln.result) 999
bounded c = subst (λ (l : Float). Within (place c.args.a l) 999) (sym c.ln.ensures) (exponent-within c.args.y c.args.a (domain c.before))

floored : (c : After-whole-k) → (pos c.whole-k.result ≡ floor_of (place c.args.a c.ln.result)) × (c.whole-k.result < 1000)
floored c = subst (λ (n : ℕ). (pos n ≡ floor_of (place c.args.a c.ln.result)) × (n < 1000)) (sym c.whole-k.ensures)
    (floor-is (place c.args.a c.ln.result) (bounded c.before.before) c.if-v.true)

pub returns-then-not-in_domain : goal.returns-then-not-in_domain
returns-then-not-in_domain c = no_power c.args.y c.args.a (failed c.in_domain.ensures c.if-not-in_domain.true)

pub overflow_sub-k : goal.overflow_sub-k
overflow_sub-k c = let f = (floored (goal.at.overflow_sub-k c).After-whole-k).1 in omega arith

pub scaled-requires : goal.scaled-requires
scaled-requires c = let f = (floored (goal.at.scaled-requires c).After-whole-k).1 in omega arith

pub returns-then-v : goal.returns-then-v
returns-then-v c = let f = floored (goal.at.returns-then-v c).After-whole-k in
    power-down c.args.y c.args.a c.ln.result _ c.whole-k.result (domain (goal.at.returns-then-v c).Else-not-in_domain) c.ln.ensures f.0
    (scaled-down _ _ c.whole-k.result f.1 (c.scaled.ensures ∙ ap (λ (x : Float). mul binary64 (exp_of (add binary64 (mul binary64 c.args.a c.ln.result) (mul binary64 x ln2)) 14) (fin false 1 (minus (1023 - c.whole-k.result) 1023))) c.count.ensures))

pub ceiling-n-requires : goal.ceiling-n-requires
ceiling-n-requires c = let v = place c.args.a c.ln.result in
    let b = bounded (goal.at.ceiling-n-requires c).After-ln in
    (within-neg v 999 b, (below-zero v b c.if-v.false).0)

pub returns : goal.returns
returns c = let v = place c.args.a c.ln.result in
    power-up c.args.y c.args.a c.ln.result _ c.ceiling-n.result (domain (goal.at.returns c).Else-not-in_domain) c.ln.ensures
    (ap (λ (k : ℕ). neg_ℤ (pos k)) c.ceiling-n.ensures.0 ∙ (below-zero v (bounded (goal.at.returns c).After-ln) c.if-v.false).1)
    (scaled-up _ _ c.ceiling-n.result c.ceiling-n.ensures.1 (c.scaled-2.ensures ∙ ap (λ (x : Float). mul binary64 (exp_of (add binary64 (mul binary64 c.args.a c.ln.result) (mul binary64 (neg x) ln2)) 14) (fin false 1 (minus (1023 + c.ceiling-n.result) 1023))) c.count-2.ensures))
