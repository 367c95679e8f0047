-- `exponent`: k + 1 - 1075, by its sign. Assumes nothing.
use mathlib.Core.Path.{◌≡◌, sym, ap, ◌∙◌}
use Prim.Native.Nat.{ℕ, suc, ◌+◌, ◌-◌, ◌≤◌, ◌<◌}
use native.Mathlib.Omega.{arith}
use lib.IntN.{ℤ, pos}
use lib.Ieee.{binary64, minus, neg, of_int}
use Rattle.doubles.proofs.Signs.{minus_pos, minus-neg, neg-of_int}
use Rattle.real.proofs.log.exponent.Goals as goal

up : (k : ℕ) → 1074 ≤ k → of_int binary64 (pos (k - 1074)) ≡ of_int binary64 (minus (k + 1) 1075)
up k h =
    let i : k - 1074 ≡ k + 1 - 1075 = omega arith in
    let l : 1075 ≤ k + 1 = omega arith in
    ap (λ (z : ℕ). of_int binary64 (pos z)) i ∙ ap (λ (z : ℤ). of_int binary64 z) (sym (minus_pos (k + 1) 1075 l))

down : (k : ℕ) → k < 1074 → neg (of_int binary64 (pos (1074 - k))) ≡ of_int binary64 (minus (k + 1) 1075)
down k h =
    let i : 1074 - k ≡ suc (1075 - suc (k + 1)) = omega arith in
    let l : k + 1 < 1075 = omega arith in
    ap (λ (z : ℕ). neg (of_int binary64 (pos z))) i ∙ neg-of_int binary64 (1075 - suc (k + 1)) ∙ ap (λ (z : ℤ). of_int binary64 z) (sym (minus-neg (k + 1) 1075 l))

pub returns-then-k-ge1074 : goal.returns-then-k-ge1074
returns-then-k-ge1074 c = up c.args.k c.if-k-ge1074.true

pub returns : goal.returns
returns c = down c.args.k c.if-k-ge1074.false
