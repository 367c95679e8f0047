-- `exp::series` after n turns is the definition's p after n steps. Assumes nothing.
use mathlib.Core.Path.{◌≡◌, refl, sym, ap, ◌∙◌}
use Prim.Native.Nat.{ℕ, ◌+◌, ◌-◌}
use native.Mathlib.Omega.{arith}
use native.Mathlib.Numerals.{add-one}
use lib.Ieee.{Float, binary64, add, mul, div}
use Rattle.doubles.specs.Numbers.{one64}
use Rattle.doubles.specs.Count.{count_of}
use Rattle.real.specs.Power.{exp_of}
use Rattle.real.proofs.exp.series.Goals as goal

step : (r p : Float) (n : ℕ) → p ≡ exp_of r n → add binary64 one64 (div binary64 (mul binary64 r p) (count_of (14 - n))) ≡ exp_of r (n + 1)
unfolding exp_of
step r p n e = ap (λ (y : Float). add binary64 one64 (div binary64 (mul binary64 r y) (count_of (14 - n)))) e ∙ ap (λ (k : ℕ). exp_of r k) (sym (add-one n))

pub loop-n-init : goal.loop-n-init
unfolding exp_of
loop-n-init c = refl

pub loop-n-preserved : goal.loop-n-preserved
unfolding count_of
loop-n-preserved c = step _ _ _ c.loop-n.invariant

pub returns : goal.returns
returns c = let e : c.loop-n.n ≡ 14 = omega arith in c.loop-n.invariant ∙ ap (λ (k : ℕ). exp_of c.args.r k) e
