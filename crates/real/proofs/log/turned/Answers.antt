-- `turned` is its definition, branch by branch. Assumes nothing.
use mathlib.Core.Path.{◌≡◌, ◌∙◌}
use Prim.Native.Nat.{ℕ, ◌+◌}
use native.Mathlib.Numerals.{add-one}
use mathlib.Core.Bool.{true, false}
use lib.Ieee.{Float, binary64, minus, of_int, lt, mul}
use Rattle.doubles.specs.Numbers.{half64}
use Rattle.doubles.proofs.Signs.{suc-minus}
use Rattle.real.specs.Ln.{log_of, turned_of, turn}
use Rattle.real.proofs.log.turned.Goals as goal

-- m is halved, and e one more
halved : (m e r : Float) (k : ℕ) → lt turn m ≡ true → e ≡ of_int binary64 (minus (k + 1 + 1) 1075) → r ≡ log_of (mul binary64 m half64) e → r ≡ turned_of m (minus (k + 1) 1075)
unfolding turned_of
halved m e r k l h s = s ∙ rw (l, suc-minus, h, add-one (k + 1))

kept : (m e r : Float) (k : ℕ) → lt turn m ≡ false → e ≡ of_int binary64 (minus (k + 1) 1075) → r ≡ log_of m e → r ≡ turned_of m (minus (k + 1) 1075)
unfolding turned_of
kept m e r k l h s = s ∙ rw (l, h)

pub returns-then-m : goal.returns-then-m
returns-then-m c = halved c.args.m _ _ c.args.k c.if-m.true c.exponent.ensures c.series.ensures

pub returns : goal.returns
returns c = kept c.args.m _ _ c.args.k c.if-m.false c.exponent-2.ensures c.series-2.ensures
