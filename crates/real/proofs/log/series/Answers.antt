-- `log::series` after n turns has the definition's c after n steps. Assumes nothing.
use mathlib.Core.Path.{◌≡◌, refl, sym, ap, ◌∙◌}
use Prim.Native.Nat.{ℕ, ◌+◌, ◌-◌, ◌*◌}
use native.Mathlib.Omega.{arith}
use native.Mathlib.Numerals.{add-one}
use lib.Ieee.{Float, binary64, add, sub, mul, div, of_int, of_bits}
use Rattle.doubles.specs.Numbers.{one64, two64}
use Rattle.doubles.specs.Count.{count_of}
use Rattle.real.specs.Ln.{ln2, tail_of, log_of}
use Rattle.real.proofs.log.series.Goals as goal

twenty-one : of_bits binary64 0x4035_0000_0000_0000 ≡ count_of 21
unfolding of_bits of_int count_of
twenty-one = refl

step : (z c : Float) (n : ℕ) → c ≡ tail_of z n → add binary64 (div binary64 one64 (count_of (19 - 2 * n))) (mul binary64 z c) ≡ tail_of z (n + 1)
unfolding tail_of
step z c n e = ap (λ (y : Float). add binary64 (div binary64 one64 (count_of (19 - 2 * n))) (mul binary64 z y)) e ∙ ap (λ (k : ℕ). tail_of z k) (sym (add-one n))

abbrev s-of : Float → Float
s-of m = div binary64 (sub binary64 m one64) (add binary64 m one64)

last : (m e c : Float) (n : ℕ) → n ≡ 10 → c ≡ tail_of (mul binary64 (s-of m) (s-of m)) n → add binary64 (mul binary64 e ln2) (mul binary64 (mul binary64 two64 (s-of m)) c) ≡ log_of m e
unfolding log_of
last m e c n h i = ap (λ (y : Float). add binary64 (mul binary64 e ln2) (mul binary64 (mul binary64 two64 (s-of m)) y)) (i ∙ ap (λ (k : ℕ). tail_of (mul binary64 (s-of m) (s-of m)) k) h)

pub loop-n-init : goal.loop-n-init
unfolding tail_of
loop-n-init c = ap (λ (y : Float). div binary64 one64 y) twenty-one

pub loop-n-preserved : goal.loop-n-preserved
unfolding count_of
loop-n-preserved c = step _ _ _ c.loop-n.invariant

pub returns : goal.returns
returns c = let e : c.loop-n.n ≡ 10 = omega arith in
    last c.args.m c.args.e _ _ e c.loop-n.invariant
