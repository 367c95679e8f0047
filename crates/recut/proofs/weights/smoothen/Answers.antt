-- prev and cur are the two bins before the rest as they were, so what is smoothed and what the rest will give stay the whole.
use mathlib.Core.Path.{◌≡◌, ◌∙◌}
use Prim.Native.Nat.{suc, ◌-◌}
use lib.ListN.{length, length-set}
use lib.Ieee.{Float}
use Rattle.recut.specs.Weights.{first_of, inner_of, last_of}
use Rattle.recut.proofs.Smooth.{smooth-short, smooth-start, smooth-next, smooth-end}
use native.Mathlib.Omega.{arith}
use Rattle.recut.proofs.weights.smoothen.Goals as goal

pub returns-then-n-lt2 : goal.returns-then-n-lt2
returns-then-n-lt2 c = smooth-short _ c.if-n-lt2.true

pub loop-bin-preserved : goal.loop-bin-preserved
unfolding inner_of
loop-bin-preserved c = smooth-next _ _ _ _ (omega (arith, length-set {A = Float})) ∙ c.loop-bin.invariant

pub returns : goal.returns
unfolding first_of last_of
returns c = let e : length c.args.importances.now - 1 ≡ c.loop-bin.bin = omega (arith, length-set {A = Float}) in
    let l : length c.loop-bin.importances ≡ suc c.loop-bin.bin = omega (arith, length-set {A = Float}) in
    rw e (smooth-end _ _ _ _ l ∙ c.loop-bin.invariant ∙ smooth-start _ c.if-n-lt2.false)
