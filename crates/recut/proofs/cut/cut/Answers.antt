-- The edges cut, and those that the rest of the room will have, stay the whole.
use mathlib.Core.Path.{sym, ap, ◌∙◌}
use mathlib.Core.List.{List}
use Prim.Native.Nat.{◌-◌}
use lib.ListN.{length, set, length-set}
use lib.Ieee.{Float}
use Rattle.doubles.specs.Numbers.{one64}
use Rattle.recut.proofs.Cuts.{cut-next, cut-end, cut-whole}
use native.Mathlib.Omega.{arith}
use Rattle.recut.proofs.cut.cut.Goals as goal

pub loop-i-preserved : goal.loop-i-preserved
loop-i-preserved c = (c.seek-s.ensures.1, cut-next _ _ _ _ _ _ _ _ _ (omega (arith, length-set {A = Float})) c.seek-s.ensures.0 c.edge_at.ensures ∙ c.loop-i.invariant.1)

pub returns : goal.returns
returns c = ap (λ (t : List Float). set t (length c.args.room.now - 1) one64) (sym (cut-end _ _ _ _ _ _ _ (omega (arith, length-set {A = Float}))) ∙ c.loop-i.invariant.1) ∙ cut-whole _ _ _ c.args.room.now c.requires.2
