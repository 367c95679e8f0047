-- The walk from the spot given is the walk from where the loop stands.
use mathlib.Core.Path.{◌≡◌, sym, ◌∙◌}
use Prim.Native.Nat.{◌-◌}
use lib.ListN.{length}
use Rattle.recut.specs.Cut.{walk_to}
use Rattle.recut.proofs.Walks.{walk-next, walk-stop, walk-last}
use native.Mathlib.Omega.{arith}
use Rattle.recut.proofs.cut.seek.Goals as goal

pub loop-bin-preserved : goal.loop-bin-preserved
loop-bin-preserved c = c.loop-bin.invariant ∙ walk-next _ _ _ _ (omega arith) c.if-next-target.true

pub returns-else-next-target : goal.returns-else-next-target
unfolding walk_to
returns-else-next-target c = (sym (c.loop-bin.invariant ∙ walk-stop _ _ _ _ (omega arith) c.if-next-target.false), omega arith)

pub returns-then-next-target-2 : goal.returns-then-next-target-2
unfolding walk_to
returns-then-next-target-2 c = let e : c.loop-bin.bin ≡ length c.args.weights.now - 1 = omega arith in
    let w = rw e at c.loop-bin.invariant in
    (sym (w ∙ walk-last _ _ _ _ (omega arith) (omega arith) c.if-next-target-2.true), omega arith)

pub returns-else-next-target-2 : goal.returns-else-next-target-2
unfolding walk_to
returns-else-next-target-2 c = let e : c.loop-bin.bin ≡ length c.args.weights.now - 1 = omega arith in
    let w = rw e at c.loop-bin.invariant in
    (sym (w ∙ walk-stop _ _ _ _ (omega arith) c.if-next-target-2.false), omega arith)
