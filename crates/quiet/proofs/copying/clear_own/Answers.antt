-- What is left to clear in memory as it is now makes what all of it makes of memory at entry.
use mathlib.Core.Path.{◌≡◌, refl, sym, ◌∙◌}
use Prim.Native.Nat.{◌+◌, ◌-◌}
use native.Mathlib.Omega.{arith}
use lib.ListN.{get_or}
use Rattle.lent.specs.Memory.{memory}
use Rattle.lent.proofs.Clones.{bins-on, bins-out, own-emptied}
use Rattle.quiet.proofs.copying.clear_own.Goals as goal

pub loop-i-init : goal.loop-i-init
loop-i-init c = let e : (get_or c.args.table.now (c.args.w + 2) 0) - 0 ≡ (get_or c.args.table.now (c.args.w + 2) 0) = omega arith in (omega arith, refl, refl, rw e)

pub loop-i-preserved : goal.loop-i-preserved
loop-i-preserved c = (omega (arith, c.loop-i-test.true), c.clear.auto.reals ∙ c.loop-i.invariant.1, c.clear.auto.counts ∙ c.loop-i.invariant.2, bins-on c.args.table.now c.args.w (get_or c.args.table.now (c.args.w + 2) 0) c.loop-i.i (memory c.loop-i.reals c.loop-i.counts) (memory c.clear.new.reals c.clear.new.counts) c.loop-i-test.true c.clear.ensures ∙ c.loop-i.invariant.3)

pub shape_of-reals : goal.shape_of-reals
shape_of-reals c = c.clear-2.auto.reals ∙ c.loop-i.invariant.1

pub shape_of-counts : goal.shape_of-counts
shape_of-counts c = c.clear-2.auto.counts ∙ c.loop-i.invariant.2

pub returns : goal.returns
returns c = own-emptied c.args.table.now c.args.w (memory c.args.reals.now c.args.counts.now) (memory c.loop-i.reals c.loop-i.counts) (memory c.clear-2.new.reals c.clear-2.new.counts) (sym (bins-out c.args.table.now c.args.w (get_or c.args.table.now (c.args.w + 2) 0) c.loop-i.i (memory c.loop-i.reals c.loop-i.counts) c.loop-i-test.false) ∙ c.loop-i.invariant.3) c.clear-2.ensures
