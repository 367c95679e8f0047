-- The bins left to lay on memory now are all of them on memory behind the own record; each turn lays one.
use mathlib.Core.Path.{◌≡◌, refl, sym, ◌∙◌}
use Prim.Native.Nat.{◌+◌, ◌-◌}
use native.Mathlib.Omega.{arith}
use lib.ListN.{get_or, length-set}
use Rattle.lent.specs.Memory.{memory}
use Rattle.lent.proofs.Founds.{bins-next, bins-done, own-founded}
use Rattle.quiet.proofs.founding.lay_own.Goals as goal

pub loop-i-init : goal.loop-i-init
loop-i-init c = let e : (get_or c.args.table.now (c.args.w + 2) 0) - 0 ≡ (get_or c.args.table.now (c.args.w + 2) 0) = omega arith in (omega arith, refl, refl, rw e)

pub loop-i-preserved : goal.loop-i-preserved
loop-i-preserved c = (omega (arith, c.loop-i-test.true), c.store-in-loop-i.auto.reals ∙ length-set c.loop-i.reals (get_or c.args.table.now (c.args.w + 5) 0 + 14 + c.loop-i.i) c.inv-even.result ∙ c.loop-i.invariant.1, c.store-in-loop-i.auto.counts ∙ c.loop-i.invariant.2, bins-next c.args.table.now c.args.w (get_or c.args.table.now (c.args.w + 2) 0) c.loop-i.i (memory c.loop-i.reals c.loop-i.counts) (memory c.store-in-loop-i.new.reals c.store-in-loop-i.new.counts) c.count.result c.inv-even.result c.new-in-loop-i.result c.loop-i-test.true c.count.ensures c.inv-even.ensures c.new-in-loop-i.ensures c.store-in-loop-i.ensures ∙ c.loop-i.invariant.3)

pub shape_of-reals : goal.shape_of-reals
shape_of-reals c = c.loop-i.invariant.1 ∙ c.store.auto.reals

pub shape_of-counts : goal.shape_of-counts
shape_of-counts c = c.loop-i.invariant.2 ∙ c.store.auto.counts

pub returns : goal.returns
returns c = own-founded c.args.table.now c.args.w (memory c.args.reals.now c.args.counts.now) (memory c.store.new.reals c.store.new.counts) (memory c.loop-i.reals c.loop-i.counts) c.new.result c.new.ensures c.store.ensures (sym (bins-done c.args.table.now c.args.w (get_or c.args.table.now (c.args.w + 2) 0) c.loop-i.i (memory c.loop-i.reals c.loop-i.counts) c.loop-i-test.false) ∙ c.loop-i.invariant.3)
