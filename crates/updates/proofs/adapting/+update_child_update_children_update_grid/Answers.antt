-- The cycle meets its contracts: a child by its link, children as the loop's finding with what is left, a grid by its kind; levels fall.
use Rattle.updates.proofs.Own.{own-fits, grid-updated}
use mathlib.Core.Path.{◌≡◌, refl, sym, ◌∙◌}
use Prim.Native.Nat.{◌+◌, ◌-◌}
use native.Mathlib.Omega.{arith}
use lib.ListN.{length, get_or}
use Rattle.lent.specs.Memory.{memory}
use Rattle.lent.specs.Renewed.{finding}
use Rattle.lent.specs.Adapted.{followed, updated_in}
use Rattle.lent.proofs.Laid.{laid-axes, laid-bins, laid-head}
use Rattle.lent.proofs.Founds.{laid_kept, bins-kept}
use Rattle.lent.proofs.Adapts.{none-turned, some-turned, turned-next, turned-done, grid-updated-axes}
use Rattle.updates.proofs.adapting.+update_child_update_children_update_grid.Goals as goal

pub update_child-returns-then-link-eq0 : goal.update_child-returns-then-link-eq0
update_child-returns-then-link-eq0 t c = none-turned (updated_in c.args.level c.args.table.now c.args.bins_rate c.args.axes_rate) c.args.link (memory c.args.reals.now c.args.counts.now) c.if-link-eq0.true

pub update_child-returns : goal.update_child-returns
update_child-returns t c = c.update_grid.ensures ∙ some-turned (updated_in c.args.level c.args.table.now c.args.bins_rate c.args.axes_rate) c.args.link (memory c.args.reals.now c.args.counts.now) c.if-link-eq0.false

pub update_children-loop-i-init : goal.update_children-loop-i-init
unfolding followed
update_children-loop-i-init t c = let e : (get_or c.args.table.now (c.args.w + 2) 0) - 0 ≡ (get_or c.args.table.now (c.args.w + 2) 0) = omega arith in (refl, refl, rw e)

pub update_children-update_child-requires : goal.update_children-update_child-requires
update_children-update_child-requires t c = (omega (arith, c.decreases), λ z. laid_kept c.args.level c.args.table.now (length c.args.reals.now) (length c.args.counts.now) (length c.loop-i.reals) (length c.loop-i.counts) (get_or c.args.table.now (c.args.w + 7 + c.loop-i.i) 0) c.loop-i.invariant.0 c.loop-i.invariant.1 (c.requires.children c.loop-i.i c.loop-i-test.true z))

pub update_children-loop-i-preserved : goal.update_children-loop-i-preserved
update_children-loop-i-preserved t c = (c.update_child.auto.reals ∙ c.loop-i.invariant.0, c.update_child.auto.counts ∙ c.loop-i.invariant.1, turned-next c.args.table.now c.args.w (get_or c.args.table.now (c.args.w + 2) 0) (updated_in c.args.level c.args.table.now c.args.bins_rate c.args.axes_rate) c.loop-i.i c.loop-i.found c.update_child.result c.bitor_assign.new.self (memory c.loop-i.reals c.loop-i.counts) (memory c.update_child.new.reals c.update_child.new.counts) c.loop-i-test.true c.bitor_assign.ensures.after c.update_child.ensures ∙ c.loop-i.invariant.2)

pub update_children-returns : goal.update_children-returns
update_children-returns t c = sym (turned-done c.args.table.now c.args.w (get_or c.args.table.now (c.args.w + 2) 0) (updated_in c.args.level c.args.table.now c.args.bins_rate c.args.axes_rate) c.loop-i.i (finding c.loop-i.found.eight c.loop-i.found.nine (memory c.loop-i.reals c.loop-i.counts)) c.loop-i-test.false) ∙ c.loop-i.invariant.2

pub update_grid-update_axes_grid-requires : goal.update_grid-update_axes_grid-requires
update_grid-update_axes_grid-requires t c = laid-axes c.args.level c.args.table.now (length c.args.reals.now) (length c.args.counts.now) c.args.w c.requires c.if-table-w-eq1.true

pub update_grid-returns-then-table-w-eq1 : goal.update_grid-returns-then-table-w-eq1
update_grid-returns-then-table-w-eq1 t c = c.update_axes_grid.ensures ∙ grid-updated-axes c.args.level c.args.table.now c.args.bins_rate c.args.axes_rate c.args.w (memory c.args.reals.now c.args.counts.now) c.if-table-w-eq1.true

pub update_grid-update_children-children-requires : goal.update_grid-update_children-children-requires
update_grid-update_children-children-requires t c = let laid = laid-bins c.args.level c.args.table.now (length c.args.reals.now) (length c.args.counts.now) c.args.w c.requires c.if-table-w-eq1.false in (omega (arith, c.decreases, laid.level), laid.bins)

pub update_grid-update_bins-own-requires : goal.update_grid-update_bins-own-requires
update_grid-update_bins-own-requires t c = own-fits c.args.table.now c.args.w (bins-kept (c.args.level - 1) c.args.table.now (length c.args.reals.now) (length c.args.counts.now) (length c.update_children-children.new.reals) (length c.update_children-children.new.counts) c.args.w c.update_children-children.auto.reals c.update_children-children.auto.counts (laid-bins c.args.level c.args.table.now (length c.args.reals.now) (length c.args.counts.now) c.args.w c.requires c.if-table-w-eq1.false).bins)

pub update_grid-returns : goal.update_grid-returns
update_grid-returns t c = grid-updated c.args.level c.args.table.now c.args.bins_rate c.args.axes_rate c.args.w (memory c.args.reals.now c.args.counts.now) (memory c.update_children-children.new.reals c.update_children-children.new.counts) (memory c.update_bins-own.new.reals c.update_bins-own.new.counts) c.update_children-children.result c.update_bins-own.result c.bitor.result c.if-table-w-eq1.false (laid-bins c.args.level c.args.table.now (length c.args.reals.now) (length c.args.counts.now) c.args.w c.requires c.if-table-w-eq1.false).level c.update_children-children.ensures c.update_bins-own.ensures c.bitor.ensures

pub update_grid-offset_bounds-table-w : goal.update_grid-offset_bounds-table-w
update_grid-offset_bounds-table-w t c = omega (arith, laid-head c.args.level c.args.table.now (length c.args.reals.now) (length c.args.counts.now) c.args.w c.requires)

pub update_grid-bounds-table-w : goal.update_grid-bounds-table-w
update_grid-bounds-table-w t c = omega (arith, laid-head c.args.level c.args.table.now (length c.args.reals.now) (length c.args.counts.now) c.args.w c.requires)

pub update_grid-overflow_sub-below : goal.update_grid-overflow_sub-below
update_grid-overflow_sub-below t c = omega (arith, (laid-bins c.args.level c.args.table.now (length c.args.reals.now) (length c.args.counts.now) c.args.w c.requires c.if-table-w-eq1.false).level)
