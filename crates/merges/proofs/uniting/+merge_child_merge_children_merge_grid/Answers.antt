-- A step keeps the lengths, so what lies there lies there for the next child; what is left to merge is all of it.
use mathlib.Core.Path.{ap, sym, ◌∙◌}
use Prim.Native.Nat.{◌+◌, ◌-◌}
use native.Mathlib.Omega.{arith}
use lib.ListN.{length, get_or}
use Rattle.lent.specs.Memory.{memory}
use Rattle.lent.specs.Tree.{Laid}
use Rattle.lent.specs.Sampled.{ChildLaid}
use Rattle.lent.specs.United.{united_children, united_grid}
use Rattle.lent.proofs.Laid.{laid-axes, laid-bins, laid-head}
use Rattle.lent.proofs.Founds.{laid_kept, bins-kept}
use Rattle.lent.proofs.Unites.{none_here, none-there, child-united, children-next, children-done, both-axes, axes-bins, bins-axes, many-differ, both-bins, own_room}
use Rattle.merges.proofs.uniting.+merge_child_merge_children_merge_grid.Goals as goal

pub merge_child-returns-then-link-eq0 : goal.merge_child-returns-then-link-eq0
merge_child-returns-then-link-eq0 t c = none_here _ _ _ _ _ _ _ c.if-link-eq0.true

pub merge_child-returns-then-far-eq0 : goal.merge_child-returns-then-far-eq0
merge_child-returns-then-far-eq0 t c = none-there _ _ _ _ _ _ _ c.if-link-eq0.false c.if-far-eq0.true

pub merge_child-merge_grid-requires : goal.merge_child-merge_grid-requires
unfolding ChildLaid
merge_child-merge_grid-requires t c = (omega (arith, c.decreases), (c.requires.0 c.if-link-eq0.false, c.requires.1 c.if-far-eq0.false))

pub merge_child-returns : goal.merge_child-returns
merge_child-returns t c = c.merge_grid.ensures ∙ child-united _ _ _ _ _ _ _ c.if-link-eq0.false c.if-far-eq0.false

pub merge_children-merge_child-requires : goal.merge_children-merge_child-requires
unfolding ChildLaid
merge_children-merge_child-requires t c = (omega (arith, c.decreases), (λ z. laid_kept _ _ _ _ _ _ (get_or c.args.table.now (c.args.w + 7 + c.loop-i.i) 0) c.loop-i.invariant.0 c.loop-i.invariant.1 (c.requires.0.children c.loop-i.i c.loop-i-test.true z), λ z. c.requires.1.children c.loop-i.i (omega (arith, c.requires.2, c.loop-i-test.true)) z))

pub merge_children-loop-i-preserved : goal.merge_children-loop-i-preserved
merge_children-loop-i-preserved t c = (c.merge_child.auto.reals ∙ c.loop-i.invariant.0, c.merge_child.auto.counts ∙ c.loop-i.invariant.1, children-next _ _ _ _ _ _ _ _ _ (memory c.merge_child.new.reals c.merge_child.new.counts) c.loop-i-test.true c.merge_child.ensures ∙ c.loop-i.invariant.2)

pub merge_children-returns : goal.merge_children-returns
merge_children-returns t c = sym (children-done _ _ _ _ _ _ _ _ _ c.loop-i-test.false) ∙ c.loop-i.invariant.2

pub merge_grid-returns-then-o-v-ne1 : goal.merge_grid-returns-then-o-v-ne1
merge_grid-returns-then-o-v-ne1 t c = axes-bins _ _ _ _ _ _ _ c.if-table-w-eq1.true c.if-o-v-ne1.true (laid-bins _ _ _ _ _ c.requires.1 c.if-o-v-ne1.true).level

pub merge_grid-merge_axes_grid-requires : goal.merge_grid-merge_axes_grid-requires
merge_grid-merge_axes_grid-requires t c = (laid-axes _ _ _ _ _ c.requires.0 c.if-table-w-eq1.true, laid-axes _ _ _ _ _ c.requires.1 c.if-o-v-ne1.false)

pub merge_grid-returns-then-table-w-eq1 : goal.merge_grid-returns-then-table-w-eq1
merge_grid-returns-then-table-w-eq1 t c = c.merge_axes_grid.ensures ∙ both-axes _ _ _ _ _ _ _ c.if-table-w-eq1.true c.if-o-v-ne1.false

pub merge_grid-returns-then-o-v-eq1 : goal.merge_grid-returns-then-o-v-eq1
merge_grid-returns-then-o-v-eq1 t c = bins-axes _ _ _ _ _ _ _ c.if-table-w-eq1.false c.if-o-v-eq1.true (laid-bins _ _ _ _ _ c.requires.0 c.if-table-w-eq1.false).level

pub merge_grid-returns-then-table-w : goal.merge_grid-returns-then-table-w
merge_grid-returns-then-table-w t c = many-differ _ _ _ _ _ _ _ c.if-table-w-eq1.false c.if-o-v-eq1.false c.if-table-w.true (laid-bins _ _ _ _ _ c.requires.0 c.if-table-w-eq1.false).level

pub merge_grid-merge_own-requires : goal.merge_grid-merge_own-requires
merge_grid-merge_own-requires t c = (own_room (Laid (c.args.level - 1) c.args.table.now (length c.args.reals.now) (length c.args.counts.now)) c.args.table.now (length c.args.reals.now) (length c.args.counts.now) c.args.w (laid-bins _ _ _ _ _ c.requires.0 c.if-table-w-eq1.false).bins, own_room (Laid (c.args.level - 1) c.args.o.table.now (length c.args.o.reals.now) (length c.args.o.counts.now)) c.args.o.table.now (length c.args.o.reals.now) (length c.args.o.counts.now) c.args.v (laid-bins _ _ _ _ _ c.requires.1 c.if-o-v-eq1.false).bins, c.if-table-w.false)

pub merge_grid-merge_children-requires : goal.merge_grid-merge_children-requires
merge_grid-merge_children-requires t c = (omega (arith, c.decreases, (laid-bins _ _ _ _ _ c.requires.0 c.if-table-w-eq1.false).level), (bins-kept _ _ _ _ _ _ _ c.merge_own.auto.reals c.merge_own.auto.counts (laid-bins _ _ _ _ _ c.requires.0 c.if-table-w-eq1.false).bins, (laid-bins _ _ _ _ _ c.requires.1 c.if-o-v-eq1.false).bins, c.if-table-w.false))

pub merge_grid-returns : goal.merge_grid-returns
merge_grid-returns t c = c.merge_children.ensures ∙ ap (united_children c.args.table.now c.args.o.table.now (memory c.args.o.reals.now c.args.o.counts.now) (united_grid c.args.table.now c.args.o.table.now (memory c.args.o.reals.now c.args.o.counts.now) (c.args.level - 1)) c.args.w c.args.v 0 (get_or c.args.table.now (c.args.w + 2) 0)) c.merge_own.ensures ∙ both-bins _ _ _ _ _ _ _ c.if-table-w-eq1.false c.if-o-v-eq1.false c.if-table-w.false (laid-bins _ _ _ _ _ c.requires.0 c.if-table-w-eq1.false).level

pub merge_grid-overflow_sub-below : goal.merge_grid-overflow_sub-below
merge_grid-overflow_sub-below t c = omega (arith, (laid-bins _ _ _ _ _ c.requires.0 c.if-table-w-eq1.false).level)

pub merge_grid-offset_bounds-o-v : goal.merge_grid-offset_bounds-o-v
merge_grid-offset_bounds-o-v t c = omega (arith, laid-head _ _ _ _ _ c.requires.1)

pub merge_grid-bounds-o-v : goal.merge_grid-bounds-o-v
merge_grid-bounds-o-v t c = omega (arith, laid-head _ _ _ _ _ c.requires.1)

pub merge_grid-bounds-table-w : goal.merge_grid-bounds-table-w
merge_grid-bounds-table-w t c = omega (arith, laid-head _ _ _ _ _ c.requires.0)

pub merge_grid-bounds-table-w-2 : goal.merge_grid-bounds-table-w-2
merge_grid-bounds-table-w-2 t c = omega (arith, laid-head _ _ _ _ _ c.requires.0)

pub merge_grid-bounds-o-v-3 : goal.merge_grid-bounds-o-v-3
merge_grid-bounds-o-v-3 t c = omega (arith, laid-head _ _ _ _ _ c.requires.1)

pub merge_grid-offset_bounds-o-v-3 : goal.merge_grid-offset_bounds-o-v-3
merge_grid-offset_bounds-o-v-3 t c = omega (arith, laid-head _ _ _ _ _ c.requires.1)

pub merge_grid-overflow_add-w : goal.merge_grid-overflow_add-w
merge_grid-overflow_add-w t c = omega (arith, laid-head _ _ _ _ _ c.requires.0)

pub merge_grid-offset_bounds-table-w-2 : goal.merge_grid-offset_bounds-table-w-2
merge_grid-offset_bounds-table-w-2 t c = omega (arith, laid-head _ _ _ _ _ c.requires.0)

pub merge_grid-offset_bounds-table-w : goal.merge_grid-offset_bounds-table-w
merge_grid-offset_bounds-table-w t c = omega (arith, laid-head _ _ _ _ _ c.requires.0)

pub merge_grid-bounds-o-v-2 : goal.merge_grid-bounds-o-v-2
merge_grid-bounds-o-v-2 t c = omega (arith, laid-head _ _ _ _ _ c.requires.1)

pub merge_grid-overflow_add-v : goal.merge_grid-overflow_add-v
merge_grid-overflow_add-v t c = omega (arith, laid-head _ _ _ _ _ c.requires.1)

pub merge_grid-offset_bounds-o-v-2 : goal.merge_grid-offset_bounds-o-v-2
merge_grid-offset_bounds-o-v-2 t c = omega (arith, laid-head _ _ _ _ _ c.requires.1)
