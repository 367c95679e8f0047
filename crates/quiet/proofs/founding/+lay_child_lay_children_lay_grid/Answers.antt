-- A link of 0 lays nothing; what is left to lay on memory now is all of it on memory at entry, and levels fall.
use mathlib.Core.Path.{◌≡◌, refl, sym, ap, ◌∙◌}
use Prim.Native.Nat.{◌+◌, ◌-◌}
use native.Mathlib.Omega.{arith}
use lib.ListN.{length, get_or}
use Rattle.lent.specs.Memory.{memory}
use Rattle.lent.specs.Founded.{laid_children, laid_grid}
use Rattle.lent.proofs.Laid.{laid-axes, laid-bins, laid-head}
use Rattle.lent.proofs.Founds.{laid_kept, bins-kept, nothing-laid, child-laid, children-next, children-done, grid-axes, grid-bins}
use Rattle.quiet.proofs.founding.+lay_child_lay_children_lay_grid.Goals as goal

pub lay_child-returns-then-link-eq0 : goal.lay_child-returns-then-link-eq0
lay_child-returns-then-link-eq0 t c = nothing-laid (laid_grid c.args.level c.args.table.now) c.args.link (memory c.args.reals.now c.args.counts.now) c.if-link-eq0.true

pub lay_child-lay_grid-requires : goal.lay_child-lay_grid-requires
lay_child-lay_grid-requires t c = (omega (arith, c.decreases), c.requires c.if-link-eq0.false)

pub lay_child-shape_of-reals : goal.lay_child-shape_of-reals
lay_child-shape_of-reals t c = c.lay_grid.auto.reals

pub lay_child-shape_of-counts : goal.lay_child-shape_of-counts
lay_child-shape_of-counts t c = c.lay_grid.auto.counts

pub lay_child-returns : goal.lay_child-returns
lay_child-returns t c = c.lay_grid.ensures ∙ child-laid (laid_grid c.args.level c.args.table.now) c.args.link (memory c.args.reals.now c.args.counts.now) c.if-link-eq0.false

pub lay_children-loop-i-init : goal.lay_children-loop-i-init
lay_children-loop-i-init t c = let e : (get_or c.args.table.now (c.args.w + 2) 0) - 0 ≡ (get_or c.args.table.now (c.args.w + 2) 0) = omega arith in (omega arith, refl, refl, rw e)

pub lay_children-lay_child-requires : goal.lay_children-lay_child-requires
lay_children-lay_child-requires t c = (omega (arith, c.decreases), λ z. laid_kept c.args.level c.args.table.now (length c.args.reals.now) (length c.args.counts.now) (length c.loop-i.reals) (length c.loop-i.counts) (get_or c.args.table.now (c.args.w + 7 + c.loop-i.i) 0) c.loop-i.invariant.1 c.loop-i.invariant.2 (c.requires.children c.loop-i.i c.loop-i-test.true z))

pub lay_children-loop-i-preserved : goal.lay_children-loop-i-preserved
lay_children-loop-i-preserved t c = (omega (arith, c.loop-i-test.true), c.lay_child.auto.reals ∙ c.loop-i.invariant.1, c.lay_child.auto.counts ∙ c.loop-i.invariant.2, children-next (laid_grid c.args.level c.args.table.now) c.args.table.now c.args.w (get_or c.args.table.now (c.args.w + 2) 0) c.loop-i.i (memory c.loop-i.reals c.loop-i.counts) (memory c.lay_child.new.reals c.lay_child.new.counts) c.loop-i-test.true c.lay_child.ensures ∙ c.loop-i.invariant.3)

pub lay_children-shape_of-reals : goal.lay_children-shape_of-reals
lay_children-shape_of-reals t c = c.loop-i.invariant.1

pub lay_children-shape_of-counts : goal.lay_children-shape_of-counts
lay_children-shape_of-counts t c = c.loop-i.invariant.2

pub lay_children-returns : goal.lay_children-returns
lay_children-returns t c = sym (children-done (laid_grid c.args.level c.args.table.now) c.args.table.now c.args.w (get_or c.args.table.now (c.args.w + 2) 0) c.loop-i.i (memory c.loop-i.reals c.loop-i.counts) c.loop-i-test.false) ∙ c.loop-i.invariant.3

pub lay_grid-lay_axes_grid-requires : goal.lay_grid-lay_axes_grid-requires
lay_grid-lay_axes_grid-requires t c = laid-axes c.args.level c.args.table.now (length c.args.reals.now) (length c.args.counts.now) c.args.w c.requires c.if-table-w-eq1.true

pub lay_grid-shape_of-reals-then-table-w-eq1 : goal.lay_grid-shape_of-reals-then-table-w-eq1
lay_grid-shape_of-reals-then-table-w-eq1 t c = c.lay_axes_grid.auto.reals

pub lay_grid-shape_of-counts-then-table-w-eq1 : goal.lay_grid-shape_of-counts-then-table-w-eq1
lay_grid-shape_of-counts-then-table-w-eq1 t c = c.lay_axes_grid.auto.counts

pub lay_grid-returns-then-table-w-eq1 : goal.lay_grid-returns-then-table-w-eq1
lay_grid-returns-then-table-w-eq1 t c = c.lay_axes_grid.ensures ∙ grid-axes c.args.level c.args.table.now c.args.w (memory c.args.reals.now c.args.counts.now) c.if-table-w-eq1.true

pub lay_grid-lay_own-requires : goal.lay_grid-lay_own-requires
lay_grid-lay_own-requires t c = (laid-bins c.args.level c.args.table.now (length c.args.reals.now) (length c.args.counts.now) c.args.w c.requires c.if-table-w-eq1.false).bins

pub lay_grid-lay_children-requires : goal.lay_grid-lay_children-requires
lay_grid-lay_children-requires t c = (omega (arith, c.decreases, (laid-bins c.args.level c.args.table.now (length c.args.reals.now) (length c.args.counts.now) c.args.w c.requires c.if-table-w-eq1.false).level), bins-kept (c.args.level - 1) c.args.table.now (length c.args.reals.now) (length c.args.counts.now) (length c.lay_own.new.reals) (length c.lay_own.new.counts) c.args.w c.lay_own.auto.reals c.lay_own.auto.counts (laid-bins c.args.level c.args.table.now (length c.args.reals.now) (length c.args.counts.now) c.args.w c.requires c.if-table-w-eq1.false).bins)

pub lay_grid-shape_of-reals : goal.lay_grid-shape_of-reals
lay_grid-shape_of-reals t c = c.lay_children.auto.reals ∙ c.lay_own.auto.reals

pub lay_grid-shape_of-counts : goal.lay_grid-shape_of-counts
lay_grid-shape_of-counts t c = c.lay_children.auto.counts ∙ c.lay_own.auto.counts

pub lay_grid-returns : goal.lay_grid-returns
lay_grid-returns t c = c.lay_children.ensures ∙ ap (laid_children (laid_grid (c.args.level - 1) c.args.table.now) c.args.table.now c.args.w 0 (get_or c.args.table.now (c.args.w + 2) 0)) c.lay_own.ensures ∙ grid-bins c.args.level c.args.table.now c.args.w (memory c.args.reals.now c.args.counts.now) c.if-table-w-eq1.false (laid-bins c.args.level c.args.table.now (length c.args.reals.now) (length c.args.counts.now) c.args.w c.requires c.if-table-w-eq1.false).level

pub lay_grid-bounds-table-w : goal.lay_grid-bounds-table-w
lay_grid-bounds-table-w t c = omega (arith, laid-head c.args.level c.args.table.now (length c.args.reals.now) (length c.args.counts.now) c.args.w c.requires)

pub lay_grid-overflow_sub-below : goal.lay_grid-overflow_sub-below
lay_grid-overflow_sub-below t c = omega (arith, (laid-bins c.args.level c.args.table.now (length c.args.reals.now) (length c.args.counts.now) c.args.w c.requires c.if-table-w-eq1.false).level)

pub lay_grid-offset_bounds-table-w : goal.lay_grid-offset_bounds-table-w
lay_grid-offset_bounds-table-w t c = omega (arith, laid-head c.args.level c.args.table.now (length c.args.reals.now) (length c.args.counts.now) c.args.w c.requires)
