-- Each test is the model's on what is left of path and weights from `depth` on; a bins grid goes one level down.
use mathlib.Core.Path.{sym, ap, ap₂, ◌∙◌}
use mathlib.Core.List.{List}
use Prim.Native.Nat.{ℕ, ◌+◌, ◌-◌}
use native.Mathlib.Omega.{arith}
use lib.ListN.{length, get_or}
use lib.Ieee.{Float, nan}
use Rattle.model.specs.Grid.{Grid, bins}
use Rattle.model.specs.Train.{fault_of}
use Rattle.lent.specs.Tree.{bins_in, head_at, grid_at}
use Rattle.lent.specs.Sampled.{entries, ChildLaid}
use Rattle.lent.proofs.Laid.{laid-axes, laid-bins, laid-head}
use Rattle.lent.proofs.Sounds.{node-axes, node-bins}
use Rattle.lent.proofs.Fitting.{none_left, one_left, axes-form, link-none, link-grid, bins-none, bins-past, bins-bare, bins-below}
use Prim.Native.Nat.{ℕ}
use Rattle.samples.proofs.forms.+bins_fault_child_fault_grid_fault.Goals as goal

pub bins_fault-returns-then-s-depth : goal.bins_fault-returns-then-s-depth
bins_fault-returns-then-s-depth t c = bins-none (grid_at c.args.level c.args.m.table.now c.args.m.reals.now c.args.m.counts.now) c.args.m.table.now c.args.m.reals.now c.args.m.counts.now c.args.w (head_at c.args.m.table.now c.args.m.reals.now c.args.m.counts.now c.args.w) (get_or c.args.m.table.now (c.args.w + 2) 0) (entries nan c.args.s.now.weights c.args.depth (c.args.s.now.given - c.args.depth)) (entries nan c.args.s.now.coordinates 0 c.args.s.now.axes) ∙ ap (λ (q : List ℕ). fault_of (bins (head_at c.args.m.table.now c.args.m.reals.now c.args.m.counts.now c.args.w) (bins_in (grid_at c.args.level c.args.m.table.now c.args.m.reals.now c.args.m.counts.now) c.args.m.table.now c.args.m.reals.now c.args.m.counts.now c.args.w 0 (get_or c.args.m.table.now (c.args.w + 2) 0))) q (entries nan c.args.s.now.weights c.args.depth (c.args.s.now.given - c.args.depth)) (entries nan c.args.s.now.coordinates 0 c.args.s.now.axes)) (sym (none_left 0 c.args.s.now.path c.args.depth c.args.s.now.levels c.if-s-depth.true))

pub bins_fault-returns-then-m-w : goal.bins_fault-returns-then-m-w
bins_fault-returns-then-m-w t c = bins-past (grid_at c.args.level c.args.m.table.now c.args.m.reals.now c.args.m.counts.now) c.args.m.table.now c.args.m.reals.now c.args.m.counts.now c.args.w (head_at c.args.m.table.now c.args.m.reals.now c.args.m.counts.now c.args.w) (get_or c.args.m.table.now (c.args.w + 2) 0) (get_or c.args.s.now.path c.args.depth 0) (entries 0 c.args.s.now.path (c.args.depth + 1) (c.args.s.now.levels - (c.args.depth + 1))) (entries nan c.args.s.now.weights c.args.depth (c.args.s.now.given - c.args.depth)) (entries nan c.args.s.now.coordinates 0 c.args.s.now.axes) c.if-m-w.true ∙ ap (λ (q : List ℕ). fault_of (bins (head_at c.args.m.table.now c.args.m.reals.now c.args.m.counts.now c.args.w) (bins_in (grid_at c.args.level c.args.m.table.now c.args.m.reals.now c.args.m.counts.now) c.args.m.table.now c.args.m.reals.now c.args.m.counts.now c.args.w 0 (get_or c.args.m.table.now (c.args.w + 2) 0))) q (entries nan c.args.s.now.weights c.args.depth (c.args.s.now.given - c.args.depth)) (entries nan c.args.s.now.coordinates 0 c.args.s.now.axes)) (sym (one_left 0 c.args.s.now.path c.args.depth c.args.s.now.levels c.if-s-depth.false))

pub bins_fault-returns-then-s-depth-2 : goal.bins_fault-returns-then-s-depth-2
bins_fault-returns-then-s-depth-2 t c = bins-bare (grid_at c.args.level c.args.m.table.now c.args.m.reals.now c.args.m.counts.now) c.args.m.table.now c.args.m.reals.now c.args.m.counts.now c.args.w (head_at c.args.m.table.now c.args.m.reals.now c.args.m.counts.now c.args.w) (get_or c.args.m.table.now (c.args.w + 2) 0) (get_or c.args.s.now.path c.args.depth 0) (entries 0 c.args.s.now.path (c.args.depth + 1) (c.args.s.now.levels - (c.args.depth + 1))) (entries nan c.args.s.now.coordinates 0 c.args.s.now.axes) c.if-m-w.false ∙ ap₂ (λ (q : List ℕ) (v : List Float). fault_of (bins (head_at c.args.m.table.now c.args.m.reals.now c.args.m.counts.now c.args.w) (bins_in (grid_at c.args.level c.args.m.table.now c.args.m.reals.now c.args.m.counts.now) c.args.m.table.now c.args.m.reals.now c.args.m.counts.now c.args.w 0 (get_or c.args.m.table.now (c.args.w + 2) 0))) q v (entries nan c.args.s.now.coordinates 0 c.args.s.now.axes)) (sym (one_left 0 c.args.s.now.path c.args.depth c.args.s.now.levels c.if-s-depth.false)) (sym (none_left nan c.args.s.now.weights c.args.depth c.args.s.now.given c.if-s-depth-2.true))

pub bins_fault-child_fault-requires : goal.bins_fault-child_fault-requires
unfolding ChildLaid
bins_fault-child_fault-requires t c = (omega (arith, c.decreases), (λ z. c.requires.0.children (get_or c.args.s.now.path c.args.depth 0) c.if-m-w.false z, omega (arith, c.requires.1)))

pub bins_fault-returns : goal.bins_fault-returns
bins_fault-returns t c = c.child_fault.ensures ∙ bins-below (grid_at c.args.level c.args.m.table.now c.args.m.reals.now c.args.m.counts.now) c.args.m.table.now c.args.m.reals.now c.args.m.counts.now c.args.w (head_at c.args.m.table.now c.args.m.reals.now c.args.m.counts.now c.args.w) (get_or c.args.m.table.now (c.args.w + 2) 0) (get_or c.args.s.now.path c.args.depth 0) (entries 0 c.args.s.now.path (c.args.depth + 1) (c.args.s.now.levels - (c.args.depth + 1))) (get_or c.args.s.now.weights c.args.depth nan) (entries nan c.args.s.now.weights (c.args.depth + 1) (c.args.s.now.given - (c.args.depth + 1))) (entries nan c.args.s.now.coordinates 0 c.args.s.now.axes) c.if-m-w.false ∙ ap₂ (λ (q : List ℕ) (v : List Float). fault_of (bins (head_at c.args.m.table.now c.args.m.reals.now c.args.m.counts.now c.args.w) (bins_in (grid_at c.args.level c.args.m.table.now c.args.m.reals.now c.args.m.counts.now) c.args.m.table.now c.args.m.reals.now c.args.m.counts.now c.args.w 0 (get_or c.args.m.table.now (c.args.w + 2) 0))) q v (entries nan c.args.s.now.coordinates 0 c.args.s.now.axes)) (sym (one_left 0 c.args.s.now.path c.args.depth c.args.s.now.levels c.if-s-depth.false)) (sym (one_left nan c.args.s.now.weights c.args.depth c.args.s.now.given c.if-s-depth-2.false))

pub child_fault-returns-then-link-eq0 : goal.child_fault-returns-then-link-eq0
child_fault-returns-then-link-eq0 t c = c.nothing_fault.ensures ∙ link-none (grid_at c.args.level c.args.m.table.now c.args.m.reals.now c.args.m.counts.now) c.args.link (entries 0 c.args.s.now.path c.args.depth (c.args.s.now.levels - c.args.depth)) (entries nan c.args.s.now.weights c.args.depth (c.args.s.now.given - c.args.depth)) (entries nan c.args.s.now.coordinates 0 c.args.s.now.axes) c.if-link-eq0.true

pub child_fault-grid_fault-requires : goal.child_fault-grid_fault-requires
unfolding ChildLaid
child_fault-grid_fault-requires t c = (omega (arith, c.decreases), (c.requires.0 c.if-link-eq0.false, c.requires.1))

pub child_fault-returns : goal.child_fault-returns
child_fault-returns t c = c.grid_fault.ensures ∙ link-grid (grid_at c.args.level c.args.m.table.now c.args.m.reals.now c.args.m.counts.now) c.args.link (entries 0 c.args.s.now.path c.args.depth (c.args.s.now.levels - c.args.depth)) (entries nan c.args.s.now.weights c.args.depth (c.args.s.now.given - c.args.depth)) (entries nan c.args.s.now.coordinates 0 c.args.s.now.axes) c.if-link-eq0.false

pub grid_fault-axes_fault-requires : goal.grid_fault-axes_fault-requires
grid_fault-axes_fault-requires t c = let q = laid-axes c.args.level c.args.m.table.now (length c.args.m.reals.now) (length c.args.m.counts.now) c.args.w c.requires.0 c.if-m-w-eq1.true in (omega arith, q.axes, omega (arith, c.requires.1))

pub grid_fault-returns-then-m-w-eq1 : goal.grid_fault-returns-then-m-w-eq1
grid_fault-returns-then-m-w-eq1 t c = c.axes_fault.ensures ∙ axes-form c.args.m.table.now c.args.m.reals.now c.args.m.counts.now c.args.w (entries 0 c.args.s.now.path c.args.depth (c.args.s.now.levels - c.args.depth)) (entries nan c.args.s.now.weights c.args.depth (c.args.s.now.given - c.args.depth)) (entries nan c.args.s.now.coordinates 0 c.args.s.now.axes) ∙ ap (λ (o : Grid). fault_of o (entries 0 c.args.s.now.path c.args.depth (c.args.s.now.levels - c.args.depth)) (entries nan c.args.s.now.weights c.args.depth (c.args.s.now.given - c.args.depth)) (entries nan c.args.s.now.coordinates 0 c.args.s.now.axes)) (sym (node-axes c.args.level c.args.m.table.now c.args.m.reals.now c.args.m.counts.now c.args.w c.if-m-w-eq1.true))

pub grid_fault-bins_fault-requires : goal.grid_fault-bins_fault-requires
grid_fault-bins_fault-requires t c = let q = laid-bins c.args.level c.args.m.table.now (length c.args.m.reals.now) (length c.args.m.counts.now) c.args.w c.requires.0 c.if-m-w-eq1.false in (omega (arith, c.decreases, q.level), (q.bins, omega (arith, c.requires.1, q.level)))

pub grid_fault-returns : goal.grid_fault-returns
grid_fault-returns t c = c.bins_fault.ensures ∙ ap (λ (o : Grid). fault_of o (entries 0 c.args.s.now.path c.args.depth (c.args.s.now.levels - c.args.depth)) (entries nan c.args.s.now.weights c.args.depth (c.args.s.now.given - c.args.depth)) (entries nan c.args.s.now.coordinates 0 c.args.s.now.axes)) (sym (node-bins c.args.level c.args.m.table.now c.args.m.reals.now c.args.m.counts.now c.args.w c.if-m-w-eq1.false (laid-bins c.args.level c.args.m.table.now (length c.args.m.reals.now) (length c.args.m.counts.now) c.args.w c.requires.0 c.if-m-w-eq1.false).level))

pub grid_fault-bounds-m-w : goal.grid_fault-bounds-m-w
grid_fault-bounds-m-w t c = let q = laid-head c.args.level c.args.m.table.now (length c.args.m.reals.now) (length c.args.m.counts.now) c.args.w c.requires.0 in omega arith

pub grid_fault-overflow_sub-level : goal.grid_fault-overflow_sub-level
grid_fault-overflow_sub-level t c = let q = laid-bins c.args.level c.args.m.table.now (length c.args.m.reals.now) (length c.args.m.counts.now) c.args.w c.requires.0 c.if-m-w-eq1.false in omega (arith, q.level)

pub grid_fault-offset_bounds-m-w : goal.grid_fault-offset_bounds-m-w
grid_fault-offset_bounds-m-w t c = let q = laid-head c.args.level c.args.m.table.now (length c.args.m.reals.now) (length c.args.m.counts.now) c.args.w c.requires.0 in omega arith
