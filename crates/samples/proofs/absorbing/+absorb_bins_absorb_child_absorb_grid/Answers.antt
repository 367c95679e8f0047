-- Both records are put before what hangs below takes the sample: it lies past them, so what was handed over for it holds there still, and all is the definition's step.
use mathlib.Core.Path.{◌≡◌, ◌∙◌}
use mathlib.Core.Bool.{true}
use native.Mathlib.Omega.{arith}
use Prim.Native.Nat.{ℕ, ◌+◌, ◌*◌, ◌<◌}
use lib.ListN.{length, get_or}
use Rattle.accumulator.specs.Record.{well_formed}
use Rattle.lent.specs.Memory.{memory, record_at}
use Rattle.lent.specs.Tree.{head_at, bin_in, grid_at}
use Rattle.lent.specs.Sampled.{ChildLaid}
use Rattle.lent.specs.Absorbed.{absorbed}
use Rattle.lent.proofs.Laid.{laid-axes, laid-bins, laid-head}
use Rattle.lent.proofs.Sounds.{node-axes, node-bins}
use Rattle.lent.proofs.Accepts.{formed, head-sound, spot-sound}
use Rattle.lent.proofs.Founds.{bins-kept}
use Rattle.lent.proofs.Finds.{held-as, held-grid}
use Rattle.lent.proofs.Absorbs.{bins-absorbed, held-past, nothing-absorbed, child-absorbed, absorbed-axes, absorbed-bins}
use Rattle.samples.proofs.absorbing.+absorb_bins_absorb_child_absorb_grid.Goals as goal
use Rattle.samples.proofs.absorbing.+absorb_bins_absorb_child_absorb_grid.Goals.{absorb_bins-Start}

-- there the sample's bin is one of the grid's, and both accumulators are well formed
below : (t : ℕ) (o : absorb_bins-Start t) → get_or o.args.s.now.path o.args.depth 0 < get_or o.args.table.now (o.args.w + 2) 0
below t o = (formed (grid_at o.args.level o.args.table.now o.args.reals.now o.args.counts.now) o.args.table.now o.args.reals.now o.args.counts.now o.args.w (get_or o.args.table.now (o.args.w + 2) 0) (head_at o.args.table.now o.args.reals.now o.args.counts.now o.args.w) o.args.s.now o.args.depth o.args.number o.requires.2.takes).bin

own-well : (t : ℕ) (o : absorb_bins-Start t) → well_formed (record_at o.args.reals.now o.args.counts.now (get_or o.args.table.now (o.args.w + 5) 0) (get_or o.args.table.now (o.args.w + 6) 0)) ≡ true
unfolding head_at
own-well t o = head-sound (grid_at o.args.level o.args.table.now o.args.reals.now o.args.counts.now) o.args.table.now o.args.reals.now o.args.counts.now o.args.w (get_or o.args.table.now (o.args.w + 2) 0) (head_at o.args.table.now o.args.reals.now o.args.counts.now o.args.w) o.args.s.now o.args.depth o.args.number o.requires.2.takes

spot-well : (t : ℕ) (o : absorb_bins-Start t) → let i = get_or o.args.s.now.path o.args.depth 0 in
    well_formed (record_at o.args.reals.now o.args.counts.now (get_or o.args.table.now (o.args.w + 5) 0 + 14 + get_or o.args.table.now (o.args.w + 2) 0 + 14 * i) (get_or o.args.table.now (o.args.w + 6) 0 + 7 + 7 * i)) ≡ true
unfolding bin_in
spot-well t o = spot-sound (grid_at o.args.level o.args.table.now o.args.reals.now o.args.counts.now) o.args.table.now o.args.reals.now o.args.counts.now o.args.w (get_or o.args.table.now (o.args.w + 2) 0) (head_at o.args.table.now o.args.reals.now o.args.counts.now o.args.w) o.args.s.now o.args.depth o.args.number o.requires.2.takes

pub absorb_bins-gain_at-own-requires : goal.absorb_bins-gain_at-own-requires
absorb_bins-gain_at-own-requires t c = (omega (arith, c.requires.0, below t (goal.at.absorb_bins-gain_at-own-requires t c).Start), omega (arith, c.requires.0, below t (goal.at.absorb_bins-gain_at-own-requires t c).Start), own-well t (goal.at.absorb_bins-gain_at-own-requires t c).Start)

pub absorb_bins-gain_at-inner-requires : goal.absorb_bins-gain_at-inner-requires
absorb_bins-gain_at-inner-requires t c = (omega (arith, c.requires.0, below t (goal.at.absorb_bins-gain_at-inner-requires t c).Start), omega (arith, c.requires.0, below t (goal.at.absorb_bins-gain_at-inner-requires t c).Start), spot-well t (goal.at.absorb_bins-gain_at-inner-requires t c).Start)

pub absorb_bins-put-requires : goal.absorb_bins-put-requires
absorb_bins-put-requires t c = (omega (arith, c.requires.0, below t (goal.at.absorb_bins-put-requires t c).Start), omega (arith, c.requires.0, below t (goal.at.absorb_bins-put-requires t c).Start))

pub absorb_bins-put-requires-2 : goal.absorb_bins-put-requires-2
absorb_bins-put-requires-2 t c = (omega (arith, c.requires.0, c.put.auto.reals), omega (arith, c.requires.0, c.put.auto.counts))

pub absorb_bins-absorb_child-requires : goal.absorb_bins-absorb_child-requires
unfolding ChildLaid
absorb_bins-absorb_child-requires t c = let laid = bins-kept c.args.level c.args.table.now (length c.args.reals.now) (length c.args.counts.now) (length c.put-2.new.reals) (length c.put-2.new.counts) c.args.w (c.put-2.auto.reals ∙ c.put.auto.reals) (c.put-2.auto.counts ∙ c.put.auto.counts) c.requires.0 in (
  omega (arith, c.decreases),
  (
    λ z. laid.children (get_or c.args.s.now.path c.args.depth 0) (below t (goal.at.absorb_bins-absorb_child-requires t c).Start) z,
    omega (arith, c.requires.1),
    held-past c.args.level c.args.table.now c.args.w (memory c.args.reals.now c.args.counts.now) c.requires.0 c.gain_at-own.result c.gain_at-inner.result (memory c.put.new.reals c.put.new.counts) (memory c.put-2.new.reals c.put-2.new.counts) c.requires.2 c.put.ensures c.put-2.ensures,
  ),
)

pub absorb_bins-shape_of-reals : goal.absorb_bins-shape_of-reals
absorb_bins-shape_of-reals t c = c.absorb_child.auto.reals ∙ c.put-2.auto.reals ∙ c.put.auto.reals

pub absorb_bins-shape_of-counts : goal.absorb_bins-shape_of-counts
absorb_bins-shape_of-counts t c = c.absorb_child.auto.counts ∙ c.put-2.auto.counts ∙ c.put.auto.counts

pub absorb_bins-returns : goal.absorb_bins-returns
absorb_bins-returns t c = bins-absorbed c.args.table.now c.args.s.now c.args.evaluation c.args.number c.args.w c.args.depth (absorbed c.args.level c.args.table.now c.args.s.now c.args.evaluation c.args.number) (memory c.args.reals.now c.args.counts.now) (memory c.put.new.reals c.put.new.counts) (memory c.put-2.new.reals c.put-2.new.counts) (memory c.absorb_child.new.reals c.absorb_child.new.counts) c.gain_at-own.result c.gain_at-inner.result c.gain_at-own.ensures c.gain_at-inner.ensures c.put.ensures c.put-2.ensures
    c.absorb_child.ensures

pub absorb_child-returns-then-link-eq0 : goal.absorb_child-returns-then-link-eq0
absorb_child-returns-then-link-eq0 t c = nothing-absorbed (absorbed c.args.level c.args.table.now c.args.s.now c.args.evaluation c.args.number) c.args.link c.args.depth (memory c.args.reals.now c.args.counts.now) c.if-link-eq0.true

pub absorb_child-absorb_grid-requires : goal.absorb_child-absorb_grid-requires
unfolding ChildLaid
absorb_child-absorb_grid-requires t c = (omega (arith, c.decreases), (c.requires.0 c.if-link-eq0.false, c.requires.1, held-grid (grid_at c.args.level c.args.table.now c.args.reals.now c.args.counts.now) c.args.link c.if-link-eq0.false c.requires.2))

pub absorb_child-shape_of-reals : goal.absorb_child-shape_of-reals
absorb_child-shape_of-reals t c = c.absorb_grid.auto.reals

pub absorb_child-shape_of-counts : goal.absorb_child-shape_of-counts
absorb_child-shape_of-counts t c = c.absorb_grid.auto.counts

pub absorb_child-returns : goal.absorb_child-returns
absorb_child-returns t c = c.absorb_grid.ensures ∙ child-absorbed (absorbed c.args.level c.args.table.now c.args.s.now c.args.evaluation c.args.number) c.args.link c.args.depth (memory c.args.reals.now c.args.counts.now) c.if-link-eq0.false

pub absorb_grid-offset_bounds-table-w : goal.absorb_grid-offset_bounds-table-w
absorb_grid-offset_bounds-table-w t c = let q = (laid-head c.args.level c.args.table.now (length c.args.reals.now) (length c.args.counts.now) c.args.w c.requires.0) in omega arith

pub absorb_grid-bounds-table-w : goal.absorb_grid-bounds-table-w
absorb_grid-bounds-table-w t c = let q = (laid-head c.args.level c.args.table.now (length c.args.reals.now) (length c.args.counts.now) c.args.w c.requires.0) in omega arith

pub absorb_grid-absorb_axes-requires : goal.absorb_grid-absorb_axes-requires
absorb_grid-absorb_axes-requires t c = ((laid-axes c.args.level c.args.table.now (length c.args.reals.now) (length c.args.counts.now) c.args.w c.requires.0 c.if-table-w-eq1.true), omega (arith, c.requires.1), held-as (node-axes c.args.level c.args.table.now c.args.reals.now c.args.counts.now c.args.w c.if-table-w-eq1.true) c.requires.2)

pub absorb_grid-shape_of-reals-then-table-w-eq1 : goal.absorb_grid-shape_of-reals-then-table-w-eq1
absorb_grid-shape_of-reals-then-table-w-eq1 t c = c.absorb_axes.auto.reals

pub absorb_grid-shape_of-counts-then-table-w-eq1 : goal.absorb_grid-shape_of-counts-then-table-w-eq1
absorb_grid-shape_of-counts-then-table-w-eq1 t c = c.absorb_axes.auto.counts

pub absorb_grid-returns-then-table-w-eq1 : goal.absorb_grid-returns-then-table-w-eq1
absorb_grid-returns-then-table-w-eq1 t c = c.absorb_axes.ensures ∙ absorbed-axes c.args.table.now c.args.s.now c.args.evaluation c.args.number c.args.w c.args.depth (memory c.args.reals.now c.args.counts.now) c.args.level c.if-table-w-eq1.true

pub absorb_grid-absorb_bins-requires : goal.absorb_grid-absorb_bins-requires
absorb_grid-absorb_bins-requires t c = (omega (arith, c.decreases, (laid-bins c.args.level c.args.table.now (length c.args.reals.now) (length c.args.counts.now) c.args.w c.requires.0 c.if-table-w-eq1.false).level), ((laid-bins c.args.level c.args.table.now (length c.args.reals.now) (length c.args.counts.now) c.args.w c.requires.0 c.if-table-w-eq1.false).bins, omega (arith, c.requires.1, (laid-bins c.args.level c.args.table.now (length c.args.reals.now) (length c.args.counts.now) c.args.w c.requires.0 c.if-table-w-eq1.false).level), held-as (node-bins c.args.level c.args.table.now c.args.reals.now c.args.counts.now c.args.w c.if-table-w-eq1.false (laid-bins c.args.level c.args.table.now (length c.args.reals.now) (length c.args.counts.now) c.args.w c.requires.0 c.if-table-w-eq1.false).level) c.requires.2))

pub absorb_grid-shape_of-reals : goal.absorb_grid-shape_of-reals
absorb_grid-shape_of-reals t c = c.absorb_bins.auto.reals

pub absorb_grid-shape_of-counts : goal.absorb_grid-shape_of-counts
absorb_grid-shape_of-counts t c = c.absorb_bins.auto.counts

pub absorb_grid-returns : goal.absorb_grid-returns
absorb_grid-returns t c = c.absorb_bins.ensures ∙ absorbed-bins c.args.table.now c.args.s.now c.args.evaluation c.args.number c.args.w c.args.depth (memory c.args.reals.now c.args.counts.now) c.args.level c.if-table-w-eq1.false (laid-bins c.args.level c.args.table.now (length c.args.reals.now) (length c.args.counts.now) c.args.w c.requires.0 c.if-table-w-eq1.false).level

pub absorb_bins-overflow_mul-inner_c : goal.absorb_bins-overflow_mul-inner_c
absorb_bins-overflow_mul-inner_c t c = omega (arith, c.requires.0, below t (goal.at.absorb_bins-overflow_mul-inner_c t c).Start)

pub absorb_bins-offset_bounds-table-w-4 : goal.absorb_bins-offset_bounds-table-w-4
absorb_bins-offset_bounds-table-w-4 t c = omega (arith, c.requires.0, below t (goal.at.absorb_bins-offset_bounds-table-w-4 t c).Start)

pub absorb_bins-overflow_add-link-2 : goal.absorb_bins-overflow_add-link-2
absorb_bins-overflow_add-link-2 t c = omega (arith, c.requires.0, below t (goal.at.absorb_bins-overflow_add-link-2 t c).Start)

pub absorb_bins-overflow_add-inner_c-2 : goal.absorb_bins-overflow_add-inner_c-2
absorb_bins-overflow_add-inner_c-2 t c = omega (arith, c.requires.0, below t (goal.at.absorb_bins-overflow_add-inner_c-2 t c).Start)

pub absorb_bins-bounds-reals-r : goal.absorb_bins-bounds-reals-r
absorb_bins-bounds-reals-r t c = omega (arith, c.requires.0, below t (goal.at.absorb_bins-bounds-reals-r t c).Start)

pub absorb_bins-bounds-table-w-4 : goal.absorb_bins-bounds-table-w-4
absorb_bins-bounds-table-w-4 t c = omega (arith, c.requires.0, below t (goal.at.absorb_bins-bounds-table-w-4 t c).Start)

pub absorb_bins-overflow_add-inner_r-3 : goal.absorb_bins-overflow_add-inner_r-3
absorb_bins-overflow_add-inner_r-3 t c = omega (arith, c.requires.0, below t (goal.at.absorb_bins-overflow_add-inner_r-3 t c).Start)

pub absorb_bins-overflow_add-value-2 : goal.absorb_bins-overflow_add-value-2
absorb_bins-overflow_add-value-2 t c = omega (arith, c.requires.0, below t (goal.at.absorb_bins-overflow_add-value-2 t c).Start)

pub absorb_bins-offset_bounds-reals-r : goal.absorb_bins-offset_bounds-reals-r
absorb_bins-offset_bounds-reals-r t c = omega (arith, c.requires.0, below t (goal.at.absorb_bins-offset_bounds-reals-r t c).Start)

pub absorb_grid-overflow_sub-level : goal.absorb_grid-overflow_sub-level
absorb_grid-overflow_sub-level t c = omega (arith, (laid-bins c.args.level c.args.table.now (length c.args.reals.now) (length c.args.counts.now) c.args.w c.requires.0 c.if-table-w-eq1.false).level)

pub absorb_bins-overflow_mul-inner_r : goal.absorb_bins-overflow_mul-inner_r
absorb_bins-overflow_mul-inner_r t c = omega (arith, c.requires.0, below t (goal.at.absorb_bins-overflow_mul-inner_r t c).Start)
