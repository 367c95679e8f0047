-- Of a well-formed grid only what the sample touches may fail: along the path an accumulator, the bin's, and what hangs there.
use mathlib.Core.Path.{◌≡◌, sym, ap, ap₂, ◌∙◌, subst}
use mathlib.Core.Bool.{true, ◌&&◌}
use native.Mathlib.Omega.{arith}
use Prim.Native.Nat.{◌+◌}
use lib.ListN.{length, get_or}
use Rattle.accumulator.specs.Record.{well_formed}
use Rattle.model.specs.Grid.{Grid}
use Rattle.model.specs.Sound.{kept_grid}
use Rattle.model.specs.Train.{train_grid}
use Rattle.lent.specs.Tree.{head_at, bin_in, grid_at}
use Rattle.lent.specs.Sampled.{ChildLaid}
use Rattle.lent.specs.Absorbed.{path_left, weights_left, places_in}
use Rattle.lent.specs.Found.{Found}
use Rattle.lent.proofs.Laid.{laid-axes, laid-bins, laid-head}
use Rattle.lent.proofs.Sounds.{node-axes, node-bins}
use Rattle.lent.proofs.Accepts.{formed, head-sound, spot-sound, bins-told, none_told, grid-told, takes-below, takes-grid, takes-as}
use Rattle.lent.proofs.Finds.{bins-found, none_found, grid-found}
use Prim.Native.Nat.{ℕ, ◌<◌}
use Rattle.samples.proofs.acceptance.+bins_accept_child_accepts_grid_accepts.Goals as goal
use Rattle.samples.proofs.acceptance.+bins_accept_child_accepts_grid_accepts.Goals.{bins_accept-Start}

-- there the sample's bin is one of the grid's, and both accumulators are well formed
below : (t : ℕ) (o : bins_accept-Start t) → get_or o.args.s.now.path o.args.depth 0 < get_or o.args.m.table.now (o.args.w + 2) 0
below t o = (formed (grid_at o.args.level o.args.m.table.now o.args.m.reals.now o.args.m.counts.now) o.args.m.table.now o.args.m.reals.now o.args.m.counts.now o.args.w (get_or o.args.m.table.now (o.args.w + 2) 0) (head_at o.args.m.table.now o.args.m.reals.now o.args.m.counts.now o.args.w) o.args.s.now o.args.depth o.args.number o.requires.2).bin

own-well : (t : ℕ) (o : bins_accept-Start t) → well_formed (head_at o.args.m.table.now o.args.m.reals.now o.args.m.counts.now o.args.w).own ≡ true
own-well t o = head-sound (grid_at o.args.level o.args.m.table.now o.args.m.reals.now o.args.m.counts.now) o.args.m.table.now o.args.m.reals.now o.args.m.counts.now o.args.w (get_or o.args.m.table.now (o.args.w + 2) 0) (head_at o.args.m.table.now o.args.m.reals.now o.args.m.counts.now o.args.w) o.args.s.now o.args.depth o.args.number o.requires.2

spot-well : (t : ℕ) (o : bins_accept-Start t) → well_formed (bin_in o.args.m.table.now o.args.m.reals.now o.args.m.counts.now o.args.w (get_or o.args.s.now.path o.args.depth 0)).own ≡ true
spot-well t o = spot-sound (grid_at o.args.level o.args.m.table.now o.args.m.reals.now o.args.m.counts.now) o.args.m.table.now o.args.m.reals.now o.args.m.counts.now o.args.w (get_or o.args.m.table.now (o.args.w + 2) 0) (head_at o.args.m.table.now o.args.m.reals.now o.args.m.counts.now o.args.w) o.args.s.now o.args.depth o.args.number o.requires.2

pub bins_accept-fits_with-own-requires : goal.bins_accept-fits_with-own-requires
unfolding head_at
bins_accept-fits_with-own-requires t c = (omega (arith, c.requires.0), omega (arith, c.requires.0), own-well t (goal.at.bins_accept-fits_with-own-requires t c).Start, c.requires.2.number)

pub bins_accept-fits_with-inner-requires : goal.bins_accept-fits_with-inner-requires
unfolding bin_in
bins_accept-fits_with-inner-requires t c = (omega (arith, c.requires.0, below t (goal.at.bins_accept-fits_with-inner-requires t c).Start), omega (arith, c.requires.0, below t (goal.at.bins_accept-fits_with-inner-requires t c).Start), spot-well t (goal.at.bins_accept-fits_with-inner-requires t c).Start, c.requires.2.number)

pub bins_accept-child_accepts-below-requires : goal.bins_accept-child_accepts-below-requires
unfolding ChildLaid
bins_accept-child_accepts-below-requires t c = (omega (arith, c.decreases), (λ z. c.requires.0.children (get_or c.args.s.now.path c.args.depth 0) (below t (goal.at.bins_accept-child_accepts-below-requires t c).Start) z, omega (arith, c.requires.1), takes-below (grid_at c.args.level c.args.m.table.now c.args.m.reals.now c.args.m.counts.now) c.args.m.table.now c.args.m.reals.now c.args.m.counts.now c.args.w (get_or c.args.m.table.now (c.args.w + 2) 0) (head_at c.args.m.table.now c.args.m.reals.now c.args.m.counts.now c.args.w) c.args.s.now c.args.depth c.args.number c.requires.2, c.requires.3))

pub bins_accept-returns : goal.bins_accept-returns
unfolding bin_in head_at
bins_accept-returns t c = (ap₂ ◌&&◌ c.fits_with-own.ensures (ap₂ ◌&&◌ c.fits_with-inner.ensures c.child_accepts-below.ensures.0) ∙ bins-told (grid_at c.args.level c.args.m.table.now c.args.m.reals.now c.args.m.counts.now) c.args.m.table.now c.args.m.reals.now c.args.m.counts.now c.args.w (get_or c.args.m.table.now (c.args.w + 2) 0) (head_at c.args.m.table.now c.args.m.reals.now c.args.m.counts.now c.args.w) c.args.s.now c.args.depth c.args.number c.requires.2 c.args.evaluation, bins-found (grid_at c.args.level c.args.m.table.now c.args.m.reals.now c.args.m.counts.now) c.args.m.table.now c.args.m.reals.now c.args.m.counts.now c.args.w (get_or c.args.m.table.now (c.args.w + 2) 0) (head_at c.args.m.table.now c.args.m.reals.now c.args.m.counts.now c.args.w) c.args.s.now c.args.depth c.args.number c.requires.2 c.child_accepts-below.new.spots c.child_accepts-below.ensures.1)

pub child_accepts-returns-then-link-eq0 : goal.child_accepts-returns-then-link-eq0
child_accepts-returns-then-link-eq0 t c = (none_told (grid_at c.args.level c.args.m.table.now c.args.m.reals.now c.args.m.counts.now) c.args.link (path_left c.args.s.now c.args.depth) (weights_left c.args.s.now c.args.depth) (places_in c.args.s.now) c.args.evaluation c.args.number c.if-link-eq0.true, none_found (grid_at c.args.level c.args.m.table.now c.args.m.reals.now c.args.m.counts.now) c.args.link c.args.s.now c.args.depth c.args.spots.now c.if-link-eq0.true)

pub child_accepts-grid_accepts-requires : goal.child_accepts-grid_accepts-requires
unfolding ChildLaid
child_accepts-grid_accepts-requires t c = (omega (arith, c.decreases), (c.requires.0 c.if-link-eq0.false, c.requires.1, takes-grid (grid_at c.args.level c.args.m.table.now c.args.m.reals.now c.args.m.counts.now) c.args.link c.args.s.now c.args.depth c.args.number c.if-link-eq0.false c.requires.2, c.requires.3))

pub child_accepts-returns : goal.child_accepts-returns
child_accepts-returns t c = (c.grid_accepts.ensures.0 ∙ grid-told (grid_at c.args.level c.args.m.table.now c.args.m.reals.now c.args.m.counts.now) c.args.link (path_left c.args.s.now c.args.depth) (weights_left c.args.s.now c.args.depth) (places_in c.args.s.now) c.args.evaluation c.args.number c.if-link-eq0.false, grid-found (grid_at c.args.level c.args.m.table.now c.args.m.reals.now c.args.m.counts.now) c.args.link c.args.s.now c.args.depth c.grid_accepts.new.spots c.if-link-eq0.false c.grid_accepts.ensures.1)

pub grid_accepts-axes_accept-requires : goal.grid_accepts-axes_accept-requires
grid_accepts-axes_accept-requires t c = ((laid-axes c.args.level c.args.m.table.now (length c.args.m.reals.now) (length c.args.m.counts.now) c.args.w c.requires.0 c.if-m-w-eq1.true), omega (arith, c.requires.1), takes-as c.args.s.now (node-axes c.args.level c.args.m.table.now c.args.m.reals.now c.args.m.counts.now c.args.w c.if-m-w-eq1.true) c.requires.2, c.requires.3)

pub grid_accepts-returns-then-m-w-eq1 : goal.grid_accepts-returns-then-m-w-eq1
grid_accepts-returns-then-m-w-eq1 t c = (c.axes_accept.ensures.0 ∙ ap (λ (g : Grid). kept_grid (train_grid g (path_left c.args.s.now c.args.depth) (weights_left c.args.s.now c.args.depth) (places_in c.args.s.now) c.args.evaluation c.args.number)) (sym (node-axes c.args.level c.args.m.table.now c.args.m.reals.now c.args.m.counts.now c.args.w c.if-m-w-eq1.true)), subst (λ (g : Grid). Found c.axes_accept.new.spots g c.args.s.now c.args.depth) (sym (node-axes c.args.level c.args.m.table.now c.args.m.reals.now c.args.m.counts.now c.args.w c.if-m-w-eq1.true)) c.axes_accept.ensures.1)

pub grid_accepts-bins_accept-requires : goal.grid_accepts-bins_accept-requires
grid_accepts-bins_accept-requires t c = (omega (arith, c.decreases, (laid-bins c.args.level c.args.m.table.now (length c.args.m.reals.now) (length c.args.m.counts.now) c.args.w c.requires.0 c.if-m-w-eq1.false).level), ((laid-bins c.args.level c.args.m.table.now (length c.args.m.reals.now) (length c.args.m.counts.now) c.args.w c.requires.0 c.if-m-w-eq1.false).bins, omega (arith, c.requires.1, (laid-bins c.args.level c.args.m.table.now (length c.args.m.reals.now) (length c.args.m.counts.now) c.args.w c.requires.0 c.if-m-w-eq1.false).level), takes-as c.args.s.now (node-bins c.args.level c.args.m.table.now c.args.m.reals.now c.args.m.counts.now c.args.w c.if-m-w-eq1.false (laid-bins c.args.level c.args.m.table.now (length c.args.m.reals.now) (length c.args.m.counts.now) c.args.w c.requires.0 c.if-m-w-eq1.false).level) c.requires.2, c.requires.3))

pub grid_accepts-returns : goal.grid_accepts-returns
grid_accepts-returns t c = (c.bins_accept.ensures.0 ∙ ap (λ (g : Grid). kept_grid (train_grid g (path_left c.args.s.now c.args.depth) (weights_left c.args.s.now c.args.depth) (places_in c.args.s.now) c.args.evaluation c.args.number)) (sym (node-bins c.args.level c.args.m.table.now c.args.m.reals.now c.args.m.counts.now c.args.w c.if-m-w-eq1.false (laid-bins c.args.level c.args.m.table.now (length c.args.m.reals.now) (length c.args.m.counts.now) c.args.w c.requires.0 c.if-m-w-eq1.false).level)), subst (λ (g : Grid). Found c.bins_accept.new.spots g c.args.s.now c.args.depth) (sym (node-bins c.args.level c.args.m.table.now c.args.m.reals.now c.args.m.counts.now c.args.w c.if-m-w-eq1.false (laid-bins c.args.level c.args.m.table.now (length c.args.m.reals.now) (length c.args.m.counts.now) c.args.w c.requires.0 c.if-m-w-eq1.false).level)) c.bins_accept.ensures.1)

pub bins_accept-overflow_add-inner_r-3 : goal.bins_accept-overflow_add-inner_r-3
bins_accept-overflow_add-inner_r-3 t c = omega (arith, c.requires.0, below t (goal.at.bins_accept-overflow_add-inner_r-3 t c).Start)

pub bins_accept-overflow_add-value-2 : goal.bins_accept-overflow_add-value-2
bins_accept-overflow_add-value-2 t c = omega (arith, c.requires.0, below t (goal.at.bins_accept-overflow_add-value-2 t c).Start)

pub grid_accepts-offset_bounds-m-w : goal.grid_accepts-offset_bounds-m-w
grid_accepts-offset_bounds-m-w t c = let q = (laid-head c.args.level c.args.m.table.now (length c.args.m.reals.now) (length c.args.m.counts.now) c.args.w c.requires.0) in omega arith

pub bins_accept-offset_bounds-m-r : goal.bins_accept-offset_bounds-m-r
bins_accept-offset_bounds-m-r t c = omega (arith, c.requires.0, below t (goal.at.bins_accept-offset_bounds-m-r t c).Start)

pub bins_accept-overflow_add-link-2 : goal.bins_accept-overflow_add-link-2
bins_accept-overflow_add-link-2 t c = omega (arith, c.requires.0, below t (goal.at.bins_accept-overflow_add-link-2 t c).Start)

pub bins_accept-bounds-m-r : goal.bins_accept-bounds-m-r
bins_accept-bounds-m-r t c = omega (arith, c.requires.0, below t (goal.at.bins_accept-bounds-m-r t c).Start)

pub grid_accepts-bounds-m-w : goal.grid_accepts-bounds-m-w
grid_accepts-bounds-m-w t c = let q = (laid-head c.args.level c.args.m.table.now (length c.args.m.reals.now) (length c.args.m.counts.now) c.args.w c.requires.0) in omega arith

pub bins_accept-bounds-m-w-4 : goal.bins_accept-bounds-m-w-4
bins_accept-bounds-m-w-4 t c = omega (arith, c.requires.0, below t (goal.at.bins_accept-bounds-m-w-4 t c).Start)

pub grid_accepts-overflow_sub-level : goal.grid_accepts-overflow_sub-level
grid_accepts-overflow_sub-level t c = omega (arith, (laid-bins c.args.level c.args.m.table.now (length c.args.m.reals.now) (length c.args.m.counts.now) c.args.w c.requires.0 c.if-m-w-eq1.false).level)

pub bins_accept-offset_bounds-m-w-4 : goal.bins_accept-offset_bounds-m-w-4
bins_accept-offset_bounds-m-w-4 t c = omega (arith, c.requires.0, below t (goal.at.bins_accept-offset_bounds-m-w-4 t c).Start)

pub bins_accept-overflow_add-inner_c-2 : goal.bins_accept-overflow_add-inner_c-2
bins_accept-overflow_add-inner_c-2 t c = omega (arith, c.requires.0, below t (goal.at.bins_accept-overflow_add-inner_c-2 t c).Start)

pub bins_accept-overflow_mul-inner_r : goal.bins_accept-overflow_mul-inner_r
bins_accept-overflow_mul-inner_r t c = omega (arith, c.requires.0, below t (goal.at.bins_accept-overflow_mul-inner_r t c).Start)

pub bins_accept-overflow_mul-inner_c : goal.bins_accept-overflow_mul-inner_c
bins_accept-overflow_mul-inner_c t c = omega (arith, c.requires.0, below t (goal.at.bins_accept-overflow_mul-inner_c t c).Start)
