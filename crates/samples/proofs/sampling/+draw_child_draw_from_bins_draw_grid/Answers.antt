-- A bin, its child one level down, then the weight, as the model draws; what hangs in a sound grid is sound.
use Rattle.lent.specs.Sampled.{ChildLaid, Traces}
use Rattle.lent.proofs.Samples.{child-none, child-is, child-sound, sound-in, sound-below, length-chances, chances-sound, bins-made, nothing-made, shorter}
use Rattle.model.specs.Draw.{Drawing, draw_axes, draw_grid, draw_child}
use mathlib.Core.Path.{◌≡◌, refl, sym, ap, ◌∙◌, subst}
use Prim.Native.Nat.{◌+◌, ◌-◌, ◌≤◌}
use native.Mathlib.Omega.{arith}
use lib.ListN.{length, get_or}
use Rattle.model.specs.Grid.{Grid, bins}
use Rattle.model.specs.Sound.{sound}
use Rattle.lent.specs.Tree.{bin_in, child_in, bins_in, head_at, grid_at}
use Rattle.lent.proofs.Laid.{laid-axes, laid-bins, laid-head}
use Rattle.lent.proofs.Sounds.{node-axes, node-bins}
use Prim.Native.Nat.{ℕ}
use Rattle.samples.proofs.sampling.+draw_child_draw_from_bins_draw_grid.Goals as goal

pub draw_child-returns-then-link-eq0 : goal.draw_child-returns-then-link-eq0
draw_child-returns-then-link-eq0 t c = (nothing-made c.args.level c.args.depth c.args.start _ c.args.s.now.path c.args.s.now.weights c.args.s.now.coordinates (sym (child-none (grid_at c.args.level c.args.m.table.now c.args.m.reals.now c.args.m.counts.now) c.args.link c.args.start c.if-link-eq0.true)), refl)

pub draw_child-draw_grid-requires : goal.draw_child-draw_grid-requires
unfolding ChildLaid
draw_child-draw_grid-requires t c = (omega (arith, c.decreases), (c.requires.0 c.if-link-eq0.false, c.requires.1, child-sound (grid_at c.args.level c.args.m.table.now c.args.m.reals.now c.args.m.counts.now) c.args.link c.if-link-eq0.false c.requires.2))

pub draw_child-returns : goal.draw_child-returns
draw_child-returns t c = (subst (λ (d : Drawing). Traces c.args.level c.args.depth d c.draw_grid.result c.args.s.now.path c.draw_grid.new.s.path c.args.s.now.weights c.draw_grid.new.s.weights c.args.s.now.coordinates c.draw_grid.new.s.coordinates) (sym (child-is (grid_at c.args.level c.args.m.table.now c.args.m.reals.now c.args.m.counts.now) c.args.link c.args.start c.if-link-eq0.false)) c.draw_grid.ensures.0, c.draw_grid.ensures.1)

pub draw_from_bins-reach-bin-requires : goal.draw_from_bins-reach-bin-requires
draw_from_bins-reach-bin-requires t c = let at = get_or c.args.m.table.now (c.args.w + 5) 0 + 14 in
    let n = get_or c.args.m.table.now (c.args.w + 2) 0 in
    let room : at + n ≤ length c.args.m.reals.now = omega (arith, c.requires.0) in (
      omega (arith, length-chances at n c.args.m.reals.now room, c.requires.0.some),
      chances-sound (grid_at c.args.level c.args.m.table.now c.args.m.reals.now c.args.m.counts.now) c.args.m.table.now c.args.m.reals.now c.args.m.counts.now c.args.w
          (head_at c.args.m.table.now c.args.m.reals.now c.args.m.counts.now c.args.w) room c.requires.2,
    )

pub draw_from_bins-draw_child-traced-requires : goal.draw_from_bins-draw_child-traced-requires
unfolding ChildLaid
draw_from_bins-draw_child-traced-requires t c = (omega (arith, c.decreases), (λ z. c.requires.0.children c.reach-bin.result (omega (arith, c.reach-bin.ensures.1, (length-chances (get_or c.args.m.table.now (c.args.w + 5) 0 + 14) (get_or c.args.m.table.now (c.args.w + 2) 0) c.args.m.reals.now (omega (arith, c.requires.0))))) z, omega (arith, c.requires.1), sound-below (bin_in c.args.m.table.now c.args.m.reals.now c.args.m.counts.now c.args.w c.reach-bin.result) (child_in (grid_at c.args.level c.args.m.table.now c.args.m.reals.now c.args.m.counts.now) (get_or c.args.m.table.now (c.args.w + 7 + c.reach-bin.result) 0)) (sound-in (grid_at c.args.level c.args.m.table.now c.args.m.reals.now c.args.m.counts.now) c.args.m.table.now c.args.m.reals.now c.args.m.counts.now c.args.w (head_at c.args.m.table.now c.args.m.reals.now c.args.m.counts.now c.args.w) (get_or c.args.m.table.now (c.args.w + 2) 0) c.reach-bin.result (omega (arith, c.reach-bin.ensures.1, (length-chances (get_or c.args.m.table.now (c.args.w + 5) 0 + 14) (get_or c.args.m.table.now (c.args.w + 2) 0) c.args.m.reals.now (omega (arith, c.requires.0))))) c.requires.2)))

pub draw_from_bins-returns : goal.draw_from_bins-returns
draw_from_bins-returns t c = (bins-made (grid_at c.args.level c.args.m.table.now c.args.m.reals.now c.args.m.counts.now) c.args.m.table.now c.args.m.reals.now c.args.m.counts.now c.args.w (head_at c.args.m.table.now c.args.m.reals.now c.args.m.counts.now c.args.w) c.args.level c.args.depth c.args.start c.unit-unit.result c.reach-bin.result (draw_child (child_in (grid_at c.args.level c.args.m.table.now c.args.m.reals.now c.args.m.counts.now) (get_or c.args.m.table.now (c.args.w + 7 + c.reach-bin.result) 0)) c.unit-unit.result.stream) c.draw_child-traced.result c.inv-share.result c.args.s.now.path c.draw_child-traced.new.s.path c.args.s.now.weights c.draw_child-traced.new.s.weights c.args.s.now.coordinates c.draw_child-traced.new.s.coordinates (omega (arith, c.requires.0)) c.unit-unit.ensures c.reach-bin.ensures.0 (omega (arith, c.reach-bin.ensures.1, (length-chances (get_or c.args.m.table.now (c.args.w + 5) 0 + 14) (get_or c.args.m.table.now (c.args.w + 2) 0) c.args.m.reals.now (omega (arith, c.requires.0))))) refl c.draw_child-traced.ensures.0 c.inv-share.ensures, c.draw_child-traced.ensures.1)

pub draw_grid-draw_from_axes-requires : goal.draw_grid-draw_from_axes-requires
draw_grid-draw_from_axes-requires t c = (laid-axes c.args.level c.args.m.table.now (length c.args.m.reals.now) (length c.args.m.counts.now) c.args.w c.requires.0 c.if-m-w-eq1.true, sym (ap sound (node-axes c.args.level c.args.m.table.now c.args.m.reals.now c.args.m.counts.now c.args.w c.if-m-w-eq1.true)) ∙ c.requires.2, omega (arith, c.requires.1))

pub draw_grid-returns-then-m-w-eq1 : goal.draw_grid-returns-then-m-w-eq1
unfolding draw_grid draw_axes
draw_grid-returns-then-m-w-eq1 t c = let q = shorter 0 c.args.level _ (omega arith) c.draw_from_axes.ensures.0.3 in (subst (λ (g : Grid). Traces c.args.level c.args.depth (draw_grid g c.args.start) c.draw_from_axes.result c.args.s.now.path c.draw_from_axes.new.s.path c.args.s.now.weights c.draw_from_axes.new.s.weights c.args.s.now.coordinates c.draw_from_axes.new.s.coordinates) (sym (node-axes c.args.level c.args.m.table.now c.args.m.reals.now c.args.m.counts.now c.args.w c.if-m-w-eq1.true)) (c.draw_from_axes.ensures.0.0, c.draw_from_axes.ensures.2, c.draw_from_axes.ensures.0.1, c.draw_from_axes.ensures.0.2, q), c.draw_from_axes.ensures.1)

pub draw_grid-draw_from_bins-requires : goal.draw_grid-draw_from_bins-requires
draw_grid-draw_from_bins-requires t c = let d = laid-bins c.args.level c.args.m.table.now (length c.args.m.reals.now) (length c.args.m.counts.now) c.args.w c.requires.0 c.if-m-w-eq1.false in (omega (arith, c.decreases, d.level), (d.bins, omega (arith, c.requires.1), sym (ap sound (node-bins c.args.level c.args.m.table.now c.args.m.reals.now c.args.m.counts.now c.args.w c.if-m-w-eq1.false d.level)) ∙ c.requires.2))

pub draw_grid-returns : goal.draw_grid-returns
draw_grid-returns t c = let d = laid-bins c.args.level c.args.m.table.now (length c.args.m.reals.now) (length c.args.m.counts.now) c.args.w c.requires.0 c.if-m-w-eq1.false in let e : c.args.level - 1 + 1 ≡ c.args.level = omega (arith, d.level) in (subst (λ (g : Grid). Traces c.args.level c.args.depth (draw_grid g c.args.start) c.draw_from_bins.result c.args.s.now.path c.draw_from_bins.new.s.path c.args.s.now.weights c.draw_from_bins.new.s.weights c.args.s.now.coordinates c.draw_from_bins.new.s.coordinates) (sym (node-bins c.args.level c.args.m.table.now c.args.m.reals.now c.args.m.counts.now c.args.w c.if-m-w-eq1.false d.level)) (subst (λ (k : ℕ). Traces k c.args.depth (draw_grid (bins (head_at c.args.m.table.now c.args.m.reals.now c.args.m.counts.now c.args.w) (bins_in (grid_at (c.args.level - 1) c.args.m.table.now c.args.m.reals.now c.args.m.counts.now) c.args.m.table.now c.args.m.reals.now c.args.m.counts.now c.args.w 0 (get_or c.args.m.table.now (c.args.w + 2) 0))) c.args.start) c.draw_from_bins.result c.args.s.now.path c.draw_from_bins.new.s.path c.args.s.now.weights c.draw_from_bins.new.s.weights c.args.s.now.coordinates c.draw_from_bins.new.s.coordinates) e c.draw_from_bins.ensures.0), c.draw_from_bins.ensures.1)

pub draw_grid-offset_bounds-m-w : goal.draw_grid-offset_bounds-m-w
draw_grid-offset_bounds-m-w t c = let q = laid-head c.args.level c.args.m.table.now (length c.args.m.reals.now) (length c.args.m.counts.now) c.args.w c.requires.0 in omega arith

pub draw_grid-bounds-m-w : goal.draw_grid-bounds-m-w
draw_grid-bounds-m-w t c = let q = laid-head c.args.level c.args.m.table.now (length c.args.m.reals.now) (length c.args.m.counts.now) c.args.w c.requires.0 in omega arith

pub draw_grid-overflow_sub-level : goal.draw_grid-overflow_sub-level
draw_grid-overflow_sub-level t c = let d = laid-bins c.args.level c.args.m.table.now (length c.args.m.reals.now) (length c.args.m.counts.now) c.args.w c.requires.0 c.if-m-w-eq1.false in omega (arith, d.level)
