-- Each branch is a case of the model's probe; what hangs in a sound grid is sound, and a bins grid goes one level down.
use mathlib.Core.Path.{sym, ap, ap₂, ◌∙◌}
use Prim.Native.Nat.{◌+◌}
use native.Mathlib.Omega.{arith}
use lib.ListN.{length, get_or}
use lib.Ieee.{Float, binary64, mul}
use Rattle.doubles.specs.Paper.{Paper}
use Rattle.model.specs.Grid.{Grid}
use Rattle.model.specs.Sound.{sound}
use Rattle.model.specs.Probe.{through, probe_grid}
use Rattle.lent.specs.Tree.{bin_in, child_in, bins_in, head_at, grid_at}
use Rattle.lent.specs.Sampled.{ChildLaid}
use Rattle.lent.specs.Probed.{coordinates_of, path_from}
use Rattle.lent.proofs.Laid.{laid-axes, laid-bins, laid-head}
use Rattle.lent.proofs.Sounds.{node-axes, node-bins}
use Rattle.lent.proofs.Samples.{child-sound, sound-in, sound-below}
use Rattle.lent.proofs.Paths.{bins-ended, bins-strayed, bins-through, child-ended, child-missing, child-hung}
use Rattle.quiet.proofs.descent.+probe_child_probe_from_bins_probe_grid.Goals as goal

pub probe_child-returns-then-ends_at : goal.probe_child-returns-then-ends_at
probe_child-returns-then-ends_at t c = sym (child-ended (child_in (grid_at c.args.level c.args.m.table.now c.args.m.reals.now c.args.m.counts.now) c.args.link) c.args.p c.args.depth c.ends_at.result c.ends_at.ensures c.if-ends_at.true)

pub probe_child-returns-then-link-eq0 : goal.probe_child-returns-then-link-eq0
probe_child-returns-then-link-eq0 t c = sym (child-missing (grid_at c.args.level c.args.m.table.now c.args.m.reals.now c.args.m.counts.now) c.args.link c.args.p c.args.depth c.ends_at.result c.ends_at.ensures c.if-ends_at.false c.if-link-eq0.true)

pub probe_child-probe_grid-requires : goal.probe_child-probe_grid-requires
unfolding ChildLaid
probe_child-probe_grid-requires t c = (omega (arith, c.decreases), (c.requires.0 c.if-link-eq0.false, c.requires.1, child-sound (grid_at c.args.level c.args.m.table.now c.args.m.reals.now c.args.m.counts.now) c.args.link c.if-link-eq0.false c.requires.2))

pub probe_child-returns : goal.probe_child-returns
probe_child-returns t c = c.probe_grid.ensures ∙ sym (child-hung (grid_at c.args.level c.args.m.table.now c.args.m.reals.now c.args.m.counts.now) c.args.link c.args.p c.args.depth c.ends_at.result c.ends_at.ensures c.if-ends_at.false c.if-link-eq0.false)

pub probe_from_bins-returns-then-p-depth : goal.probe_from_bins-returns-then-p-depth
probe_from_bins-returns-then-p-depth t c = sym (bins-ended (head_at c.args.m.table.now c.args.m.reals.now c.args.m.counts.now c.args.w) (bins_in (grid_at c.args.level c.args.m.table.now c.args.m.reals.now c.args.m.counts.now) c.args.m.table.now c.args.m.reals.now c.args.m.counts.now c.args.w 0 (get_or c.args.m.table.now (c.args.w + 2) 0)) c.args.p c.args.depth (coordinates_of c.args.p.coordinates) c.if-p-depth.true)

pub probe_from_bins-returns-then-held-bin : goal.probe_from_bins-returns-then-held-bin
probe_from_bins-returns-then-held-bin t c = sym (bins-strayed (grid_at c.args.level c.args.m.table.now c.args.m.reals.now c.args.m.counts.now) c.args.m.table.now c.args.m.reals.now c.args.m.counts.now c.args.w (head_at c.args.m.table.now c.args.m.reals.now c.args.m.counts.now c.args.w) (get_or c.args.m.table.now (c.args.w + 2) 0) c.args.p c.args.depth (coordinates_of c.args.p.coordinates) c.if-p-depth.false c.if-held-bin.true)

pub probe_from_bins-probe_child-below-requires : goal.probe_from_bins-probe_child-below-requires
unfolding ChildLaid
probe_from_bins-probe_child-below-requires t c = (omega (arith, c.decreases), (λ z. c.requires.0.children (get_or c.args.p.path c.args.depth 0) c.if-held-bin.false z, omega (arith, c.requires.1), sound-below (bin_in c.args.m.table.now c.args.m.reals.now c.args.m.counts.now c.args.w (get_or c.args.p.path c.args.depth 0)) (child_in (grid_at c.args.level c.args.m.table.now c.args.m.reals.now c.args.m.counts.now) (get_or c.args.m.table.now (c.args.w + 7 + (get_or c.args.p.path c.args.depth 0)) 0)) (sound-in (grid_at c.args.level c.args.m.table.now c.args.m.reals.now c.args.m.counts.now) c.args.m.table.now c.args.m.reals.now c.args.m.counts.now c.args.w (head_at c.args.m.table.now c.args.m.reals.now c.args.m.counts.now c.args.w) (get_or c.args.m.table.now (c.args.w + 2) 0) (get_or c.args.p.path c.args.depth 0) c.if-held-bin.false c.requires.2)))

pub probe_from_bins-returns : goal.probe_from_bins-returns
probe_from_bins-returns t c = c.through_bin.ensures ∙ ap₂ (λ (a : Float) (q : Paper Float). through (mul binary64 a) q) c.inv.ensures c.probe_child-below.ensures ∙ sym (bins-through (grid_at c.args.level c.args.m.table.now c.args.m.reals.now c.args.m.counts.now) c.args.m.table.now c.args.m.reals.now c.args.m.counts.now c.args.w (head_at c.args.m.table.now c.args.m.reals.now c.args.m.counts.now c.args.w) (get_or c.args.m.table.now (c.args.w + 2) 0) c.args.p c.args.depth (coordinates_of c.args.p.coordinates) c.if-p-depth.false c.if-held-bin.false)

pub probe_grid-probe_at_axes-requires : goal.probe_grid-probe_at_axes-requires
probe_grid-probe_at_axes-requires t c = (laid-axes c.args.level c.args.m.table.now (length c.args.m.reals.now) (length c.args.m.counts.now) c.args.w c.requires.0 c.if-m-w-eq1.true, sym (ap sound (node-axes c.args.level c.args.m.table.now c.args.m.reals.now c.args.m.counts.now c.args.w c.if-m-w-eq1.true)) ∙ c.requires.2)

pub probe_grid-returns-then-m-w-eq1 : goal.probe_grid-returns-then-m-w-eq1
probe_grid-returns-then-m-w-eq1 t c = c.probe_at_axes.ensures ∙ ap (λ (g : Grid). probe_grid g (path_from c.args.p c.args.depth) (coordinates_of c.args.p.coordinates)) (sym (node-axes c.args.level c.args.m.table.now c.args.m.reals.now c.args.m.counts.now c.args.w c.if-m-w-eq1.true))

pub probe_grid-probe_from_bins-requires : goal.probe_grid-probe_from_bins-requires
probe_grid-probe_from_bins-requires t c = let d = (laid-bins c.args.level c.args.m.table.now (length c.args.m.reals.now) (length c.args.m.counts.now) c.args.w c.requires.0 c.if-m-w-eq1.false) in (omega (arith, c.decreases, d.level), (d.bins, omega (arith, c.requires.1, d.level), sym (ap sound (node-bins c.args.level c.args.m.table.now c.args.m.reals.now c.args.m.counts.now c.args.w c.if-m-w-eq1.false d.level)) ∙ c.requires.2))

pub probe_grid-returns : goal.probe_grid-returns
probe_grid-returns t c = let d = (laid-bins c.args.level c.args.m.table.now (length c.args.m.reals.now) (length c.args.m.counts.now) c.args.w c.requires.0 c.if-m-w-eq1.false) in c.probe_from_bins.ensures ∙ ap (λ (g : Grid). probe_grid g (path_from c.args.p c.args.depth) (coordinates_of c.args.p.coordinates)) (sym (node-bins c.args.level c.args.m.table.now c.args.m.reals.now c.args.m.counts.now c.args.w c.if-m-w-eq1.false d.level))

pub probe_grid-offset_bounds-m-w : goal.probe_grid-offset_bounds-m-w
probe_grid-offset_bounds-m-w t c = omega (arith, laid-head c.args.level c.args.m.table.now (length c.args.m.reals.now) (length c.args.m.counts.now) c.args.w c.requires.0)

pub probe_grid-bounds-m-w : goal.probe_grid-bounds-m-w
probe_grid-bounds-m-w t c = omega (arith, laid-head c.args.level c.args.m.table.now (length c.args.m.reals.now) (length c.args.m.counts.now) c.args.w c.requires.0)

pub probe_grid-overflow_sub-level : goal.probe_grid-overflow_sub-level
probe_grid-overflow_sub-level t c = let d = (laid-bins c.args.level c.args.m.table.now (length c.args.m.reals.now) (length c.args.m.counts.now) c.args.w c.requires.0 c.if-m-w-eq1.false) in omega (arith, d.level)
