-- A bins grid asks one level lower, so the calls end; the bins judged so far, with those left, stay the answer for all.
use mathlib.Core.Path.{◌≡◌, sym, ap, ap₂, ◌∙◌}
use mathlib.Core.Bool.{Bool, ◌&&◌}
use Prim.Native.Nat.{◌+◌, ◌-◌}
use native.Mathlib.Omega.{arith}
use lib.ListN.{length, get_or}
use Rattle.model.specs.Sound.{sound}
use Rattle.lent.specs.Tree.{bin_in, bins_in, head_at, grid_at}
use Rattle.lent.specs.Judged.{sound_bins}
use Rattle.lent.proofs.Laid.{laid-axes, laid-bins, laid-head}
use Rattle.lent.proofs.Sounds.{sound-bins, bins-on, bins-out, child-none, child-grid, node-axes, node-bins}
use Rattle.judges.proofs.judge.+bin_fits_bins_fit_grid_fits.Goals as goal

pub bin_fits-is_sound-own-requires : goal.bin_fits-is_sound-own-requires
bin_fits-is_sound-own-requires t c = (omega (arith, c.requires.0, c.requires.1), omega (arith, c.requires.0, c.requires.1))

pub bin_fits-returns-then-link-eq0 : goal.bin_fits-returns-then-link-eq0
unfolding bin_in
bin_fits-returns-then-link-eq0 t c = ap₂ ◌&&◌ c.is_chance.ensures c.is_sound-own.ensures ∙ sym (child-none (grid_at c.args.level c.args.m.table.now c.args.m.reals.now c.args.m.counts.now) (bin_in c.args.m.table.now c.args.m.reals.now c.args.m.counts.now c.args.w c.args.i) (get_or c.args.m.table.now (c.args.w + 7 + c.args.i) 0) c.if-link-eq0.true)

pub bin_fits-grid_fits-below-requires : goal.bin_fits-grid_fits-below-requires
bin_fits-grid_fits-below-requires t c = (omega (arith, c.decreases), c.requires.0.children c.args.i c.requires.1 c.if-link-eq0.false)

pub bin_fits-returns : goal.bin_fits-returns
unfolding bin_in
bin_fits-returns t c = ap₂ ◌&&◌ (ap₂ ◌&&◌ c.is_chance.ensures c.is_sound-own.ensures) c.grid_fits-below.ensures ∙ sym (child-grid (grid_at c.args.level c.args.m.table.now c.args.m.reals.now c.args.m.counts.now) (bin_in c.args.m.table.now c.args.m.reals.now c.args.m.counts.now c.args.w c.args.i) (get_or c.args.m.table.now (c.args.w + 7 + c.args.i) 0) c.if-link-eq0.false)

pub bins_fit-is_sound-ok-requires : goal.bins_fit-is_sound-ok-requires
bins_fit-is_sound-ok-requires t c = (omega (arith, c.requires), omega (arith, c.requires))

pub bins_fit-loop-i-init : goal.bins_fit-loop-i-init
bins_fit-loop-i-init t c = let e : (get_or c.args.m.table.now (c.args.w + 2) 0) - 0 ≡ (get_or c.args.m.table.now (c.args.w + 2) 0) = omega arith in (omega arith, rw e)

pub bins_fit-bin_fits-fits-requires : goal.bins_fit-bin_fits-fits-requires
bins_fit-bin_fits-fits-requires t c = (omega (arith, c.decreases), (c.requires, c.loop-i-test.true))

pub bins_fit-loop-i-preserved : goal.bins_fit-loop-i-preserved
bins_fit-loop-i-preserved t c = (omega (arith, c.loop-i-test.true), ap (λ (x : Bool). (c.loop-i.ok && x) && sound_bins (bins_in (grid_at c.args.level c.args.m.table.now c.args.m.reals.now c.args.m.counts.now) c.args.m.table.now c.args.m.reals.now c.args.m.counts.now c.args.w (c.loop-i.i + 1) ((get_or c.args.m.table.now (c.args.w + 2) 0) - (c.loop-i.i + 1)))) c.bin_fits-fits.ensures ∙ bins-on (grid_at c.args.level c.args.m.table.now c.args.m.reals.now c.args.m.counts.now) c.args.m.table.now c.args.m.reals.now c.args.m.counts.now c.args.w (get_or c.args.m.table.now (c.args.w + 2) 0) c.loop-i.i c.loop-i.ok c.loop-i-test.true ∙ c.loop-i.invariant.1)

pub bins_fit-returns : goal.bins_fit-returns
unfolding head_at
bins_fit-returns t c = sym (bins-out (grid_at c.args.level c.args.m.table.now c.args.m.reals.now c.args.m.counts.now) c.args.m.table.now c.args.m.reals.now c.args.m.counts.now c.args.w (get_or c.args.m.table.now (c.args.w + 2) 0) c.loop-i.i c.loop-i.ok c.loop-i-test.false) ∙ c.loop-i.invariant.1 ∙ ap (λ (x : Bool). x && sound_bins (bins_in (grid_at c.args.level c.args.m.table.now c.args.m.reals.now c.args.m.counts.now) c.args.m.table.now c.args.m.reals.now c.args.m.counts.now c.args.w 0 (get_or c.args.m.table.now (c.args.w + 2) 0))) c.is_sound-ok.ensures ∙ sound-bins (head_at c.args.m.table.now c.args.m.reals.now c.args.m.counts.now c.args.w) (bins_in (grid_at c.args.level c.args.m.table.now c.args.m.reals.now c.args.m.counts.now) c.args.m.table.now c.args.m.reals.now c.args.m.counts.now c.args.w 0 (get_or c.args.m.table.now (c.args.w + 2) 0))

pub grid_fits-offset_bounds-m-w : goal.grid_fits-offset_bounds-m-w
grid_fits-offset_bounds-m-w t c = let q = laid-head c.args.level c.args.m.table.now (length c.args.m.reals.now) (length c.args.m.counts.now) c.args.w c.requires in omega arith

pub grid_fits-bounds-m-w : goal.grid_fits-bounds-m-w
grid_fits-bounds-m-w t c = let q = laid-head c.args.level c.args.m.table.now (length c.args.m.reals.now) (length c.args.m.counts.now) c.args.w c.requires in omega arith

pub grid_fits-overflow_sub-level : goal.grid_fits-overflow_sub-level
grid_fits-overflow_sub-level t c = let d = laid-bins c.args.level c.args.m.table.now (length c.args.m.reals.now) (length c.args.m.counts.now) c.args.w c.requires c.if-m-w-eq1.false in omega (arith, d.level)

pub grid_fits-axes_grid_fits-requires : goal.grid_fits-axes_grid_fits-requires
grid_fits-axes_grid_fits-requires t c = laid-axes c.args.level c.args.m.table.now (length c.args.m.reals.now) (length c.args.m.counts.now) c.args.w c.requires c.if-m-w-eq1.true

pub grid_fits-returns-then-m-w-eq1 : goal.grid_fits-returns-then-m-w-eq1
grid_fits-returns-then-m-w-eq1 t c = c.axes_grid_fits.ensures ∙ ap sound (sym (node-axes c.args.level c.args.m.table.now c.args.m.reals.now c.args.m.counts.now c.args.w c.if-m-w-eq1.true))

pub grid_fits-bins_fit-requires : goal.grid_fits-bins_fit-requires
grid_fits-bins_fit-requires t c = let d = laid-bins c.args.level c.args.m.table.now (length c.args.m.reals.now) (length c.args.m.counts.now) c.args.w c.requires c.if-m-w-eq1.false in (omega (arith, c.decreases, d.level), d.bins)

pub grid_fits-returns : goal.grid_fits-returns
grid_fits-returns t c = c.bins_fit.ensures ∙ ap sound (sym (node-bins c.args.level c.args.m.table.now c.args.m.reals.now c.args.m.counts.now c.args.w c.if-m-w-eq1.false (laid-bins c.args.level c.args.m.table.now (length c.args.m.reals.now) (length c.args.m.counts.now) c.args.w c.requires c.if-m-w-eq1.false).level))
