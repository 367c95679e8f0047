-- A bins grid asks one level lower, so the calls end; the bins judged so far, with those left, stay the answer for all.
use mathlib.Core.Path.{◌≡◌}
use mathlib.Core.Bool.{◌&&◌}
use Prim.Native.Nat.{◌+◌, ◌-◌, ◌*◌, ◌≤◌}
use Rattle.lent.specs.Tree.{bins_in, grid_at}
use Rattle.lent.specs.Judged.{sound_bins}
use Rattle.judges.proofs.judge.+bin_fits_bins_fit_grid_fits.Given as goal

abbrev pub decreases-bin_fits : goal.decreases-bin_fits
decreases-bin_fits l = 3 * l.level + 1

abbrev pub decreases-bins_fit : goal.decreases-bins_fit
decreases-bins_fit l = 3 * l.level + 2

abbrev pub decreases-grid_fits : goal.decreases-grid_fits
decreases-grid_fits l = 3 * l.level

abbrev pub invariant-bins_fit-loop-i : goal.invariant-bins_fit-loop-i
invariant-bins_fit-loop-i l = (l.i ≤ l.n) × ((l.ok && sound_bins (bins_in (grid_at l.level l.m.table.now l.m.reals.now l.m.counts.now) l.m.table.now l.m.reals.now l.m.counts.now l.w l.i (l.n - l.i))) ≡ (l.initial.ok && sound_bins (bins_in (grid_at l.level l.m.table.now l.m.reals.now l.m.counts.now) l.m.table.now l.m.reals.now l.m.counts.now l.w 0 l.n)))
