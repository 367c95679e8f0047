-- The bins that are left to judge, with what was found before, and those that are written with those that are left.
use mathlib.Core.Path.{◌≡◌}
use mathlib.Core.Bool.{◌&&◌}
use mathlib.Core.List.{◌++◌}
use Prim.Native.Nat.{◌≤◌}
use lib.ListN.{length, take}
use Rattle.lent.specs.Memory.{memory}
use Rattle.lent.specs.Trained.{cells_fit}
use Rattle.lent.proofs.Spots.{spots_left, Left}
use Rattle.samples.specs.Tried.{all_fit, Rests}
use Rattle.samples.proofs.training.axes_fit.Given as goal

abbrev pub invariant-loop-done : goal.invariant-loop-done
invariant-loop-done l = (l.done ≤ l.g.axes) × Left l.g.most l.g.axes l.xs l.done l.at l.place (memory l.reals l.counts)
    × ((all_fit l.tried && cells_fit l.g.most l.v (spots_left l.g.most l.g.axes l.xs l.done l.at l.place (memory l.reals l.counts)) l.at l.place (memory l.reals l.counts))
    ≡ cells_fit l.g.most l.v (spots_left l.g.most l.g.axes l.xs 0 l.g.reals l.g.counts (memory l.reals l.counts)) l.g.reals l.g.counts (memory l.reals l.counts))
    × (length l.spots ≡ 8)
    × Rests l.tried
    × (take l.done l.spots ++ spots_left l.g.most l.g.axes l.xs l.done l.at l.place (memory l.reals l.counts) ≡ spots_left l.g.most l.g.axes l.xs 0 l.g.reals l.g.counts (memory l.reals l.counts))
