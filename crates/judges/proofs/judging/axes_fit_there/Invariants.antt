-- The axes judged so far, with those from `at` and `place` on, stay the answer for all; what room is left holds the rest.
use mathlib.Core.Path.{◌≡◌}
use mathlib.Core.Bool.{◌&&◌}
use mathlib.Core.List.{◌∷◌}
use Prim.Native.Nat.{◌+◌, ◌-◌, ◌*◌, ◌≤◌}
use lib.ListN.{length}
use Rattle.lent.specs.Judged.{axes_fit}
use Rattle.judges.proofs.judging.axes_fit_there.Given as goal

abbrev pub invariant-loop : goal.invariant-loop
invariant-loop l = (l.at + (l.g.axes - l.counter) * (6 * l.g.most + 1) ≤ length l.reals) × (l.place + (l.g.axes - l.counter) * (3 * l.g.most + 2) ≤ length l.counts)
    × ((l.ok && axes_fit (l.bins ∷ l.values) l.g.most l.reals l.counts (l.g.axes - l.counter) l.at l.place) ≡ axes_fit (l.bins ∷ l.values) l.g.most l.reals l.counts l.g.axes l.g.reals l.g.counts)
