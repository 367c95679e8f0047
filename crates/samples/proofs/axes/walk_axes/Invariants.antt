-- The coordinates drawn, followed by the walk over the axes left, are the whole walk; the places not yet written stay.
use mathlib.Core.Path.{◌≡◌}
use Prim.Native.Nat.{◌-◌, ◌≤◌}
use lib.ListN.{length, take, drop}
use Rattle.doubles.specs.Numbers.{one64}
use Rattle.model.specs.Draw.{walked}
use Rattle.lent.specs.Layout.{axes_from}
use Rattle.lent.specs.Drawn.{Standing}
use Rattle.lent.proofs.Draws.{behind}
use Rattle.samples.proofs.axes.walk_axes.Given as goal

abbrev pub invariant-loop-done : goal.invariant-loop-done
invariant-loop-done l = (l.done ≤ l.g.axes) × (length l.coordinates ≡ 8) × Standing l.g.most l.reals l.counts (l.g.axes - l.done) l.at l.place
    × (behind (take l.done l.coordinates) (walked l.evenly (axes_from l.g.most l.reals l.counts (l.g.axes - l.done) l.at l.place) l.weight l.stream) ≡ walked l.evenly (axes_from l.g.most l.reals l.counts l.g.axes l.g.reals l.g.counts) one64 l.initial.stream)
    × (drop l.done l.coordinates ≡ drop l.done l.initial.coordinates) × (length l.spots ≡ length l.initial.spots)
