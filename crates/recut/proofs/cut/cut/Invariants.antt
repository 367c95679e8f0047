-- The edges cut, and those that the rest of the room will have, stay the whole.
use mathlib.Core.Path.{◌≡◌}
use mathlib.Core.List.{◌++◌}
use Prim.Native.Nat.{◌<◌}
use lib.ListN.{length, take, drop}
use Rattle.recut.specs.Cut.{edges_from}
use Rattle.recut.proofs.cut.cut.Given as goal

abbrev pub invariant-loop-i : goal.invariant-loop-i
invariant-loop-i l = (l.s.bin < length l.weights)
    × (take l.i l.room ++ edges_from l.edges l.weights l.step l.target l.s (length (drop l.i l.room)) ≡ take 1 l.initial.room ++ edges_from l.edges l.weights l.step l.initial.target l.initial.s (length (drop 1 l.initial.room)))
