-- The edges written, with the even ones still to come, are all of them; each write makes the next.
use mathlib.Core.Path.{◌≡◌}
use mathlib.Core.List.{◌++◌}
use Prim.Native.Nat.{◌-◌}
use lib.ListN.{length, take}
use Rattle.axis.specs.Edges.{bins_of, even_from}
use Rattle.axis.proofs.edges.lay_even.Given as goal

abbrev pub invariant-loop-i : goal.invariant-loop-i
invariant-loop-i l = take l.i l.room ++ even_from (length l.initial.room - l.i) l.i (bins_of l.initial.room) ≡ even_from (length l.initial.room) 0 (bins_of l.initial.room)
