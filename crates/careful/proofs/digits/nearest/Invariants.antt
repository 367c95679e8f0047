-- `nearest` stops where the judge accepts, and each step on the way comes closer to the nearest. Assumes nothing.
use Prim.Native.Nat.{◌+◌, ◌-◌, ◌^◌, ◌≤◌, ◌<◌}
use Rattle.careful.proofs.Judge.{near_of}
use Rattle.careful.proofs.digits.nearest.Given as goal

abbrev pub invariant-loop-q : goal.invariant-loop-q
invariant-loop-q l = (1 ≤ l.q) × (l.q < 2 ^ 53)

abbrev pub decreases-loop-q : goal.decreases-loop-q
decreases-loop-q l = l.q - near_of l.d + (near_of l.d - l.q)
