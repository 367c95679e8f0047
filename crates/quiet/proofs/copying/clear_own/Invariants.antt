-- What is left to clear in memory as it is now makes what all of it makes of memory at entry.
use mathlib.Core.Path.{◌≡◌}
use Prim.Native.Nat.{◌-◌, ◌≤◌}
use lib.ListN.{length}
use Rattle.lent.specs.Memory.{memory}
use Rattle.lent.specs.Cleared.{cleared_from}
use Rattle.quiet.proofs.copying.clear_own.Given as goal

abbrev pub invariant-loop-i : goal.invariant-loop-i
invariant-loop-i l = (l.i ≤ l.n) × (length l.reals ≡ length l.initial.reals) × (length l.counts ≡ length l.initial.counts) × (cleared_from l.table l.w l.i (l.n - l.i) (memory l.reals l.counts) ≡ cleared_from l.table l.w 0 l.n (memory l.initial.reals l.initial.counts))
