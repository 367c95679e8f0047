-- The bins left to lay on memory now are all of them on memory behind the own record; each turn lays one.
use mathlib.Core.Path.{◌≡◌}
use Prim.Native.Nat.{◌-◌, ◌≤◌}
use lib.ListN.{length}
use Rattle.lent.specs.Memory.{memory}
use Rattle.lent.specs.Founded.{laid_bins}
use Rattle.quiet.proofs.founding.lay_own.Given as goal

abbrev pub invariant-loop-i : goal.invariant-loop-i
invariant-loop-i l = (l.i ≤ l.n) × (length l.reals ≡ length l.initial.reals) × (length l.counts ≡ length l.initial.counts) × (laid_bins l.table l.w l.i (l.n - l.i) (memory l.reals l.counts) ≡ laid_bins l.table l.w 0 l.n (memory l.initial.reals l.initial.counts))
