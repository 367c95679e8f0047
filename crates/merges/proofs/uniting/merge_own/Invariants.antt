-- What is left to merge on the memory now is all of it on the memory after the grid's own accumulator.
use mathlib.Core.Path.{◌≡◌}
use Prim.Native.Nat.{◌-◌}
use lib.ListN.{length}
use Rattle.lent.specs.Memory.{memory}
use Rattle.lent.specs.United.{united_bins}
use Rattle.merges.proofs.uniting.merge_own.Given as goal

abbrev pub invariant-loop-i : goal.invariant-loop-i
invariant-loop-i l = (length l.reals ≡ length l.initial.reals) × (length l.counts ≡ length l.initial.counts) × (united_bins l.table l.o.table.now (memory l.o.reals.now l.o.counts.now) l.w l.v l.i (l.n - l.i) (memory l.reals l.counts) ≡ united_bins l.table l.o.table.now (memory l.o.reals.now l.o.counts.now) l.w l.v 0 l.n (memory l.initial.reals l.initial.counts))
