-- The levels left fall; what stands in the table, with what is left to write, is the whole.
use Prim.Native.Nat.{◌+◌}
use Rattle.plan.proofs.Writes.{Writing}
use Rattle.plan.proofs.writing.+write_write_all.Given as goal

abbrev pub decreases-write : goal.decreases-write
decreases-write l = l.level + l.level

abbrev pub decreases-write_all : goal.decreases-write_all
decreases-write_all l = l.level + l.level + 1

abbrev pub invariant-write_all-loop-i : goal.invariant-write_all-loop-i
invariant-write_all-loop-i l = Writing l.bytes l.level l.n l.slot l.initial.here l.initial.table l.table l.here l.i
