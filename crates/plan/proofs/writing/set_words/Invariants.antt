-- `writing::set_words` meets its contract: what is written and what is still to come are the whole run.
use mathlib.Core.Path.{◌≡◌}
use Prim.Native.Nat.{◌+◌, ◌≤◌}
use lib.ListN.{length, drop}
use lib.Seq.{sets}
use Rattle.plan.proofs.writing.set_words.Given as goal

abbrev pub invariant-loop-i : goal.invariant-loop-i
invariant-loop-i l = (l.i ≤ length l.table) × (length l.table ≡ length l.initial.table) × (sets l.table (l.at + l.i) (drop l.i l.part) ≡ sets l.initial.table l.at l.part)
