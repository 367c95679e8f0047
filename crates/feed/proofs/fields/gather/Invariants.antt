-- What is gathered, with the row from here on behind it, is the whole row.
use Rattle.std.proofs.Common.{◌≡◌, ◌-◌, ◌≤◌, ◌++◌, length, take}
use Rattle.feed.specs.Fields.{row_from}
use Rattle.feed.proofs.fields.gather.Given as goal

abbrev pub invariant-loop-many : goal.invariant-loop-many
invariant-loop-many l = (l.at ≤ length l.bytes)
    × (take l.many l.evaluations ++ row_from l.bytes l.at (length l.initial.evaluations - l.many) ≡ row_from l.bytes 0 (length l.initial.evaluations))
