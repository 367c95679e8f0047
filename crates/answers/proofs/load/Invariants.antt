-- The bytes put so far, with those that are left behind them, are all.
use Rattle.std.proofs.Common.{◌≡◌, ◌-◌, ◌++◌, length, take}
use Rattle.answers.specs.List.{bytes_from}
use Rattle.answers.proofs.load.Given as goal

abbrev pub invariant-loop-i : goal.invariant-loop-i
invariant-loop-i l = take l.i l.room ++ bytes_from l.list l.at l.i (length l.initial.room - l.i) ≡ bytes_from l.list l.at 0 (length l.initial.room)
