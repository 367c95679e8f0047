-- What is found so far, with the test of the words that are left, is the test of all.
use Rattle.std.proofs.Common.{◌≡◌, ◌+◌, ◌&&◌, drop}
use Rattle.answers.specs.List.{holds_of}
use Rattle.answers.proofs.holds.Given as goal

abbrev pub invariant-loop-i : goal.invariant-loop-i
invariant-loop-i l = (l.agrees && holds_of l.list (l.at + l.i) (drop l.i l.values)) ≡ holds_of l.list l.at l.values
