-- From the highest byte down, the value is the number that the bytes from `i` on spell.
use Rattle.std.proofs.Common.{◌≡◌, ◌+◌, ◌-◌}
use Rattle.plan.specs.Numbers.{number_at}
use Rattle.feed.proofs.numbers.number_at.Given as goal

abbrev pub invariant-loop-i : goal.invariant-loop-i
invariant-loop-i l = l.value ≡ number_at l.bytes (l.at + l.i) (l.many - l.i)
