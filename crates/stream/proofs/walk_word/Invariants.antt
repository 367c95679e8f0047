-- The walk over the bits from `bit` on, from where it stands, stays the walk over all 64.
use Rattle.std.proofs.Common.{◌≡◌, ◌-◌}
use Rattle.stream.specs.Jumps.{walk_bits}
use Rattle.stream.proofs.walk_word.Given as goal

abbrev pub invariant-loop-bit : goal.invariant-loop-bit
invariant-loop-bit l = walk_bits l.word (64 - l.bit) l.bit l.at ≡ walk_bits l.word 64 0 l.initial.at
