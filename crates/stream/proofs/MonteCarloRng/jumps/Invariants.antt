-- The jumps left, made from the stream reached, stay the jumps that were asked for.
use Rattle.std.proofs.Common.{◌≡◌, ◌-◌}
use Rattle.stream.specs.Jumps.{jumps_of}
use Rattle.stream.proofs.MonteCarloRng.jumps.Given as goal

abbrev pub invariant-loop : goal.invariant-loop
invariant-loop l = jumps_of (l.count - l.counter) l.stream ≡ jumps_of l.count l.initial.stream
