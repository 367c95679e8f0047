-- A number above 4,095 is refused with 3, as in the definition; else the seeded stream makes that many jumps.
use Rattle.std.proofs.Common.{le-ltb, lt-ltb}
use Rattle.stream.specs.Calls.{new_of}
use Rattle.stream.proofs.MonteCarloRng.new.Goals as goal

pub returns-then-number-gt4095 : goal.returns-then-number-gt4095
unfolding new_of
returns-then-number-gt4095 c = rw (lt-ltb _ _ c.if-number-gt4095.true)

pub returns : goal.returns
unfolding new_of
returns c = rw (le-ltb _ _ c.if-number-gt4095.false, c.jumps.ensures, c.seed_from_u64.ensures)
