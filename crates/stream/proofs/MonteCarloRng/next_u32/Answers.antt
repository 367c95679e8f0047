-- A word shifted down by 32 is its quotient by 2^32, and the stream is the one behind that word.
use Rattle.stream.specs.Calls.{drawn_of, upper_of}
use Rattle.stream.proofs.MonteCarloRng.next_u32.Goals as goal

pub returns : goal.returns
unfolding upper_of drawn_of
returns c = rw c.next_u64-word.ensures
