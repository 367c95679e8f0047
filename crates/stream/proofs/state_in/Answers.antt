-- `state_in` reads its four words in order.
use Rattle.stream.specs.Calls.{state_in}
use Rattle.stream.proofs.state_in.Goals as goal

pub returns : goal.returns
unfolding state_in
returns c = rw (c.word_at-4.ensures, c.word_at-3.ensures, c.word_at-2.ensures, c.word_at.ensures)
