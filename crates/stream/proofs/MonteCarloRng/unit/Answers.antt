-- One word is drawn; `unit_of` makes its number, and the stream behind it is the definition's step.
use Rattle.stream.specs.Calls.{drawn_of, unit_drawn_of}
use Rattle.stream.proofs.MonteCarloRng.unit.Goals as goal

pub returns : goal.returns
unfolding unit_drawn_of drawn_of
returns c = rw (c.unit_of.ensures, c.next_u64-word.ensures)
