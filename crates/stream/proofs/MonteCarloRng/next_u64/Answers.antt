-- The same formulas as in the definition: std's product that wraps is `times`, its rotation `rotated`.
use Rattle.stream.specs.Words.{times, shifted_up, shifted_down, rotated}
use Rattle.stream.specs.Xoshiro.{word_of, step_of}
use Rattle.stream.specs.Calls.{drawn_of}
use Rattle.stream.proofs.MonteCarloRng.next_u64.Goals as goal

pub returns : goal.returns
unfolding drawn_of word_of step_of times shifted_up shifted_down rotated
returns c = rw (c.rotate_left.ensures, c.rotate_left-value.ensures)
