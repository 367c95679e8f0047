-- Four states, each advanced from the one before, and the word of each, as `seeded_of` has them.
use Rattle.stream.specs.SplitMix.{seeded_of}
use Rattle.stream.proofs.MonteCarloRng.seed_from_u64.Goals as goal

pub returns : goal.returns
unfolding seeded_of
returns c = rw (c.mix-4.ensures, c.mix-3.ensures, c.mix-2.ensures, c.mix.ensures, c.advance-x3.ensures, c.advance-x2.ensures, c.advance-x1.ensures, c.advance-x0.ensures)
