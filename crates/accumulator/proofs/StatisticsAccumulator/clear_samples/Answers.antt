-- Not well formed is refused with 12, the definition's first case; else the record is what `cleared` gives.
use Rattle.doubles.proofs.Truth.{failed, passed}
use Rattle.accumulator.specs.Calls.{clear_of}
use Rattle.accumulator.proofs.StatisticsAccumulator.clear_samples.Goals as goal

pub returns-then-not-is_well_formed : goal.returns-then-not-is_well_formed
unfolding clear_of
returns-then-not-is_well_formed c = rw (failed c.is_well_formed.ensures c.if-not-is_well_formed.true)

pub returns : goal.returns
unfolding clear_of
returns c = rw (passed c.is_well_formed.ensures c.if-not-is_well_formed.false, c.cleared.ensures)
