-- A record that fails `is_well_formed` gets 12; for any other `copied` has the definition's result.
use Rattle.doubles.proofs.Truth.{failed, passed}
use Rattle.accumulator.specs.Calls.{copy_of}
use Rattle.accumulator.proofs.StatisticsAccumulator.shallow_copy.Goals as goal

pub returns-then-not-is_well_formed : goal.returns-then-not-is_well_formed
unfolding copy_of
returns-then-not-is_well_formed c = rw (failed c.is_well_formed.ensures c.if-not-is_well_formed.true)

pub returns : goal.returns
unfolding copy_of
returns c = rw (passed c.is_well_formed.ensures c.if-not-is_well_formed.false, c.copied.ensures)
