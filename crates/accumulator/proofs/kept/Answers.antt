-- `is_well_formed` decides between 8 and the record itself, as in the definition.
use Rattle.doubles.proofs.Truth.{failed, passed}
use Rattle.accumulator.specs.Calls.{kept_of}
use Rattle.accumulator.proofs.kept.Goals as goal

pub returns-then-not-is_well_formed : goal.returns-then-not-is_well_formed
unfolding kept_of
returns-then-not-is_well_formed c = rw (failed c.is_well_formed.ensures c.if-not-is_well_formed.true)

pub returns : goal.returns
unfolding kept_of
returns c = rw (passed c.is_well_formed.ensures c.if-not-is_well_formed.false)
