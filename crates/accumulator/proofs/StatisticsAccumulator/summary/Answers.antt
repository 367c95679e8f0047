-- Behind the test for 12 each field is the record's own, and flat is the definition's test on the error.
use Rattle.doubles.proofs.Truth.{failed, passed}
use Rattle.accumulator.specs.Calls.{summary_of, summarize_of}
use Rattle.accumulator.proofs.StatisticsAccumulator.summary.Goals as goal

pub returns-then-not-is_well_formed : goal.returns-then-not-is_well_formed
unfolding summarize_of
returns-then-not-is_well_formed c = rw (failed c.is_well_formed.ensures c.if-not-is_well_formed.true)

pub returns : goal.returns
unfolding summarize_of summary_of
returns c = rw (passed c.is_well_formed.ensures c.if-not-is_well_formed.false)
