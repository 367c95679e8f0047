-- Three tests pick the definition's case, 12, 12 or 8; well-formed records have the bounded counts that `merged` asks for.
use Rattle.doubles.proofs.Truth.{failed, passed}
use Rattle.accumulator.proofs.Counts.{counts_of_lem}
use Rattle.accumulator.specs.Calls.{merge_clearing_of}
use mathlib.Core.Path.{sym}
use Rattle.accumulator.proofs.StatisticsAccumulator.merge_samples.Goals as goal

pub returns-then-not-is_well_formed : goal.returns-then-not-is_well_formed
unfolding merge_clearing_of
returns-then-not-is_well_formed c = rw (failed c.is_well_formed.ensures c.if-not-is_well_formed.true)

pub returns-then-not-is_well_formed-2 : goal.returns-then-not-is_well_formed-2
unfolding merge_clearing_of
returns-then-not-is_well_formed-2 c = rw (passed c.is_well_formed.ensures c.if-not-is_well_formed.false, failed c.is_well_formed-2.ensures c.if-not-is_well_formed-2.true)

pub merged-after-requires : goal.merged-after-requires
merged-after-requires c = (counts_of_lem _ (passed c.is_well_formed.ensures c.if-not-is_well_formed.false), counts_of_lem _ (passed c.is_well_formed-2.ensures c.if-not-is_well_formed-2.false))

pub returns-then-not-is_well_formed-3 : goal.returns-then-not-is_well_formed-3
unfolding merge_clearing_of
returns-then-not-is_well_formed-3 c = rw (passed c.is_well_formed.ensures c.if-not-is_well_formed.false, passed c.is_well_formed-2.ensures c.if-not-is_well_formed-2.false, sym c.merged-after.ensures, failed c.is_well_formed-3.ensures c.if-not-is_well_formed-3.true)

pub returns : goal.returns
unfolding merge_clearing_of
returns c = rw (passed c.is_well_formed.ensures c.if-not-is_well_formed.false, passed c.is_well_formed-2.ensures c.if-not-is_well_formed-2.false, sym c.merged-after.ensures, passed c.is_well_formed-3.ensures c.if-not-is_well_formed-3.false, c.cleared.ensures)
