-- Both records are tested before they are merged, so their counts are bounded; then `kept` makes the definition's last choice.
use Rattle.doubles.proofs.Truth.{failed, passed}
use Rattle.accumulator.proofs.Counts.{counts_of_lem}
use Rattle.accumulator.specs.Calls.{merge_of}
use mathlib.Core.Path.{sym}
use Rattle.accumulator.proofs.StatisticsAccumulator.merge_samples_no_reset.Goals as goal

pub returns-then-not-is_well_formed : goal.returns-then-not-is_well_formed
unfolding merge_of
returns-then-not-is_well_formed c = rw (failed c.is_well_formed.ensures c.if-not-is_well_formed.true)

pub returns-then-not-is_well_formed-2 : goal.returns-then-not-is_well_formed-2
unfolding merge_of
returns-then-not-is_well_formed-2 c = rw (passed c.is_well_formed.ensures c.if-not-is_well_formed.false, failed c.is_well_formed-2.ensures c.if-not-is_well_formed-2.true)

pub merged-requires : goal.merged-requires
merged-requires c = (counts_of_lem _ (passed c.is_well_formed.ensures c.if-not-is_well_formed.false), counts_of_lem _ (passed c.is_well_formed-2.ensures c.if-not-is_well_formed-2.false))

pub returns : goal.returns
unfolding merge_of
returns c = rw (passed c.is_well_formed.ensures c.if-not-is_well_formed.false, passed c.is_well_formed-2.ensures c.if-not-is_well_formed-2.false, sym c.merged.ensures) c.kept.ensures
