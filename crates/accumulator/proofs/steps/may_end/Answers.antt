-- A record that is not well formed comes first; then the one after the iteration, judged without its estimates.
use mathlib.Core.Path.{◌∙◌}
use Rattle.doubles.proofs.Truth.{failed, passed}
use Rattle.accumulator.specs.Ended.{refusal_of}
use Rattle.accumulator.proofs.Counts.{counts_of_lem}
use Rattle.accumulator.proofs.steps.may_end.Goals as goal

pub returns-then-not-is_well_formed : goal.returns-then-not-is_well_formed
unfolding refusal_of
returns-then-not-is_well_formed c = rw (failed c.is_well_formed.ensures c.if-not-is_well_formed.true)

pub moved-requires : goal.moved-requires
moved-requires c = counts_of_lem _ (passed c.is_well_formed.ensures c.if-not-is_well_formed.false)

pub returns-then-not-is_well_formed-2 : goal.returns-then-not-is_well_formed-2
unfolding refusal_of
returns-then-not-is_well_formed-2 c = rw (passed c.is_well_formed.ensures c.if-not-is_well_formed.false, failed (c.is_well_formed-2.ensures ∙ c.moved.ensures) c.if-not-is_well_formed-2.true)

pub returns : goal.returns
unfolding refusal_of
returns c = rw (passed c.is_well_formed.ensures c.if-not-is_well_formed.false, passed (c.is_well_formed-2.ensures ∙ c.moved.ensures) c.if-not-is_well_formed-2.false)
