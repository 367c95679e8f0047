-- The refusals in their order; where none before it holds, the record after the sample is at fault.
use borrow.Author.Tests.{lt-leb, le-leb}
use Rattle.doubles.proofs.Truth.{failed, passed}
use Rattle.accumulator.specs.Calls.{kept_of, numbered, add_sample_of}
use Rattle.accumulator.proofs.sample_refusal.Goals as goal

pub returns-then-not-is_well_formed : goal.returns-then-not-is_well_formed
unfolding add_sample_of
returns-then-not-is_well_formed c = rw (failed c.is_well_formed.ensures c.if-not-is_well_formed.true)

pub returns-then-number-gt9007199254740992 : goal.returns-then-number-gt9007199254740992
unfolding add_sample_of numbered
returns-then-number-gt9007199254740992 c = rw (passed c.is_well_formed.ensures c.if-not-is_well_formed.false, lt-leb _ _ c.if-number-gt9007199254740992.true)

pub returns-then-not-finite : goal.returns-then-not-finite
unfolding add_sample_of numbered
returns-then-not-finite c = rw (passed c.is_well_formed.ensures c.if-not-is_well_formed.false, le-leb _ _ c.if-number-gt9007199254740992.false, failed c.finite.ensures c.if-not-finite.true)

pub returns : goal.returns
unfolding add_sample_of kept_of numbered
returns c = let number = le-leb _ _ c.if-number-gt9007199254740992.false in
    let after = rw number at c.requires in
    rw (passed c.is_well_formed.ensures c.if-not-is_well_formed.false, number, passed c.finite.ensures c.if-not-finite.false, after)
