-- What is accepted was judged on the record after it, and what is refused has its reason looked up.
use mathlib.Core.Path.{sym}
use Rattle.doubles.proofs.Truth.{failed, passed}
use Rattle.accumulator.specs.Calls.{add_sample_of}
use Rattle.accumulator.proofs.Accepted.{accepted, miscounted}
use Rattle.accumulator.proofs.StatisticsAccumulator.add_sample.Goals as goal

pub returns-then-not-has_bounded_counts : goal.returns-then-not-has_bounded_counts
unfolding add_sample_of
returns-then-not-has_bounded_counts c = rw (miscounted _ (failed c.has_bounded_counts.ensures c.if-not-has_bounded_counts.true))

pub added-after-requires : goal.added-after-requires
added-after-requires c = passed c.has_bounded_counts.ensures c.if-not-has_bounded_counts.false

pub sample_refusal-requires : goal.sample_refusal-requires
sample_refusal-requires c = rw (sym c.added-after.ensures) (failed c.is_accepted.ensures c.if-not-is_accepted.true)

pub returns-then-not-is_accepted : goal.returns-then-not-is_accepted
returns-then-not-is_accepted c = c.sample_refusal.ensures

pub returns : goal.returns
returns c = let after = c.added-after.ensures in
    let judged = rw after at (passed c.is_accepted.ensures c.if-not-is_accepted.false) in
    rw after (sym (accepted _ _ _ (passed c.has_bounded_counts.ensures c.if-not-has_bounded_counts.false) judged))
