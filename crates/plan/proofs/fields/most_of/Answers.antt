-- The scan of the whole is the scan of what is left, with the largest value so far.
use mathlib.Core.Path.{◌∙◌}
use native.Mathlib.Omega.{arith}
use Rattle.doubles.proofs.Truth.{failed, passed}
use Rattle.plan.proofs.Ranges.{larger-max}
use Rattle.plan.proofs.Runs.{scanning-all, scanning-out, scanning-next}
use Rattle.plan.proofs.fields.most_of.Goals as goal

pub returns-then-not-is_within : goal.returns-then-not-is_within
returns-then-not-is_within g c f apart at h =
    scanning-out (c.loop-i.invariant f apart at h) c.loop-i-test.true (h _ _ c.loop-i-test.true c.value-v.ensures) (failed c.is_within.ensures c.if-not-is_within.true)

pub loop-i-preserved : goal.loop-i-preserved
loop-i-preserved g c f apart at h =
    scanning-next (c.loop-i.invariant f apart at h) c.loop-i-test.true (h _ _ c.loop-i-test.true c.value-v.ensures) (passed c.is_within.ensures c.if-not-is_within.false)
    (c.max-most.ensures ∙ larger-max _ _) (omega arith)

pub returns : goal.returns
returns g c f apart at h = scanning-all (c.loop-i.invariant f apart at h) c.loop-i-test.false
