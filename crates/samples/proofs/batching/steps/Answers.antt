-- What is left from here on, by the calls one by one, is the whole; the state stays clear.
use mathlib.Core.Path.{◌≡◌, refl, ◌∙◌}
use native.Mathlib.Omega.{arith}
use lib.ListN.{length, get_or}
use lib.Ieee.{nan}
use Rattle.lent.specs.Memory.{memory}
use Rattle.lent.proofs.Batches.{Cleared, step-onward, steps-over, steps-stop, steps_next}
use Rattle.doubles.proofs.Refusals.{number_ne0}
use Rattle.samples.proofs.batching.steps.Goals as goal
use Rattle.samples.proofs.batching.steps.Goals.{In-Ok}

pub returns-in-Err : goal.returns-in-Err
returns-in-Err c = steps-stop c.args.table.now c.args.evaluations.now c.loop-done.done (memory c.loop-done.reals c.loop-done.counts) c.loop-done.stream c.loop-done.number _ _ (memory c.step.new.reals c.step.new.counts) c.loop-done-test.true c.in-Err.ensures (number_ne0 c.in-Err.why) ∙ c.loop-done.invariant.3

-- a step that was not refused leaves a clear state, and the next number does not overflow
goes_on : (c : In-Ok) → Cleared c.args.table.now (memory c.step.new.reals c.step.new.counts) c.loop-done.number
goes_on c = step-onward c.args.table.now (memory c.loop-done.reals c.loop-done.counts) c.loop-done.stream (get_or c.args.evaluations.now c.loop-done.done nan) c.loop-done.number c.loop-done.invariant.2 0 c.in-Ok.after (memory c.step.new.reals c.step.new.counts)
    (λ i. omega (arith, c.type_inv.table i)) c.in-Ok.ensures refl

pub overflow_add-number : goal.overflow_add-number
overflow_add-number c = omega (arith, (goes_on (goal.at.overflow_add-number c).In-Ok).number)

pub loop-done-preserved : goal.loop-done-preserved
loop-done-preserved c = (
  c.step.auto.reals ∙ c.loop-done.invariant.0,
  c.step.auto.counts ∙ c.loop-done.invariant.1,
  (goes_on (goal.at.loop-done-preserved c).In-Ok).clear,
  steps_next c.args.table.now c.args.evaluations.now c.loop-done.done (memory c.loop-done.reals c.loop-done.counts) c.loop-done.stream c.loop-done.number 0 c.in-Ok.after (memory c.step.new.reals c.step.new.counts) c.loop-done-test.true c.in-Ok.ensures refl
      ∙ c.loop-done.invariant.3,
)

pub returns : goal.returns
returns c = let e : length c.args.evaluations.now ≡ c.loop-done.done = omega arith in
    rw e (steps-over c.args.table.now c.args.evaluations.now c.loop-done.done (memory c.loop-done.reals c.loop-done.counts) c.loop-done.stream c.loop-done.number (omega arith) ∙ c.loop-done.invariant.3)
