-- What is stored and what is left to store are the whole run.
use native.Mathlib.Omega.{arith}
use Rattle.plan.specs.Numbers.{values_at}
use Rattle.plan.proofs.Runs.{copying-all, copying-next}
use Rattle.plan.proofs.writing.put_values.Goals as goal

pub loop-i-preserved : goal.loop-i-preserved
loop-i-preserved c = copying-next c.loop-i.invariant c.loop-i-test.true c.pair_at-value.ensures.0 (omega arith)

pub returns : goal.returns
unfolding values_at
returns c = copying-all c.loop-i.invariant c.loop-i-test.false
