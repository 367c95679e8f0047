-- The fields one by one; counts within their bound add up without overflow.
use native.Mathlib.Omega.{arith}
use Rattle.accumulator.proofs.Counts.{within}
use Rattle.accumulator.specs.Record.{with_waiting}
use Rattle.accumulator.specs.Steps.{cleared_of}
use Rattle.accumulator.specs.Update.{gathered_of}
use Rattle.accumulator.proofs.steps.gathered.Goals as goal

pub overflow_add-r : goal.overflow_add-r
overflow_add-r c = let w = within _ c.requires in omega arith

pub overflow_add-r-2 : goal.overflow_add-r-2
overflow_add-r-2 c = let w = within _ c.requires in omega arith

pub overflow_add-r-3 : goal.overflow_add-r-3
overflow_add-r-3 c = let w = within _ c.requires in omega arith

pub returns : goal.returns
unfolding gathered_of cleared_of with_waiting
returns c = rw c.cleared-r.ensures
