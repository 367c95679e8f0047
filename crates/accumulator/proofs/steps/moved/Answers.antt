-- No estimate is judged, so the record before them is judged as the one after them.
use native.Mathlib.Omega.{arith}
use borrow.Author.Tests.{lt-leb, le-leb}
use Rattle.accumulator.proofs.Counts.{within}
use Rattle.accumulator.proofs.Processed.{judged-before}
use Rattle.accumulator.specs.Record.{raised}
use Rattle.accumulator.specs.Update.{enough, updated_of}
use Rattle.accumulator.proofs.steps.moved.Goals as goal

pub overflow_add-r : goal.overflow_add-r
overflow_add-r c = let w = within _ c.requires in omega arith

pub returns-then-a-lt2 : goal.returns-then-a-lt2
unfolding updated_of enough raised
returns-then-a-lt2 c = rw (lt-leb _ _ c.if-a-lt2.true)

pub returns : goal.returns
unfolding updated_of enough
returns c = rw (le-leb _ _ c.if-a-lt2.false, c.gathered.ensures) (judged-before _ _)
