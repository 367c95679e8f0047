-- The record's own estimates, or those of the iteration.
use borrow.Author.Tests.{lt-leb, le-leb}
use Rattle.accumulator.proofs.Processed.{estimates-are}
use Rattle.accumulator.specs.Record.{raised}
use Rattle.accumulator.specs.Update.{enough, updated_of}
use Rattle.accumulator.specs.Calls.{estimates_of}
use Rattle.accumulator.proofs.steps.live.Goals as goal

pub returns-then-a-lt2 : goal.returns-then-a-lt2
unfolding estimates_of updated_of enough raised
returns-then-a-lt2 c = rw (lt-leb _ _ c.if-a-lt2.true)

pub returns : goal.returns
unfolding updated_of enough
returns c = let e = le-leb _ _ c.if-a-lt2.false in
    rw e (estimates-are _ _ (rw (c.course_of.ensures, c.requires e) at c.iterate-e.ensures))
