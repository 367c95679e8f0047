-- Fewer than two waiting: only the iterations go up, which their bound allows; else `processed` has the definition's record.
use native.Mathlib.Omega.{arith}
use Rattle.accumulator.proofs.Counts.{within}
use borrow.Author.Tests.{lt-leb, le-leb}
use Rattle.accumulator.specs.Record.{raised}
use Rattle.accumulator.specs.Update.{enough, updated_of}
use Rattle.accumulator.proofs.steps.updated.Goals as goal

pub overflow_add-r : goal.overflow_add-r
overflow_add-r c = let w = within _ c.requires.0 in omega arith

pub returns-then-a-lt2 : goal.returns-then-a-lt2
unfolding updated_of enough raised
returns-then-a-lt2 c = rw (lt-leb _ _ c.if-a-lt2.true)

pub processed-requires : goal.processed-requires
unfolding enough
processed-requires c = (c.requires.0, c.requires.1 (le-leb _ _ c.if-a-lt2.false))

pub returns : goal.returns
unfolding updated_of enough
returns c = rw (le-leb _ _ c.if-a-lt2.false) c.processed.ensures
