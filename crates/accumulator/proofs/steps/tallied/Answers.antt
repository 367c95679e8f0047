-- A fresh record is zero where nothing was put.
use Rattle.accumulator.specs.Record.{fresh}
use Rattle.accumulator.specs.Ended.{tallied_of}
use Rattle.accumulator.proofs.steps.tallied.Goals as goal

pub returns : goal.returns
unfolding tallied_of fresh
returns c = rw c.new-r.ensures
