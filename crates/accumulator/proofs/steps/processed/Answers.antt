-- What was gathered, and the course and the estimates of the iteration on it, are the definition's record.
use Rattle.accumulator.proofs.Processed.{steps-are}
use Rattle.accumulator.proofs.steps.processed.Goals as goal

pub gathered-r-requires : goal.gathered-r-requires
gathered-r-requires c = c.requires.0

pub returns : goal.returns
returns c = steps-are _ _ _ _
    c.gathered-r.ensures
    (rw (c.course_of.ensures, c.requires.1) at c.iterate-e.ensures)
