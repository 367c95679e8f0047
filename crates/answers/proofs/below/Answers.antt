-- The test is the definition's.
use Rattle.std.proofs.Common.{le-ltb, lt-ltb}
use Rattle.answers.specs.List.{below_of}
use Rattle.answers.proofs.below.Goals as goal

pub returns-then-x-bound-clause-value : goal.returns-then-x-bound-clause-value
unfolding below_of
returns-then-x-bound-clause-value c = rw (← c.word-x.ensures, lt-ltb _ _ c.if-x-bound.true)

pub returns-else-x-bound-clause-value : goal.returns-else-x-bound-clause-value
unfolding below_of
returns-else-x-bound-clause-value c = rw (← c.word-x.ensures, le-ltb _ _ c.if-x-bound.false)
