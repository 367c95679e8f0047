-- `recut::weights::per_count` meets its contract: the definition, with the test that was met.
use borrow.Author.Tests.{lt-ltb, le-ltb}
use Rattle.recut.specs.Weights.{per_count}
use Rattle.recut.proofs.weights.per_count.Goals as goal

pub returns-then-counter-gt0 : goal.returns-then-counter-gt0
unfolding per_count
returns-then-counter-gt0 c = rw (lt-ltb _ _ c.if-counter-gt0.true, c.count.ensures, c.norm-size.ensures)

pub returns : goal.returns
unfolding per_count
returns c = rw (le-ltb _ _ c.if-counter-gt0.false) c.norm-size.ensures
