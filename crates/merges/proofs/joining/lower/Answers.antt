-- `joining::lower` meets its contract: the two cases of the definition.
use Rattle.lent.specs.Merged.{lower_of}
use Rattle.merges.proofs.joining.lower.Goals as goal

pub returns-then-b-a : goal.returns-then-b-a
unfolding lower_of
returns-then-b-a c = rw c.if-b-a.true

pub returns : goal.returns
unfolding lower_of
returns c = rw c.if-b-a.false
