-- For one shape the definition's first test falls away; the two that are left come in its order, 11 before 8.
use Rattle.lent.specs.Matched.{obstacle}
use Rattle.merges.proofs.matching.found_of.Goals as goal

pub returns-then-not-equal : goal.returns-then-not-equal
unfolding obstacle
returns-then-not-equal c = rw c.if-not-equal.true

pub returns-then-not-fits : goal.returns-then-not-fits
unfolding obstacle
returns-then-not-fits c = rw (c.if-not-equal.false, c.if-not-fits.true)

pub returns : goal.returns
unfolding obstacle
returns c = rw (c.if-not-equal.false, c.if-not-fits.false)
