-- One comparison, the definition's: the second where it is above the first, else the first.
use Rattle.recut.specs.Chances.{higher}
use Rattle.recut.proofs.higher_of.Goals as goal

pub returns-then-top-p : goal.returns-then-top-p
unfolding higher
returns-then-top-p c = rw c.if-top-p.true

pub returns : goal.returns
unfolding higher
returns c = rw c.if-top-p.false
