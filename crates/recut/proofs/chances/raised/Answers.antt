-- The test is that of `raised_to`: below the least it is the least, else the number itself.
use Rattle.recut.specs.Chances.{raised_to}
use Rattle.recut.proofs.chances.raised.Goals as goal

pub returns-then-p-least : goal.returns-then-p-least
unfolding raised_to
returns-then-p-least c = rw c.if-p-least.true

pub returns : goal.returns
unfolding raised_to
returns c = rw c.if-p-least.false
