-- `recut::lengths_fit` meets its contract: at each return the decider, with the tests that led there put in.
use borrow.Author.Tests.{eq-eqb, ne_eqb, le-leb, lt-leb}
use Rattle.recut.specs.Renew.{lengths_fit}
use Rattle.recut.proofs.lengths_fit.Goals as goal

pub returns-then-n-lt1 : goal.returns-then-n-lt1
unfolding lengths_fit
returns-then-n-lt1 c = rw (lt-leb _ _ c.if-n-lt1.true)

pub returns-then-edges-n : goal.returns-then-edges-n
unfolding lengths_fit
returns-then-edges-n c = rw (le-leb _ _ c.if-n-lt1.false, ne_eqb _ _ c.if-edges-n.true)

pub returns-then-counters-n : goal.returns-then-counters-n
unfolding lengths_fit
returns-then-counters-n c = rw (le-leb _ _ c.if-n-lt1.false, eq-eqb _ _ c.if-edges-n.false, ne_eqb _ _ c.if-counters-n.true)

pub returns : goal.returns
unfolding lengths_fit
returns c = rw (le-leb _ _ c.if-n-lt1.false, eq-eqb _ _ c.if-edges-n.false, eq-eqb _ _ c.if-counters-n.false)
