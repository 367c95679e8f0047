-- `recut::renew` meets its contract: each return by its law; lengths that fit are what the stages ask.
use lib.ListN.{length}
use Rattle.doubles.proofs.Truth.{passed}
use Rattle.recut.specs.Renew.{paper_renewed}
use Rattle.recut.proofs.Stages.{renew-10, renew-on, Fitting, fitting}
use borrow.Author.Rules.{rules}
use native.Mathlib.Omega.{arith}
use Rattle.recut.proofs.renew.Goals as goal
use Rattle.recut.proofs.renew.Goals.{Else-not-lengths_fit}

fit : (c : Else-not-lengths_fit) → Fitting c.args.edges.now c.args.importances.now c.args.counters.now (length c.args.room.now)
fit c = fitting _ _ _ _ (passed c.lengths_fit.ensures c.if-not-lengths_fit.false)

pub returns-then-not-lengths_fit : goal.returns-then-not-lengths_fit
unfolding paper_renewed
returns-then-not-lengths_fit c = search (renew-10, rules)

pub normalise-requires : goal.normalise-requires
normalise-requires c = (fit (goal.at.normalise-requires c).Else-not-lengths_fit).counters

pub from_divided-requires : goal.from_divided-requires
from_divided-requires c = let f = fit (goal.at.from_divided-requires c).Else-not-lengths_fit in
    omega (arith, c.normalise.auto.importances)

pub returns : goal.returns
returns c = search (renew-on, rules)
