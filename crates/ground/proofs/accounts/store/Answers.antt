-- The two lists are the record's fields in the definition's order, and each is set as one run.
use mathlib.Core.Path.{ap₂}
use Rattle.lent.specs.Memory.{memory, stored, reals_of, counts_of}
use Rattle.ground.proofs.accounts.store.Goals as goal

pub returns : goal.returns
unfolding stored reals_of counts_of
returns c = ap₂ memory c.set.ensures c.set-2.ensures
