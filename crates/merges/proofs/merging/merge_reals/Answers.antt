-- `merging::merge_reals` meets its contract: four columns one after the other.
use borrow.Author.Rules.{rules}
use native.Mathlib.Omega.{arith}
use Rattle.lent.specs.Layout.{axis_reals}
use Rattle.recut.specs.Chances.{higher}
use Rattle.lent.specs.Merged.{merged_reals, higher_of}
use Rattle.merges.proofs.merging.merge_reals.Goals as goal

pub join-requires : goal.join-requires
unfolding axis_reals
join-requires c = (omega arith, omega arith, search rules)

pub join-requires-2 : goal.join-requires-2
unfolding axis_reals
join-requires-2 c = (omega arith, omega arith, search rules)

pub join-requires-3 : goal.join-requires-3
unfolding axis_reals
join-requires-3 c = (omega arith, omega arith, search rules)

pub join-requires-4 : goal.join-requires-4
unfolding axis_reals
join-requires-4 c = (omega arith, omega arith, search rules)

pub returns : goal.returns
unfolding merged_reals higher higher_of
returns c = search rules
