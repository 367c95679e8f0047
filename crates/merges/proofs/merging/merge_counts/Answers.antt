-- `merging::merge_counts` meets its contract: two columns one after the other.
use borrow.Author.Rules.{rules}
use native.Mathlib.Omega.{arith}
use Rattle.lent.specs.Layout.{axis_counts}
use Rattle.lent.specs.Merged.{merged_counts}
use Rattle.merges.proofs.merging.merge_counts.Goals as goal

pub join-requires : goal.join-requires
unfolding axis_counts
join-requires c = (omega arith, omega arith, search rules)

pub join-requires-2 : goal.join-requires-2
unfolding axis_counts
join-requires-2 c = (omega arith, omega arith, search rules)

pub returns : goal.returns
unfolding merged_counts
returns c = search rules
