-- `laying::forget` meets its contract: four columns one after the other.
use native.Mathlib.Omega.{arith}
use Rattle.lent.specs.Layout.{axis_reals, axis_counts}
use Rattle.lent.specs.Laid.{forgotten_at, cleared_reals, cleared_counts}
use Rattle.ground.proofs.laying.forget.Goals as goal

pub clear-requires : goal.clear-requires
unfolding axis_reals axis_counts
clear-requires c = omega arith

pub clear-requires-2 : goal.clear-requires-2
unfolding axis_reals axis_counts
clear-requires-2 c = omega arith

pub clear-requires-3 : goal.clear-requires-3
unfolding axis_reals axis_counts
clear-requires-3 c = omega arith

pub clear-requires-4 : goal.clear-requires-4
unfolding axis_reals axis_counts
clear-requires-4 c = omega arith

pub returns : goal.returns
unfolding forgotten_at cleared_reals cleared_counts
returns c = rw (c.clear-3.ensures, c.clear-2.ensures, c.clear.ensures, c.clear-4.ensures)
