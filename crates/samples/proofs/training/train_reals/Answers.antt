-- Two sums are read, then four cells of the bin written, in the definition's order.
use mathlib.Core.Path.{refl}
use native.Mathlib.Omega.{arith}
use lib.ListN.{length-set}
use Rattle.lent.specs.Trained.{trained_at}
use Rattle.samples.proofs.training.train_reals.Goals as goal

pub bounds-reals-squares_at-2 : goal.bounds-reals-squares_at-2
bounds-reals-squares_at-2 c = simp length-set (omega arith)

pub bounds-reals-r : goal.bounds-reals-r
bounds-reals-r c = simp length-set (omega arith)

pub bounds-reals-r-2 : goal.bounds-reals-r-2
bounds-reals-r-2 c = simp length-set (omega arith)

pub returns : goal.returns
unfolding trained_at
returns c = refl
