-- Two counts are read and written, each within its bound before.
use native.Mathlib.Omega.{arith}
use lib.ListN.{length-set}
use Rattle.lent.specs.Trained.{trained_at}
use Rattle.lent.proofs.Trains.{zero-count-small}
use Rattle.samples.proofs.training.train_counts.Goals as goal

pub bounds-counts-zeros_at-2 : goal.bounds-counts-zeros_at-2
bounds-counts-zeros_at-2 c = simp length-set (omega arith)

pub returns : goal.returns
unfolding trained_at
returns c = rw c.zero_count.ensures

pub overflow_add-zeros : goal.overflow_add-zeros
overflow_add-zeros c = omega (arith, c.requires.4, c.zero_count.ensures, zero-count-small c.args.v)
