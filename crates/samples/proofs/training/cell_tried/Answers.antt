-- A bin's sums and counts are read, and what v makes of them is tried with those before.
use native.Mathlib.Omega.{arith}
use Rattle.lent.specs.Trained.{cell_fits}
use Rattle.lent.proofs.Trains.{zero-count-small}
use Prim.Native.Nat.{◌^◌}
use Rattle.samples.specs.Tried.{all_fit}
use Rattle.samples.proofs.Tries.{tried-next, rests-on}
use Rattle.samples.proofs.training.cell_tried.Goals as goal

pub returns : goal.returns
unfolding cell_fits all_fit
returns c = (
  rw (c.max-2.ensures, c.max.ensures, c.zero_count.ensures, c.count_at.ensures, c.count_at-waiting.ensures, c.real_at-2.ensures, c.real_at.ensures)
      (tried-next c.args.before.rest _ _ c.requires.2 c.args.before.top _ _ (2 ^ 53)),
  rests-on c.args.before.rest _ _ c.requires.2,
)

pub overflow_add-zeros : goal.overflow_add-zeros
overflow_add-zeros c = omega (arith, c.requires.1.zeros, c.count_at.ensures, c.zero_count.ensures, zero-count-small c.args.v)
