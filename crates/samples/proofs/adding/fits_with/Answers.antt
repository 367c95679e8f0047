-- A well-formed record with a value added is well formed exactly where what changes may be kept.
use mathlib.Core.Path.{sym}
use native.Mathlib.Omega.{arith}
use Rattle.accumulator.proofs.Counts.{within, counts_of_lem}
use Rattle.lent.specs.Memory.{record_at}
use Rattle.lent.proofs.Trains.{zero-count-small}
use Rattle.lent.proofs.Adds.{added-fits}
use Rattle.samples.proofs.adding.fits_with.Goals as goal

pub real_at-requires : goal.real_at-requires
real_at-requires c = omega arith

pub overflow_add-r : goal.overflow_add-r
overflow_add-r c = omega arith

pub real_at-requires-2 : goal.real_at-requires-2
real_at-requires-2 c = omega arith

pub count_at-waiting-requires : goal.count_at-waiting-requires
count_at-waiting-requires c = omega arith

pub overflow_add-waiting : goal.overflow_add-waiting
unfolding record_at
overflow_add-waiting c = omega (arith, (within _ (counts_of_lem _ c.requires.2)).waiting, c.count_at-waiting.ensures)

pub overflow_add-c : goal.overflow_add-c
overflow_add-c c = omega arith

pub count_at-requires : goal.count_at-requires
count_at-requires c = omega arith

pub overflow_add-zeros : goal.overflow_add-zeros
unfolding record_at
overflow_add-zeros c = omega (arith, (within _ (counts_of_lem _ c.requires.2)).waiting_zeros, c.count_at.ensures, c.zero_count.ensures, zero-count-small c.args.v)

pub returns : goal.returns
unfolding record_at
returns c = rw (c.are_sums_finite.ensures, c.zero_count.ensures, c.count_at.ensures, c.count_at-waiting.ensures, c.real_at-2.ensures, c.real_at.ensures)
    (sym (added-fits (record_at c.args.reals.now c.args.counts.now c.args.r c.args.c) c.args.v c.args.number c.requires.2))
