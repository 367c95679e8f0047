-- Field by field what is added; a well-formed record's counts have room for one more.
use native.Mathlib.Omega.{arith}
use Rattle.accumulator.specs.Record.{with_waiting, with_extremes}
use Rattle.accumulator.specs.Steps.{added_of}
use Rattle.accumulator.proofs.Counts.{within, counts_of_lem}
use Rattle.lent.specs.Memory.{record_at}
use Rattle.lent.specs.Absorbed.{gain_of, gain_at}
use Rattle.lent.proofs.Trains.{zero-count-small}
use Rattle.samples.proofs.adding.gain_at.Goals as goal

pub overflow_add-r : goal.overflow_add-r
overflow_add-r c = omega arith

pub real_at-highest-requires : goal.real_at-highest-requires
real_at-highest-requires c = omega arith

pub overflow_add-r-2 : goal.overflow_add-r-2
overflow_add-r-2 c = omega arith

pub real_at-lowest-requires : goal.real_at-lowest-requires
real_at-lowest-requires c = omega arith

pub overflow_add-c : goal.overflow_add-c
overflow_add-c c = omega arith

pub count_at-highest_number-requires : goal.count_at-highest_number-requires
count_at-highest_number-requires c = omega arith

pub overflow_add-c-2 : goal.overflow_add-c-2
overflow_add-c-2 c = omega arith

pub count_at-lowest_number-requires : goal.count_at-lowest_number-requires
count_at-lowest_number-requires c = omega arith

pub real_at-requires : goal.real_at-requires
real_at-requires c = omega arith

pub overflow_add-r-3 : goal.overflow_add-r-3
overflow_add-r-3 c = omega arith

pub real_at-requires-2 : goal.real_at-requires-2
real_at-requires-2 c = omega arith

pub count_at-waiting-requires : goal.count_at-waiting-requires
count_at-waiting-requires c = omega arith

pub overflow_add-waiting : goal.overflow_add-waiting
unfolding record_at
overflow_add-waiting c = omega (arith, (within _ (counts_of_lem _ c.requires.2)).waiting, c.count_at-waiting.ensures)

pub overflow_add-c-3 : goal.overflow_add-c-3
overflow_add-c-3 c = omega arith

pub count_at-requires : goal.count_at-requires
count_at-requires c = omega arith

pub overflow_add-zeros : goal.overflow_add-zeros
unfolding record_at
overflow_add-zeros c = omega (arith, (within _ (counts_of_lem _ c.requires.2)).waiting_zeros, c.count_at.ensures, c.zero_count.ensures, zero-count-small c.args.v)

pub returns : goal.returns
unfolding gain_at gain_of record_at added_of with_extremes with_waiting
returns c = rw (
  c.either-4.ensures,
  c.either-3.ensures,
  c.either-2.ensures,
  c.either.ensures,
  c.zero_count.ensures,
  c.count_at.ensures,
  c.count_at-waiting.ensures,
  c.real_at-2.ensures,
  c.real_at.ensures,
  c.is_replaced-low.ensures,
  c.is_replaced-high.ensures,
  c.count_at-lowest_number.ensures,
  c.count_at-highest_number.ensures,
  c.real_at-lowest.ensures,
  c.real_at-highest.ensures,
)
