-- The fields one by one; where no extreme is replaced, the choices are the record's own.
use native.Mathlib.Omega.{arith}
use Rattle.accumulator.specs.Record.{with_waiting, with_extremes}
use lib.Dec.{eqb}
use lib.Ieee.{lt}
use Rattle.accumulator.specs.Steps.{replaced, added_of}
use Rattle.accumulator.proofs.Counts.{within, zero-small}
use Rattle.accumulator.proofs.Accepted.{none, added_is}
use Rattle.accumulator.proofs.steps.added.Goals as goal

pub overflow_add-r : goal.overflow_add-r
overflow_add-r c = let w = within _ c.requires in omega arith

pub overflow_add-r-2 : goal.overflow_add-r-2
overflow_add-r-2 c = let w = within _ c.requires in omega (arith, c.zero_count.ensures, zero-small c.args.eval)

pub returns-then-not-fresh-beyond : goal.returns-then-not-fresh-beyond
unfolding added_of with_extremes with_waiting replaced
returns-then-not-fresh-beyond c = let stay = none (eqb c.args.a.max_eval_positive_number 0) (eqb c.args.a.max_eval_negative_number 0) (lt c.args.a.max_eval_positive c.args.eval) (lt c.args.eval c.args.a.max_eval_negative) c.if-not-fresh-beyond.true in
    rw (stay.0, stay.1, c.zero_count.ensures)

pub returns : goal.returns
unfolding with_extremes with_waiting
returns c = added_is _ _ _ _ _ _ _ _ _ _
    c.zero_count.ensures
    c.is_replaced-high.ensures
    c.is_replaced-low.ensures
    c.either.ensures
    c.either-2.ensures
    c.either-3.ensures
    c.either-4.ensures
