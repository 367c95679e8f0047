-- What the Rust's `add_sample`, `merge_samples_no_reset`, `clear_samples` and `shallow_copy` make of a record.
use Rattle.std.specs.Prelude.{ℕ, ◌+◌, Bool, ◌||◌, cond, eqb, Float}
use Rattle.std.specs.Float.{binary64}
use Rattle.std.specs.Float.Ieee.{add, mul, lt, eq}
use Rattle.doubles.specs.Numbers.{zero64}
use Rattle.accumulator.specs.declared.StatisticsAccumulator.{StatisticsAccumulator}
use Rattle.accumulator.specs.Record.{with_waiting, with_extremes}

-- 1 for a zero evaluation, minus zero too
unfoldable pub zero_count : Float → ℕ
zero_count e = cond (eq e zero64) 1 0

-- an extreme is replaced if its number is 0 or it is beaten
unfoldable pub replaced : ℕ → Bool → Bool
replaced number beaten = eqb number 0 || beaten

-- add_sample: the evaluation joins the waiting sums and counts, and the extremes that it replaces
unfoldable pub added_of : StatisticsAccumulator → Float → ℕ → StatisticsAccumulator
added_of a e number =
    let high = replaced a.max_eval_positive_number (lt a.max_eval_positive e) in
    let low = replaced a.max_eval_negative_number (lt e a.max_eval_negative) in
    with_extremes
    (with_waiting a (add binary64 a.sum e) (add binary64 a.sum_sq (mul binary64 e e)) (a.new_samples + 1)
    (a.new_zero_evaluations + zero_count e))
    (cond high e a.max_eval_positive) (cond high number a.max_eval_positive_number)
    (cond low e a.max_eval_negative) (cond low number a.max_eval_negative_number)

-- merge_samples_no_reset: the other's waiting samples join; an extreme is replaced only by one beyond it
unfoldable pub merged_of : StatisticsAccumulator → StatisticsAccumulator → StatisticsAccumulator
merged_of a b =
    let high = lt a.max_eval_positive b.max_eval_positive in
    let low = lt b.max_eval_negative a.max_eval_negative in
    with_extremes
    (with_waiting a (add binary64 a.sum b.sum) (add binary64 a.sum_sq b.sum_sq) (a.new_samples + b.new_samples)
    (a.new_zero_evaluations + b.new_zero_evaluations))
    (cond high b.max_eval_positive a.max_eval_positive) (cond high b.max_eval_positive_number a.max_eval_positive_number)
    (cond low b.max_eval_negative a.max_eval_negative) (cond low b.max_eval_negative_number a.max_eval_negative_number)

-- clear_samples: nothing waits; the extremes stay
unfoldable pub cleared_of : StatisticsAccumulator → StatisticsAccumulator
cleared_of a = with_waiting a zero64 zero64 0 0

-- shallow_copy: all but the extremes' samples
unfoldable pub copied_of : StatisticsAccumulator → StatisticsAccumulator
copied_of a = with_extremes a a.max_eval_positive 0 a.max_eval_negative 0
