-- The record: fresh, well formed, and with some of its fields anew.
use Rattle.std.specs.Prelude.{ℕ, ◌+◌, ◌^◌, Bool, ◌&&◌, leb, Float}
use Rattle.doubles.specs.Numbers.{zero64}
use Rattle.doubles.specs.Finite.{finite_of}
use Rattle.accumulator.specs.declared.StatisticsAccumulator.{StatisticsAccumulator}

-- zero when fresh
unfoldable pub fresh : StatisticsAccumulator
fresh =
    record {
      sum = zero64;
      sum_sq = zero64;
      total_sum = zero64;
      total_sum_sq = zero64;
      weight_sum = zero64;
      avg_sum = zero64;
      avg = zero64;
      err = zero64;
      guess = zero64;
      chi_sq = zero64;
      chi_sum = zero64;
      chi_sq_sum = zero64;
      new_samples = 0;
      new_zero_evaluations = 0;
      cur_iter = 0;
      processed_samples = 0;
      max_eval_positive = zero64;
      max_eval_positive_number = 0;
      max_eval_negative = zero64;
      max_eval_negative_number = 0;
      num_zero_evaluations = 0;
    }

-- the kept sums are finite
unfoldable pub finite_sums : StatisticsAccumulator → Bool
finite_sums a = ((finite_of a.sum && finite_of a.sum_sq) && finite_of a.total_sum) && finite_of a.total_sum_sq

-- a count is at most 2^53
unfoldable pub bounded : ℕ → Bool
bounded n = leb n (2 ^ 53)

unfoldable pub bounded_counts : StatisticsAccumulator → Bool
bounded_counts a =
    (((bounded a.new_samples && bounded a.new_zero_evaluations) && bounded a.cur_iter) && bounded a.processed_samples)
    && bounded a.num_zero_evaluations

-- well formed, else 12; and a record that would not be is 8
unfoldable pub well_formed : StatisticsAccumulator → Bool
well_formed a = finite_sums a && bounded_counts a

-- the record with other waiting samples: their sum, the sum of their squares, their number, and that of the zeros among them
unfoldable pub with_waiting : StatisticsAccumulator → Float → Float → ℕ → ℕ → StatisticsAccumulator
with_waiting a s q n z =
    record {
      sum = s;
      sum_sq = q;
      total_sum = a.total_sum;
      total_sum_sq = a.total_sum_sq;
      weight_sum = a.weight_sum;
      avg_sum = a.avg_sum;
      avg = a.avg;
      err = a.err;
      guess = a.guess;
      chi_sq = a.chi_sq;
      chi_sum = a.chi_sum;
      chi_sq_sum = a.chi_sq_sum;
      new_samples = n;
      new_zero_evaluations = z;
      cur_iter = a.cur_iter;
      processed_samples = a.processed_samples;
      max_eval_positive = a.max_eval_positive;
      max_eval_positive_number = a.max_eval_positive_number;
      max_eval_negative = a.max_eval_negative;
      max_eval_negative_number = a.max_eval_negative_number;
      num_zero_evaluations = a.num_zero_evaluations;
    }

-- the record with other extremes, each with its sample's number
unfoldable pub with_extremes : StatisticsAccumulator → Float → ℕ → Float → ℕ → StatisticsAccumulator
with_extremes a p i m j =
    record {
      sum = a.sum;
      sum_sq = a.sum_sq;
      total_sum = a.total_sum;
      total_sum_sq = a.total_sum_sq;
      weight_sum = a.weight_sum;
      avg_sum = a.avg_sum;
      avg = a.avg;
      err = a.err;
      guess = a.guess;
      chi_sq = a.chi_sq;
      chi_sum = a.chi_sum;
      chi_sq_sum = a.chi_sq_sum;
      new_samples = a.new_samples;
      new_zero_evaluations = a.new_zero_evaluations;
      cur_iter = a.cur_iter;
      processed_samples = a.processed_samples;
      max_eval_positive = p;
      max_eval_positive_number = i;
      max_eval_negative = m;
      max_eval_negative_number = j;
      num_zero_evaluations = a.num_zero_evaluations;
    }

-- the record one iteration on
unfoldable pub raised : StatisticsAccumulator → StatisticsAccumulator
raised a =
    record {
      sum = a.sum;
      sum_sq = a.sum_sq;
      total_sum = a.total_sum;
      total_sum_sq = a.total_sum_sq;
      weight_sum = a.weight_sum;
      avg_sum = a.avg_sum;
      avg = a.avg;
      err = a.err;
      guess = a.guess;
      chi_sq = a.chi_sq;
      chi_sum = a.chi_sum;
      chi_sq_sum = a.chi_sq_sum;
      new_samples = a.new_samples;
      new_zero_evaluations = a.new_zero_evaluations;
      cur_iter = a.cur_iter + 1;
      processed_samples = a.processed_samples;
      max_eval_positive = a.max_eval_positive;
      max_eval_positive_number = a.max_eval_positive_number;
      max_eval_negative = a.max_eval_negative;
      max_eval_negative_number = a.max_eval_negative_number;
      num_zero_evaluations = a.num_zero_evaluations;
    }
