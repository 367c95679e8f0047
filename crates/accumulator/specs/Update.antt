-- `update_iter`, in the Rust's order of operations.
use Rattle.std.specs.Prelude.{◌+◌, Bool, cond, leb, eqb, Float}
use Rattle.std.specs.Float.{binary64}
use Rattle.std.specs.Float.Ieee.{of_bits, add, sub, mul, div, eq}
use Rattle.doubles.specs.Numbers.{zero64, one64}
use Rattle.doubles.specs.Inverse.{inv_of}
use Rattle.doubles.specs.Count.{count_of}
use Rattle.careful.specs.Root.{root_of}
use Rattle.accumulator.specs.declared.StatisticsAccumulator.{StatisticsAccumulator}
use Rattle.accumulator.specs.declared.steps.Course.{Course}
use Rattle.accumulator.specs.declared.steps.Figures.{Figures}
use Rattle.accumulator.specs.declared.steps.Iterated.{Iterated}
use Rattle.accumulator.specs.Record.{raised}

-- the variance of a mean, from it, the root of the mean of the squares and the number of samples; rounding may take it below zero
abbrev pub variance_from : Float → Float → Float → Float
variance_from mean root n = div binary64 (mul binary64 (add binary64 root mean) (sub binary64 root mean)) (sub binary64 n one64)

-- the same from the mean of the squares
unfoldable pub variance_of : Float → Float → Float → Float
variance_of mean squares n = variance_from mean (root_of squares) n

-- an iteration's weight: 2^64 for a variance of zero, else its inverse
unfoldable pub weight_of : Float → Float
weight_of variance = cond (eq variance zero64) (of_bits binary64 0x43f0_0000_0000_0000) (inv_of variance)

-- the figures of an iteration's n samples and of all samples, from the sums of both and of their squares, and the weight of all iterations before;
-- a weighted mean needs no plain one
unfoldable pub figures_of : Bool → Float → Float → Float → Float → Float → Float → Float → Figures
figures_of weighted sum sum_sq n total total_sq all weights =
    let mean = div binary64 sum n in
    let avg = div binary64 total all in
    let weight = weight_of (variance_of mean (div binary64 sum_sq n) n) in
    let sigma = inv_of (add binary64 weights weight) in
    record {
      mean = mean;
      weight = weight;
      avg = cond weighted zero64 avg;
      err = cond weighted (root_of sigma) (root_of (variance_of avg (div binary64 total_sq all) all));
      sigma = sigma;
    }

-- those of a record's iteration
unfoldable pub figures_for : Bool → StatisticsAccumulator → Figures
figures_for weighted a =
    figures_of weighted a.sum a.sum_sq (count_of a.new_samples) (add binary64 a.total_sum a.sum) (add binary64 a.total_sum_sq a.sum_sq)
    (count_of (a.processed_samples + a.new_samples)) a.weight_sum

-- none
unfoldable pub without_of : Figures
without_of = record { mean = zero64; weight = zero64; avg = zero64; err = zero64; sigma = zero64 }

-- the waiting samples among the processed ones, one iteration on; the estimates stay
unfoldable pub gathered_of : StatisticsAccumulator → StatisticsAccumulator
gathered_of a =
    record {
      sum = zero64;
      new_samples = 0;
      sum_sq = zero64;
      new_zero_evaluations = 0;
      total_sum = add binary64 a.total_sum a.sum;
      processed_samples = a.processed_samples + a.new_samples;
      total_sum_sq = add binary64 a.total_sum_sq a.sum_sq;
      num_zero_evaluations = a.num_zero_evaluations + a.new_zero_evaluations;
      weight_sum = a.weight_sum;
      cur_iter = a.cur_iter + 1;
      avg_sum = a.avg_sum;
      max_eval_positive_number = a.max_eval_positive_number;
      chi_sum = a.chi_sum;
      max_eval_negative_number = a.max_eval_negative_number;
      chi_sq_sum = a.chi_sq_sum;
      avg = a.avg;
      guess = a.guess;
      err = a.err;
      chi_sq = a.chi_sq;
      max_eval_positive = a.max_eval_positive;
      max_eval_negative = a.max_eval_negative;
    }

-- the course that a record keeps
unfoldable pub course_of : StatisticsAccumulator → Course
course_of a =
    record { weight_sum = a.weight_sum; avg_sum = a.avg_sum; chi_sum = a.chi_sum; chi_sq_sum = a.chi_sq_sum; guess = a.guess }

-- an iteration's figures among the weighted sums; the first iteration's mean is the guess
unfoldable pub settled_of : Course → Figures → Bool → Course
settled_of c f first =
    let guess = cond first f.mean c.guess in
    let off = mul binary64 f.weight (sub binary64 f.mean guess) in
    record {
      weight_sum = add binary64 c.weight_sum f.weight;
      avg_sum = add binary64 c.avg_sum (mul binary64 f.weight f.mean);
      chi_sum = add binary64 c.chi_sum off;
      chi_sq_sum = add binary64 c.chi_sq_sum (mul binary64 off f.mean);
      guess = guess;
    }

-- the course after an iteration with these figures, and the estimates then
unfoldable pub iterated_of : Bool → Bool → Figures → Course → Iterated
iterated_of weighted first f c =
    let r = settled_of c f first in
    let weighted_mean = mul binary64 f.sigma r.avg_sum in
    record {
      course = r;
      estimate =
          record {
            avg = cond weighted weighted_mean f.avg;
            err = f.err;
            chi_sq = sub binary64 r.chi_sq_sum (mul binary64 weighted_mean r.chi_sum);
          };
    }

-- the waiting samples of at least two, processed
unfoldable pub processed_of : Bool → StatisticsAccumulator → StatisticsAccumulator
processed_of weighted a =
    let n = count_of a.new_samples in
    let total = add binary64 a.total_sum a.sum in
    let squares = add binary64 a.total_sum_sq a.sum_sq in
    let mean = div binary64 a.sum n in
    let weight = weight_of (variance_of mean (div binary64 a.sum_sq n) n) in
    let weights = add binary64 a.weight_sum weight in
    let averages = add binary64 a.avg_sum (mul binary64 weight mean) in
    let sigma = inv_of weights in
    let weighted_mean = mul binary64 sigma averages in
    let all = count_of (a.processed_samples + a.new_samples) in
    let plain_mean = div binary64 total all in
    let guess = cond (eqb a.cur_iter 0) mean a.guess in
    let off = mul binary64 weight (sub binary64 mean guess) in
    let chi = add binary64 a.chi_sum off in
    let chi_squares = add binary64 a.chi_sq_sum (mul binary64 off mean) in
    record {
      sum = zero64;
      sum_sq = zero64;
      total_sum = total;
      total_sum_sq = squares;
      weight_sum = weights;
      avg_sum = averages;
      avg = cond weighted weighted_mean plain_mean;
      err = cond weighted (root_of sigma) (root_of (variance_of plain_mean (div binary64 squares all) all));
      guess = guess;
      chi_sq = sub binary64 chi_squares (mul binary64 weighted_mean chi);
      chi_sum = chi;
      chi_sq_sum = chi_squares;
      new_samples = 0;
      new_zero_evaluations = 0;
      cur_iter = a.cur_iter + 1;
      processed_samples = a.processed_samples + a.new_samples;
      max_eval_positive = a.max_eval_positive;
      max_eval_positive_number = a.max_eval_positive_number;
      max_eval_negative = a.max_eval_negative;
      max_eval_negative_number = a.max_eval_negative_number;
      num_zero_evaluations = a.num_zero_evaluations + a.new_zero_evaluations;
    }

-- fewer than two waiting samples raise `cur_iter` alone and go on waiting
unfoldable pub enough : StatisticsAccumulator → Bool
enough a = leb 2 a.new_samples

unfoldable pub updated_of : Bool → StatisticsAccumulator → StatisticsAccumulator
updated_of weighted a = cond (enough a) (processed_of weighted a) (raised a)
