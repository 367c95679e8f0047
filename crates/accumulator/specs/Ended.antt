-- What the inner functions say of an iteration's end: whether it is refused, and what it comes to. Definitions only.
use Rattle.std.specs.Prelude.{◌≡◌, ℕ, ◌^◌, ◌<◌, Bool, true, false, not, cond, eqb, Float}
use Rattle.doubles.specs.Numbers.{zero64}
use Rattle.doubles.specs.Finite.{finite_of}
use Rattle.doubles.specs.Paper.{Paper, gives, refuses}
use Rattle.accumulator.specs.declared.StatisticsAccumulator.{StatisticsAccumulator}
use Rattle.accumulator.specs.declared.steps.Figures.{Figures}
use Rattle.accumulator.specs.Record.{well_formed}
use Rattle.accumulator.specs.Update.{figures_for, without_of, enough, updated_of}

-- a record of these sums and counts, all else zero
unfoldable pub tallied_of : Float → ℕ → Float → ℕ → Float → ℕ → Float → ℕ → Float → ℕ → StatisticsAccumulator
tallied_of sum n sum_sq zeros total processed total_sq num_zeros weights iterations =
    record {
      sum = sum;
      new_samples = n;
      sum_sq = sum_sq;
      new_zero_evaluations = zeros;
      total_sum = total;
      processed_samples = processed;
      total_sum_sq = total_sq;
      num_zero_evaluations = num_zeros;
      weight_sum = weights;
      cur_iter = iterations;
      avg_sum = zero64;
      max_eval_positive_number = 0;
      chi_sum = zero64;
      max_eval_negative_number = 0;
      chi_sq_sum = zero64;
      avg = zero64;
      guess = zero64;
      err = zero64;
      chi_sq = zero64;
      max_eval_positive = zero64;
      max_eval_negative = zero64;
    }

-- why an iteration may not end, 0 where it may: 12 before, 8 afterwards
unfoldable pub refusal_of : StatisticsAccumulator → ℕ
refusal_of a = cond (well_formed a) (cond (well_formed (updated_of false a)) 0 8) 12

-- what an iteration comes to where it may end: its figures, none without at least two samples
unfoldable pub ended_of : Bool → StatisticsAccumulator → Paper Figures
ended_of weighted a = cond (not (eqb (refusal_of a) 0)) (refuses (refusal_of a)) (gives (cond (enough a) (figures_for weighted a) without_of))

-- counts far from their bound, and totals that are finite with the waiting samples in them
pub record Plain (n zeros processed num_zeros iterations : ℕ) (total total_sq : Float) : Type 0 where
  pub waiting : n < 2 ^ 52
  pub waiting_zeros : zeros < 2 ^ 52
  pub all : processed < 2 ^ 52
  pub all_zeros : num_zeros < 2 ^ 52
  pub before : iterations < 2 ^ 52
  pub sums : finite_of total ≡ true
  pub squares : finite_of total_sq ≡ true
