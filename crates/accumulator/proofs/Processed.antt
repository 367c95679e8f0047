-- An iteration's processing: what the code's calls answer, put together, is the definition.
use mathlib.Core.Path.{◌≡◌, refl}
use mathlib.Core.Bool.{Bool, true, false}
use lib.Dec.{eqb}
use Rattle.accumulator.specs.declared.StatisticsAccumulator.{StatisticsAccumulator}
use Rattle.accumulator.specs.declared.steps.Iterated.{Iterated}
use Rattle.accumulator.specs.Record.{finite_sums, bounded_counts, well_formed}
use Rattle.accumulator.specs.Update.{figures_of, figures_for, gathered_of, course_of, settled_of, iterated_of, processed_of}
use Rattle.accumulator.specs.Calls.{estimates_of}

-- the record: gathered, and then an iteration's course and estimates
module _ (a g : StatisticsAccumulator) (e : Iterated) where
  abbrev after : StatisticsAccumulator
  after =
      record {
        sum = g.sum;
        new_samples = g.new_samples;
        sum_sq = g.sum_sq;
        new_zero_evaluations = g.new_zero_evaluations;
        total_sum = g.total_sum;
        processed_samples = g.processed_samples;
        total_sum_sq = g.total_sum_sq;
        num_zero_evaluations = g.num_zero_evaluations;
        weight_sum = e.course.weight_sum;
        cur_iter = g.cur_iter;
        avg_sum = e.course.avg_sum;
        max_eval_positive_number = g.max_eval_positive_number;
        chi_sum = e.course.chi_sum;
        max_eval_negative_number = g.max_eval_negative_number;
        chi_sq_sum = e.course.chi_sq_sum;
        avg = e.estimate.avg;
        guess = e.course.guess;
        err = e.estimate.err;
        chi_sq = e.estimate.chi_sq;
        max_eval_positive = g.max_eval_positive;
        max_eval_negative = g.max_eval_negative;
      }

  pub steps-are : (weighted : Bool) → g ≡ gathered_of a → e ≡ iterated_of weighted (eqb a.cur_iter 0) (figures_for weighted a) (course_of a) → after ≡ processed_of weighted a
  unfolding processed_of gathered_of course_of iterated_of settled_of figures_for figures_of
  steps-are true is-g is-e = rw (is-e, is-g)
  steps-are false is-g is-e = rw (is-e, is-g)

-- the estimates alone, with the plain average
pub estimates-are : (a : StatisticsAccumulator) (e : Iterated) → e ≡ iterated_of false (eqb a.cur_iter 0) (figures_for false a) (course_of a)
    → e.estimate ≡ estimates_of (processed_of false a)
unfolding estimates_of processed_of course_of iterated_of settled_of figures_for figures_of
estimates-are a e is-e = rw is-e

-- no estimate is judged
pub judged-before : (weighted : Bool) (a : StatisticsAccumulator) → well_formed (gathered_of a) ≡ well_formed (processed_of weighted a)
unfolding well_formed finite_sums bounded_counts gathered_of processed_of
judged-before weighted a = refl
