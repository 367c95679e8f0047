-- Writing lent memory: parts that are replaced, axis after axis, and the records of accumulators.
use Rattle.std.specs.Prelude.{ℕ, ◌+◌, List, [], ◌∷◌, ◌++◌, take, drop, get_or, replicate, Float}
use Rattle.std.proofs.lemmas.List.Edits.{sets}
use Rattle.std.specs.Float.{nan}
use Rattle.accumulator.specs.declared.StatisticsAccumulator.{StatisticsAccumulator}
use Rattle.lent.specs.Layout.{axis_reals, axis_counts}

-- the two lent lists
pub record Memory : Type 0 where
  pub reals : List Float
  pub counts : List ℕ

abbrev pub memory : List Float → List ℕ → Memory
memory reals counts = record { reals = reals; counts = counts }

-- what a step at an axis's two places leaves, from axis to axis: an argument for each, every axis of at most m bins
unfoldable pub over_axes : {X : Type 0} → (ℕ → ℕ → X → Memory → Memory) → ℕ → List X → ℕ → ℕ → Memory → Memory
over_axes f m [] r c s = s
over_axes f m (x ∷ xs) r c s = over_axes f m xs (r + axis_reals m) (c + axis_counts m) (f r c x s)

-- what the steps ask of memory, each at its axis
unfoldable pub Asked : {X : Type 0} → (ℕ → ℕ → X → Memory → Type 0) → ℕ → List X → ℕ → ℕ → Memory → Type 0
Asked P m [] r c s = Unit
Asked P m (x ∷ xs) r c s = P r c x s × Asked P m xs (r + axis_reals m) (c + axis_counts m) s

-- the n entries from a place on replaced by others
unfoldable pub put : {A : Type 0} → ℕ → ℕ → List A → List A → List A
put at n ys xs = take at xs ++ (ys ++ drop n (drop at xs))

-- the n entries from a place on, past the last entry a value in its stead
unfoldable pub from_on : {A : Type 0} → ℕ → A → ℕ → List A → List A
from_on n d at xs = sets (replicate n d) 0 (drop at xs)

-- an accumulator's 14 reals and 7 counts, in the order of its fields
unfoldable pub reals_of : StatisticsAccumulator → List Float
reals_of a =
    a.sum ∷ (a.sum_sq ∷ (a.total_sum ∷ (a.total_sum_sq ∷ (a.weight_sum ∷ (a.avg_sum ∷ (a.avg ∷ (a.err ∷ (a.guess
    ∷ (a.chi_sq ∷ (a.chi_sum ∷ (a.chi_sq_sum ∷ (a.max_eval_positive ∷ (a.max_eval_negative ∷ [])))))))))))))

unfoldable pub counts_of : StatisticsAccumulator → List ℕ
counts_of a =
    a.new_samples ∷ (a.new_zero_evaluations ∷ (a.cur_iter ∷ (a.processed_samples ∷ (a.max_eval_positive_number
    ∷ (a.max_eval_negative_number ∷ (a.num_zero_evaluations ∷ []))))))

-- the accumulator whose reals begin at r and whose counts begin at c
unfoldable pub record_at : List Float → List ℕ → ℕ → ℕ → StatisticsAccumulator
record_at reals counts r c =
    record {
      sum = get_or reals r nan;
      sum_sq = get_or reals (r + 1) nan;
      total_sum = get_or reals (r + 2) nan;
      total_sum_sq = get_or reals (r + 3) nan;
      weight_sum = get_or reals (r + 4) nan;
      avg_sum = get_or reals (r + 5) nan;
      avg = get_or reals (r + 6) nan;
      err = get_or reals (r + 7) nan;
      guess = get_or reals (r + 8) nan;
      chi_sq = get_or reals (r + 9) nan;
      chi_sum = get_or reals (r + 10) nan;
      chi_sq_sum = get_or reals (r + 11) nan;
      new_samples = get_or counts c 0;
      new_zero_evaluations = get_or counts (c + 1) 0;
      cur_iter = get_or counts (c + 2) 0;
      processed_samples = get_or counts (c + 3) 0;
      max_eval_positive = get_or reals (r + 12) nan;
      max_eval_positive_number = get_or counts (c + 4) 0;
      max_eval_negative = get_or reals (r + 13) nan;
      max_eval_negative_number = get_or counts (c + 5) 0;
      num_zero_evaluations = get_or counts (c + 6) 0;
    }

-- the accumulator of 14 reals and 7 counts
unfoldable pub record_from : List Float → List ℕ → StatisticsAccumulator
record_from xs ns =
    record {
      sum = get_or xs 0 nan;
      sum_sq = get_or xs 1 nan;
      total_sum = get_or xs 2 nan;
      total_sum_sq = get_or xs 3 nan;
      weight_sum = get_or xs 4 nan;
      avg_sum = get_or xs 5 nan;
      avg = get_or xs 6 nan;
      err = get_or xs 7 nan;
      guess = get_or xs 8 nan;
      chi_sq = get_or xs 9 nan;
      chi_sum = get_or xs 10 nan;
      chi_sq_sum = get_or xs 11 nan;
      new_samples = get_or ns 0 0;
      new_zero_evaluations = get_or ns 1 0;
      cur_iter = get_or ns 2 0;
      processed_samples = get_or ns 3 0;
      max_eval_positive = get_or xs 12 nan;
      max_eval_positive_number = get_or ns 4 0;
      max_eval_negative = get_or xs 13 nan;
      max_eval_negative_number = get_or ns 5 0;
      num_zero_evaluations = get_or ns 6 0;
    }

-- an accumulator stored there
unfoldable pub stored : ℕ → ℕ → StatisticsAccumulator → Memory → Memory
stored r c a s = memory (sets s.reals r (reals_of a)) (sets s.counts c (counts_of a))
