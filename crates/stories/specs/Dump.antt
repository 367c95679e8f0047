-- A grid's whole state as the words of the oracle's dump, and back: a parent before its children, doubles by their bits, every NaN alike.
use Rattle.std.specs.Prelude.{ℕ, zero, suc, ◌+◌, ◌*◌, List, [], ◌∷◌, ◌++◌, map, length, get_or, take, drop, Float}
use Rattle.std.specs.Float.{binary64}
use Rattle.std.specs.Float.Ieee.{of_bits, to_bits}
use Rattle.doubles.specs.Numbers.{zero64}
use Rattle.accumulator.specs.declared.StatisticsAccumulator.{StatisticsAccumulator}
use Rattle.model.specs.Axes.{Axis}
use Rattle.model.specs.Grid.{Grid, Bins, Child, axes, bins, none, more, nothing, grid, many, probabilities, with_head}

unfoldable pub bits_of : List Float → List ℕ
bits_of = map (to_bits binary64)

unfoldable pub doubles_of : List ℕ → List Float
doubles_of = map (of_bits binary64)

-- ---- to words

-- a record's 21 words, in the order of the Rust's declaration
unfoldable pub record_words : StatisticsAccumulator → List ℕ
record_words a =
    to_bits binary64 a.sum
    ∷ to_bits binary64 a.sum_sq
    ∷ to_bits binary64 a.total_sum
    ∷ to_bits binary64 a.total_sum_sq
    ∷ to_bits binary64 a.weight_sum
    ∷ to_bits binary64 a.avg_sum
    ∷ to_bits binary64 a.avg
    ∷ to_bits binary64 a.err
    ∷ to_bits binary64 a.guess
    ∷ to_bits binary64 a.chi_sq
    ∷ to_bits binary64 a.chi_sum
    ∷ to_bits binary64 a.chi_sq_sum
    ∷ a.new_samples
    ∷ a.new_zero_evaluations
    ∷ a.cur_iter
    ∷ a.processed_samples
    ∷ to_bits binary64 a.max_eval_positive
    ∷ a.max_eval_positive_number
    ∷ to_bits binary64 a.max_eval_negative
    ∷ a.max_eval_negative_number
    ∷ a.num_zero_evaluations
    ∷ []

-- of an axis's bins the six that can differ from zero, bin after bin
unfoldable pub bin_words : List StatisticsAccumulator → List ℕ
bin_words [] = []
bin_words (a ∷ rest) =
    to_bits binary64 a.sum
    ∷ to_bits binary64 a.sum_sq
    ∷ a.new_samples
    ∷ a.new_zero_evaluations
    ∷ to_bits binary64 a.max_eval_positive
    ∷ to_bits binary64 a.max_eval_negative
    ∷ bin_words rest

-- bins now held, re-cuts, edges, importances, counters, bins
unfoldable pub axis_words : Axis → List ℕ
axis_words ax = length ax.bins ∷ ax.recuts ∷ bits_of ax.edges ++ (bits_of ax.importances ++ (ax.counters ++ bin_words ax.bins))

unfoldable pub all_axis_words : List Axis → List ℕ
all_axis_words [] = []
all_axis_words (ax ∷ rest) = axis_words ax ++ all_axis_words rest

unfoldable pub bin_record_words : Bins → List ℕ
bin_record_words none = []
bin_record_words (more b c bs) = record_words b.own ++ bin_record_words bs

unfoldable mutual
  pub grid_words : Grid → List ℕ
  grid_words (axes g) = record_words g.own ++ all_axis_words g.axes
  grid_words (bins h bs) = record_words h.own ++ (bits_of (probabilities bs) ++ (bin_record_words bs ++ children_words bs))

  pub children_words : Bins → List ℕ
  children_words none = []
  children_words (more b c bs) = child_words c ++ children_words bs

  pub child_words : Child → List ℕ
  child_words nothing = []
  child_words (grid g) = grid_words g

-- ---- from words, into a grid of the same plan

unfoldable pub double_at : List ℕ → ℕ → Float
double_at ws i = of_bits binary64 (get_or ws i 0)

unfoldable pub record_of : List ℕ → StatisticsAccumulator
record_of ws =
    record {
      sum = double_at ws 0;
      sum_sq = double_at ws 1;
      total_sum = double_at ws 2;
      total_sum_sq = double_at ws 3;
      weight_sum = double_at ws 4;
      avg_sum = double_at ws 5;
      avg = double_at ws 6;
      err = double_at ws 7;
      guess = double_at ws 8;
      chi_sq = double_at ws 9;
      chi_sum = double_at ws 10;
      chi_sq_sum = double_at ws 11;
      new_samples = get_or ws 12 0;
      new_zero_evaluations = get_or ws 13 0;
      cur_iter = get_or ws 14 0;
      processed_samples = get_or ws 15 0;
      max_eval_positive = double_at ws 16;
      max_eval_positive_number = get_or ws 17 0;
      max_eval_negative = double_at ws 18;
      max_eval_negative_number = get_or ws 19 0;
      num_zero_evaluations = get_or ws 20 0;
    }

unfoldable pub bin_record : List ℕ → StatisticsAccumulator
bin_record ws =
    record {
      sum = double_at ws 0;
      sum_sq = double_at ws 1;
      total_sum = zero64;
      total_sum_sq = zero64;
      weight_sum = zero64;
      avg_sum = zero64;
      avg = zero64;
      err = zero64;
      guess = zero64;
      chi_sq = zero64;
      chi_sum = zero64;
      chi_sq_sum = zero64;
      new_samples = get_or ws 2 0;
      new_zero_evaluations = get_or ws 3 0;
      cur_iter = 0;
      processed_samples = 0;
      max_eval_positive = double_at ws 4;
      max_eval_positive_number = 0;
      max_eval_negative = double_at ws 5;
      max_eval_negative_number = 0;
      num_zero_evaluations = 0;
    }

unfoldable pub bin_records : ℕ → List ℕ → List StatisticsAccumulator
bin_records zero ws = []
bin_records (suc n) ws = bin_record ws ∷ bin_records n (drop 6 ws)

-- the first word is the number of bins, n
unfoldable pub axis_of : ℕ → List ℕ → Axis
axis_of n ws =
    record {
      edges = doubles_of (take (n + 1) (drop 2 ws));
      bins = bin_records n (drop (3 * n + 3) ws);
      importances = doubles_of (take n (drop (n + 3) ws));
      counters = take n (drop (2 * n + 3) ws);
      recuts = get_or ws 1 0;
    }

-- what was read, and the words behind it
pub record Read (A : Type 0) : Type 0 where
  pub it : A
  pub rest : List ℕ

unfoldable pub axes_of : List Axis → List ℕ → Read (List Axis)
axes_of [] ws = record { it = []; rest = ws }
axes_of (ax ∷ rest) ws =
    let n = get_or ws 0 0 in
    let r = axes_of rest (drop (9 * n + 3) ws) in
    record { it = axis_of n ws ∷ r.it; rest = r.rest }

unfoldable mutual
  pub grid_of : Grid → List ℕ → Read Grid
  grid_of (axes g) ws =
      let r = axes_of g.axes (drop 21 ws) in
      record { it = axes (record { plan = g.plan; axes = r.it; own = record_of ws }); rest = r.rest }
  grid_of (bins h bs) ws =
      let n = many bs in
      let r = bins_of bs (drop 21 ws) (drop (21 + n) ws) (drop (21 + 22 * n) ws) in
      record { it = bins (with_head h (record_of ws)) r.it; rest = r.rest }

  -- from the words of the probabilities on, of the records on, of the children on
  pub bins_of : Bins → List ℕ → List ℕ → List ℕ → Read Bins
  bins_of none ps records ws = record { it = none; rest = ws }
  bins_of (more b c bs) ps records ws =
      let o = child_of c ws in
      let r = bins_of bs (drop 1 ps) (drop 21 records) o.rest in
      record { it = more (record { probability = double_at ps 0; own = record_of records }) o.it r.it; rest = r.rest }

  pub child_of : Child → List ℕ → Read Child
  child_of nothing ws = record { it = nothing; rest = ws }
  child_of (grid g) ws = let r = grid_of g ws in record { it = grid r.it; rest = r.rest }
