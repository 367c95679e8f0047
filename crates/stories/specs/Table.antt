-- The starred examples of the scope document, one table with one claim: every row is computed from the definitions and compared.
-- Numbers stand as themselves, doubles by their bits, and a refusal by its number alone behind a 1.
use Rattle.std.specs.Prelude.{◌≡◌, refl, Bool, true, false, ◌&&◌, cond, List, [], ◌∷◌, ℕ, ◌+◌, eqb, replicate, Float}
use Rattle.std.specs.Float.{binary64}
use Rattle.std.specs.Float.Ieee.{add, sub, mul, div, lt, le, eq, of_int, to_unsigned, of_bits, to_bits}
use Rattle.doubles.specs.Numbers.{zero64}
use Rattle.plain.specs.Norm.{norm_of}
use Rattle.doubles.specs.Whole.{whole_of}
use Rattle.doubles.specs.Total.{total_of, all_finite}
use Rattle.doubles.specs.Finite.{finite_of}
use Rattle.doubles.specs.Inverse.{inv_of}
use Rattle.doubles.specs.Count.{count_of}
use Rattle.careful.specs.Root.{isqrt, squares, root_of}
use Rattle.doubles.specs.Paper.{Paper, gives, refuses}
use Rattle.stream.specs.declared.MonteCarloRng.{MonteCarloRng}
use Rattle.stream.specs.Words.{times, shifted_up, shifted_down, rotated}
use Rattle.stream.specs.Xoshiro.{word_of, step_of}
use Rattle.stream.specs.Calls.{unit_of}
use Rattle.accumulator.specs.declared.StatisticsAccumulator.{StatisticsAccumulator}
use Rattle.accumulator.specs.Record.{fresh, finite_sums, bounded, bounded_counts, well_formed, with_waiting, with_extremes, raised}
use Rattle.accumulator.specs.Steps.{zero_count, added_of}
use Rattle.accumulator.specs.Update.{variance_of, weight_of, processed_of, enough, updated_of}
use Rattle.accumulator.specs.Calls.{Stepped, stepped, kept_of, numbered, add_sample_of, update_of}
use Rattle.axis.specs.declared.Point.{Point}
use Rattle.axis.specs.Edges as Edges
use Rattle.axis.specs.Calls.{probe_of, point_of, draw_of}
use Rattle.model.specs.Grid.{Grid, axes, bins, nothing, many, probabilities, fresh_bin, fresh_bins, fresh_head, fresh_grid, with_head, with_bin}
use Rattle.model.specs.Sound.{kept_grid, kept_bins, kept_child, chance}
use Rattle.model.specs.Draw.{reached}
use Rattle.model.specs.Train as Train
use Rattle.model.specs.Train.{train_of}
use Rattle.recut.specs.Chances as Chances
use Rattle.model.specs.Update as Update

-- doubles by their bits
abbrev one : ℕ
one = 0x3ff0_0000_0000_0000

abbrev minus_one : ℕ
minus_one = 0xbff0_0000_0000_0000

abbrev tenth : ℕ
tenth = 0x3fb9_9999_9999_999a

abbrev nought : ℕ
nought = 0

abbrev minus_nought : ℕ
minus_nought = 0x8000_0000_0000_0000

abbrev quarter : ℕ
quarter = 0x3fd0_0000_0000_0000

abbrev half : ℕ
half = 0x3fe0_0000_0000_0000

abbrev three_quarters : ℕ
three_quarters = 0x3fe8_0000_0000_0000

abbrev three_halves : ℕ
three_halves = 0x3ff8_0000_0000_0000

abbrev two : ℕ
two = 0x4000_0000_0000_0000

abbrev three : ℕ
three = 0x4008_0000_0000_0000

abbrev ten : ℕ
ten = 0x4024_0000_0000_0000

abbrev a_nan : ℕ
a_nan = 0x7ff8_0000_0000_0000

-- the edges 0, 0.25, 1
abbrev quarter_edges : List ℕ
quarter_edges = nought ∷ quarter ∷ one ∷ []

-- a training: the bin, and the evaluation
pub record Trained : Type 0 where
  pub bin : ℕ
  pub eval : ℕ

abbrev sample : ℕ → ℕ → Trained
sample bin eval = record { bin = bin; eval = eval }

-- one constructor for each kind of example
pub data Case : Type 0 where
  -- the first two words from a state
  words : ℕ → ℕ → ℕ → ℕ → Case
  -- the unit draw of a word
  unit : ℕ → Case
  -- evaluations, numbered from 1 on, added to a fresh record, and then an update: whether they were processed, average, error,
  -- chi-squared, the sum of the weights, iterations, how many wait
  iteration : List ℕ → Case
  -- a coordinate probed on edges, and a unit draw on them
  probe : List ℕ → ℕ → Case
  draw : List ℕ → ℕ → Case
  -- the bin that a draw picks among so many equal ones
  pick : ℕ → ℕ → Case
  -- a fresh bins grid of two bins with this ratio, trained on averages by samples drawn from it, a bin and an evaluation each, then
  -- updated with both rates 1: its probabilities
  adapt : ℕ → List Trained → Case

first_two : MonteCarloRng → List ℕ
first_two s = word_of s ∷ word_of (step_of s) ∷ []

-- a call on a record, where the calls before it gave one
then : {B : Type 0} → Paper StatisticsAccumulator → (StatisticsAccumulator → Paper B) → Paper B
then (gives a) call = call a
then (refuses n) call = refuses n

-- the record with further evaluations, the first of which has this number
with_samples : StatisticsAccumulator → ℕ → List ℕ → Paper StatisticsAccumulator
unfolding then
with_samples a number [] = gives a
with_samples a number (e ∷ es) = then (add_sample_of a (of_bits binary64 e) number) (λ b. with_samples b (number + 1) es)

-- what an update answers
shown : Paper Stepped → List ℕ
shown (refuses n) = 1 ∷ n ∷ []
shown (gives (stepped processed a)) =
    cond processed 1 0
    ∷ to_bits binary64 a.avg
    ∷ to_bits binary64 a.err
    ∷ to_bits binary64 a.chi_sq
    ∷ to_bits binary64 a.weight_sum
    ∷ a.cur_iter
    ∷ a.new_samples
    ∷ []

doubles : List ℕ → List Float
doubles [] = []
doubles (b ∷ bs) = of_bits binary64 b ∷ doubles bs

bits_of : List Float → List ℕ
bits_of [] = []
bits_of (x ∷ xs) = to_bits binary64 x ∷ bits_of xs

shown_weight : Paper Float → List ℕ
shown_weight (gives w) = to_bits binary64 w ∷ []
shown_weight (refuses n) = 1 ∷ n ∷ []

shown_point : Paper Point → List ℕ
shown_point (gives p) = to_bits binary64 p.at ∷ to_bits binary64 p.weight ∷ []
shown_point (refuses n) = 1 ∷ n ∷ []

shown_grid : Paper Grid → List ℕ
unfolding bits_of
shown_grid (gives (bins h bs)) = bits_of (probabilities bs)
shown_grid (gives (axes g)) = []
shown_grid (refuses n) = 1 ∷ n ∷ []

-- a call on a grid, where the calls before it gave one
and_then : Paper Grid → (Grid → Paper Grid) → Paper Grid
and_then (gives g) call = call g
and_then (refuses n) call = refuses n

-- trained with samples of one half as probability, the first of which has this number
trained_with : Grid → ℕ → List Trained → Paper Grid
unfolding and_then
trained_with g number [] = gives g
trained_with g number (s ∷ ss) =
    and_then (train_of g (record { path = s.bin ∷ []; weights = of_bits binary64 two ∷ []; coordinates = [] }) (of_bits binary64 s.eval) number)
    (λ after. trained_with after (number + 1) ss)

-- what the definitions make of it
outcome : Case → List ℕ
unfolding first_two with_samples shown then doubles shown_weight shown_point shown_grid and_then trained_with
outcome (words a b c d) = first_two (record { s0 = a; s1 = b; s2 = c; s3 = d })
outcome (unit w) = to_bits binary64 (unit_of w) ∷ []
outcome (iteration es) = shown (then (with_samples fresh 1 es) (update_of false))
outcome (probe es x) = shown_weight (probe_of (doubles es) (of_bits binary64 x))
outcome (draw es r) = shown_point (draw_of (doubles es) (of_bits binary64 r))
outcome (pick n r) = reached (of_bits binary64 r) zero64 (probabilities (fresh_bins n (replicate n nothing))) ∷ []
outcome (adapt ratio ss) =
    shown_grid
    (and_then (trained_with (fresh_grid (of_bits binary64 ratio) true (nothing ∷ nothing ∷ [])) 1 ss) (Update.update_of (of_bits binary64 one) (of_bits binary64 one)))

pub record Row : Type 0 where
  pub of : Case
  pub is : List ℕ

abbrev row : Case → List ℕ → Row
row c l = record { of = c; is = l }

same : List ℕ → List ℕ → Bool
same [] [] = true
same [] (y ∷ ys) = false
same (x ∷ xs) [] = false
same (x ∷ xs) (y ∷ ys) = eqb x y && same xs ys

pub right : List Row → Bool
unfolding same outcome
right [] = true
right (r ∷ rs) = same (outcome r.of) r.is && right rs

pub table : List Row
table =
    row (words 1 2 3 4) (11520 ∷ 0 ∷ [])
    ∷ row (unit 2047) (0 ∷ [])
    ∷ row (unit 0xffff_ffff_ffff_ffff) (0x3fef_ffff_ffff_ffff ∷ [])
    ∷ row (iteration (one ∷ minus_one ∷ [])) (1 ∷ 0 ∷ one ∷ 0 ∷ one ∷ 1 ∷ 0 ∷ [])
    -- the weights' sum is 2^64
    ∷ row (iteration (one ∷ one ∷ [])) (1 ∷ one ∷ 0 ∷ 0 ∷ 0x43f0_0000_0000_0000 ∷ 1 ∷ 0 ∷ [])
    ∷ row (iteration (one ∷ [])) (0 ∷ 0 ∷ 0 ∷ 0 ∷ 0 ∷ 1 ∷ 1 ∷ [])
    -- the error is a NaN
    ∷ row (iteration (tenth ∷ tenth ∷ tenth ∷ [])) (1 ∷ 0x3fb9_9999_9999_999b ∷ 0x7ff8_0000_0000_0000 ∷ 0 ∷ 0xc3a4_0000_0000_0000 ∷ 1 ∷ 0 ∷ [])
    ∷ row (probe quarter_edges nought) (half ∷ [])
    ∷ row (probe quarter_edges minus_nought) (half ∷ [])
    ∷ row (probe quarter_edges quarter) (half ∷ [])
    ∷ row (probe quarter_edges half) (three_halves ∷ [])
    ∷ row (probe quarter_edges one) (three_halves ∷ [])
    ∷ row (probe quarter_edges a_nan) (1 ∷ 5 ∷ [])
    -- the next double above 1
    ∷ row (probe quarter_edges (one + 1)) (1 ∷ 5 ∷ [])
    -- the point is 0.625
    ∷ row (draw quarter_edges three_quarters) (0x3fe4_0000_0000_0000 ∷ three_halves ∷ [])
    ∷ row (pick 4 quarter) (0 ∷ [])
    -- 0.25 + 2^-53
    ∷ row (pick 4 0x3fd0_0000_0000_0002) (1 ∷ [])
    ∷ row (adapt ten (sample 0 three ∷ sample 0 three ∷ sample 1 one ∷ sample 1 one ∷ [])) (three_quarters ∷ quarter ∷ [])
    ∷ row (probe (nought ∷ half ∷ half ∷ one ∷ []) half) (1 ∷ 12 ∷ [])
    ∷ []

-- every row of the table is right
pub examples : right table ≡ true
unfolding
    table right
    sub mul div eq of_int of_bits to_bits
    finite_of inv_of count_of isqrt squares root_of
    times shifted_up shifted_down rotated word_of step_of unit_of
    fresh finite_sums bounded bounded_counts well_formed with_waiting with_extremes raised
    zero_count added_of variance_of weight_of processed_of enough updated_of kept_of numbered add_sample_of update_of
    add lt le to_unsigned norm_of whole_of total_of all_finite
    Edges.rising Edges.bins_of Edges.well_formed Edges.in_unit Edges.first_upto Edges.bin_of Edges.width_of Edges.weight_of probe_of point_of draw_of
    many probabilities fresh_bin fresh_bins fresh_head fresh_grid with_head with_bin kept_grid kept_bins kept_child chance reached
    Train.fault_of Train.fault_of_bin Train.fault_of_child Train.train_grid Train.train_bin Train.train_child Train.numbered train_of
    Update.idle Update.all_idle Update.raw_of Update.raws Chances.higher Chances.highest Chances.raised_to Chances.share_of Chances.adapted_to Chances.all_chances Update.with_probabilities
    Update.adapted_bins Update.update_grid Update.update_bins Update.update_child Update.rate_fits Update.update_of
examples = refl
