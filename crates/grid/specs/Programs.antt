-- The demands of any program on grids, and the wrong programs that the document names: "Tried against it" and "Slips to rule out".
use Rattle.std.specs.Prelude.{◌≡◌, Bool, true, false, not, ◌&&◌, cond, List, [], ◌∷◌, ℕ, suc, ◌+◌, leb, eqb, length, get_or, Float}
use Rattle.std.specs.Float.{nan, binary64}
use Rattle.std.specs.Float.Ieee.{add, mul, div, lt, le, eq}
use Rattle.doubles.specs.Numbers.{zero64, one64}
use Rattle.doubles.specs.Count.{count_of}
use Rattle.careful.specs.Root.{root_of}
use Rattle.doubles.specs.Paper.{Paper, gives, refuses}
use Rattle.accumulator.specs.declared.StatisticsAccumulator.{StatisticsAccumulator}
use Rattle.accumulator.specs.declared.Summary.{Summary}
use Rattle.accumulator.specs.Update.{variance_of, updated_of}
use Rattle.accumulator.specs.Calls as account
use Rattle.axis.specs.Edges.{in_unit, bins_of}
use Rattle.recut.specs.Gather.{joined_counts}
use Rattle.model.specs.Axes.{Axis}
use Rattle.model.specs.Grid.{Grid, axes, bins}
use Rattle.model.specs.Sound.{sound}
use Rattle.model.specs.Draw.{Sample, weight_at}
use Rattle.model.specs.Train.{train_axis}
use Rattle.lent.specs.State.{own_of}
use Rattle.grid.specs.Fresh.{Plan, sized, fresh}
use Rattle.grid.specs.History.{Call, draws, probes, sums, estimates, estimates_bin, trains, updates, matches, merges, copies, lacks, Word, summary, estimate, told, after, run, Entry, entry}
use Rattle.grid.specs.Lent.{granted, worded, words}
use Rattle.grid.specs.Demand3.{Demand3}
use Rattle.grid.specs.Order.{Test, test, Ordered, along_tests, live_tests, probe_tests, train_tests, update_tests, match_tests, merge_tests}

-- ---- a program: what it answers to a call on a grid, and the grid that it leaves

pub record Done : Type 0 where
  pub word : Paper Word
  pub grid : Grid

abbrev pub doing : Paper Word → Grid → Done
doing w g = record { word = w; grid = g }

abbrev pub Program : Type 0
Program = Grid → Call → Done

unfoldable pub right : Program
right g c = doing (worded (told g c)) (after g c)

-- a program by what it does at four of the calls, and right at all others
pub record Ways : Type 0 where
  pub train : Grid → Sample → Float → ℕ → Done
  pub merge : Grid → Grid → Done
  pub sum : Grid → Done
  pub estimate : Grid → Done

unfoldable pub built : Ways → Program
built w g (draws s) = right g (draws s)
built w g (probes path xs) = right g (probes path xs)
built w g sums = w.sum g
built w g estimates = w.estimate g
built w g (estimates_bin path) = right g (estimates_bin path)
built w g (trains s e k) = w.train g s e k
built w g (updates bins_rate axes_rate) = right g (updates bins_rate axes_rate)
built w g (matches o) = right g (matches o)
built w g (merges o) = w.merge g o
built w g copies = right g copies
built w g (lacks n) = right g (lacks n)

-- the right way at each
abbrev pub right_train : Grid → Sample → Float → ℕ → Done
right_train g s e k = right g (trains s e k)

abbrev pub right_merge : Grid → Grid → Done
right_merge g o = right g (merges o)

abbrev pub right_sum : Grid → Done
right_sum g = right g sums

abbrev pub right_estimate : Grid → Done
right_estimate g = right g estimates

-- a program that trains in another way, merges in another, sums up or estimates in another
abbrev pub training : (Grid → Sample → Float → ℕ → Done) → Program
training f = built (record { train = f; merge = right_merge; sum = right_sum; estimate = right_estimate })

abbrev pub merging : (Grid → Grid → Done) → Program
merging f = built (record { train = right_train; merge = f; sum = right_sum; estimate = right_estimate })

abbrev pub summing : (Grid → Done) → Program
summing f = built (record { train = right_train; merge = right_merge; sum = f; estimate = right_estimate })

abbrev pub estimating : (Grid → Done) → Program
estimating f = built (record { train = right_train; merge = right_merge; sum = right_sum; estimate = f })

unfoldable pub end_of : Program → Grid → List Call → Grid
end_of P g [] = g
end_of P g (c ∷ cs) = end_of P (P g c).grid cs

unfoldable pub words_of : Program → Grid → List Call → List (Paper Word)
words_of P g [] = []
words_of P g (c ∷ cs) = (P g c).word ∷ words_of P (P g c).grid cs

unfoldable pub log_of : Program → Grid → List Call → List Entry
log_of P g [] = []
log_of P g (c ∷ cs) = entry c (granted (P g c).word) ∷ log_of P (P g c).grid cs

-- ---- the demands of it

-- the tests of a call on a well-formed grid, in their order
unfoldable pub tests_of : Grid → Call → List Test
tests_of g (draws s) = []
tests_of g (probes path xs) = probe_tests g path xs
tests_of g sums = []
tests_of g estimates = live_tests (own_of g)
tests_of g (estimates_bin path) = along_tests g path
tests_of g (trains s e k) = train_tests g s e k
tests_of g (updates bins_rate axes_rate) = update_tests bins_rate axes_rate g
tests_of g (matches o) = test (not (sound o)) 12 ∷ match_tests g o
tests_of g (merges o) = test (not (sound o)) 12 ∷ merge_tests g o
tests_of g copies = []
tests_of g (lacks n) = test true n ∷ []

pub record Meets1 (P : Program) : Type 0 where
  pub ordered : (g : Grid) (c : Call) → sound g ≡ true → Ordered (tests_of g c) (P g c).word
  pub stays : (g : Grid) (c : Call) (n : ℕ) → sound g ≡ true → (P g c).word ≡ refuses n → (P g c).grid ≡ g

pub record Meets2 (P : Program) : Type 0 where
  pub answers : (q : Plan) (cs : List Call) → sized q ≡ true → words_of P (fresh q) cs ≡ words (fresh q) cs
  pub leaves : (q : Plan) (cs : List Call) → sized q ≡ true → end_of P (fresh q) cs ≡ run (fresh q) cs

abbrev pub Meets3 : Program → Type 0
Meets3 P = (q : Plan) (cs : List Call) → sized q ≡ true → Demand3 (end_of P (fresh q) cs) (log_of P (fresh q) cs)

-- ---- tried against it

-- refusing everything
unfoldable pub refusing : Program
refusing g c = doing (refuses 12) g

-- one constant bin
unfoldable pub constant_bin : List Float → Float → ℕ
constant_bin es x = 0

-- training that stores nothing, and answers as the right one
unfoldable pub forgetting : Grid → Sample → Float → ℕ → Done
forgetting g s e k = doing (worded (told g (trains s e k))) g

-- training only the first sample
unfoldable pub sated : Grid → Sample → Float → ℕ → Done
sated g s e k = doing (worded (told g (trains s e k))) (cond (eqb (own_of g).new_samples 0) (after g (trains s e k)) g)

-- an invented `processed_samples`: the summary tells one more
unfoldable pub one_more : Summary → Summary
one_more s = record { iterations = s.iterations; samples = s.samples + 1; average = s.average; error = s.error; chi_squared = s.chi_squared; flat = s.flat }

unfoldable pub boasting : Grid → Done
boasting g = doing (gives (summary (one_more (account.summary_of (own_of g))))) g

-- ---- slips

-- an interior edge counted in the bin to its right
unfoldable pub first_below : Float → List Float → ℕ
first_below x [] = 0
first_below x (b ∷ es) = cond (lt x b) 0 (suc (first_below x es))

unfoldable pub right_bin : List Float → Float → ℕ
right_bin [] x = 0
right_bin (a ∷ es) x = first_below x es

-- edges only checked as non-falling
unfoldable pub level : List Float → Bool
level [] = true
level (a ∷ []) = true
level (a ∷ (b ∷ es)) = le a b && level (b ∷ es)

unfoldable pub level_formed : List Float → Bool
level_formed es = leb 2 (length es) && (eq (get_or es 0 nan) zero64 && (eq (get_or es (bins_of es) nan) one64 && level es))

-- bin counters merged
unfoldable pub joined_all : List Axis → List Axis → List Axis
joined_all [] others = []
joined_all (a ∷ rest) [] = a ∷ rest
joined_all (a ∷ rest) (b ∷ others) =
    record { edges = a.edges; bins = a.bins; importances = a.importances; counters = joined_counts a.counters b.counters; recuts = a.recuts } ∷ joined_all rest others

unfoldable pub joined_grid : Grid → Grid → Grid
joined_grid (axes g) (axes o) = axes (record { plan = g.plan; axes = joined_all g.axes o.axes; own = g.own })
joined_grid (axes g) (bins h bs) = axes g
joined_grid (bins h bs) o = bins h bs

unfoldable pub joining : Grid → Grid → Done
joining g o = doing (worded (told g (merges o))) (joined_grid (after g (merges o)) o)

-- the variance clamped at zero: the error of all samples, processed and waiting
unfoldable pub clamped_error : StatisticsAccumulator → Float
clamped_error a =
    let n = count_of (a.processed_samples + a.new_samples) in
    let mean = div binary64 (add binary64 a.total_sum a.sum) n in
    let v = variance_of mean (div binary64 (add binary64 a.total_sum_sq a.sum_sq) n) n in
    root_of (cond (lt v zero64) zero64 v)

unfoldable pub clamping : Grid → Done
clamping g =
    let a = own_of g in
    let e = account.estimates_of (updated_of false a) in
    doing (gives (estimate (record { avg = e.avg; err = clamped_error a; chi_sq = e.chi_sq }))) g

-- a refusal found on axis 3 after axes 1 and 2 were written: each axis is written before the next is judged
unfoldable pub written_upto : List Axis → List Float → Float → List Axis
written_upto [] xs v = []
written_upto (a ∷ rest) [] v = a ∷ rest
written_upto (a ∷ rest) (x ∷ xs) v = cond (in_unit x) (train_axis a x v ∷ written_upto rest xs v) (a ∷ rest)

unfoldable pub written_grid : Grid → Sample → Float → Grid
written_grid (axes g) s e = axes (record { plan = g.plan; axes = written_upto g.axes s.coordinates (mul binary64 (weight_at s.weights) e); own = g.own })
written_grid (bins h bs) s e = bins h bs

unfoldable pub hasty : Grid → Sample → Float → ℕ → Done
hasty g s e k = let w = worded (told g (trains s e k)) in doing w (cond (granted w) (after g (trains s e k)) (written_grid g s e))
