-- Calls on one of the model's grids: what each says and leaves, a sequence of them, and the count that a history has of its own for an
-- axis: the samples that the axis accepted, merged ones included, since its last reset.
use Rattle.std.specs.Prelude.{ℕ, zero, suc, ◌+◌, Bool, true, false, not, ◌&&◌, cond, List, [], ◌∷◌, leb, Float}
use Rattle.std.proofs.Math.Option.{Option, some}
use Rattle.std.proofs.Math.Option as option
use Rattle.doubles.specs.Paper.{Paper, gives, refuses}
use Rattle.stream.specs.declared.MonteCarloRng.{MonteCarloRng}
use Rattle.accumulator.specs.declared.StatisticsAccumulator.{StatisticsAccumulator}
use Rattle.accumulator.specs.declared.Estimate.{Estimate}
use Rattle.accumulator.specs.declared.Summary.{Summary}
use Rattle.accumulator.specs.Calls.{summarize_of, live_estimate_of}
use Rattle.recut.specs.Gather.{sum_of}
use Rattle.model.specs.Axes.{Axis}
use Rattle.model.specs.Grid.{Grid, copy_grid}
use Rattle.model.specs.Sound.{sound}
use Rattle.model.specs.Draw.{Sample, Drawing, draw_grid}
use Rattle.model.specs.Probe.{Coordinate, probe_grid}
use Rattle.model.specs.Train.{train_of}
use Rattle.model.specs.Merge.{merge_fault, merge_of}
use Rattle.model.specs.Update.{update_of}
use Rattle.lent.specs.State.{own_of}
use Rattle.lent.specs.Bins.{estimate_along}
use Rattle.grid.specs.Address.{Spot, axis_at}

pub data Call : Type 0 where
  draws : MonteCarloRng → Call
  probes : List ℕ → List Coordinate → Call
  sums : Call
  estimates : Call
  estimates_bin : List ℕ → Call
  trains : Sample → Float → ℕ → Call
  updates : Float → Float → Call
  matches : Grid → Call
  merges : Grid → Call
  -- going on with the copy
  copies : Call
  -- a call refused for what is lent beside the grid: a spare or a destination too short (10), another state that is not well formed (12)
  lacks : ℕ → Call

-- ---- what a call says, and the grid that it leaves

pub data Word : Type 0 where
  done : Word
  drawing : Drawing → Word
  weight : Float → Word
  summary : Summary → Word
  estimate : Estimate → Word

pub record Told : Type 0 where
  pub word : Word
  pub grid : Grid

abbrev pub telling : Word → Grid → Told
telling w g = record { word = w; grid = g }

-- a call that reads the grid, and one that leaves another
unfoldable pub reading : {A : Type 0} → (A → Word) → Grid → Paper A → Paper Told
reading f g (gives x) = gives (telling (f x) g)
reading f g (refuses n) = refuses n

unfoldable pub leaving : Paper Grid → Paper Told
leaving (gives g) = gives (telling done g)
leaving (refuses n) = refuses n

-- 0 is no refusal
unfoldable pub numbered : ℕ → Paper Word
numbered zero = gives done
numbered (suc n) = refuses (suc n)

unfoldable pub matched : Grid → Paper Word → Paper Told
matched g (gives w) = gives (telling w g)
matched g (refuses n) = refuses n

unfoldable pub told : Grid → Call → Paper Told
told g (draws s) = gives (telling (drawing (draw_grid g s)) g)
told g (probes path xs) = reading weight g (probe_grid g path xs)
told g sums = reading summary g (summarize_of (own_of g))
told g estimates = reading estimate g (live_estimate_of (own_of g))
told g (estimates_bin path) = reading estimate g (estimate_along g path)
told g (trains s e k) = leaving (train_of g s e k)
told g (updates bins_rate axes_rate) = leaving (update_of bins_rate axes_rate g)
told g (matches o) = cond (not (sound o)) (refuses 12) (matched g (numbered (merge_fault g o)))
told g (merges o) = cond (not (sound o)) (refuses 12) (leaving (merge_of g o))
told g copies = gives (telling done (copy_grid g))
told g (lacks n) = refuses n

-- ---- a sequence of calls

-- a refused call leaves the grid as it was
unfoldable pub onward : Grid → Paper Told → Grid
onward g (gives t) = t.grid
onward g (refuses n) = g

unfoldable pub after : Grid → Call → Grid
after g c = onward g (told g c)

unfoldable pub run : Grid → List Call → Grid
run g [] = g
run g (c ∷ cs) = run (after g c) cs

-- a history as its user saw it: each call, and whether it was accepted
pub record Entry : Type 0 where
  pub call : Call
  pub accepted : Bool

abbrev pub entry : Call → Bool → Entry
entry c b = record { call = c; accepted = b }

unfoldable pub given : Paper Told → Bool
given (gives t) = true
given (refuses n) = false

unfoldable pub log : Grid → List Call → List Entry
log g [] = []
log g (c ∷ cs) = entry c (given (told g c)) ∷ log (after g c) cs

-- ---- the history's own count of an axis

-- samples since the last reset: those that wait, and those that an update gathered
pub record Count : Type 0 where
  pub new : ℕ
  pub old : ℕ

abbrev pub count : ℕ → ℕ → Count
count n m = record { new = n; old = m }

-- the two paths are one
unfoldable pub is : ℕ → ℕ → Bool
is zero zero = true
is zero (suc j) = false
is (suc i) zero = false
is (suc i) (suc j) = is i j

unfoldable pub same : List ℕ → List ℕ → Bool
same [] [] = true
same [] (j ∷ q) = false
same (i ∷ p) [] = false
same (i ∷ p) (j ∷ q) = is i j && same p q

-- how many samples wait in bins, and in another grid at an address
unfoldable pub waiting : List StatisticsAccumulator → ℕ
waiting [] = 0
waiting (a ∷ rest) = a.new_samples + waiting rest

unfoldable pub waits : Option Spot → ℕ
waits option.none = 0
waits (some s) = waiting s.axis.bins

-- a bin's count is its counter plus its waiting samples
unfoldable pub bin_counts : List ℕ → List StatisticsAccumulator → List ℕ
bin_counts [] as' = []
bin_counts (n ∷ ns) [] = []
bin_counts (n ∷ ns) (a ∷ as') = (n + a.new_samples) ∷ bin_counts ns as'

-- what an axis's bin counts total
unfoldable pub total_of : Axis → ℕ
total_of ax = sum_of (bin_counts ax.counters ax.bins)

-- one accepted call, for the axis number k at the end of the path p, whose least samples are m. A sample counts on the axes that its path
-- reaches; a merge adds what then waits in the other; an update that reaches the least samples resets, and one that does not gathers; a
-- copy loses what waits in an axes root, and nested grids keep it
unfoldable pub counted : ℕ → List ℕ → ℕ → Call → Count → Count
counted m p k (draws s) c = c
counted m p k (probes path xs) c = c
counted m p k sums c = c
counted m p k estimates c = c
counted m p k (estimates_bin path) c = c
counted m p k (trains s e number) c = cond (same s.path p) (count (c.new + 1) c.old) c
counted m p k (updates bins_rate axes_rate) c = cond (leb m (c.old + c.new)) (count 0 0) (count 0 (c.old + c.new))
counted m p k (matches o) c = c
counted m p k (merges o) c = count (c.new + waits (axis_at o p k)) c.old
counted m p k copies c = cond (same p []) (count 0 c.old) c
counted m p k (lacks n) c = c

-- the whole history; a refused call counts nothing
unfoldable pub tally : ℕ → List ℕ → ℕ → Count → List Entry → Count
tally m p k c [] = c
tally m p k c (e ∷ es) = tally m p k (cond e.accepted (counted m p k e.call c) c) es

-- from nothing
unfoldable pub since_reset : ℕ → List ℕ → ℕ → List Entry → ℕ
since_reset m p k es = let c = tally m p k (count 0 0) es in c.old + c.new
