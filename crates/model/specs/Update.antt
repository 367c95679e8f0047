-- Updating: 3 for a rate outside [0, 10], 8 anywhere, 9 anywhere, then the grid with its samples processed and its axes and probabilities
-- adapted. Rates: the bins rate first, then the axes rate.
use Rattle.std.specs.Prelude.{ℕ, ◌+◌, ◌-◌, Bool, true, false, not, ◌&&◌, ◌||◌, cond, List, [], ◌∷◌, map, ltb, eqb, length, get_or, Float}
use Rattle.std.specs.Float.{binary64}
use Rattle.std.specs.Float.Ieee.{of_bits, mul, le, eq}
use Rattle.doubles.specs.Numbers.{zero64}
use Rattle.plain.specs.Norm.{norm_of}
use Rattle.doubles.specs.Count.{count_of}
use Rattle.careful.specs.Root.{root_of}
use Rattle.doubles.specs.Total.{all_finite}
use Rattle.doubles.specs.Paper.{Paper, gives, refuses}
use Rattle.accumulator.specs.declared.StatisticsAccumulator.{StatisticsAccumulator}
use Rattle.accumulator.specs.Record.{bounded, well_formed}
use Rattle.accumulator.specs.Steps.{cleared_of}
use Rattle.accumulator.specs.Update.{updated_of}
use Rattle.axis.specs.Scans.{all_bounded}
use Rattle.recut.specs.Gather.{gathered_of, joined_counts, reaches_of}
use Rattle.recut.specs.Renew.{renew_of}
use Rattle.recut.specs.Chances.{adapted_to, all_chances}
use Rattle.model.specs.Axes.{Axis, AxesPlan, AxesGrid, empty_axis}
use Rattle.model.specs.Grid.{Head, Grid, Bins, Child, axes, bins, none, more, nothing, grid, with_head, with_bin}

-- ---- an axis

-- a bin's sum on averages, its sum of squares on squares
unfoldable pub trained : Bool → StatisticsAccumulator → Float
trained averages a = cond averages a.sum a.sum_sq

-- importances and counts gather, after which nothing waits in the axis's bins
unfoldable pub gathered_axis : Bool → Axis → Axis
gathered_axis averages ax =
    record {
      edges = ax.edges;
      bins = map cleared_of ax.bins;
      importances = gathered_of ax.importances (map (trained averages) ax.bins);
      counters = joined_counts ax.counters (map (λ (a : StatisticsAccumulator). a.new_samples) ax.bins);
      recuts = ax.recuts;
    }

-- the number of bins after so many re-cuts: the list's value there, or its last; without 02 the bins of 01
unfoldable pub last_or : ℕ → List ℕ → ℕ
last_or n [] = n
last_or n (m ∷ ms) = last_or m ms

unfoldable pub bins_after : AxesPlan → ℕ → ℕ
bins_after plan recuts = get_or plan.evolution recuts (last_or plan.bins plan.evolution)

-- with new edges, nothing trained
abbrev pub recut_to : ℕ → ℕ → Paper (List Float) → Paper Axis
recut_to n recuts (gives es) = gives (empty_axis es n (recuts + 1))
recut_to n recuts (refuses k) = refuses k

-- from the gathered axis on
unfoldable pub adapted_axis : AxesPlan → Float → Axis → Paper Axis
adapted_axis plan rate ax =
    let n = bins_after plan ax.recuts in
    cond (not (all_finite ax.importances && all_bounded ax.counters)) (refuses 8)
    (cond (not (reaches_of plan.least ax.counters)) (gives ax)
    (cond (eq rate zero64) (gives (empty_axis ax.edges (length ax.bins) ax.recuts))
    (cond (not (bounded (ax.recuts + 1))) (refuses 8)
    (recut_to n ax.recuts (renew_of ax.edges ax.importances ax.counters rate (n + 1))))))

unfoldable pub update_axis : AxesPlan → Float → Axis → Paper Axis
update_axis plan rate ax = adapted_axis plan rate (gathered_axis plan.averages ax)

-- ---- what an update of a part comes to: whether some 8 or some 9 was found, and the part after it

pub record Outcome (A : Type 0) : Type 0 where
  pub eight : Bool
  pub nine : Bool
  pub after : A

-- an axis that is refused stays as it was
abbrev pub outcome_of : Axis → Paper Axis → Outcome Axis
outcome_of ax (gives a) = record { eight = false; nine = false; after = a }
outcome_of ax (refuses n) = record { eight = eqb n 8; nine = eqb n 9; after = ax }

unfoldable pub update_all : AxesPlan → Float → List Axis → Outcome (List Axis)
update_all plan rate [] = record { eight = false; nine = false; after = [] }
update_all plan rate (ax ∷ rest) =
    let o = outcome_of ax (update_axis plan rate ax) in
    let r = update_all plan rate rest in
    record { eight = o.eight || r.eight; nine = o.nine || r.nine; after = o.after ∷ r.after }

-- the axes grid's own accumulator is always updated
unfoldable pub update_axes : Float → AxesGrid → Outcome Grid
update_axes rate g =
    let o = update_all g.plan rate g.axes in
    let a = updated_of false g.own in
    record { eight = o.eight || not (well_formed a); nine = o.nine; after = axes (record { plan = g.plan; axes = o.after; own = a }) }

-- ---- a bins grid

-- whether a bin leaves nothing to adapt to
unfoldable pub idle : Bool → StatisticsAccumulator → Bool
idle averages a = cond averages (eq a.avg zero64) (eq a.err zero64 || ltb a.processed_samples 2)

unfoldable pub all_idle : Bool → Bins → Bool
all_idle averages none = true
all_idle averages (more b c bs) = idle averages b.own && all_idle averages bs

-- a bin's raw probability: the size of its average; or its error times the root of its samples less one, 0 for fewer than two
unfoldable pub raw_of : Bool → StatisticsAccumulator → Float
raw_of averages a =
    cond averages (norm_of a.avg)
    (cond (ltb a.processed_samples 2) zero64 (mul binary64 a.err (root_of (count_of (a.processed_samples - 1)))))

unfoldable pub raws : Bool → Bins → List Float
raws averages none = []
raws averages (more b c bs) = raw_of averages b.own ∷ raws averages bs

unfoldable pub with_probabilities : Bins → List Float → Bins
with_probabilities none ps = none
with_probabilities (more b c bs) [] = more b c bs
with_probabilities (more b c bs) (p ∷ ps) = more (record { probability = p; own = b.own }) c (with_probabilities bs ps)

-- from the updated bins on: an early return leaves probabilities and the own accumulator as they were
unfoldable pub adapted_bins : Float → Head → Outcome Bins → Outcome Grid
adapted_bins rate h o =
    let ps = adapted_to h.ratio (raws h.averages o.after) in
    let a = updated_of false h.own in
    cond (eq rate zero64 || all_idle h.averages o.after)
    (record { eight = o.eight; nine = o.nine; after = bins h o.after })
    (record {
      eight = o.eight || not (well_formed a);
      nine = o.nine || not (all_chances ps);
      after = bins (with_head h a) (with_probabilities o.after ps);
    })

abbrev pub nested : Outcome Grid → Outcome Child
nested o = record { eight = o.eight; nine = o.nine; after = grid o.after }

unfoldable mutual
  pub update_grid : Float → Float → Grid → Outcome Grid
  update_grid bins_rate axes_rate (axes g) = update_axes axes_rate g
  update_grid bins_rate axes_rate (bins h bs) = adapted_bins bins_rate h (update_bins bins_rate axes_rate bs)

  -- each bin in order: its child, then its own accumulator
  pub update_bins : Float → Float → Bins → Outcome Bins
  update_bins bins_rate axes_rate none = record { eight = false; nine = false; after = none }
  update_bins bins_rate axes_rate (more b c bs) =
      let o = update_child bins_rate axes_rate c in
      let a = updated_of false b.own in
      let r = update_bins bins_rate axes_rate bs in
      record { eight = (o.eight || not (well_formed a)) || r.eight; nine = o.nine || r.nine; after = more (with_bin b a) o.after r.after }

  pub update_child : Float → Float → Child → Outcome Child
  update_child bins_rate axes_rate nothing = record { eight = false; nine = false; after = nothing }
  update_child bins_rate axes_rate (grid g) = nested (update_grid bins_rate axes_rate g)

-- a rate is a number in [0, 10]
unfoldable pub rate_fits : Float → Bool
rate_fits r = le zero64 r && le r (of_bits binary64 0x4024_0000_0000_0000)

-- the call on a well-formed grid
unfoldable pub update_of : Float → Float → Grid → Paper Grid
update_of bins_rate axes_rate g =
    let o = update_grid bins_rate axes_rate g in
    cond (not (rate_fits bins_rate && rate_fits axes_rate)) (refuses 3)
    (cond o.eight (refuses 8)
    (cond o.nine (refuses 9)
    (gives o.after)))
