-- Reading an axes grid out of lent memory (docs/DESIGN.md, "Lent memory"). An axis's columns stand one after the other, each with
-- room for its largest number of bins, m; of each the bins now held are read.
use Rattle.std.specs.Prelude.{ℕ, zero, suc, ◌+◌, ◌*◌, Bool, ◌&&◌, List, [], ◌∷◌, leb, take, drop, get_or, Float}
use Rattle.std.specs.Float.{nan}
use Rattle.accumulator.specs.declared.StatisticsAccumulator.{StatisticsAccumulator}
use Rattle.accumulator.specs.Record.{fresh, with_waiting, with_extremes}
use Rattle.model.specs.Axes.{Axis}

-- n entries from a place on
unfoldable pub stretch : {A : Type 0} → ℕ → ℕ → List A → List A
stretch at n xs = take n (drop at xs)

-- what an axis of at most m bins takes: reals for edges, importances, sums, squares, highest and lowest; counts for the bins now held, the
-- re-cuts, waiting samples, waiting zeros and counters
unfoldable pub axis_reals : ℕ → ℕ
axis_reals m = 6 * m + 1

unfoldable pub axis_counts : ℕ → ℕ
axis_counts m = 3 * m + 2

-- R reals and C counts have room for k axes of at most m bins from r and c on: no more axes and bins than a plan may have
unfoldable pub roomy_axes : ℕ → ℕ → ℕ → ℕ → ℕ → ℕ → Bool
roomy_axes m k r c R C = leb m 1024 && (leb k 8 && (leb (r + k * axis_reals m) R && leb (c + k * axis_counts m) C))

-- a bin's record out of its six fields: nothing else of it can differ from zero
unfoldable pub bin_record : Float → Float → Float → Float → ℕ → ℕ → StatisticsAccumulator
bin_record sum squares highest lowest waiting zeros = with_extremes (with_waiting fresh sum squares waiting zeros) highest 0 lowest 0

-- the record of bin i of the axis whose reals begin at r and whose counts begin at c
unfoldable pub bin_at : ℕ → List Float → List ℕ → ℕ → ℕ → ℕ → StatisticsAccumulator
bin_at m reals counts r c i =
    bin_record (get_or reals (r + (2 * m + 1) + i) nan) (get_or reals (r + (3 * m + 1) + i) nan) (get_or reals (r + (4 * m + 1) + i) nan)
    (get_or reals (r + (5 * m + 1) + i) nan) (get_or counts (c + 2 + i) 0) (get_or counts (c + (m + 2) + i) 0)

-- of n bins, from bin i on
unfoldable pub bins_from : ℕ → List Float → List ℕ → ℕ → ℕ → ℕ → ℕ → List StatisticsAccumulator
bins_from m reals counts r c i zero = []
bins_from m reals counts r c i (suc n) = bin_at m reals counts r c i ∷ bins_from m reals counts r c (i + 1) n

unfoldable pub axis_at : ℕ → List Float → List ℕ → ℕ → ℕ → Axis
axis_at m reals counts r c =
    let n = get_or counts c 0 in
    record {
      edges = stretch r (n + 1) reals;
      bins = bins_from m reals counts r c 0 n;
      importances = stretch (r + (m + 1)) n reals;
      counters = stretch (c + (2 * m + 2)) n counts;
      recuts = get_or counts (c + 1) 0;
    }

-- k axes one after the other
unfoldable pub axes_from : ℕ → List Float → List ℕ → ℕ → ℕ → ℕ → List Axis
axes_from m reals counts zero r c = []
axes_from m reals counts (suc k) r c = axis_at m reals counts r c ∷ axes_from m reals counts k (r + axis_reals m) (c + axis_counts m)
