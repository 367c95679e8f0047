-- Judging an axes grid in lent memory (12), column by column.
use Rattle.std.specs.Prelude.{ℕ, zero, suc, ◌+◌, ◌*◌, ◌^◌, ◌≤◌, ◌<◌, Bool, true, false, ◌&&◌, cond, List, [], ◌∷◌, leb, length, get_or, Float}
use Rattle.doubles.specs.Total.{all_finite}
use Rattle.axis.specs.Edges.{well_formed}
use Rattle.axis.specs.Scans.{all_bounded}
use Rattle.accumulator.specs.Record as account
use Rattle.model.specs.Grid.{Bin, Bins, Child}
use Rattle.model.specs.Sound.{chance, listed, formed_bins, formed_child, kept_bins, kept_child}
use Rattle.lent.specs.Layout.{stretch, axis_reals, axis_counts, roomy_axes}

-- the doubles of an axis that holds n bins: edges that rise from 0 to 1, finite importances, sums and squares
unfoldable pub reals_fit : ℕ → ℕ → ℕ → List Float → Bool
reals_fit m n r reals =
    (well_formed (stretch r (n + 1) reals) && all_finite (stretch (r + (m + 1)) n reals))
    && (all_finite (stretch (r + (2 * m + 1)) n reals) && all_finite (stretch (r + (3 * m + 1)) n reals))

-- its counts: waiting, waiting zeros, counters and re-cuts at most 2^53
unfoldable pub counts_fit : ℕ → ℕ → ℕ → List ℕ → Bool
counts_fit m n c counts =
    (all_bounded (stretch (c + 2) n counts) && all_bounded (stretch (c + (m + 2)) n counts))
    && (all_bounded (stretch (c + (2 * m + 2)) n counts) && leb (get_or counts (c + 1) 0) (2 ^ 53))

-- the axis at r and c holds one of its plan's bin numbers, and both fit
unfoldable pub axis_fits : List ℕ → ℕ → List Float → List ℕ → ℕ → ℕ → Bool
axis_fits numbers m reals counts r c =
    cond (listed (get_or counts c 0) numbers) (reals_fit m (get_or counts c 0) r reals && counts_fit m (get_or counts c 0) c counts) false

unfoldable pub axes_fit : List ℕ → ℕ → List Float → List ℕ → ℕ → ℕ → ℕ → Bool
axes_fit numbers m reals counts zero r c = true
axes_fit numbers m reals counts (suc k) r c = axis_fits numbers m reals counts r c && axes_fit numbers m reals counts k (r + axis_reals m) (c + axis_counts m)

-- each of a plan's bin numbers is from 1 to m
unfoldable pub AllUpto : ℕ → List ℕ → Type 0
AllUpto m ns = (i : ℕ) → i < length ns → (1 ≤ get_or ns i 0) × (get_or ns i 0 ≤ m)

-- the same as a test
unfoldable pub all_upto : ℕ → List ℕ → Bool
all_upto m [] = true
all_upto m (n ∷ ns) = (leb 1 n && leb n m) && all_upto m ns

-- axes that memory has room for, with numbers that they have room for, and that fit
unfoldable pub axes_fit_of : List ℕ → ℕ → List Float → List ℕ → ℕ → ℕ → ℕ → Bool
axes_fit_of numbers m reals counts k r c =
    cond (roomy_axes m k r c (length reals) (length counts) && all_upto m numbers) (axes_fit numbers m reals counts k r c) false

-- ---- the tree

-- a bin and what hangs there
unfoldable pub sound_bin : Bin → Child → Bool
sound_bin b c = (chance b.probability && account.well_formed b.own) && (formed_child c && kept_child c)

unfoldable pub sound_bins : Bins → Bool
sound_bins bs = formed_bins bs && kept_bins bs
