-- A draw from the axes of a grid in lent memory.
use Rattle.std.specs.Prelude.{◌≡◌, true, ℕ, zero, suc, ◌+◌, ◌≤◌, List, ◌++◌, length, take, get_or, replicate, Float}
use Rattle.std.proofs.lemmas.List.Edits.{sets}
use Rattle.axis.specs.Edges.{well_formed}
use Rattle.model.specs.Axes.{Axis}
use Rattle.model.specs.Draw.{Placed, floored_of}
use Rattle.lent.specs.declared.AxesAt.{AxesAt}
use Rattle.lent.specs.declared.Walked.{Walked}
use Rattle.lent.specs.Layout.{stretch, axis_reals, axis_counts, axes_from}

-- n entries: those of a list, then others
unfoldable pub padded : {A : Type 0} → ℕ → A → List A → List A
padded n d xs = take n (xs ++ replicate n d)

-- a walk over k axes is this one of the model's: its weight and stream, and its coordinates written over those that were there
abbrev pub Places : ℕ → Placed → Walked → List Float → List Float → Type 0
Places k p w xs xs' = (w ≡ record { weight = p.weight; stream = p.stream }) × (xs' ≡ sets xs 0 p.coordinates) × (length p.coordinates ≡ k)

-- a draw whose weight is put under a floor
unfoldable pub under_floor : Float → Placed → Placed
under_floor f p = record { coordinates = p.coordinates; weight = floored_of f p.weight; stream = p.stream }

-- k axes of at most m bins, from places r and c on, lie in lent memory; each holds at most m bins, on well-formed edges
unfoldable pub Standing : ℕ → List Float → List ℕ → ℕ → ℕ → ℕ → Type 0
Standing m reals counts zero r c = (r ≤ length reals) × (c ≤ length counts)
Standing m reals counts (suc k) r c =
    (get_or counts c 0 ≤ m) × (well_formed (stretch r (get_or counts c 0 + 1) reals) ≡ true) × Standing m reals counts k (r + axis_reals m) (c + axis_counts m)

-- the axes of a grid, and that they stand in lent memory
abbrev pub axes_at : List Float → List ℕ → AxesAt → List Axis
axes_at reals counts g = axes_from g.most reals counts g.axes g.reals g.counts

abbrev pub Stands : List Float → List ℕ → AxesAt → Type 0
Stands reals counts g = (g.axes ≤ 8) × (g.most ≤ 1024) × Standing g.most reals counts g.axes g.reals g.counts
