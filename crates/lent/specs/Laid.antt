-- Laying an axis down in lent memory: cleared columns, an axis with nothing trained, a fresh one.
use Rattle.std.specs.Prelude.{ℕ, ◌+◌, ◌*◌, ◌≤◌, Bool, ◌&&◌, cond, List, leb, length, set, replicate, Float}
use Rattle.doubles.specs.Numbers.{zero64}
use Rattle.axis.specs.Edges.{even_edges}
use Rattle.lent.specs.Layout.{axis_reals, axis_counts, roomy_axes}
use Rattle.lent.specs.Memory.{Memory, memory, put}

-- memory has room for an axis of at most m bins from r and c on, and n is such a number of bins
abbrev pub Roomy : ℕ → ℕ → ℕ → ℕ → List Float → List ℕ → Type 0
Roomy m n r c reals counts = (n ≤ m) × (m ≤ 1024) × (r + axis_reals m ≤ length reals) × (c + axis_counts m ≤ length counts)

-- the same as a test, of the two lengths
unfoldable pub roomy : ℕ → ℕ → ℕ → ℕ → ℕ → ℕ → Bool
roomy m n r c R C = leb n m && roomy_axes m 1 r c R C

-- a change where there is room for the axis, and none where there is not
unfoldable pub where_roomy : ℕ → ℕ → ℕ → ℕ → (Memory → Memory) → Memory → Memory
where_roomy m n r c f s = cond (roomy m n r c (length s.reals) (length s.counts)) (f s) s

-- n zeros from a place on
unfoldable pub cleared_reals : ℕ → ℕ → List Float → List Float
cleared_reals at n xs = put at n (replicate n zero64) xs

unfoldable pub cleared_counts : ℕ → ℕ → List ℕ → List ℕ
cleared_counts at n xs = put at n (replicate n 0) xs

-- nothing waits in the first n bins of the axis at r and c: sums, squares, waiting samples and zeros go
unfoldable pub waitless_at : ℕ → ℕ → ℕ → ℕ → Memory → Memory
waitless_at m r c n s =
    memory (cleared_reals (r + (3 * m + 1)) n (cleared_reals (r + (2 * m + 1)) n s.reals)) (cleared_counts (c + (m + 2)) n (cleared_counts (c + 2) n s.counts))

unfoldable pub waitless_of : ℕ → ℕ → ℕ → ℕ → Memory → Memory
waitless_of m r c n s = where_roomy m n r c (waitless_at m r c n) s

-- the first n bins have no importances, extremes and counters
unfoldable pub forgotten_at : ℕ → ℕ → ℕ → ℕ → Memory → Memory
forgotten_at m r c n s =
    memory (cleared_reals (r + (5 * m + 1)) n (cleared_reals (r + (4 * m + 1)) n (cleared_reals (r + (m + 1)) n s.reals))) (cleared_counts (c + (2 * m + 2)) n s.counts)

-- the axis holds n bins after so many re-cuts
unfoldable pub headed_at : ℕ → ℕ → ℕ → Memory → Memory
headed_at c n recuts s = memory s.reals (set (set s.counts c n) (c + 1) recuts)

-- n bins, nothing trained in them; the edges stay, and so does all room past n
unfoldable pub empty_at : ℕ → ℕ → ℕ → ℕ → ℕ → Memory → Memory
empty_at m r c n recuts s = headed_at c n recuts (forgotten_at m r c n (waitless_at m r c n s))

unfoldable pub empty_of : ℕ → ℕ → ℕ → ℕ → ℕ → Memory → Memory
empty_of m r c n recuts s = where_roomy m n r c (empty_at m r c n recuts) s

-- other edges from a place on
unfoldable pub edged_at : ℕ → ℕ → List Float → Memory → Memory
edged_at r n es s = memory (put r n es s.reals) s.counts

-- n even bins
unfoldable pub lay_at : ℕ → ℕ → ℕ → ℕ → Memory → Memory
lay_at m r c n s = empty_at m r c n 0 (edged_at r (n + 1) (even_edges n) s)
