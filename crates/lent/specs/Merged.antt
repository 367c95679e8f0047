-- Merging the axes of a grid with those of another, in another lent memory: each waiting column takes the other's.
use Rattle.std.specs.Prelude.{ℕ, zero, suc, ◌+◌, ◌*◌, ◌≤◌, cond, List, [], ◌∷◌, ltb, get_or, Float}
use Rattle.std.specs.Float.{binary64}
use Rattle.std.specs.Float.Ieee.{add, lt}
use Rattle.recut.specs.Pairs.{pairwise}
use Rattle.recut.specs.Gather.{joined_count}
use Rattle.lent.specs.declared.AxesAt.{AxesAt}
use Rattle.lent.specs.Layout.{stretch, axis_reals, axis_counts}
use Rattle.lent.specs.Memory.{Memory, memory, put, over_axes}
use Rattle.lent.specs.Onward.{onward}

-- n entries from a place on, each joined by f with the other's from its place on
unfoldable pub join_at : {A : Type 0} → (A → A → A) → ℕ → ℕ → ℕ → List A → List A → List A
join_at f at from n others xs = put at n (pairwise f (stretch at n xs) (stretch from n others)) xs

-- an extreme is replaced only by one beyond it
unfoldable pub higher_of : Float → Float → Float
higher_of a b = cond (lt a b) b a

unfoldable pub lower_of : Float → Float → Float
lower_of a b = cond (lt b a) b a

-- the n bins of an axis of at most m bins, whose reals begin at r, and of the other's of at most k, whose begin at q: sums and squares add,
-- extremes go to the further one; edges and importances stay
unfoldable pub merged_reals : ℕ → ℕ → ℕ → ℕ → ℕ → List Float → List Float → List Float
merged_reals m k n r q others xs =
    join_at lower_of (r + (5 * m + 1)) (q + (5 * k + 1)) n others
    (join_at higher_of (r + (4 * m + 1)) (q + (4 * k + 1)) n others
    (join_at (add binary64) (r + (3 * m + 1)) (q + (3 * k + 1)) n others
    (join_at (add binary64) (r + (2 * m + 1)) (q + (2 * k + 1)) n others xs)))

-- waiting samples and zeros add; bins held, re-cuts and counters stay
unfoldable pub merged_counts : ℕ → ℕ → ℕ → ℕ → ℕ → List ℕ → List ℕ → List ℕ
merged_counts m k n c d others xs = join_at joined_count (c + (m + 2)) (d + (k + 2)) n others (join_at joined_count (c + 2) (d + 2) n others xs)

-- the axis at r and c takes the waiting samples of the other grid's first axis; one that says it holds more bins than either has room for
-- stays
unfoldable pub merge_at : ℕ → Memory → ℕ → ℕ → AxesAt → Memory → Memory
merge_at m others r c o s =
    let n = get_or s.counts c 0 in
    cond (ltb m n) s
    (cond (ltb o.most n) s
    (memory (merged_reals m o.most n r o.reals others.reals s.reals) (merged_counts m o.most n c o.counts others.counts s.counts)))

-- the other grid from each of its axes on
unfoldable pub each_of : ℕ → AxesAt → List AxesAt
each_of zero o = []
each_of (suc k) o = o ∷ each_of k (onward o)

unfoldable pub merged_memory : AxesAt → AxesAt → Memory → Memory → Memory
merged_memory g o others s = over_axes (merge_at g.most others) g.most (each_of g.axes o) g.reals g.counts s

-- the axes lie within R reals and C counts
pub record Spaced (g : AxesAt) (R C : ℕ) : Type 0 where
  pub most : g.most ≤ 1024
  pub room : g.reals + g.axes * axis_reals g.most ≤ R
  pub places : g.counts + g.axes * axis_counts g.most ≤ C
