-- Columns that take another's: parts that are lent and come back joined, what then stands in a column, and what stays.
use mathlib.Core.Path.{◌≡◌, refl, sym, ap, ap₂, ◌∙◌}
use mathlib.Core.List.{List, [], ◌∷◌, ◌++◌}
use Prim.Native.Nat.{ℕ, zero, suc, ◌+◌, ◌-◌, ◌*◌, ◌≤◌, ◌<◌}
use native.Mathlib.Omega.{arith}
use lib.ListN.{length, take, drop, get_or}
use Rattle.recut.specs.Pairs.{pairwise}
use Rattle.recut.specs.Gather.{joined_count}
use Rattle.recut.proofs.Pairs.{pairs-length}
use Rattle.lent.specs.declared.AxesAt.{AxesAt}
use Rattle.lent.specs.Layout.{stretch, axis_reals, axis_counts}
use Rattle.lent.specs.Memory.{Memory, over_axes}
use Rattle.lent.specs.Onward.{onward}
use Rattle.lent.specs.Merged.{join_at, merged_counts, merge_at, each_of, merged_memory}
use Rattle.lent.proofs.Same.{Same, same-on, length-put, get_d-put-in, get_d-stretch, same-put-below, same-put-above}
use Rattle.lent.proofs.Lays.{lent_back}
use Rattle.lent.proofs.Changes.{stretch-length}

pub joined : {A : Type 0} (f : A → A → A) (at from n : ℕ) (ys theirs xs : List A)
    → ys ≡ pairwise f (take (at + n - at) (drop at xs)) (take (from + n - from) (drop from theirs))
    → take at xs ++ (ys ++ drop (at + n - at) (drop at xs)) ≡ join_at f at from n theirs xs
unfolding join_at stretch
joined f at from n ys theirs xs e =
    let a : at + n - at ≡ n = omega arith in
    let b : from + n - from ≡ n = omega arith in
    lent_back at n ys (pairwise f (take n (drop at xs)) (take n (drop from theirs))) xs
    (e ∙ ap₂ (λ (i j : ℕ). pairwise f (take i (drop at xs)) (take j (drop from theirs))) a b)

module _ {A : Type 0} (d : A) (f : A → A → A) where
  pairs-entry : (xs ys : List A) (i : ℕ) → i < length xs → i < length ys → get_or (pairwise f xs ys) i d ≡ f (get_or xs i d) (get_or ys i d)
  unfolding pairwise
  pairs-entry [] ys i h k = absurd (omega arith)
  pairs-entry (x ∷ xs) [] i h k = absurd (omega arith)
  pairs-entry (x ∷ xs) (y ∷ ys) zero h k = refl
  pairs-entry (x ∷ xs) (y ∷ ys) (suc i) h k = pairs-entry xs ys i (omega arith) (omega arith)

  module _ (at from n : ℕ) (theirs xs : List A) (h : at + n ≤ length xs) where
    as_long : length (pairwise f (stretch at n xs) (stretch from n theirs)) ≡ n
    as_long = pairs-length f (stretch at n xs) (stretch from n theirs) ∙ stretch-length at n xs h

    pub join-length : length (join_at f at from n theirs xs) ≡ length xs
    unfolding join_at
    join-length = length-put at n (pairwise f (stretch at n xs) (stretch from n theirs)) xs h as_long

    -- a column below the interval, or above it
    pub join-below : (lo hi : ℕ) → at + n ≤ lo → Same d lo hi (join_at f at from n theirs xs) xs
    unfolding join_at
    join-below lo hi k = same-put-below d lo hi at n (pairwise f (stretch at n xs) (stretch from n theirs)) xs h as_long k

    pub join-above : (lo hi : ℕ) → hi ≤ at → Same d lo hi (join_at f at from n theirs xs) xs
    unfolding join_at
    join-above lo hi k = same-put-above d lo hi at n (pairwise f (stretch at n xs) (stretch from n theirs)) xs h as_long k

    -- an entry before the column, one past it, and one of the column itself
    pub join-before : (p : ℕ) → p < at → get_or (join_at f at from n theirs xs) p d ≡ get_or xs p d
    join-before p k = (join-above p (suc p) (omega arith)).cells p (omega arith) (omega arith)

    pub join-past : (p : ℕ) → at + n ≤ p → get_or (join_at f at from n theirs xs) p d ≡ get_or xs p d
    join-past p k = (join-below p (suc p) (omega arith)).cells p (omega arith) (omega arith)

    pub join-in : (i : ℕ) → i < n → from + n ≤ length theirs → get_or (join_at f at from n theirs xs) (at + i) d ≡ f (get_or xs (at + i) d) (get_or theirs (from + i) d)
    unfolding join_at
    join-in i k g =
        get_d-put-in d at n i (pairwise f (stretch at n xs) (stretch from n theirs)) xs (omega arith) (omega (arith, as_long))
        ∙ pairs-entry (stretch at n xs) (stretch from n theirs) i (omega (arith, stretch-length at n xs h)) (omega (arith, stretch-length from n theirs g))
        ∙ ap₂ f (get_d-stretch d at n i xs k) (get_d-stretch d from n i theirs k)

-- ---- an axis's counts

module _ (m k n c d : ℕ) (theirs xs : List ℕ) (few : n ≤ m) (room : c + (3 * m + 2) ≤ length xs) where
  abbrev waited : List ℕ
  waited = join_at joined_count (c + 2) (d + 2) n theirs xs

  waited-length : length waited ≡ length xs
  waited-length = join-length 0 joined_count (c + 2) (d + 2) n theirs xs (omega arith)

  -- what stands above the two columns that change, and what stands below them
  pub counts-above : (lo hi : ℕ) → c + (2 * m + 2) ≤ lo → Same 0 lo hi (merged_counts m k n c d theirs xs) xs
  unfolding merged_counts
  counts-above lo hi h =
      same-on 0 lo hi _ _ _ (join-below 0 joined_count (c + (m + 2)) (d + (k + 2)) n theirs waited (omega (arith, waited-length)) lo hi (omega arith))
      (join-below 0 joined_count (c + 2) (d + 2) n theirs xs (omega arith) lo hi (omega arith))

  pub counts-below : (lo hi : ℕ) → hi ≤ c + 2 → Same 0 lo hi (merged_counts m k n c d theirs xs) xs
  unfolding merged_counts
  counts-below lo hi h =
      same-on 0 lo hi _ _ _ (join-above 0 joined_count (c + (m + 2)) (d + (k + 2)) n theirs waited (omega (arith, waited-length)) lo hi (omega arith))
      (join-above 0 joined_count (c + 2) (d + 2) n theirs xs (omega arith) lo hi (omega arith))

-- ---- axis after axis

pub merged-next : (g o g' o' : AxesAt) (others s t : Memory) → 0 < g.axes → g' ≡ onward g → o' ≡ onward o → t ≡ merge_at g.most others g.reals g.counts o s
    → merged_memory g' o' others t ≡ merged_memory g o others s
unfolding merged_memory each_of over_axes onward
merged-next g o g' o' others s t h e f u =
    let one : g.axes ≡ suc (g.axes - 1) = omega arith in
    ap₂ (λ (a b : AxesAt). merged_memory a b others t) e f
    ∙ ap (λ (v : Memory). over_axes (merge_at g.most others) g.most (each_of (g.axes - 1) (onward o)) (g.reals + axis_reals g.most) (g.counts + axis_counts g.most) v) u
    ∙ ap (λ (j : ℕ). over_axes (merge_at g.most others) g.most (each_of j o) g.reals g.counts s) (sym one)

pub merged-done : (g o : AxesAt) (others s : Memory) → g.axes ≤ 0 → merged_memory g o others s ≡ s
unfolding merged_memory each_of over_axes
merged-done g o others s h = let e : g.axes ≡ 0 = omega arith in ap (λ (j : ℕ). over_axes (merge_at g.most others) g.most (each_of j o) g.reals g.counts s) e
