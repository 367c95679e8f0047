-- Axes that took another grid's waiting samples, in lent memory, are read as the model's merged axes; counters, importances and edges stay.
use mathlib.Core.Path.{◌≡◌, refl, sym, ap, ap₂, subst, ◌∙◌}
use mathlib.Core.Bool.{true}
use mathlib.Core.List.{List, [], ◌∷◌}
use Prim.Native.Nat.{ℕ, zero, suc, ◌+◌, ◌*◌, ◌≤◌, ◌<◌}
use native.Mathlib.Omega.{arith}
use borrow.Author.Tests.{le-ltb}
use lib.ListN.{length, get_or}
use lib.Ieee.{Float, nan, binary64, add}
use Rattle.accumulator.specs.declared.StatisticsAccumulator.{StatisticsAccumulator}
use Rattle.accumulator.specs.Steps.{merged_of}
use Rattle.recut.specs.Gather.{joined_count}
use Rattle.model.specs.Axes.{Axis}
use Rattle.model.specs.Sound.{kept_axis, kept_axis_list}
use Rattle.model.specs.Merge.{same_lengths, merge_bin_records, merge_axis, merge_all}
use Rattle.lent.specs.declared.AxesAt.{AxesAt}
use Rattle.lent.specs.Layout.{axis_reals, axis_counts, bin_at, bins_from, axis_at, axes_from}
use Rattle.lent.specs.Memory.{Memory, memory, over_axes, Asked}
use Rattle.lent.specs.Drawn.{Stands, axes_at}
use Rattle.lent.specs.Onward.{onward}
use Rattle.lent.specs.Merged.{join_at, higher_of, lower_of, merged_reals, merged_counts, merge_at, each_of, merged_memory}
use Rattle.lent.proofs.Same.{Same, same-on, stretch-same}
use Rattle.lent.proofs.Reading.{Holding, axis-same}
use Rattle.lent.proofs.Over.{Local, Frames, each_axis, over_below, over-above, over-tied}
use Rattle.lent.proofs.First.{first}
use Rattle.lent.proofs.Scans.{joined-sum, bounded_at}
use Rattle.lent.proofs.Kept.{merged-record, kept-bounded}
use Rattle.lent.proofs.Joins.{join-length, join-below, join-above, join-before, join-past, join-in, counts-above, counts-below}
use Rattle.lent.proofs.Merges.{same_at, as_many, paired, kept-first}

-- what a step asks at its axis: both axes lie in memory, hold as many bins, and may be kept
pub record Fit (m : ℕ) (others : Memory) (r c : ℕ) (o : AxesAt) (s : Memory) : Type 0 where
  pub held : get_or s.counts c 0 ≤ m
  pub room : r + (6 * m + 1) ≤ length s.reals
  pub places : c + (3 * m + 2) ≤ length s.counts
  pub theirs : get_or s.counts c 0 ≤ o.most
  pub reals : o.reals + (6 * o.most + 1) ≤ length others.reals
  pub counts : o.counts + (3 * o.most + 2) ≤ length others.counts
  pub same : get_or s.counts c 0 ≡ get_or others.counts o.counts 0
  pub kept : kept_axis (axis_at m s.reals s.counts r c) ≡ true
  pub sound : kept_axis (axis_at o.most others.reals others.counts o.reals o.counts) ≡ true

module _ (m : ℕ) (others : Memory) (r c : ℕ) (o : AxesAt) (s : Memory) (p : Fit m others r c o s) where
  abbrev n : ℕ
  n = get_or s.counts c 0

  abbrev k : ℕ
  k = o.most

  abbrev q : ℕ
  q = o.reals

  abbrev d : ℕ
  d = o.counts

  abbrev T : List Float
  T = others.reals

  abbrev Y : List ℕ
  Y = others.counts

  abbrev R₁ : List Float
  R₁ = join_at (add binary64) (r + (2 * m + 1)) (q + (2 * k + 1)) n T s.reals

  abbrev R₂ : List Float
  R₂ = join_at (add binary64) (r + (3 * m + 1)) (q + (3 * k + 1)) n T R₁

  abbrev R₃ : List Float
  R₃ = join_at higher_of (r + (4 * m + 1)) (q + (4 * k + 1)) n T R₂

  abbrev R : List Float
  R = join_at lower_of (r + (5 * m + 1)) (q + (5 * k + 1)) n T R₃

  abbrev C₁ : List ℕ
  C₁ = join_at joined_count (c + 2) (d + 2) n Y s.counts

  abbrev C : List ℕ
  C = join_at joined_count (c + (m + 2)) (d + (k + 2)) n Y C₁

  -- each column has room
  room₁ : r + (2 * m + 1) + n ≤ length s.reals
  room₁ = omega (arith, p.room, p.held)

  size₁ : length R₁ ≡ length s.reals
  size₁ = join-length nan (add binary64) (r + (2 * m + 1)) (q + (2 * k + 1)) n T s.reals room₁

  room₂ : r + (3 * m + 1) + n ≤ length R₁
  room₂ = omega (arith, p.room, p.held, size₁)

  size₂ : length R₂ ≡ length s.reals
  size₂ = join-length nan (add binary64) (r + (3 * m + 1)) (q + (3 * k + 1)) n T R₁ room₂ ∙ size₁

  room₃ : r + (4 * m + 1) + n ≤ length R₂
  room₃ = omega (arith, p.room, p.held, size₂)

  size₃ : length R₃ ≡ length s.reals
  size₃ = join-length nan higher_of (r + (4 * m + 1)) (q + (4 * k + 1)) n T R₂ room₃ ∙ size₂

  room₄ : r + (5 * m + 1) + n ≤ length R₃
  room₄ = omega (arith, p.room, p.held, size₃)

  places₁ : c + 2 + n ≤ length s.counts
  places₁ = omega (arith, p.places, p.held)

  places₂ : c + (m + 2) + n ≤ length C₁
  places₂ = omega (arith, p.places, p.held, join-length 0 joined_count (c + 2) (d + 2) n Y s.counts places₁)

  -- the reals below the four columns, and those above them
  reals-lower : (lo hi : ℕ) → hi ≤ r + (2 * m + 1) → Same nan lo hi R s.reals
  reals-lower lo hi h =
      same-on nan lo hi R R₃ s.reals (join-above nan lower_of (r + (5 * m + 1)) (q + (5 * k + 1)) n T R₃ room₄ lo hi (omega arith))
      (same-on nan lo hi R₃ R₂ s.reals (join-above nan higher_of (r + (4 * m + 1)) (q + (4 * k + 1)) n T R₂ room₃ lo hi (omega arith))
      (same-on nan lo hi R₂ R₁ s.reals (join-above nan (add binary64) (r + (3 * m + 1)) (q + (3 * k + 1)) n T R₁ room₂ lo hi (omega arith))
      (join-above nan (add binary64) (r + (2 * m + 1)) (q + (2 * k + 1)) n T s.reals room₁ lo hi h)))

  reals-upper : (lo hi : ℕ) → r + (6 * m + 1) ≤ lo → Same nan lo hi R s.reals
  reals-upper lo hi h =
      let few = p.held in
      same-on nan lo hi R R₃ s.reals (join-below nan lower_of (r + (5 * m + 1)) (q + (5 * k + 1)) n T R₃ room₄ lo hi (omega arith))
      (same-on nan lo hi R₃ R₂ s.reals (join-below nan higher_of (r + (4 * m + 1)) (q + (4 * k + 1)) n T R₂ room₃ lo hi (omega arith))
      (same-on nan lo hi R₂ R₁ s.reals (join-below nan (add binary64) (r + (3 * m + 1)) (q + (3 * k + 1)) n T R₁ room₂ lo hi (omega arith))
      (join-below nan (add binary64) (r + (2 * m + 1)) (q + (2 * k + 1)) n T s.reals room₁ lo hi (omega arith))))

  -- the four columns
  sum-joined : (i : ℕ) → i < n → get_or R (r + (2 * m + 1) + i) nan ≡ add binary64 (get_or s.reals (r + (2 * m + 1) + i) nan) (get_or T (q + (2 * k + 1) + i) nan)
  sum-joined i h =
      let few = p.held in
      join-before nan lower_of (r + (5 * m + 1)) (q + (5 * k + 1)) n T R₃ room₄ (r + (2 * m + 1) + i) (omega arith)
      ∙ join-before nan higher_of (r + (4 * m + 1)) (q + (4 * k + 1)) n T R₂ room₃ (r + (2 * m + 1) + i) (omega arith)
      ∙ join-before nan (add binary64) (r + (3 * m + 1)) (q + (3 * k + 1)) n T R₁ room₂ (r + (2 * m + 1) + i) (omega arith)
      ∙ join-in nan (add binary64) (r + (2 * m + 1)) (q + (2 * k + 1)) n T s.reals room₁ i h (omega (arith, p.reals, p.theirs))

  squares-joined : (i : ℕ) → i < n → get_or R (r + (3 * m + 1) + i) nan ≡ add binary64 (get_or s.reals (r + (3 * m + 1) + i) nan) (get_or T (q + (3 * k + 1) + i) nan)
  squares-joined i h =
      let few = p.held in
      join-before nan lower_of (r + (5 * m + 1)) (q + (5 * k + 1)) n T R₃ room₄ (r + (3 * m + 1) + i) (omega arith)
      ∙ join-before nan higher_of (r + (4 * m + 1)) (q + (4 * k + 1)) n T R₂ room₃ (r + (3 * m + 1) + i) (omega arith)
      ∙ join-in nan (add binary64) (r + (3 * m + 1)) (q + (3 * k + 1)) n T R₁ room₂ i h (omega (arith, p.reals, p.theirs))
      ∙ ap (λ (x : Float). add binary64 x (get_or T (q + (3 * k + 1) + i) nan)) (join-past nan (add binary64) (r + (2 * m + 1)) (q + (2 * k + 1)) n T s.reals room₁ (r + (3 * m + 1) + i) (omega arith))

  highest-joined : (i : ℕ) → i < n → get_or R (r + (4 * m + 1) + i) nan ≡ higher_of (get_or s.reals (r + (4 * m + 1) + i) nan) (get_or T (q + (4 * k + 1) + i) nan)
  highest-joined i h =
      let few = p.held in
      join-before nan lower_of (r + (5 * m + 1)) (q + (5 * k + 1)) n T R₃ room₄ (r + (4 * m + 1) + i) (omega arith)
      ∙ join-in nan higher_of (r + (4 * m + 1)) (q + (4 * k + 1)) n T R₂ room₃ i h (omega (arith, p.reals, p.theirs))
      ∙ ap (λ (x : Float). higher_of x (get_or T (q + (4 * k + 1) + i) nan))
      (join-past nan (add binary64) (r + (3 * m + 1)) (q + (3 * k + 1)) n T R₁ room₂ (r + (4 * m + 1) + i) (omega arith)
      ∙ join-past nan (add binary64) (r + (2 * m + 1)) (q + (2 * k + 1)) n T s.reals room₁ (r + (4 * m + 1) + i) (omega arith))

  lowest-joined : (i : ℕ) → i < n → get_or R (r + (5 * m + 1) + i) nan ≡ lower_of (get_or s.reals (r + (5 * m + 1) + i) nan) (get_or T (q + (5 * k + 1) + i) nan)
  lowest-joined i h =
      let few = p.held in
      join-in nan lower_of (r + (5 * m + 1)) (q + (5 * k + 1)) n T R₃ room₄ i h (omega (arith, p.reals, p.theirs))
      ∙ ap (λ (x : Float). lower_of x (get_or T (q + (5 * k + 1) + i) nan))
      (join-past nan higher_of (r + (4 * m + 1)) (q + (4 * k + 1)) n T R₂ room₃ (r + (5 * m + 1) + i) (omega arith)
      ∙ join-past nan (add binary64) (r + (3 * m + 1)) (q + (3 * k + 1)) n T R₁ room₂ (r + (5 * m + 1) + i) (omega arith)
      ∙ join-past nan (add binary64) (r + (2 * m + 1)) (q + (2 * k + 1)) n T s.reals room₁ (r + (5 * m + 1) + i) (omega arith))

  -- the two columns of counts: none is above 2^53
  waiting-joined : (i : ℕ) → i < n → get_or C (c + 2 + i) 0 ≡ get_or s.counts (c + 2 + i) 0 + get_or Y (d + 2 + i) 0
  waiting-joined i h =
      let few = p.held in
      let few' = p.theirs in
      let mine = kept-bounded m s.reals s.counts r c p.room p.places n few refl p.kept in
      let other = kept-bounded k T Y q d p.reals p.counts n few' p.same p.sound in
      join-before 0 joined_count (c + (m + 2)) (d + (k + 2)) n Y C₁ places₂ (c + 2 + i) (omega arith)
      ∙ join-in 0 joined_count (c + 2) (d + 2) n Y s.counts places₁ i h (omega (arith, p.counts))
      ∙ joined-sum (get_or s.counts (c + 2 + i) 0) (get_or Y (d + 2 + i) 0) (bounded_at s.counts (c + 2) n i places₁ h mine.0)
      (bounded_at Y (d + 2) n i (omega (arith, p.counts)) h other.0)

  zeros-joined : (i : ℕ) → i < n → get_or C (c + (m + 2) + i) 0 ≡ get_or s.counts (c + (m + 2) + i) 0 + get_or Y (d + (k + 2) + i) 0
  zeros-joined i h =
      let few = p.held in
      let few' = p.theirs in
      let mine = kept-bounded m s.reals s.counts r c p.room p.places n few refl p.kept in
      let other = kept-bounded k T Y q d p.reals p.counts n few' p.same p.sound in
      join-in 0 joined_count (c + (m + 2)) (d + (k + 2)) n Y C₁ places₂ i h (omega (arith, p.counts))
      ∙ ap (λ (x : ℕ). joined_count x (get_or Y (d + (k + 2) + i) 0)) (join-past 0 joined_count (c + 2) (d + 2) n Y s.counts places₁ (c + (m + 2) + i) (omega arith))
      ∙ joined-sum (get_or s.counts (c + (m + 2) + i) 0) (get_or Y (d + (k + 2) + i) 0)
      (bounded_at s.counts (c + (m + 2)) n i (omega (arith, p.places)) h mine.1) (bounded_at Y (d + (k + 2)) n i (omega (arith, p.counts)) h other.1)

  bin-merged : (i : ℕ) → i < n → bin_at m R C r c i ≡ merged_of (bin_at m s.reals s.counts r c i) (bin_at k T Y q d i)
  unfolding bin_at
  bin-merged i h =
      rw (sum-joined i h, squares-joined i h, highest-joined i h, lowest-joined i h, waiting-joined i h, zeros-joined i h)
      (sym (merged-record (get_or s.reals (r + (2 * m + 1) + i) nan) (get_or s.reals (r + (3 * m + 1) + i) nan) (get_or s.reals (r + (4 * m + 1) + i) nan)
      (get_or s.reals (r + (5 * m + 1) + i) nan) (get_or T (q + (2 * k + 1) + i) nan) (get_or T (q + (3 * k + 1) + i) nan) (get_or T (q + (4 * k + 1) + i) nan)
      (get_or T (q + (5 * k + 1) + i) nan) (get_or s.counts (c + 2 + i) 0) (get_or s.counts (c + (m + 2) + i) 0) (get_or Y (d + 2 + i) 0) (get_or Y (d + (k + 2) + i) 0)))

  bins-merged : (i j : ℕ) → i + j ≤ n → bins_from m R C r c i j ≡ merge_bin_records (bins_from m s.reals s.counts r c i j) (bins_from k T Y q d i j)
  unfolding bins_from merge_bin_records
  bins-merged i zero h = refl
  bins-merged i (suc j) h =
      ap₂ (λ (a : StatisticsAccumulator) (l : List StatisticsAccumulator). a ∷ l) (bin-merged i (omega arith)) (bins-merged (i + 1) j (omega arith))

  abbrev counts-lower : (lo hi : ℕ) → hi ≤ c + 2 → Same 0 lo hi (merged_counts m k n c d Y s.counts) s.counts
  counts-lower = counts-below m k n c d Y s.counts p.held p.places

  held-still : get_or (merged_counts m k n c d Y s.counts) c 0 ≡ n
  held-still = (counts-lower c (c + 2) (omega arith)).cells c (omega arith) (omega arith)

  axis-merged : axis_at m (merged_reals m k n r q T s.reals) (merged_counts m k n c d Y s.counts) r c
      ≡ merge_axis (axis_at m s.reals s.counts r c) (axis_at k T Y q d)
  unfolding axis_at merge_axis merged_reals merged_counts
  axis-merged =
      let few = p.held in
      let lower = reals-lower r (r + (2 * m + 1)) (omega arith) in
      let upper : Same 0 (c + (2 * m + 2)) (c + (3 * m + 2)) C s.counts = counts-above m k n c d Y s.counts p.held p.places (c + (2 * m + 2)) (c + (3 * m + 2)) (omega arith) in
      let recuts : get_or C (c + 1) 0 ≡ get_or s.counts (c + 1) 0 = (counts-lower c (c + 2) (omega arith)).cells (c + 1) (omega arith) (omega arith) in
      let held : get_or C c 0 ≡ n = held-still in
      rw (
        held,
        stretch-same nan r (r + (2 * m + 1)) r (n + 1) R s.reals lower (omega arith) (omega arith),
        stretch-same nan r (r + (2 * m + 1)) (r + (m + 1)) n R s.reals lower (omega arith) (omega arith),
        stretch-same 0 (c + (2 * m + 2)) (c + (3 * m + 2)) (c + (2 * m + 2)) n C s.counts upper (omega arith) (omega arith),
        recuts,
        bins-merged 0 n (omega arith),
        p.same,
      )

module _ (m : ℕ) (others : Memory) where
  -- the model's step, with the other grid's first axis
  abbrev step : Axis → AxesAt → Axis
  step a o = merge_axis a (axis_at o.most others.reals others.counts o.reals o.counts)

  -- the bins held are within both rooms
  passes : (r c : ℕ) (o : AxesAt) (s : Memory) → Fit m others r c o s
      → merge_at m others r c o s ≡ memory (merged_reals m o.most (get_or s.counts c 0) r o.reals others.reals s.reals) (merged_counts m o.most (get_or s.counts c 0) c o.counts others.counts s.counts)
  unfolding merge_at
  passes r c o s p = rw (le-ltb m (get_or s.counts c 0) p.held, le-ltb o.most (get_or s.counts c 0) p.theirs)

  merge-tied : (r c : ℕ) (o : AxesAt) (s : Memory) → Fit m others r c o s
      → axis_at m (merge_at m others r c o s).reals (merge_at m others r c o s).counts r c ≡ step (axis_at m s.reals s.counts r c) o
  merge-tied r c o s p = ap (λ (t : Memory). axis_at m t.reals t.counts r c) (passes r c o s p) ∙ axis-merged m others r c o s p

  merge-holds : (r c : ℕ) (o : AxesAt) (s : Memory) → Fit m others r c o s → get_or (merge_at m others r c o s).counts c 0 ≤ m
  merge-holds r c o s p = omega (arith, ap (λ (t : Memory). get_or t.counts c 0) (passes r c o s p), held-still m others r c o s p, p.held)

  merge-local : Local m (merge_at m others) (Fit m others)
  unfolding axis_reals axis_counts
  merge-local r c o s s' a b p =
      let held : get_or s'.counts c 0 ≡ get_or s.counts c 0 = b.cells c (omega arith) (omega arith) in
      let few : get_or s'.counts c 0 ≤ m = omega (arith, held, p.held) in
      record {
        held = few;
        room = omega (arith, p.room, a.size);
        places = omega (arith, p.places, b.size);
        theirs = omega (arith, held, p.theirs);
        reals = p.reals;
        counts = p.counts;
        same = held ∙ p.same;
        kept = ap kept_axis (axis-same m s'.reals s.reals s'.counts s.counts r c few a b) ∙ p.kept;
        sound = p.sound;
      }

  merge-frames : Frames m (merge_at m others) (Fit m others)
  unfolding merged_reals
  merge-frames r c o s p =
      let n = get_or s.counts c 0 in
      let e = passes r c o s p in
      let reals : (merge_at m others r c o s).reals ≡ merged_reals m o.most n r o.reals others.reals s.reals = ap (λ (t : Memory). t.reals) e in
      let counts : (merge_at m others r c o s).counts ≡ merged_counts m o.most n c o.counts others.counts s.counts = ap (λ (t : Memory). t.counts) e in
      record {
        reals-below = λ lo hi h. subst (λ (xs : List Float). Same nan lo hi xs s.reals) (sym reals) (reals-lower m others r c o s p lo hi (omega arith));
        reals-above = λ lo hi h. subst (λ (xs : List Float). Same nan lo hi xs s.reals) (sym reals) (reals-upper m others r c o s p lo hi h);
        counts-below = λ lo hi h. subst (λ (xs : List ℕ). Same 0 lo hi xs s.counts) (sym counts) (counts-below m o.most n c o.counts others.counts s.counts p.held p.places lo hi (omega arith));
        counts-above = λ lo hi h. subst (λ (xs : List ℕ). Same 0 lo hi xs s.counts) (sym counts) (counts-above m o.most n c o.counts others.counts s.counts p.held p.places lo hi (omega arith));
      }

  all-merged : (j : ℕ) (axs : List Axis) (o : AxesAt) → each_axis step axs (each_of j o) ≡ merge_all axs (axes_from o.most others.reals others.counts j o.reals o.counts)
  unfolding each_axis each_of merge_all axes_from onward
  all-merged zero [] o = refl
  all-merged zero (a ∷ axs) o = refl
  all-merged (suc j) [] o = refl
  all-merged (suc j) (a ∷ axs) o = ap (λ (l : List Axis). step a o ∷ l) (all-merged j axs (onward o))

each-many : (j : ℕ) (o : AxesAt) → length (each_of j o) ≡ j
unfolding each_of
each-many zero o = refl
each-many (suc j) o = ap suc (each-many j (onward o))

-- what every step asks, of grids that stand, are kept and have the same lengths
fit_all : (j : ℕ) (g o : AxesAt) (others s : Memory) → g.axes ≡ j → Stands s.reals s.counts g → Stands others.reals others.counts o
    → same_at s.reals s.counts others.reals others.counts g o ≡ true
    → kept_axis_list (axes_at s.reals s.counts g) ≡ true → kept_axis_list (axes_at others.reals others.counts o) ≡ true
    → Asked (Fit g.most others) g.most (each_of j o) g.reals g.counts s × Holding g.most s.counts j g.counts
unfolding Asked Holding each_of onward
fit_all zero g o others s e t u same kept sound = (tt, tt)
fit_all (suc j) g o others s e t u same kept sound =
    let h : 0 < g.axes = omega (arith, e) in
    let p = paired s.reals s.counts others.reals others.counts g o h same in
    let a = first s.reals s.counts g h t in
    let b = first others.reals others.counts o p.there u in
    let x = kept-first s.reals s.counts g h kept in
    let y = kept-first others.reals others.counts o p.there sound in
    let rest = fit_all j (onward g) (onward o) others s (omega (arith, e)) a.rest b.rest p.rest x.1 y.1 in
    let here : Fit g.most others g.reals g.counts o s =
    record {
      held = a.held;
      room = a.room;
      places = a.places;
      theirs = omega (arith, p.held, b.held);
      reals = b.room;
      counts = b.places;
      same = p.held;
      kept = x.0;
      sound = y.0;
    } in
    ((here, rest.0), (a.held, rest.1))

-- the axes of a grid that took another's waiting samples
pub merged-axes : (g o : AxesAt) (others s : Memory) → Stands s.reals s.counts g → Stands others.reals others.counts o
    → same_lengths (axes_at s.reals s.counts g) (axes_at others.reals others.counts o) ≡ true
    → kept_axis_list (axes_at s.reals s.counts g) ≡ true → kept_axis_list (axes_at others.reals others.counts o) ≡ true
    → axes_at (merged_memory g o others s).reals (merged_memory g o others s).counts g ≡ merge_all (axes_at s.reals s.counts g) (axes_at others.reals others.counts o)
unfolding merged_memory
merged-axes g o others s t u same kept sound =
    let m = g.most in
    let j = g.axes in
    let xs = each_of j o in
    let a = fit_all j g o others s refl t u same kept sound in
    let many : length xs ≡ j = each-many j o in
    let end : Memory = over_axes (merge_at m others) m xs g.reals g.counts s in
    let both-many : j ≡ o.axes = as_many s.reals s.counts others.reals others.counts g o same in
    subst (λ (i : ℕ). axes_from m end.reals end.counts i g.reals g.counts ≡ each_axis (step m others) (axes_from m s.reals s.counts i g.reals g.counts) xs) many
    (over-tied m (merge_at m others) (Fit m others) (merge-local m others) (merge-frames m others) (step m others) (merge-tied m others) (merge-holds m others) xs g.reals g.counts s
    (subst (λ (i : ℕ). Holding m s.counts i g.counts) (sym many) a.1) a.0)
    ∙ all-merged m others j (axes_at s.reals s.counts g) o
    ∙ ap (λ (i : ℕ). merge_all (axes_at s.reals s.counts g) (axes_from o.most others.reals others.counts i o.reals o.counts)) both-many

-- nothing below the first axis is touched, nor above the last
module _ (g o : AxesAt) (others s : Memory) (t : Stands s.reals s.counts g) (u : Stands others.reals others.counts o)
    (same : same_lengths (axes_at s.reals s.counts g) (axes_at others.reals others.counts o) ≡ true)
    (kept : kept_axis_list (axes_at s.reals s.counts g) ≡ true) (sound : kept_axis_list (axes_at others.reals others.counts o) ≡ true) where
  pub merged-below : (lo hi lo' hi' : ℕ) → hi ≤ g.reals → hi' ≤ g.counts
      → Same nan lo hi (merged_memory g o others s).reals s.reals × Same 0 lo' hi' (merged_memory g o others s).counts s.counts
  unfolding merged_memory
  merged-below =
      over_below g.most (merge_at g.most others) (Fit g.most others) (merge-local g.most others) (merge-frames g.most others) (each_of g.axes o) g.reals g.counts s
      (fit_all g.axes g o others s refl t u same kept sound).0

  pub merged-above : (lo hi lo' hi' : ℕ) → g.reals + g.axes * (6 * g.most + 1) ≤ lo → g.counts + g.axes * (3 * g.most + 2) ≤ lo'
      → Same nan lo hi (merged_memory g o others s).reals s.reals × Same 0 lo' hi' (merged_memory g o others s).counts s.counts
  unfolding merged_memory
  merged-above lo hi lo' hi' h k =
      let many = each-many g.axes o in
      over-above g.most (merge_at g.most others) (Fit g.most others) (merge-local g.most others) (merge-frames g.most others) (each_of g.axes o) g.reals g.counts s
      (fit_all g.axes g o others s refl t u same kept sound).0 lo hi lo' hi'
      (subst (λ (j : ℕ). g.reals + j * (6 * g.most + 1) ≤ lo) (sym many) h) (subst (λ (j : ℕ). g.counts + j * (3 * g.most + 2) ≤ lo') (sym many) k)
