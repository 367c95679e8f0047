-- What is read out of lent memory: the same where memory is the same, and an accumulator as it was stored.
use mathlib.Core.Path.{◌≡◌, refl, sym, ap, ap₂, ◌∙◌}
use mathlib.Core.List.{List, ◌∷◌}
use Prim.Native.Nat.{ℕ, zero, suc, ◌+◌, ◌*◌, ◌≤◌, ◌<◌}
use native.Mathlib.Nat.{zero-add}
use native.Mathlib.Omega.{arith}
use lib.ListN.{length, get_or}
use lib.Seq.{sets}
use lib.Ieee.{Float, nan}
use Rattle.accumulator.specs.declared.StatisticsAccumulator.{StatisticsAccumulator}
use Rattle.model.specs.Axes.{Axis}
use Rattle.lent.specs.Layout.{axis_reals, axis_counts, bin_at, bins_from, axis_at, axes_from}
use Rattle.lent.specs.Memory.{reals_of, counts_of, record_at}
use Rattle.lent.proofs.Same.{Same, Alike, same_alike, alike-within, get_d_sets}

-- ---- accumulators

-- cell by cell: the same record, wherever it begins
record-cells : (r c p q : ℕ) (reals reals' : List Float) (counts counts' : List ℕ) → ((i : ℕ) → i < 14 → get_or reals (r + i) nan ≡ get_or reals' (p + i) nan)
    → ((i : ℕ) → i < 7 → get_or counts (c + i) 0 ≡ get_or counts' (q + i) 0) → record_at reals counts r c ≡ record_at reals' counts' p q
unfolding record_at
record-cells r c p q reals reals' counts counts' x n =
    let first : get_or reals r nan ≡ get_or reals' p nan = ap (λ (z : ℕ). get_or reals z nan) (none r) ∙ x 0 (omega arith) ∙ ap (λ (z : ℕ). get_or reals' z nan) (sym (none p)) in
    let waiting : get_or counts c 0 ≡ get_or counts' q 0 = ap (λ (z : ℕ). get_or counts z 0) (none c) ∙ n 0 (omega arith) ∙ ap (λ (z : ℕ). get_or counts' z 0) (sym (none q)) in
    rw (
      first,
      x 1 (omega arith),
      x 2 (omega arith),
      x 3 (omega arith),
      x 4 (omega arith),
      x 5 (omega arith),
      x 6 (omega arith),
      x 7 (omega arith),
      x 8 (omega arith),
      x 9 (omega arith),
      x 10 (omega arith),
      x 11 (omega arith),
      x 12 (omega arith),
      x 13 (omega arith),
      waiting,
      n 1 (omega arith),
      n 2 (omega arith),
      n 3 (omega arith),
      n 4 (omega arith),
      n 5 (omega arith),
      n 6 (omega arith),
    )
  where
    none : (z : ℕ) → z ≡ z + 0
    none z = omega arith

pub record-alike : (r c : ℕ) (reals reals' : List Float) (counts counts' : List ℕ) → Alike nan r (r + 14) reals reals' → Alike 0 c (c + 7) counts counts'
    → record_at reals counts r c ≡ record_at reals' counts' r c
record-alike r c reals reals' counts counts' s t =
    record-cells r c r c reals reals' counts counts' (λ i h. s.cells (r + i) (omega arith) (omega arith)) (λ i h. t.cells (c + i) (omega arith) (omega arith))

pub record_same : (r c : ℕ) (reals reals' : List Float) (counts counts' : List ℕ) → Same nan r (r + 14) reals reals' → Same 0 c (c + 7) counts counts'
    → record_at reals counts r c ≡ record_at reals' counts' r c
record_same r c reals reals' counts counts' s t =
    record-alike r c reals reals' counts counts' (same_alike nan r (r + 14) reals reals' s) (same_alike 0 c (c + 7) counts counts' t)

-- the lists of a record's cells are that record's
record_of : (a : StatisticsAccumulator) → record_at (reals_of a) (counts_of a) 0 0 ≡ a
unfolding record_at reals_of counts_of
record_of a = refl

pub record-stored : (r c : ℕ) (reals : List Float) (counts : List ℕ) (a : StatisticsAccumulator) → r + 14 ≤ length reals → c + 7 ≤ length counts
    → record_at (sets reals r (reals_of a)) (sets counts c (counts_of a)) r c ≡ a
unfolding reals_of counts_of
record-stored r c reals counts a h k =
    record-cells r c 0 0 (sets reals r (reals_of a)) (reals_of a) (sets counts c (counts_of a)) (counts_of a)
    (λ i j. get_d_sets nan r i (reals_of a) reals h j ∙ ap (λ (z : ℕ). get_or (reals_of a) z nan) (sym (zero-add i)))
    (λ i j. get_d_sets 0 c i (counts_of a) counts k j ∙ ap (λ (z : ℕ). get_or (counts_of a) z 0) (sym (zero-add i)))
    ∙ record_of a

-- ---- axes

-- each of k axes holds at most m bins
unfoldable pub Holding : ℕ → List ℕ → ℕ → ℕ → Type 0
Holding m counts zero c = Unit
Holding m counts (suc k) c = (get_or counts c 0 ≤ m) × Holding m counts k (c + axis_counts m)

module _ (m : ℕ) (reals : List Float) (counts : List ℕ) where
  pub length-axes : (k r c : ℕ) → length (axes_from m reals counts k r c) ≡ k
  unfolding axes_from
  length-axes zero r c = refl
  length-axes (suc k) r c = ap suc (length-axes k (r + axis_reals m) (c + axis_counts m))

  pub length-bins : (r c i n : ℕ) → length (bins_from m reals counts r c i n) ≡ n
  unfolding bins_from
  length-bins r c i zero = refl
  length-bins r c i (suc n) = ap suc (length-bins r c (i + 1) n)

  get_d-bins : (d : StatisticsAccumulator) (r c i n q : ℕ) → q < n → get_or (bins_from m reals counts r c i n) q d ≡ bin_at m reals counts r c (i + q)
  unfolding bins_from
  get_d-bins d r c i zero q h = absurd (omega arith)
  get_d-bins d r c i (suc n) zero h = let e : i ≡ i + 0 = omega arith in ap (bin_at m reals counts r c) e
  get_d-bins d r c i (suc n) (suc q) h = let e : i + 1 + q ≡ i + suc q = omega arith in get_d-bins d r c (i + 1) n q (omega arith) ∙ ap (bin_at m reals counts r c) e

  pub get_d-all : (d : StatisticsAccumulator) (r c n q : ℕ) → q < n → get_or (bins_from m reals counts r c 0 n) q d ≡ bin_at m reals counts r c q
  get_d-all d r c n q h = let e : 0 + q ≡ q = omega arith in get_d-bins d r c 0 n q h ∙ ap (bin_at m reals counts r c) e

module _ (m : ℕ) (reals reals' : List Float) (counts counts' : List ℕ) where
  bins-alike : (r c i n : ℕ) → i + n ≤ m → Alike nan r (r + (6 * m + 1)) reals reals' → Alike 0 c (c + (3 * m + 2)) counts counts'
      → bins_from m reals counts r c i n ≡ bins_from m reals' counts' r c i n
  unfolding bins_from bin_at
  bins-alike r c i zero h s t = refl
  bins-alike r c i (suc n) h s t =
      rw (
        s.cells (r + (2 * m + 1) + i) (omega arith) (omega arith),
        s.cells (r + (3 * m + 1) + i) (omega arith) (omega arith),
        s.cells (r + (4 * m + 1) + i) (omega arith) (omega arith),
        s.cells (r + (5 * m + 1) + i) (omega arith) (omega arith),
        t.cells (c + 2 + i) (omega arith) (omega arith),
        t.cells (c + (m + 2) + i) (omega arith) (omega arith),
        bins-alike r c (i + 1) n (omega arith) s t,
      )

  pub axis-alike : (r c : ℕ) → get_or counts c 0 ≤ m → Alike nan r (r + axis_reals m) reals reals' → Alike 0 c (c + axis_counts m) counts counts'
      → axis_at m reals counts r c ≡ axis_at m reals' counts' r c
  unfolding axis_at axis_reals axis_counts
  axis-alike r c h s t =
      let held : get_or counts c 0 ≡ get_or counts' c 0 = t.cells c (omega arith) (omega arith) in
      let e = s.parts r (get_or counts c 0 + 1) (omega arith) (omega arith) in
      let b = bins-alike r c 0 (get_or counts c 0) (omega arith) s t in
      let q = s.parts (r + (m + 1)) (get_or counts c 0) (omega arith) (omega arith) in
      let k = t.parts (c + (2 * m + 2)) (get_or counts c 0) (omega arith) (omega arith) in
      let u = t.cells (c + 1) (omega arith) (omega arith) in
      rw (e, b, q, k, u, held)

  -- k axes, each of which holds at most m bins
  pub axes-alike : (k r c : ℕ) → Holding m counts k c → Alike nan r (r + k * (6 * m + 1)) reals reals' → Alike 0 c (c + k * (3 * m + 2)) counts counts'
      → axes_from m reals counts k r c ≡ axes_from m reals' counts' k r c
  unfolding axes_from axis_reals axis_counts Holding
  axes-alike zero r c h s t = refl
  axes-alike (suc k) r c h s t =
      let e : r + suc k * (6 * m + 1) ≡ r + (6 * m + 1) + k * (6 * m + 1) = omega arith in
      let f : c + suc k * (3 * m + 2) ≡ c + (3 * m + 2) + k * (3 * m + 2) = omega arith in
      let first = axis-alike r c h.0 (alike-within nan r (r + suc k * (6 * m + 1)) r (r + (6 * m + 1)) reals reals' (omega arith) (omega arith) s)
      (alike-within 0 c (c + suc k * (3 * m + 2)) c (c + (3 * m + 2)) counts counts' (omega arith) (omega arith) t) in
      let others = axes-alike k (r + (6 * m + 1)) (c + (3 * m + 2)) h.1
      (alike-within nan r (r + suc k * (6 * m + 1)) (r + (6 * m + 1)) (r + (6 * m + 1) + k * (6 * m + 1)) reals reals' (omega arith) (omega arith) s)
      (alike-within 0 c (c + suc k * (3 * m + 2)) (c + (3 * m + 2)) (c + (3 * m + 2) + k * (3 * m + 2)) counts counts' (omega arith) (omega arith) t) in
      ap₂ (λ (a : Axis) (xs : List Axis). a ∷ xs) first others

  pub axis-same : (r c : ℕ) → get_or counts c 0 ≤ m → Same nan r (r + axis_reals m) reals reals' → Same 0 c (c + axis_counts m) counts counts'
      → axis_at m reals counts r c ≡ axis_at m reals' counts' r c
  axis-same r c h s t = axis-alike r c h (same_alike nan r (r + axis_reals m) reals reals' s) (same_alike 0 c (c + axis_counts m) counts counts' t)

  pub axes-same : (k r c : ℕ) → Holding m counts k c → Same nan r (r + k * (6 * m + 1)) reals reals' → Same 0 c (c + k * (3 * m + 2)) counts counts'
      → axes_from m reals counts k r c ≡ axes_from m reals' counts' k r c
  axes-same k r c h s t = axes-alike k r c h (same_alike nan r (r + k * (6 * m + 1)) reals reals' s) (same_alike 0 c (c + k * (3 * m + 2)) counts counts' t)
