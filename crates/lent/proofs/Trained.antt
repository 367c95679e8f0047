-- A sample that joined its bins in lent memory is read as the model's trained axes.
use mathlib.Core.Path.{◌≡◌, refl, sym, ap, ◌∙◌, subst}
use mathlib.Core.Bool.{Bool, true, false}
use mathlib.Core.List.{List, [], ◌∷◌}
use mathlib.Core.Logic.{◌≢◌}
use Prim.Native.Nat.{ℕ, zero, suc, ◌+◌, ◌*◌, ◌≤◌, ◌<◌}
use native.Mathlib.Omega.{arith}
use borrow.Author.Tests.{eqb-true, eqb-false}
use lib.Dec.{eqb}
use lib.ListN.{length, set, get_or, length-set}
use lib.Seq.{get_or-set_same, get_or-set_other, ext_get_or}
use lib.Ieee.{Float, nan, binary64, add, mul}
use Rattle.accumulator.specs.declared.StatisticsAccumulator.{StatisticsAccumulator}
use Rattle.accumulator.specs.Record.{fresh, with_waiting, with_extremes}
use Rattle.accumulator.specs.Steps.{zero_count, replaced, added_of}
use Rattle.model.specs.Axes.{Axis}
use Rattle.model.specs.Train.{train_axis, train_all}
use Rattle.lent.specs.Layout.{bin_record, bin_at, bins_from, axis_at, axes_from}
use Rattle.lent.specs.Memory.{Memory, over_axes, Asked}
use Rattle.lent.specs.Trained.{bins_on, trained_at, Cell}
use Rattle.lent.proofs.Same.{Same, stretch-same}
use Rattle.lent.proofs.Reading.{Holding, length-axes, length-bins, get_d-all}
use Rattle.lent.proofs.Over.{each_axis, over-tied}
use Rattle.lent.proofs.Trains.{trained-frames, trained-local}

-- v joins the record of bin i
unfoldable pub joined : Float → Axis → ℕ → Axis
joined v ax i =
    record {
      edges = ax.edges;
      bins = set ax.bins i (added_of (get_or ax.bins i fresh) v 0);
      importances = ax.importances;
      counters = ax.counters;
      recuts = ax.recuts;
    }

pub joined-all : (v : Float) (axs : List Axis) (xs : List Float) → length axs ≡ length xs → each_axis (joined v) axs (bins_on axs xs) ≡ train_all axs xs v
unfolding each_axis joined bins_on train_all train_axis
joined-all v [] xs e = refl
joined-all v (ax ∷ axs) [] e = absurd (omega (arith, e))
joined-all v (ax ∷ axs) (x ∷ xs) e = ap (λ (l : List Axis). train_axis ax x v ∷ l) (joined-all v axs xs (omega (arith, e)))

pub length-on : (k : ℕ) (axs : List Axis) (xs : List Float) → length axs ≡ k → length xs ≡ k → length (bins_on axs xs) ≡ k
unfolding bins_on
length-on k [] xs e f = e
length-on k (ax ∷ axs) [] e f = f
length-on zero (ax ∷ axs) (x ∷ xs) e f = absurd (omega (arith, e))
length-on (suc k) (ax ∷ axs) (x ∷ xs) e f = ap suc (length-on k axs xs (omega (arith, e)) (omega (arith, f)))

-- a bin's record that v joins has the six fields that are written
pub added-bin : (s q h l : Float) (n z : ℕ) (v : Float)
    → added_of (bin_record s q h l n z) v 0 ≡ bin_record (add binary64 s v) (add binary64 q (mul binary64 v v)) v v (n + 1) (z + zero_count v)
unfolding added_of bin_record with_extremes with_waiting replaced fresh
added-bin s q h l n z v = refl

module _ (m : ℕ) (v : Float) (r c i : ℕ) (s : Memory) (p : Cell m r c i s) where
  abbrev sum : Float
  sum = add binary64 (get_or s.reals (r + (2 * m + 1) + i) nan) v

  abbrev squares : Float
  squares = add binary64 (get_or s.reals (r + (3 * m + 1) + i) nan) (mul binary64 v v)

  abbrev waiting : ℕ
  waiting = get_or s.counts (c + 2 + i) 0 + 1

  abbrev zeros : ℕ
  zeros = get_or s.counts (c + (m + 2) + i) 0 + zero_count v

  abbrev R₁ : List Float
  R₁ = set s.reals (r + (2 * m + 1) + i) sum

  abbrev R₂ : List Float
  R₂ = set R₁ (r + (3 * m + 1) + i) squares

  abbrev R₃ : List Float
  R₃ = set R₂ (r + (4 * m + 1) + i) v

  abbrev R : List Float
  R = set R₃ (r + (5 * m + 1) + i) v

  abbrev C₁ : List ℕ
  C₁ = set s.counts (c + 2 + i) waiting

  abbrev C : List ℕ
  C = set C₁ (c + (m + 2) + i) zeros

  inside : i < m
  inside = omega (arith, p.bin, p.held)

  -- a cell that no write is for
  kept_real : (q : ℕ) → q ≢ r + (2 * m + 1) + i → q ≢ r + (3 * m + 1) + i → q ≢ r + (4 * m + 1) + i → q ≢ r + (5 * m + 1) + i → get_or R q nan ≡ get_or s.reals q nan
  kept_real q a b d e =
      get_or-set_other R₃ (r + (5 * m + 1) + i) q v nan e
      ∙ get_or-set_other R₂ (r + (4 * m + 1) + i) q v nan d
      ∙ get_or-set_other R₁ (r + (3 * m + 1) + i) q squares nan b
      ∙ get_or-set_other s.reals (r + (2 * m + 1) + i) q sum nan a

  kept-count : (q : ℕ) → q ≢ c + 2 + i → q ≢ c + (m + 2) + i → get_or C q 0 ≡ get_or s.counts q 0
  kept-count q a b = get_or-set_other C₁ (c + (m + 2) + i) q zeros 0 b ∙ get_or-set_other s.counts (c + 2 + i) q waiting 0 a

  size₁ : length R₁ ≡ length s.reals
  size₁ = length-set s.reals (r + (2 * m + 1) + i) sum

  size₂ : length R₂ ≡ length s.reals
  size₂ = length-set R₁ (r + (3 * m + 1) + i) squares ∙ size₁

  size₃ : length R₃ ≡ length s.reals
  size₃ = length-set R₂ (r + (4 * m + 1) + i) v ∙ size₂

  reals-size : length R ≡ length s.reals
  reals-size = length-set R₃ (r + (5 * m + 1) + i) v ∙ size₃

  counts-size : length C ≡ length s.counts
  counts-size = length-set C₁ (c + (m + 2) + i) zeros ∙ length-set s.counts (c + 2 + i) waiting

  -- the record of another bin stays
  other-bin : (q : ℕ) → q < m → q ≢ i → bin_at m R C r c q ≡ bin_at m s.reals s.counts r c q
  unfolding bin_at
  other-bin q h n =
      let x : i < m = inside in
      rw (
        kept_real (r + (2 * m + 1) + q) (λ e. omega arith) (λ e. omega arith) (λ e. omega arith) (λ e. omega arith),
        kept_real (r + (3 * m + 1) + q) (λ e. omega arith) (λ e. omega arith) (λ e. omega arith) (λ e. omega arith),
        kept_real (r + (4 * m + 1) + q) (λ e. omega arith) (λ e. omega arith) (λ e. omega arith) (λ e. omega arith),
        kept_real (r + (5 * m + 1) + q) (λ e. omega arith) (λ e. omega arith) (λ e. omega arith) (λ e. omega arith),
        kept-count (c + 2 + q) (λ e. omega arith) (λ e. omega arith),
        kept-count (c + (m + 2) + q) (λ e. omega arith) (λ e. omega arith),
      )

  -- the record of its own bin is joined
  own-bin : bin_at m R C r c i ≡ added_of (bin_at m s.reals s.counts r c i) v 0
  unfolding bin_at
  own-bin =
      let x : i < m = inside in
      let room = p.room in
      let places = p.places in
      let sums : get_or R (r + (2 * m + 1) + i) nan ≡ sum
      = get_or-set_other R₃ (r + (5 * m + 1) + i) (r + (2 * m + 1) + i) v nan (λ e. omega arith)
      ∙ get_or-set_other R₂ (r + (4 * m + 1) + i) (r + (2 * m + 1) + i) v nan (λ e. omega arith)
      ∙ get_or-set_other R₁ (r + (3 * m + 1) + i) (r + (2 * m + 1) + i) squares nan (λ e. omega arith)
      ∙ get_or-set_same s.reals (r + (2 * m + 1) + i) sum nan (omega arith) in
      let square : get_or R (r + (3 * m + 1) + i) nan ≡ squares
      = get_or-set_other R₃ (r + (5 * m + 1) + i) (r + (3 * m + 1) + i) v nan (λ e. omega arith)
      ∙ get_or-set_other R₂ (r + (4 * m + 1) + i) (r + (3 * m + 1) + i) v nan (λ e. omega arith)
      ∙ get_or-set_same R₁ (r + (3 * m + 1) + i) squares nan (omega (arith, size₁)) in
      let high : get_or R (r + (4 * m + 1) + i) nan ≡ v
      = get_or-set_other R₃ (r + (5 * m + 1) + i) (r + (4 * m + 1) + i) v nan (λ e. omega arith)
      ∙ get_or-set_same R₂ (r + (4 * m + 1) + i) v nan (omega (arith, size₂)) in
      let low : get_or R (r + (5 * m + 1) + i) nan ≡ v = get_or-set_same R₃ (r + (5 * m + 1) + i) v nan (omega (arith, size₃)) in
      let waits : get_or C (c + 2 + i) 0 ≡ waiting
      = get_or-set_other C₁ (c + (m + 2) + i) (c + 2 + i) zeros 0 (λ e. omega arith) ∙ get_or-set_same s.counts (c + 2 + i) waiting 0 (omega arith) in
      let nils : get_or C (c + (m + 2) + i) 0 ≡ zeros
      = get_or-set_same C₁ (c + (m + 2) + i) zeros 0 (omega (arith, length-set s.counts (c + 2 + i) waiting)) in
      rw (sums, square, high, low, waits, nils) (sym (added-bin (get_or s.reals (r + (2 * m + 1) + i) nan) (get_or s.reals (r + (3 * m + 1) + i) nan) (get_or s.reals (r + (4 * m + 1) + i) nan)
      (get_or s.reals (r + (5 * m + 1) + i) nan) (get_or s.counts (c + 2 + i) 0) (get_or s.counts (c + (m + 2) + i) 0) v))

  each-bin : (n q : ℕ) → n ≤ m → i < n → q < n → (b : Bool) → eqb q i ≡ b
      → get_or (bins_from m R C r c 0 n) q fresh ≡ get_or (set (bins_from m s.reals s.counts r c 0 n) i (added_of (get_or (bins_from m s.reals s.counts r c 0 n) i fresh) v 0)) q fresh
  each-bin n q h k l true e =
      let same : q ≡ i = eqb-true q i e in
      let olds = bins_from m s.reals s.counts r c 0 n in
      rw same (get_d-all m R C fresh r c n i k ∙ own-bin ∙ ap (λ (a : StatisticsAccumulator). added_of a v 0) (sym (get_d-all m s.reals s.counts fresh r c n i k))
      ∙ sym (get_or-set_same olds i (added_of (get_or olds i fresh) v 0) fresh (omega (arith, length-bins m s.reals s.counts r c 0 n))))
  each-bin n q h k l false e =
      let olds = bins_from m s.reals s.counts r c 0 n in
      get_d-all m R C fresh r c n q l ∙ other-bin q (omega arith) (eqb-false q i e) ∙ sym (get_d-all m s.reals s.counts fresh r c n q l)
      ∙ sym (get_or-set_other olds i q (added_of (get_or olds i fresh) v 0) fresh (eqb-false q i e))

  all-bins : (n : ℕ) → n ≤ m → i < n
      → bins_from m R C r c 0 n ≡ set (bins_from m s.reals s.counts r c 0 n) i (added_of (get_or (bins_from m s.reals s.counts r c 0 n) i fresh) v 0)
  all-bins n h k =
      let olds = bins_from m s.reals s.counts r c 0 n in
      let size = length-bins m R C r c 0 n in
      ext_get_or fresh _ _ (size ∙ sym (length-bins m s.reals s.counts r c 0 n) ∙ sym (length-set olds i (added_of (get_or olds i fresh) v 0)))
      (λ q l. each-bin n q h k (omega (arith, l, size)) (eqb q i) refl)

  held_kept : get_or C c 0 ≡ get_or s.counts c 0
  held_kept = kept-count c (λ e. omega arith) (λ e. omega arith)

  pub trained-holds : get_or (trained_at m v r c i s).counts c 0 ≤ m
  unfolding trained_at
  trained-holds = omega (arith, held_kept, p.held)

  pub trained-tied : axis_at m (trained_at m v r c i s).reals (trained_at m v r c i s).counts r c ≡ joined v (axis_at m s.reals s.counts r c) i
  unfolding axis_at joined trained_at
  trained-tied =
      let n = get_or s.counts c 0 in
      let x : i < m = inside in
      let low : Same nan r (r + (2 * m + 1)) R s.reals = record { size = reals-size; cells = λ q a b. kept_real q (λ e. omega arith) (λ e. omega arith) (λ e. omega arith) (λ e. omega arith) } in
      let high : Same 0 (c + (2 * m + 2)) (c + (3 * m + 2)) C s.counts = record { size = counts-size; cells = λ q a b. kept-count q (λ e. omega arith) (λ e. omega arith) } in
      rw (
        held_kept,
        stretch-same nan r (r + (2 * m + 1)) r (n + 1) R s.reals low (omega arith) (omega (arith, p.held)),
        all-bins n p.held p.bin,
        stretch-same nan r (r + (2 * m + 1)) (r + (m + 1)) n R s.reals low (omega arith) (omega (arith, p.held)),
        stretch-same 0 (c + (2 * m + 2)) (c + (3 * m + 2)) (c + (2 * m + 2)) n C s.counts high (omega arith) (omega (arith, p.held)),
        kept-count (c + 1) (λ e. omega arith) (λ e. omega arith),
      )

-- all axes
pub all-trained : (m : ℕ) (v : Float) (k r c : ℕ) (xs : List Float) (s : Memory) → length xs ≡ k
    → Holding m s.counts k c → Asked (Cell m) m (bins_on (axes_from m s.reals s.counts k r c) xs) r c s
    → axes_from m (over_axes (trained_at m v) m (bins_on (axes_from m s.reals s.counts k r c) xs) r c s).reals (over_axes (trained_at m v) m (bins_on (axes_from m s.reals s.counts k r c) xs) r c s).counts k r c
    ≡ train_all (axes_from m s.reals s.counts k r c) xs v
all-trained m v k r c xs s e h a =
    let axs = axes_from m s.reals s.counts k r c in
    let is = bins_on axs xs in
    let size : length is ≡ k = length-on k axs xs (length-axes m s.reals s.counts k r c) e in
    subst (λ (j : ℕ). axes_from m (over_axes (trained_at m v) m is r c s).reals (over_axes (trained_at m v) m is r c s).counts j r c ≡ each_axis (joined v) (axes_from m s.reals s.counts j r c) is) size
    (over-tied m (trained_at m v) (Cell m) (trained-local m v) (trained-frames m v) (joined v) (λ r c i s p. trained-tied m v r c i s p) (λ r c i s p. trained-holds m v r c i s p) is r c s (subst (λ (j : ℕ). Holding m s.counts j c) (sym size) h) a)
    ∙ joined-all v axs xs (length-axes m s.reals s.counts k r c ∙ sym e)
