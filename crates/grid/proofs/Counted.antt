-- An axis's bin counts total what its history has counted: at an address, what waits and what was gathered follow the calls.
use mathlib.Core.Path.{◌≡◌, refl, sym, ap, ◌∙◌, subst}
use mathlib.Core.Logic.{◌⊎◌, inl, inr}
use mathlib.Core.Bool.{Bool, true, false, not, ◌&&◌, cond, true≢false, false≢true}
use mathlib.Core.List.{List, [], ◌∷◌, map}
use mathlib.Core.Option.{Option, some}
use mathlib.Core.Option as option
use Prim.Native.Nat.{ℕ, zero, suc, ◌+◌, ◌≤◌, ◌<◌}
use native.Mathlib.Omega.{arith}
use borrow.Author.Tests.{eqb-true, not-false, leb-true, le-leb, eq-eqb}
use lib.Dec.{leb, eqb, ltb}
use lib.ListN.{length, get_or, drop}
use lib.Ieee.{Float, nan, binary64, mul, eq}
use Rattle.doubles.specs.Numbers.{zero64}
use Rattle.doubles.specs.Finite.{finite_of}
use Rattle.doubles.specs.Total.{all_finite}
use Rattle.doubles.specs.Total as total
use Rattle.doubles.specs.Paper.{Paper, gives, refuses}
use Rattle.doubles.proofs.Truth.{both}
use Rattle.doubles.proofs.Ladder as ladder
use Rattle.accumulator.specs.declared.StatisticsAccumulator.{StatisticsAccumulator}
use Rattle.accumulator.specs.Record.{bounded}
use Rattle.axis.specs.Edges.{in_unit, bin_of, well_formed}
use Rattle.axis.specs.Scans.{all_bounded}
use Rattle.axis.proofs.Bins.{formed, found}
use Rattle.recut.specs.Gather.{sum_of, reaches_of}
use Rattle.recut.specs.Weights.{smoothed}
use Rattle.recut.specs.Cut.{cuts_of}
use Rattle.recut.specs.Renew.{lengths_fit, edges_of, step_of, from_damped, from_smoothed, from_divided, renew_of}
use Rattle.recut.proofs.Laws.{gathered-length, joined_length}
use Rattle.model.specs.Axes.{Axis, AxesPlan, empty_axis, cleared_axis}
use Rattle.model.specs.Grid.{Grid, Bins, Child, axes, bins, none, more, nothing, grid, many}
use Rattle.model.specs.Sound.{sound}
use Rattle.model.specs.Draw.{Sample, weight_at}
use Rattle.model.specs.Train.{fault_of_all, fault_of_axes, fault_of, fault_of_bin, fault_of_child, train_axis}
use Rattle.model.specs.Merge.{merge_axis, same_lengths, same_shape, same_bins, same_child}
use Rattle.model.specs.Update.{trained, gathered_axis, last_or, bins_after, recut_to, adapted_axis, update_axis, outcome_of, update_grid}
use Rattle.model.proofs.Edges.{Updated, gathers, resets, recuts, update-is}
use Rattle.model.proofs.Counts.{waiting_in, counts_of, trained-counts, merged-counts, copied-counts, empty-counts, gathered-counts}
use Rattle.lent.proofs.States.{passes}
use Rattle.lent.proofs.Reformed.{all_two}
use Rattle.grid.specs.Address.{Spot, spot, nth, axis_at, axis_in, axis_under}
use Rattle.grid.specs.Fresh.{bins_fit}
use Rattle.grid.specs.History.{Call, draws, probes, sums, estimates, estimates_bin, trains, updates, matches, merges, copies, lacks, Told, told, onward, after, run, given, log, Count, count, is, same, waiting, waits, bin_counts, total_of, counted, tally}
use Rattle.grid.proofs.Places.{through, meet, reached, axes-fit, in-range, no-weight, train-at, merge-at, cleared, copy_at, fate, renewed, update-at, clear_at, never, same_spot}
use Rattle.grid.proofs.Kept as kept
use Rattle.grid.proofs.Kept.{Parts, parts_at, reads, leaves, says, refused_none, sound-after}

-- ---- sums

waiting-is : (as' : List StatisticsAccumulator) → waiting as' ≡ waiting_in as'
unfolding waiting waiting_in
waiting-is [] = refl
waiting-is (a ∷ as') = ap (λ (n : ℕ). a.new_samples + n) (waiting-is as')

total-is : (ns : List ℕ) (as' : List StatisticsAccumulator) → length ns ≡ length as' → sum_of (bin_counts ns as') ≡ sum_of ns + waiting_in as'
unfolding bin_counts sum_of waiting_in
total-is [] [] h = refl
total-is [] (a ∷ as') h = absurd (omega arith)
total-is (n ∷ ns) [] h = absurd (omega arith)
total-is (n ∷ ns) (a ∷ as') h = let e = total-is ns as' (omega arith) in omega arith

-- ---- the axis holds what the history counts

pub record Holds (m : ℕ) (c : Count) (o : Option Spot) : Type 0 where
  pub at : Spot
  pub here : o ≡ some at
  pub least : at.plan.least ≡ m
  pub numbers : bins_fit (at.plan.bins ∷ at.plan.evolution) ≡ true
  pub news : waiting_in at.axis.bins ≡ c.new
  pub olds : sum_of at.axis.counters ≡ c.old

-- ---- a sample's coordinate at an axis that it reaches is in [0, 1]

reach-nth : (plan : AxesPlan) (axs : List Axis) (xs : List Float) (k : ℕ) (s : Spot) → length xs ≡ length axs → fault_of_all xs ≡ 0 → nth plan axs k ≡ some s → in_unit (get_or xs k nan) ≡ true
unfolding nth fault_of_all
reach-nth plan [] xs k s h f e = absurd (never e)
reach-nth plan (a ∷ axs) [] k s h f e = absurd (omega arith)
reach-nth plan (a ∷ axs) (x ∷ xs) zero s h f e = not-false (in_unit x) (passes (not (in_unit x)) 5 _ (λ z. omega (arith, z)) f).0
reach-nth plan (a ∷ axs) (x ∷ xs) (suc k) s h f e = reach-nth plan axs xs k s (omega arith) (passes (not (in_unit x)) 5 _ (λ z. omega (arith, z)) f).1 e

mutual
  unfolding fault_of fault_of_axes fault_of_bin fault_of_child axis_at axis_in axis_under same is

  reach : (g : Grid) (path : List ℕ) (ws xs : List Float) (p : List ℕ) (k : ℕ) (s : Spot) → fault_of g path ws xs ≡ 0 → axis_at g p k ≡ some s → same path p ≡ true → in_unit (get_or xs k nan) ≡ true
  reach (axes g) [] ws xs [] k s f e q = let a = axes-fit g ws xs f in reach-nth g.plan g.axes xs k s a.0 a.1 e
  reach (axes g) [] ws xs (j ∷ p) k s f e q = absurd (never e)
  reach (axes g) (i ∷ path) ws xs p k s f e q = absurd (omega (arith, f))
  reach (bins h bs) [] ws xs p k s f e q = absurd (omega (arith, f))
  reach (bins h bs) (i ∷ path) [] xs p k s f e q = absurd (no-weight (ltb i (many bs)) f)
  reach (bins h bs) (i ∷ path) (w ∷ ws) xs [] k s f e q = absurd (never e)
  reach (bins h bs) (i ∷ path) (w ∷ ws) xs (j ∷ p) k s f e q = reach-in bs i path ws xs j p k s (in-range (ltb i (many bs)) _ f) e q

  reach-in : (bs : Bins) (i : ℕ) (path : List ℕ) (ws xs : List Float) (j : ℕ) (p : List ℕ) (k : ℕ) (s : Spot) → fault_of_bin bs i path ws xs ≡ 0 → axis_in bs j p k ≡ some s → same (i ∷ path) (j ∷ p) ≡ true
      → in_unit (get_or xs k nan) ≡ true
  reach-in none i path ws xs j p k s f e q = absurd (omega (arith, f))
  reach-in (more b c bs) zero path ws xs zero p k s f e q = reach-under c path ws xs p k s f e q
  reach-in (more b c bs) zero path ws xs (suc j) p k s f e q = absurd (false≢true q)
  reach-in (more b c bs) (suc i) path ws xs zero p k s f e q = absurd (false≢true q)
  reach-in (more b c bs) (suc i) path ws xs (suc j) p k s f e q = reach-in bs i path ws xs j p k s f e q

  reach-under : (c : Child) (path : List ℕ) (ws xs : List Float) (p : List ℕ) (k : ℕ) (s : Spot) → fault_of_child c path ws xs ≡ 0 → axis_under c p k ≡ some s → same path p ≡ true → in_unit (get_or xs k nan) ≡ true
  reach-under nothing path ws xs p k s f e q = absurd (never e)
  reach-under (grid g) path ws xs p k s f e q = reach g path ws xs p k s f e q

-- a coordinate's bin is one of the axis's
bin-there : (ax : Axis) (x : Float) → Parts ax → in_unit x ≡ true → bin_of ax.edges x < length ax.bins
bin-there ax x q u = let b = found ax.edges x (formed ax.edges q.rising) u in omega (arith, b.there, q.edges)

-- ---- a training

trained-waits : (ax : Axis) (x v : Float) → bin_of ax.edges x < length ax.bins → waiting_in (train_axis ax x v).bins ≡ waiting_in ax.bins + 1
unfolding counts_of train_axis
trained-waits ax x v h = let e = trained-counts ax x v h in omega arith

trained-gathered : (ax : Axis) (x v : Float) → (train_axis ax x v).counters ≡ ax.counters
unfolding train_axis
trained-gathered ax x v = refl

train-holds : (g : Grid) (s : Sample) (e : Float) (n : ℕ) (p : List ℕ) (k m : ℕ) (c : Count) → sound g ≡ true → fault_of g s.path s.weights s.coordinates ≡ 0
    → (h : Holds m c (axis_at g p k)) → Holds m (counted m p k (trains s e n) c) (through (reached s.path s.weights s.coordinates e p k) (some h.at))
unfolding counted
train-holds g s e n p k m c w f h = pick (same s.path p) refl
  where
    x : Float
    x = get_or s.coordinates k nan

    v : Float
    v = mul binary64 (weight_at (drop (length s.path) s.weights)) e

    pick : (b : Bool) → same s.path p ≡ b → Holds m (cond b (count (c.new + 1) c.old) c) (some (cond b (spot h.at.plan (train_axis h.at.axis x v)) h.at))
    pick true q =
        let ax = h.at.axis in
        let there = bin-there ax x (parts_at g p k h.at w h.here) (reach g s.path s.weights s.coordinates p k h.at f h.here q) in
        record {
          at = spot h.at.plan (train_axis ax x v);
          here = refl;
          least = h.least;
          numbers = h.numbers;
          news = trained-waits ax x v there ∙ ap (λ (i : ℕ). i + 1) h.news;
          olds = ap sum_of (trained-gathered ax x v) ∙ h.olds;
        }
    pick false q = record { at = h.at; here = refl; least = h.least; numbers = h.numbers; news = h.news; olds = h.olds }

-- ---- a merge: a grid of the same shape has an axis of as many bins at the same address

record Twin (s : Spot) (o : Option Spot) : Type 0 where
  other : Spot
  there : o ≡ some other
  long : length s.axis.bins ≡ length other.axis.bins

twin-nth : (plan plan' : AxesPlan) (axs others : List Axis) (k : ℕ) (s : Spot) → same_lengths axs others ≡ true → nth plan axs k ≡ some s → Twin s (nth plan' others k)
unfolding same_lengths nth
twin-nth plan plan' [] others k s t e = absurd (never e)
twin-nth plan plan' (a ∷ axs) [] k s t e = absurd (false≢true t)
twin-nth plan plan' (a ∷ axs) (b ∷ others) zero s t e =
    record { other = spot plan' b; there = refl; long = subst (λ (r : Spot). length r.axis.bins ≡ length b.bins) (same_spot e) (eqb-true _ _ (both (eqb (length a.bins) (length b.bins)) _ t).0) }
twin-nth plan plan' (a ∷ axs) (b ∷ others) (suc k) s t e = twin-nth plan plan' axs others k s (both (eqb (length a.bins) (length b.bins)) _ t).1 e

mutual
  unfolding same_shape same_bins same_child axis_at axis_in axis_under

  twin : (g o : Grid) (p : List ℕ) (k : ℕ) (s : Spot) → same_shape g o ≡ true → axis_at g p k ≡ some s → Twin s (axis_at o p k)
  twin (axes g) (axes o) [] k s t e = twin-nth g.plan o.plan g.axes o.axes k s t e
  twin (axes g) (axes o) (i ∷ p) k s t e = absurd (never e)
  twin (axes g) (bins h bs) p k s t e = absurd (false≢true t)
  twin (bins h bs) (axes o) p k s t e = absurd (false≢true t)
  twin (bins h bs) (bins h' ds) [] k s t e = absurd (never e)
  twin (bins h bs) (bins h' ds) (i ∷ p) k s t e = twin-in bs ds i p k s t e

  twin-in : (bs ds : Bins) (i : ℕ) (p : List ℕ) (k : ℕ) (s : Spot) → same_bins bs ds ≡ true → axis_in bs i p k ≡ some s → Twin s (axis_in ds i p k)
  twin-in none ds i p k s t e = absurd (never e)
  twin-in (more b c bs) none i p k s t e = absurd (false≢true t)
  twin-in (more b c bs) (more b' d ds) zero p k s t e = twin-under c d p k s (both (same_child c d) (same_bins bs ds) t).0 e
  twin-in (more b c bs) (more b' d ds) (suc i) p k s t e = twin-in bs ds i p k s (both (same_child c d) (same_bins bs ds) t).1 e

  twin-under : (c d : Child) (p : List ℕ) (k : ℕ) (s : Spot) → same_child c d ≡ true → axis_under c p k ≡ some s → Twin s (axis_under d p k)
  twin-under nothing d p k s t e = absurd (never e)
  twin-under (grid g) nothing p k s t e = absurd (false≢true t)
  twin-under (grid g) (grid o) p k s t e = twin g o p k s t e

merged-waits : (a b : Axis) → length a.bins ≡ length b.bins → waiting_in (merge_axis a b).bins ≡ waiting_in a.bins + waiting_in b.bins
unfolding counts_of merge_axis
merged-waits a b h = let e = merged-counts a b h in omega arith

merged-gathered : (a b : Axis) → (merge_axis a b).counters ≡ a.counters
unfolding merge_axis
merged-gathered a b = refl

merge-holds : (g o : Grid) (p : List ℕ) (k m : ℕ) (c : Count) → same_shape g o ≡ true
    → (h : Holds m c (axis_at g p k)) → Holds m (counted m p k (merges o) c) (meet (some h.at) (axis_at o p k))
unfolding counted waits
merge-holds g o p k m c t h =
    let a = h.at.axis in
    let r = twin g o p k h.at t h.here in
    let b = r.other.axis in
    rw r.there (record {
      at = spot h.at.plan (merge_axis a b);
      here = refl;
      least = h.least;
      numbers = h.numbers;
      news = merged-waits a b r.long ∙ omega (arith, h.news, waiting-is b.bins);
      olds = ap sum_of (merged-gathered a b) ∙ h.olds;
    })

-- ---- a copy

cleared-waits : (ax : Axis) → waiting_in (cleared_axis ax).bins ≡ 0
unfolding counts_of cleared_axis
cleared-waits ax = let e = copied-counts ax in omega arith

cleared-gathered : (ax : Axis) → (cleared_axis ax).counters ≡ ax.counters
unfolding cleared_axis
cleared-gathered ax = refl

copy_holds : (g : Grid) (p : List ℕ) (k m : ℕ) (c : Count) → (h : Holds m c (axis_at g p k)) → Holds m (counted m p k copies c) (through (cleared p) (some h.at))
unfolding counted
copy_holds g p k m c h = pick (same p [])
  where
    pick : (b : Bool) → Holds m (cond b (count 0 c.old) c) (some (cond b (spot h.at.plan (cleared_axis h.at.axis)) h.at))
    pick true =
        record {
          at = spot h.at.plan (cleared_axis h.at.axis);
          here = refl;
          least = h.least;
          numbers = h.numbers;
          news = cleared-waits h.at.axis;
          olds = ap sum_of (cleared-gathered h.at.axis) ∙ h.olds;
        }
    pick false = record { at = h.at; here = refl; least = h.least; numbers = h.numbers; news = h.news; olds = h.olds }

-- ---- an update: of an axis in a plan's bounds it refuses with 8 or 9 alone

Only : {A : Type 0} → Paper A → Type 0
Only (gives x) = Unit
Only (refuses n) = (n ≡ 8) ⊎ (n ≡ 9)

given-only : {A : Type 0} (x : A) → Only (gives x)
unfolding Only
given-only x = tt

only-eight : {A : Type 0} (b : Bool) (q : Paper A) → Only q → Only (cond b (refuses 8) q)
unfolding Only
only-eight true q h = inl refl
only-eight false q h = h

only-nine : {A : Type 0} (b : Bool) (q : Paper A) → Only q → Only (cond b (refuses 9) q)
unfolding Only
only-nine true q h = inr refl
only-nine false q h = h

only-given : {A : Type 0} (b : Bool) (x : A) (q : Paper A) → Only q → Only (cond b (gives x) q)
unfolding Only
only-given true x q h = tt
only-given false x q h = h

only-damped : (es ds : List Float) (places : ℕ) → Only (from_damped es ds places)
unfolding from_damped edges_of
only-damped es ds places =
    let new = cuts_of es ds (step_of ds places) places in
    only-eight (not (all_finite ds)) _ (only-eight (not (finite_of (total.total_of zero64 ds))) _ (only-nine (not (well_formed new)) _ (given-only new)))

only-divided : (es qs : List Float) (rate : Float) (places : ℕ) → Only (from_divided es qs rate places)
unfolding from_divided from_smoothed
only-divided es qs rate places =
    let ss = smoothed qs in
    only-eight (not (all_finite qs)) _ (only-eight (not (all_finite ss)) _ (only-eight (not (finite_of (total.total_of zero64 ss))) _ (only-damped es _ places)))

only-renewed : (es qs : List Float) (ns : List ℕ) (rate : Float) (places : ℕ) → lengths_fit es qs ns places ≡ true → Only (renew_of es qs ns rate places)
unfolding renew_of
only-renewed es qs ns rate places h = rw h (only-divided es _ rate places)

only-recut : (n r : ℕ) (p : Paper (List Float)) → Only p → Only (recut_to n r p)
unfolding Only
only-recut n r (gives es) h = tt
only-recut n r (refuses k) h = h

-- every number of a plan is at least 1
least-last : (n : ℕ) (ns : List ℕ) → bins_fit (n ∷ ns) ≡ true → 1 ≤ last_or n ns
unfolding bins_fit last_or
least-last n [] e = leb-true 1 n (both (leb 1 n) (leb n 1024) (both (leb 1 n && leb n 1024) _ e).0).0
least-last n (m ∷ ms) e = least-last m ms (both (leb 1 n && leb n 1024) _ e).1

least_at : (ns : List ℕ) (k d : ℕ) → bins_fit ns ≡ true → 1 ≤ d → 1 ≤ get_or ns k d
unfolding bins_fit
least_at [] k d e h = h
least_at (n ∷ ns) zero d e h = leb-true 1 n (both (leb 1 n) (leb n 1024) (both (leb 1 n && leb n 1024) _ e).0).0
least_at (n ∷ ns) (suc k) d e h = least_at ns k d (both (leb 1 n && leb n 1024) _ e).1 h

some_after : (plan : AxesPlan) (r : ℕ) → bins_fit (plan.bins ∷ plan.evolution) ≡ true → 1 ≤ bins_after plan r
unfolding bins_after bins_fit
some_after plan r e = least_at plan.evolution r _ (both (leb 1 plan.bins && leb plan.bins 1024) _ e).1 (least-last plan.bins plan.evolution e)

module _ (plan : AxesPlan) (rate : Float) (ax : Axis) (q : Parts ax) (numbers : bins_fit (plan.bins ∷ plan.evolution) ≡ true) where
  abbrev g : Axis
  g = gathered_axis plan.averages ax

  fit : lengths_fit g.edges g.importances g.counters (bins_after plan g.recuts + 1) ≡ true
  unfolding lengths_fit gathered_axis
  fit =
      let qs = gathered-length ax.importances (map (trained plan.averages) ax.bins) in
      let ns = joined_length ax.counters (map (λ (a : StatisticsAccumulator). a.new_samples) ax.bins) in
      let few = (formed ax.edges q.rising).few in
      let n = some_after plan ax.recuts numbers in
      let k = length g.importances in
      let one : 1 ≤ k = omega (arith, qs, q.importances, q.edges, few) in
      let two : length ax.edges ≡ k + 1 = omega (arith, qs, q.importances, q.edges) in
      let three : length g.counters ≡ k = omega (arith, qs, ns, q.importances, q.counters) in
      let four : 2 ≤ bins_after plan ax.recuts + 1 = omega (arith, n) in
      all_two (le-leb 1 k one) (all_two (eq-eqb (length ax.edges) (k + 1) two) (all_two (eq-eqb (length g.counters) k three) (le-leb 2 (bins_after plan ax.recuts + 1) four)))

  only-updated : Only (update_axis plan rate ax)
  unfolding update_axis adapted_axis
  only-updated =
      only-eight (not (all_finite g.importances && all_bounded g.counters)) _ (only-given (not (reaches_of plan.least g.counters)) g _ (only-given (eq rate zero64) (empty_axis g.edges (length g.bins) g.recuts) _
      (only-eight (not (bounded (g.recuts + 1))) _ (only-recut (bins_after plan g.recuts) g.recuts _ (only-renewed g.edges g.importances g.counters rate _ fit)))))

  -- so where neither is found the axis is given
  gave : (p : Paper Axis) → update_axis plan rate ax ≡ p → Only p → (outcome_of ax p).eight ≡ false → (outcome_of ax p).nine ≡ false → update_axis plan rate ax ≡ gives (outcome_of ax p).after
  unfolding Only
  gave (gives a) e o x y = e
  gave (refuses n) e (inl z) x y = absurd (true≢false (sym (eq-eqb n 8 z) ∙ x))
  gave (refuses n) e (inr z) x y = absurd (true≢false (sym (eq-eqb n 9 z) ∙ y))

  -- below the least samples an update ends with what was gathered
  ends : (a : Axis) → update_axis plan rate ax ≡ gives a → reaches_of plan.least g.counters ≡ false → g ≡ a
  unfolding update_axis adapted_axis
  ends a e r =
      let p = (ladder.passes (not (all_finite g.importances && all_bounded g.counters)) 8 _ a e).1 in
      let z : ◌≡◌ {A = Paper Axis} (gives g) (gives a) = rw r at p in
      ladder.given g a z

  gathered-waits : waiting_in g.bins ≡ 0
  unfolding gathered_axis cleared_axis
  gathered-waits = cleared-waits ax

  gathered-sum : sum_of g.counters ≡ sum_of ax.counters + waiting_in ax.bins
  unfolding counts_of
  gathered-sum = omega (arith, gathered-counts plan.averages ax q.counters q.few q.sums, gathered-waits)

none_left : (es : List Float) (n r : ℕ) → (waiting_in (empty_axis es n r).bins ≡ 0) × (sum_of (empty_axis es n r).counters ≡ 0)
unfolding counts_of
none_left es n r = (let e = empty-counts es n r in omega arith, let e = empty-counts es n r in omega arith)

module _ (rate : Float) (m : ℕ) (c : Count) (s : Spot) (q : Parts s.axis) (x : (fate rate s).eight ≡ false) (y : (fate rate s).nine ≡ false) where
  abbrev ax : Axis
  ax = s.axis

  abbrev left : Axis
  left = (fate rate s).after

  is-given : bins_fit (s.plan.bins ∷ s.plan.evolution) ≡ true → update_axis s.plan rate ax ≡ gives left
  is-given numbers = gave s.plan rate ax q numbers (update_axis s.plan rate ax) refl (only-updated s.plan rate ax q numbers) x y

  emptied : (es : List Float) (n r : ℕ) → empty_axis es n r ≡ left → (waiting_in left.bins ≡ 0) × (sum_of left.counters ≡ 0)
  emptied es n r e = subst (λ (a : Axis). (waiting_in a.bins ≡ 0) × (sum_of a.counters ≡ 0)) e (none_left es n r)

  -- an update that reaches the least samples resets
  reset_by : reaches_of s.plan.least (gathered_axis s.plan.averages ax).counters ≡ true → Updated s.plan rate ax left → (waiting_in left.bins ≡ 0) × (sum_of left.counters ≡ 0)
  reset_by r (gathers f e) = absurd (true≢false (sym r ∙ f))
  reset_by r (resets e) = emptied _ _ _ e
  reset_by r (recuts es f e) = emptied _ _ _ e

  update-spot : (h : Holds m c (some s)) → h.at ≡ s → Holds m (cond (leb m (c.old + c.new)) (count 0 0) (count 0 (c.old + c.new))) (some (renewed rate s))
  unfolding reaches_of
  update-spot h e = pick (leb m (c.old + c.new)) refl
    where
      numbers : bins_fit (s.plan.bins ∷ s.plan.evolution) ≡ true
      numbers = subst (λ (t : Spot). bins_fit (t.plan.bins ∷ t.plan.evolution) ≡ true) e h.numbers

      least : s.plan.least ≡ m
      least = ap (λ (t : Spot). t.plan.least) (sym e) ∙ h.least

      all : sum_of (gathered_axis s.plan.averages ax).counters ≡ c.old + c.new
      all = omega (arith, gathered-sum s.plan rate ax q numbers, ap (λ (t : Spot). waiting_in t.axis.bins) e, ap (λ (t : Spot). sum_of t.axis.counters) e, h.news, h.olds)

      reaches : (b : Bool) → leb m (c.old + c.new) ≡ b → reaches_of s.plan.least (gathered_axis s.plan.averages ax).counters ≡ b
      reaches b r = ap (λ (n : ℕ). leb s.plan.least n) all ∙ ap (λ (n : ℕ). leb n (c.old + c.new)) least ∙ r

      pick : (b : Bool) → leb m (c.old + c.new) ≡ b → Holds m (cond b (count 0 0) (count 0 (c.old + c.new))) (some (renewed rate s))
      pick true r =
          let z = reset_by (reaches true r) (update-is s.plan rate ax left (is-given numbers)) in
          record { at = spot s.plan left; here = refl; least = least; numbers = numbers; news = z.0; olds = z.1 }
      pick false r =
          let z = ends s.plan rate ax q numbers left (is-given numbers) (reaches false r) in
          record {
            at = spot s.plan left;
            here = refl;
            least = least;
            numbers = numbers;
            news = ap (λ (a : Axis). waiting_in a.bins) (sym z) ∙ gathered-waits s.plan rate ax q numbers;
            olds = ap (λ (a : Axis). sum_of a.counters) (sym z) ∙ all;
          }

update-holds : (g : Grid) (bins_rate axes_rate : Float) (p : List ℕ) (k m : ℕ) (c : Count) → sound g ≡ true → (update_grid bins_rate axes_rate g).eight ≡ false → (update_grid bins_rate axes_rate g).nine ≡ false
    → (h : Holds m c (axis_at g p k)) → Holds m (counted m p k (updates bins_rate axes_rate) c) (some (renewed axes_rate h.at))
unfolding counted
update-holds g bins_rate axes_rate p k m c w x y h =
    let u = clear_at g bins_rate axes_rate p k h.at x y h.here in
    update-spot axes_rate m c h.at (parts_at g p k h.at w h.here) u.0 u.1
    (record { at = h.at; here = refl; least = h.least; numbers = h.numbers; news = h.news; olds = h.olds }) refl

-- ---- one accepted call

module _ (p : List ℕ) (k m : ℕ) (c : Count) where
  -- another grid with the same at the address
  moved : (n : Count) (o o' : Option Spot) → o' ≡ o → Holds m n o → Holds m n o'
  moved n o o' e h = subst (Holds m n) (sym e) h

  stays : (g : Grid) (t : Told) → g ≡ t.grid → Holds m c (axis_at g p k) → Holds m c (axis_at t.grid p k)
  stays g t e h = subst (λ (x : Grid). Holds m c (axis_at x p k)) e h

  -- what stands there, moved through a change
  changed : (g g' : Grid) (f : Spot → Spot) (n : Count) (h : Holds m c (axis_at g p k)) → axis_at g' p k ≡ through f (axis_at g p k) → Holds m n (some (f h.at)) → Holds m n (axis_at g' p k)
  changed g g' f n h e q = moved n (some (f h.at)) (axis_at g' p k) (e ∙ ap (through f) h.here) q

  pub counted-told : (g : Grid) (call : Call) (t : Told) → sound g ≡ true → told g call ≡ gives t → Holds m c (axis_at g p k) → Holds m (counted m p k call c) (axis_at t.grid p k)
  unfolding told counted
  counted-told g (draws s) t w e h = stays g t (ap (λ (u : Told). u.grid) (ladder.given _ t e)) h
  counted-told g (probes path xs) t w e h = stays g t (reads _ g _ t e) h
  counted-told g sums t w e h = stays g t (reads _ g _ t e) h
  counted-told g estimates t w e h = stays g t (reads _ g _ t e) h
  counted-told g (estimates_bin path) t w e h = stays g t (reads _ g _ t e) h
  counted-told g (trains s v n) t w e h =
      let q = kept.trained g s v n t.grid (leaves _ t e) in
      changed g t.grid _ _ h (ap (λ (x : Grid). axis_at x p k) (sym q.is) ∙ train-at g s.path s.weights s.coordinates v n p k q.form) (train-holds g s v n p k m c w q.form h)
  counted-told g (updates bins_rate axes_rate) t w e h =
      let q = kept.updated bins_rate axes_rate g t.grid (leaves _ t e) in
      changed g t.grid _ _ h (ap (λ (x : Grid). axis_at x p k) (sym q.is) ∙ update-at g bins_rate axes_rate p k) (update-holds g bins_rate axes_rate p k m c w q.eight q.nine h)
  counted-told g (matches o) t w e h = stays g t (says g _ t (ladder.passes (not (sound o)) 12 _ t e).1) h
  counted-told g (merges o) t w e h =
      let q = kept.merged g o t.grid (leaves _ t (ladder.passes (not (sound o)) 12 _ t e).1) in
      moved _ _ _ (ap (λ (x : Grid). axis_at x p k) (sym q.is) ∙ merge-at g o p k ∙ ap (λ (x : Option Spot). meet x (axis_at o p k)) h.here) (merge-holds g o p k m c q.shape h)
  counted-told g copies t w e h =
      changed g t.grid _ _ h (ap (λ (u : Told). axis_at u.grid p k) (sym (ladder.given _ t e)) ∙ copy_at g p k) (copy_holds g p k m c h)
  counted-told g (lacks n) t w e h = absurd (refused_none n t e)

  pub counted-after : (g : Grid) (call : Call) → sound g ≡ true → Holds m c (axis_at g p k) → Holds m (cond (given (told g call)) (counted m p k call c) c) (axis_at (after g call) p k)
  unfolding after onward given
  counted-after g call w h = go (told g call) refl
    where
      go : (q : Paper Told) → told g call ≡ q → Holds m (cond (given q) (counted m p k call c) c) (axis_at (onward g q) p k)
      go (gives t) e = counted-told g call t w e h
      go (refuses n) e = h

-- a history
pub counted-run : (p : List ℕ) (k m : ℕ) (c : Count) (g : Grid) (cs : List Call) → sound g ≡ true → Holds m c (axis_at g p k) → Holds m (tally m p k c (log g cs)) (axis_at (run g cs) p k)
unfolding run log tally
counted-run p k m c g [] w h = h
counted-run p k m c g (x ∷ cs) w h =
    counted-run p k m (cond (given (told g x)) (counted m p k x c) c) (after g x) cs (sound-after g x w) (counted-after p k m c g x w h)

-- no call makes an axis: where none is, none comes
none_told : (p : List ℕ) (k : ℕ) (g : Grid) (call : Call) (t : Told) → told g call ≡ gives t → axis_at g p k ≡ option.none → axis_at t.grid p k ≡ option.none
unfolding told
none_told p k g (draws s) t e h = sym (ap (λ (u : Told). axis_at u.grid p k) (ladder.given _ t e)) ∙ h
none_told p k g (probes path xs) t e h = sym (ap (λ (x : Grid). axis_at x p k) (reads _ g _ t e)) ∙ h
none_told p k g sums t e h = sym (ap (λ (x : Grid). axis_at x p k) (reads _ g _ t e)) ∙ h
none_told p k g estimates t e h = sym (ap (λ (x : Grid). axis_at x p k) (reads _ g _ t e)) ∙ h
none_told p k g (estimates_bin path) t e h = sym (ap (λ (x : Grid). axis_at x p k) (reads _ g _ t e)) ∙ h
none_told p k g (trains s v n) t e h =
    let q = kept.trained g s v n t.grid (leaves _ t e) in
    ap (λ (x : Grid). axis_at x p k) (sym q.is) ∙ train-at g s.path s.weights s.coordinates v n p k q.form ∙ ap (through _) h
none_told p k g (updates bins_rate axes_rate) t e h =
    let q = kept.updated bins_rate axes_rate g t.grid (leaves _ t e) in
    ap (λ (x : Grid). axis_at x p k) (sym q.is) ∙ update-at g bins_rate axes_rate p k ∙ ap (through (renewed axes_rate)) h
none_told p k g (matches o) t e h = sym (ap (λ (x : Grid). axis_at x p k) (says g _ t (ladder.passes (not (sound o)) 12 _ t e).1)) ∙ h
none_told p k g (merges o) t e h =
    let q = kept.merged g o t.grid (leaves _ t (ladder.passes (not (sound o)) 12 _ t e).1) in
    ap (λ (x : Grid). axis_at x p k) (sym q.is) ∙ merge-at g o p k ∙ ap (λ (x : Option Spot). meet x (axis_at o p k)) h
none_told p k g copies t e h = ap (λ (u : Told). axis_at u.grid p k) (sym (ladder.given _ t e)) ∙ copy_at g p k ∙ ap (through (cleared p)) h
none_told p k g (lacks n) t e h = absurd (refused_none n t e)

pub none-run : (p : List ℕ) (k : ℕ) (g : Grid) (cs : List Call) → axis_at g p k ≡ option.none → axis_at (run g cs) p k ≡ option.none
unfolding run after onward
none-run p k g [] h = h
none-run p k g (c ∷ cs) h = none-run p k (after g c) cs (go (told g c) refl)
  where
    go : (q : Paper Told) → told g c ≡ q → axis_at (onward g q) p k ≡ option.none
    go (gives t) e = none_told p k g c t e h
    go (refuses n) e = h

-- the total that the history has counted is that of the axis's bin counts
pub holds-total : (m : ℕ) (c : Count) (o : Option Spot) (s : Spot) → Parts s.axis → Holds m c o → o ≡ some s → (s.plan.least ≡ m) × (total_of s.axis ≡ c.old + c.new)
unfolding total_of
holds-total m c o s q h e =
    let z : h.at ≡ s = same_spot (sym h.here ∙ e) in
    (ap (λ (t : Spot). t.plan.least) (sym z) ∙ h.least, total-is s.axis.counters s.axis.bins q.counters ∙ omega (arith, ap (λ (t : Spot). waiting_in t.axis.bins) z, ap (λ (t : Spot). sum_of t.axis.counters) z, h.news, h.olds))
