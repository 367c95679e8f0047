-- An update in which nothing is found leaves a well-formed grid: an axis that is refused stays, and every other is gathered, reset or re-cut
-- to one of its plan's bin numbers.
use mathlib.Core.Path.{◌≡◌, refl, sym, ◌∙◌, subst}
use mathlib.Core.Logic.{inl, inr}
use mathlib.Core.Bool.{Bool, true, false, not, ◌&&◌, ◌||◌, cond}
use mathlib.Core.List.{List, [], ◌∷◌, map}
use Prim.Native.Nat.{ℕ, zero, suc, ◌+◌}
use native.Mathlib.Omega.{arith}
use borrow.Author.Tests.{not-false, eqb-true, eq-eqb}
use lib.Dec.{eqb}
use lib.ListN.{length, get_or, replicate, length-map, length-replicate}
use lib.Ieee.{Float, eq}
use Rattle.doubles.specs.Numbers.{zero64}
use Rattle.doubles.specs.Finite.{finite_of}
use Rattle.doubles.specs.Total.{all_finite}
use Rattle.doubles.specs.Paper.{Paper, gives, refuses}
use Rattle.doubles.proofs.Truth.{both}
use Rattle.doubles.proofs.Ladder.{passes, given, branch}
use Rattle.accumulator.specs.declared.StatisticsAccumulator.{StatisticsAccumulator}
use Rattle.accumulator.specs.Record.{fresh, finite_sums, bounded_counts, bounded, with_waiting}
use Rattle.accumulator.specs.Record as account
use Rattle.accumulator.specs.Steps.{cleared_of}
use Rattle.accumulator.specs.Update.{updated_of}
use Rattle.axis.specs.Edges as Edges
use Rattle.axis.specs.Scans.{all_bounded}
use Rattle.recut.specs.Gather.{gathered_of, joined_counts, reaches_of}
use Rattle.recut.specs.Renew.{renew_of}
use Rattle.recut.specs.Chances.{chance, all_chances, adapted_to}
use Rattle.recut.proofs.Pairs.{pairs-length}
use Rattle.recut.proofs.Laws.{renew-sound}
use Rattle.model.specs.Axes.{Axis, AxesPlan, empty_axis}
use Rattle.model.specs.Grid.{Head, Grid, Bins, Child, axes, bins, none, more, nothing, grid, with_head, with_bin}
use Rattle.model.specs.Sound.{all_sound, kept_axis, kept_axis_list, kept_grid, kept_bins, kept_child, listed, formed_axis, formed_axis_list, formed_grid, formed_bins, formed_child, sound}
use Rattle.model.specs.Update.{Outcome, gathered_axis, last_or, bins_after, recut_to, adapted_axis, update_axis, outcome_of, update_all, update_axes, all_idle, raws, with_probabilities, adapted_bins, update_grid, update_bins, update_child}
use Rattle.accumulator.proofs.Laws.{fresh-sound}
use Rattle.lent.proofs.Judges.{zero-finite}
use Rattle.lent.proofs.Turns.{no-either}

-- ---- truth values

pub all_two : {a b : Bool} → a ≡ true → b ≡ true → (a && b) ≡ true
all_two e f = rw (e, f)

-- ---- a plan's bin numbers

pub listed_here : (n : ℕ) (ns : List ℕ) → listed n (n ∷ ns) ≡ true
unfolding listed
listed_here n ns = rw (eq-eqb n n refl)

listed_more : (n m : ℕ) (ns : List ℕ) → listed n ns ≡ true → listed n (m ∷ ns) ≡ true
unfolding listed
listed_more n m ns e = pick (eqb n m)
  where
    pick : (b : Bool) → (b || listed n ns) ≡ true
    pick true = refl
    pick false = e

listed-last : (n : ℕ) (ns : List ℕ) → listed (last_or n ns) (n ∷ ns) ≡ true
unfolding last_or
listed-last n [] = listed_here n []
listed-last n (m ∷ ms) = listed_more (last_or m ms) n (m ∷ ms) (listed-last m ms)

listed_at : (d : ℕ) (ns : List ℕ) (k : ℕ) (all : List ℕ) → listed d all ≡ true → ((m : ℕ) → listed m ns ≡ true → listed m all ≡ true) → listed (get_or ns k d) all ≡ true
listed_at d [] k all e sub = e
listed_at d (m ∷ ms) zero all e sub = sub m (listed_here m ms)
listed_at d (m ∷ ms) (suc k) all e sub = listed_at d ms k all e (λ x h. sub x (listed_more x m ms h))

listed-after : (plan : AxesPlan) (recuts : ℕ) → listed (bins_after plan recuts) (plan.bins ∷ plan.evolution) ≡ true
unfolding bins_after
listed-after plan recuts =
    listed_at (last_or plan.bins plan.evolution) plan.evolution recuts (plan.bins ∷ plan.evolution) (listed-last plan.bins plan.evolution) (λ m h. listed_more m plan.bins plan.evolution h)

-- ---- an axis

record Formed (plan : AxesPlan) (ax : Axis) : Type 0 where
  number : listed (length ax.bins) (plan.bins ∷ plan.evolution) ≡ true
  edges : length ax.edges ≡ length ax.bins + 1
  importances : length ax.importances ≡ length ax.bins
  counters : length ax.counters ≡ length ax.bins
  rising : Edges.well_formed ax.edges ≡ true

formed-is : (plan : AxesPlan) (ax : Axis) → formed_axis plan ax ≡ true → Formed plan ax
unfolding formed_axis
formed-is plan ax e =
    let n = length ax.bins in
    let p = both (listed n (plan.bins ∷ plan.evolution)) _ e in
    let q = both (eqb (length ax.edges) (n + 1)) _ p.1 in
    let r = both (eqb (length ax.importances) n) _ q.1 in
    let u = both (eqb (length ax.counters) n) (Edges.well_formed ax.edges) r.1 in
    record { number = p.0; edges = eqb-true _ _ q.0; importances = eqb-true _ _ r.0; counters = eqb-true _ _ u.0; rising = u.1 }

is-formed : (plan : AxesPlan) (ax : Axis) → Formed plan ax → formed_axis plan ax ≡ true
unfolding formed_axis
is-formed plan ax f = all_two f.number (all_two (eq-eqb _ _ f.edges) (all_two (eq-eqb _ _ f.importances) (all_two (eq-eqb _ _ f.counters) f.rising)))

pub none-bounded : bounded 0 ≡ true
unfolding bounded
none-bounded = refl

pub cleared-sound : (a : StatisticsAccumulator) → account.well_formed a ≡ true → account.well_formed (cleared_of a) ≡ true
unfolding account.well_formed finite_sums bounded_counts cleared_of with_waiting
cleared-sound a e =
    let p = both (finite_sums a) (bounded_counts a) e in
    let u = both ((finite_of a.sum && finite_of a.sum_sq) && finite_of a.total_sum) (finite_of a.total_sum_sq) p.0 in
    let v = both (finite_of a.sum && finite_of a.sum_sq) (finite_of a.total_sum) u.0 in
    let q = both (((bounded a.new_samples && bounded a.new_zero_evaluations) && bounded a.cur_iter) && bounded a.processed_samples) (bounded a.num_zero_evaluations) p.1 in
    let r = both ((bounded a.new_samples && bounded a.new_zero_evaluations) && bounded a.cur_iter) (bounded a.processed_samples) q.0 in
    let x = both (bounded a.new_samples && bounded a.new_zero_evaluations) (bounded a.cur_iter) r.0 in
    rw (zero-finite, none-bounded, v.1, u.1, x.1, r.1, q.1)

pub all-cleared : (accounts : List StatisticsAccumulator) → all_sound accounts ≡ true → all_sound (map cleared_of accounts) ≡ true
unfolding all_sound
all-cleared [] e = refl
all-cleared (a ∷ rest) e = let p = both (account.well_formed a) (all_sound rest) e in all_two (cleared-sound a p.0) (all-cleared rest p.1)

all-fresh : (n : ℕ) → all_sound (replicate n fresh) ≡ true
unfolding all_sound
all-fresh zero = refl
all-fresh (suc n) = all_two fresh-sound (all-fresh n)

all-zero : (n : ℕ) → all_finite (replicate n zero64) ≡ true
unfolding all_finite
all-zero zero = refl
all-zero (suc n) = all_two zero-finite (all-zero n)

all_none : (n : ℕ) → all_bounded (replicate n 0) ≡ true
unfolding all_bounded
all_none zero = refl
all_none (suc n) = all_none n

empty-kept : (es : List Float) (n recuts : ℕ) → bounded recuts ≡ true → kept_axis (empty_axis es n recuts) ≡ true
unfolding kept_axis empty_axis
empty-kept es n recuts e = all_two (all-fresh n) (all_two (all-zero n) (all_two (all_none n) e))

empty-formed : (plan : AxesPlan) (es : List Float) (n recuts : ℕ) → listed n (plan.bins ∷ plan.evolution) ≡ true → length es ≡ n + 1 → Edges.well_formed es ≡ true → Formed plan (empty_axis es n recuts)
unfolding empty_axis
empty-formed plan es n recuts l h e =
    let k = length-replicate n fresh in
    record {
      number = rw k l;
      edges = rw k h;
      importances = length-replicate n zero64 ∙ sym k;
      counters = length-replicate n 0 ∙ sym k;
      rising = e;
    }

-- an axis with nothing trained on edges that are well formed
pub empty-sound : (plan : AxesPlan) (es : List Float) (n recuts : ℕ) → listed n (plan.bins ∷ plan.evolution) ≡ true → length es ≡ n + 1 → Edges.well_formed es ≡ true → bounded recuts ≡ true
    → (formed_axis plan (empty_axis es n recuts) ≡ true) × (kept_axis (empty_axis es n recuts) ≡ true)
empty-sound plan es n recuts l h e b = (is-formed plan (empty_axis es n recuts) (empty-formed plan es n recuts l h e), empty-kept es n recuts b)

Both : AxesPlan → Axis → Type 0
Both plan ax = (formed_axis plan ax ≡ true) × (kept_axis ax ≡ true)

module _ (plan : AxesPlan) (rate : Float) (ax : Axis) (f : formed_axis plan ax ≡ true) (k : kept_axis ax ≡ true) where
  abbrev g : Axis
  g = gathered_axis plan.averages ax

  form : Formed plan ax
  form = formed-is plan ax f

  parts : (all_sound ax.bins ≡ true) × (bounded ax.recuts ≡ true)
  unfolding kept_axis
  parts =
      let p = both (all_sound ax.bins) _ k in
      let q = both (all_finite ax.importances) _ p.1 in
      (p.0, (both (all_bounded ax.counters) (bounded ax.recuts) q.1).1)

  gathered-both : (all_finite g.importances && all_bounded g.counters) ≡ true → Both plan g
  unfolding Both kept_axis gathered_axis gathered_of joined_counts
  gathered-both e =
      let n = length-map ax.bins cleared_of in
      let p = both (all_finite g.importances) (all_bounded g.counters) e in (
        is-formed plan g (record {
          number = rw n form.number;
          edges = rw n form.edges;
          importances = pairs-length _ ax.importances _ ∙ form.importances ∙ sym n;
          counters = pairs-length _ ax.counters _ ∙ form.counters ∙ sym n;
          rising = form.rising;
        }),
        all_two (all-cleared ax.bins parts.0) (all_two p.0 (all_two p.1 parts.1)),
      )

  reset-both : Both plan (empty_axis g.edges (length g.bins) g.recuts)
  unfolding Both gathered_axis
  reset-both =
      let n = length-map ax.bins cleared_of in
      (is-formed plan _ (empty-formed plan ax.edges (length (map cleared_of ax.bins)) ax.recuts (rw n form.number) (rw n form.edges) form.rising), empty-kept ax.edges (length (map cleared_of ax.bins)) ax.recuts parts.1)

  recut-both : (p : Paper (List Float)) (a : Axis) → bounded (ax.recuts + 1) ≡ true
      → renew_of g.edges g.importances g.counters rate (bins_after plan ax.recuts + 1) ≡ p → recut_to (bins_after plan ax.recuts) ax.recuts p ≡ gives a → Both plan a
  unfolding Both
  recut-both (gives es) a b h e =
      let r = renew-sound g.edges g.importances g.counters rate (bins_after plan ax.recuts + 1) es h in
      let n = bins_after plan ax.recuts in
      subst (Both plan) (given (empty_axis es n (ax.recuts + 1)) a e)
      (is-formed plan _ (empty-formed plan es n (ax.recuts + 1) (listed-after plan ax.recuts) r.1 r.0), empty-kept es n (ax.recuts + 1) b)
  recut-both (refuses m) a b h e = let z : ◌≡◌ {A = ℕ} 0 1 = cc in absurd (omega arith)

  updated-both : (a : Axis) → update_axis plan rate ax ≡ gives a → Both plan a
  unfolding update_axis adapted_axis gathered_axis Both
  updated-both a e =
      let p = passes (not (all_finite g.importances && all_bounded g.counters)) 8 _ a e in
      elim (branch (not (reaches_of plan.least g.counters)) (gives g) _ a p.1) [
        | inl h ↦ subst (Both plan) (given g a h.1) (gathered-both (not-false (all_finite g.importances && all_bounded g.counters) p.0))
        | inr h ↦ elim (branch (eq rate zero64) (gives (empty_axis g.edges (length g.bins) g.recuts)) _ a h.1) [
          | inl q ↦ subst (Both plan) (given (empty_axis g.edges (length g.bins) g.recuts) a q.1) reset-both
          | inr q ↦ let r = passes (not (bounded (ax.recuts + 1))) 8 _ a q.1 in recut-both _ a (not-false (bounded (ax.recuts + 1)) r.0) refl r.1
        ]
      ]

  outcome-both : (p : Paper Axis) → update_axis plan rate ax ≡ p → Both plan (outcome_of ax p).after
  unfolding Both
  outcome-both (gives a) e = updated-both a e
  outcome-both (refuses n) e = (f, k)

axes-both : (plan : AxesPlan) (rate : Float) (axs : List Axis) → formed_axis_list plan axs ≡ true → kept_axis_list axs ≡ true
    → (formed_axis_list plan (update_all plan rate axs).after ≡ true) × (kept_axis_list (update_all plan rate axs).after ≡ true)
unfolding formed_axis_list kept_axis_list update_all Both
axes-both plan rate [] f k = (refl, refl)
axes-both plan rate (ax ∷ axs) f k =
    let p = both (formed_axis plan ax) (formed_axis_list plan axs) f in
    let q = both (kept_axis ax) (kept_axis_list axs) k in
    let one = outcome-both plan rate ax p.0 q.0 (update_axis plan rate ax) refl in
    let rest = axes-both plan rate axs p.1 q.1 in
    (all_two one.0 rest.0, all_two one.1 rest.1)

-- ---- bins

formed-with : (bs : Bins) (ps : List Float) → formed_bins bs ≡ true → all_chances ps ≡ true → formed_bins (with_probabilities bs ps) ≡ true
unfolding formed_bins with_probabilities all_chances
formed-with none ps f e = refl
formed-with (more b c bs) [] f e = f
formed-with (more b c bs) (p ∷ ps) f e =
    let x = both (chance b.probability) (formed_child c && formed_bins bs) f in
    let y = both (formed_child c) (formed_bins bs) x.1 in
    let z = both (chance p) (all_chances ps) e in
    all_two z.0 (all_two y.0 (formed-with bs ps y.1 z.1))

kept-with : (bs : Bins) (ps : List Float) → kept_bins (with_probabilities bs ps) ≡ kept_bins bs
unfolding kept_bins with_probabilities
kept-with none ps = refl
kept-with (more b c bs) [] = refl
kept-with (more b c bs) (p ∷ ps) = rw (kept-with bs ps)

module _ (rate : Float) (h : Head) (o : Outcome Bins) (f : formed_bins o.after ≡ true) (k : (account.well_formed h.own ≡ true) × (kept_bins o.after ≡ true)) where
  adapted-both : (adapted_bins rate h o).eight ≡ false → (adapted_bins rate h o).nine ≡ false → (formed_grid (adapted_bins rate h o).after ≡ true) × (kept_grid (adapted_bins rate h o).after ≡ true)
  unfolding adapted_bins formed_grid kept_grid with_head
  adapted-both = pick (eq rate zero64 || all_idle h.averages o.after)
    where
      ps : List Float
      ps = adapted_to h.ratio (raws h.averages o.after)

      a : StatisticsAccumulator
      a = updated_of false h.own

      outcome : Bool → Outcome Grid
      outcome b = cond b (record { eight = o.eight; nine = o.nine; after = bins h o.after })
          (record { eight = o.eight || not (account.well_formed a); nine = o.nine || not (all_chances ps); after = bins (with_head h a) (with_probabilities o.after ps) })

      pick : (b : Bool) → (outcome b).eight ≡ false → (outcome b).nine ≡ false → (formed_grid (outcome b).after ≡ true) × (kept_grid (outcome b).after ≡ true)
      pick true e n = (f, all_two k.0 k.1)
      pick false e n =
          let x = no-either o.eight (not (account.well_formed a)) e in
          let y = no-either o.nine (not (all_chances ps)) n in
          (formed-with o.after ps f (not-false (all_chances ps) y.1), all_two (not-false (account.well_formed a) x.1) (kept-with o.after ps ∙ k.1))

-- where nothing is found, nothing was in the bins
unfound : (rate : Float) (h : Head) (o : Outcome Bins) → (adapted_bins rate h o).eight ≡ false → (adapted_bins rate h o).nine ≡ false → (o.eight ≡ false) × (o.nine ≡ false)
unfolding adapted_bins
unfound rate h o = pick (eq rate zero64 || all_idle h.averages o.after)
  where
    ps : List Float
    ps = adapted_to h.ratio (raws h.averages o.after)

    a : StatisticsAccumulator
    a = updated_of false h.own

    outcome : Bool → Outcome Grid
    outcome b = cond b (record { eight = o.eight; nine = o.nine; after = bins h o.after })
        (record { eight = o.eight || not (account.well_formed a); nine = o.nine || not (all_chances ps); after = bins (with_head h a) (with_probabilities o.after ps) })

    pick : (b : Bool) → (outcome b).eight ≡ false → (outcome b).nine ≡ false → (o.eight ≡ false) × (o.nine ≡ false)
    pick true e n = (e, n)
    pick false e n = ((no-either o.eight (not (account.well_formed a)) e).0, (no-either o.nine (not (all_chances ps)) n).0)

-- ---- the tree

mutual
  unfolding formed_grid formed_bins formed_child kept_grid kept_bins kept_child update_grid update_bins update_child update_axes with_bin

  grid-both : (bins_rate axes_rate : Float) (g : Grid) → formed_grid g ≡ true → kept_grid g ≡ true → (update_grid bins_rate axes_rate g).eight ≡ false → (update_grid bins_rate axes_rate g).nine ≡ false
      → (formed_grid (update_grid bins_rate axes_rate g).after ≡ true) × (kept_grid (update_grid bins_rate axes_rate g).after ≡ true)
  grid-both bins_rate axes_rate (axes g) f k e n =
      let x = no-either (update_all g.plan axes_rate g.axes).eight (not (account.well_formed (updated_of false g.own))) e in
      let all = axes-both g.plan axes_rate g.axes f (both (account.well_formed g.own) (kept_axis_list g.axes) k).1 in
      (all.0, all_two (not-false (account.well_formed (updated_of false g.own)) x.1) all.1)
  grid-both bins_rate axes_rate (bins h bs) f k e n =
      let o = update_bins bins_rate axes_rate bs in
      let p = both (account.well_formed h.own) (kept_bins bs) k in
      let clear = unfound bins_rate h o e n in
      let all = bins-both bins_rate axes_rate bs f p.1 clear.0 clear.1 in
      adapted-both bins_rate h o all.0 (p.0, all.1) e n

  bins-both : (bins_rate axes_rate : Float) (bs : Bins) → formed_bins bs ≡ true → kept_bins bs ≡ true → (update_bins bins_rate axes_rate bs).eight ≡ false → (update_bins bins_rate axes_rate bs).nine ≡ false
      → (formed_bins (update_bins bins_rate axes_rate bs).after ≡ true) × (kept_bins (update_bins bins_rate axes_rate bs).after ≡ true)
  bins-both bins_rate axes_rate none f k e n = (refl, refl)
  bins-both bins_rate axes_rate (more b c bs) f k e n =
      let x = both (chance b.probability) (formed_child c && formed_bins bs) f in
      let y = both (formed_child c) (formed_bins bs) x.1 in
      let u = both (account.well_formed b.own) (kept_child c && kept_bins bs) k in
      let v = both (kept_child c) (kept_bins bs) u.1 in
      let o = update_child bins_rate axes_rate c in
      let a = updated_of false b.own in
      let i = no-either (o.eight || not (account.well_formed a)) (update_bins bins_rate axes_rate bs).eight e in
      let j = no-either o.eight (not (account.well_formed a)) i.0 in
      let m = no-either o.nine (update_bins bins_rate axes_rate bs).nine n in
      let one = child-both bins_rate axes_rate c y.0 v.0 j.0 m.0 in
      let rest = bins-both bins_rate axes_rate bs y.1 v.1 i.1 m.1 in
      (all_two x.0 (all_two one.0 rest.0), all_two (not-false (account.well_formed a) j.1) (all_two one.1 rest.1))

  child-both : (bins_rate axes_rate : Float) (c : Child) → formed_child c ≡ true → kept_child c ≡ true → (update_child bins_rate axes_rate c).eight ≡ false → (update_child bins_rate axes_rate c).nine ≡ false
      → (formed_child (update_child bins_rate axes_rate c).after ≡ true) × (kept_child (update_child bins_rate axes_rate c).after ≡ true)
  child-both bins_rate axes_rate nothing f k e n = (refl, refl)
  child-both bins_rate axes_rate (grid g) f k e n = grid-both bins_rate axes_rate g f k e n

pub sound-updated : (bins_rate axes_rate : Float) (g : Grid) → sound g ≡ true → (update_grid bins_rate axes_rate g).eight ≡ false → (update_grid bins_rate axes_rate g).nine ≡ false
    → sound (update_grid bins_rate axes_rate g).after ≡ true
unfolding sound
sound-updated bins_rate axes_rate g w e n =
    let p = both (formed_grid g) (kept_grid g) w in
    let q = grid-both bins_rate axes_rate g p.0 p.1 e n in
    all_two q.0 q.1
