-- An axis's bin counts, each a bin's counter and its waiting samples: what each call does to their sum.
use mathlib.Core.Path.{◌≡◌, refl, subst}
use mathlib.Core.Bool.{Bool, true}
use mathlib.Core.List.{List, [], ◌∷◌, map}
use Prim.Native.Nat.{ℕ, zero, suc, ◌+◌, ◌^◌, ◌<◌}
use native.Mathlib.Omega.{arith}
use lib.ListN.{length, get_or, set, replicate}
use lib.Ieee.{Float}
use borrow.Author.Tests.{leb-true}
use Rattle.doubles.specs.Paper.{gives}
use Rattle.doubles.proofs.Truth.{both}
use Rattle.accumulator.specs.declared.StatisticsAccumulator.{StatisticsAccumulator}
use Rattle.accumulator.specs.Record.{fresh, with_waiting}
use Rattle.accumulator.specs.Steps.{added_of, cleared_of}
use Rattle.accumulator.proofs.Laws.{added-waits, merged-waits}
use Rattle.accumulator.proofs.Counts.{within, counts_of_lem}
use Rattle.axis.specs.Edges.{bin_of}
use Rattle.axis.specs.Scans.{all_bounded}
use Rattle.recut.specs.Pairs.{pairwise}
use Rattle.recut.specs.Gather.{joined_counts, sum_of}
use Rattle.recut.proofs.Laws.{joined-sum}
use Rattle.model.specs.Axes.{Axis, AxesPlan, empty_axis, cleared_axis}
use Rattle.model.specs.Sound.{all_sound}
use Rattle.model.specs.Train.{train_axis}
use Rattle.model.specs.Merge.{merge_bin_records, merge_axis}
use Rattle.model.specs.Update.{gathered_axis, update_axis}
use Rattle.model.proofs.Edges.{Updated, gathers, resets, recuts, update-is}

-- how many samples wait in an axis's bins
unfoldable pub waiting_in : List StatisticsAccumulator → ℕ
waiting_in [] = 0
waiting_in (a ∷ as') = a.new_samples + waiting_in as'

-- the sum of the bin counts
unfoldable pub counts_of : Axis → ℕ
counts_of ax = sum_of ax.counters + waiting_in ax.bins

-- ---- one accepted sample

waits-one-more : (as' : List StatisticsAccumulator) (i : ℕ) (v : Float) → i < length as' → waiting_in (set as' i (added_of (get_or as' i fresh) v 0)) ≡ waiting_in as' + 1
unfolding waiting_in
waits-one-more [] i v h = absurd (omega arith)
waits-one-more (a ∷ as') zero v h = let e = added-waits a v 0 in omega arith
waits-one-more (a ∷ as') (suc i) v h = let e = waits-one-more as' i v (omega arith) in omega arith

pub trained-counts : (ax : Axis) (x v : Float) → bin_of ax.edges x < length ax.bins → counts_of (train_axis ax x v) ≡ counts_of ax + 1
unfolding counts_of train_axis
trained-counts ax x v h = let e = waits-one-more ax.bins (bin_of ax.edges x) v h in omega arith

-- ---- a merge adds what then waits in the other

merged-waiting : (as' bs : List StatisticsAccumulator) → length as' ≡ length bs → waiting_in (merge_bin_records as' bs) ≡ waiting_in as' + waiting_in bs
unfolding waiting_in merge_bin_records
merged-waiting [] [] h = refl
merged-waiting [] (b ∷ bs) h = absurd (omega arith)
merged-waiting (a ∷ as') [] h = absurd (omega arith)
merged-waiting (a ∷ as') (b ∷ bs) h = let e = merged-waiting as' bs (omega arith) in let f = merged-waits a b in omega arith

pub merged-counts : (a b : Axis) → length a.bins ≡ length b.bins → counts_of (merge_axis a b) ≡ counts_of a + waiting_in b.bins
unfolding counts_of merge_axis
merged-counts a b h = let e = merged-waiting a.bins b.bins h in omega arith

-- ---- a copy starts from the counters

cleared-waiting : (as' : List StatisticsAccumulator) → waiting_in (map cleared_of as') ≡ 0
unfolding waiting_in cleared_of with_waiting
cleared-waiting [] = refl
cleared-waiting (a ∷ as') = let e = cleared-waiting as' in omega arith

pub copied-counts : (ax : Axis) → counts_of (cleared_axis ax) ≡ sum_of ax.counters
unfolding counts_of cleared_axis
copied-counts ax = let e = cleared-waiting ax.bins in omega arith

-- ---- an update: nothing is trained after a reset, and the counts are kept by one that does not reset

empty-waiting : (n : ℕ) → waiting_in (replicate n fresh) ≡ 0
unfolding waiting_in fresh
empty-waiting zero = refl
empty-waiting (suc n) = let e = empty-waiting n in omega arith

empty-sum : (n : ℕ) → sum_of (replicate n 0) ≡ 0
unfolding sum_of
empty-sum zero = refl
empty-sum (suc n) = let e = empty-sum n in omega arith

pub empty-counts : (es : List Float) (n r : ℕ) → counts_of (empty_axis es n r) ≡ 0
unfolding counts_of empty_axis
empty-counts es n r = let e = empty-waiting n in let f = empty-sum n in omega arith

abbrev new_samples : StatisticsAccumulator → ℕ
new_samples a = a.new_samples

-- counters and waiting samples within their bounds gather without loss
joined-total : (ns : List ℕ) (as' : List StatisticsAccumulator) → length ns ≡ length as' → all_bounded ns ≡ true → all_sound as' ≡ true
    → sum_of (joined_counts ns (map new_samples as')) ≡ sum_of ns + waiting_in as'
unfolding sum_of joined_counts pairwise waiting_in all_bounded all_sound
joined-total [] [] h b s = refl
joined-total [] (a ∷ as') h b s = absurd (omega arith)
joined-total (n ∷ ns) [] h b s = absurd (omega arith)
joined-total (n ∷ ns) (a ∷ as') h b s =
    let p = both _ _ b in
    let q = both _ _ s in
    let k = within a (counts_of_lem a q.0) in
    let e = joined-total ns as' (omega arith) p.1 q.1 in
    let f = joined-sum n a.new_samples (leb-true n (2 ^ 53) p.0) k.waiting in
    omega arith

pub gathered-counts : (averages : Bool) (ax : Axis) → length ax.counters ≡ length ax.bins → all_bounded ax.counters ≡ true → all_sound ax.bins ≡ true
    → counts_of (gathered_axis averages ax) ≡ counts_of ax
unfolding counts_of gathered_axis
gathered-counts averages ax h b s =
    let e = cleared-waiting ax.bins in
    let f = joined-total ax.counters ax.bins h b s in
    omega arith

-- whether an accepted update reset the axis: it re-cut, or had rate 0 and reached the least samples
pub data Counted (ax after : Axis) : Type 0 where
  kept : counts_of after ≡ counts_of ax → Counted ax after
  reset : counts_of after ≡ 0 → Counted ax after

pub update-counts : (plan : AxesPlan) (rate : Float) (ax after : Axis) → length ax.counters ≡ length ax.bins → all_bounded ax.counters ≡ true
    → all_sound ax.bins ≡ true → update_axis plan rate ax ≡ gives after → Counted ax after
update-counts plan rate ax after h b s e = from (update-is plan rate ax after e)
  where
    from : Updated plan rate ax after → Counted ax after
    from (gathers g same) = kept (subst (λ (a : Axis). counts_of a ≡ counts_of ax) same (gathered-counts plan.averages ax h b s))
    from (resets same) = reset (subst (λ (a : Axis). counts_of a ≡ 0) same (empty-counts ax.edges _ ax.recuts))
    from (recuts es g same) = reset (subst (λ (a : Axis). counts_of a ≡ 0) same (empty-counts es _ (ax.recuts + 1)))
