-- What each step does to sums and counts, and that every accepted call leaves a well-formed record. Callers reason by these.
use mathlib.Core.Path.{◌≡◌, refl, subst}
use mathlib.Core.Logic.{inl, inr}
use mathlib.Core.Bool.{Bool, true, false, not}
use Prim.Native.Nat.{ℕ, ◌+◌}
use borrow.Author.Tests.{not-false}
use lib.Ieee.{Float, binary64, of_bits, add, mul}
use Rattle.doubles.specs.Finite.{finite_of}
use Rattle.doubles.specs.Paper.{gives}
use Rattle.doubles.proofs.Ladder.{passes, given}
use Rattle.doubles.proofs.Truth.{either}
use Rattle.accumulator.specs.declared.StatisticsAccumulator.{StatisticsAccumulator}
use Rattle.accumulator.specs.Record.{fresh, well_formed, finite_sums, bounded, bounded_counts, with_waiting, with_extremes, raised}
use Rattle.accumulator.specs.Steps.{added_of, merged_of}
use Rattle.accumulator.specs.Update.{enough, processed_of, updated_of}
use Rattle.accumulator.specs.Calls.{stepped, kept_of, numbered, add_sample_of, merge_of, update_of}

-- ---- a sample joins the waiting ones, and nothing processed moves

pub added-waits : (a : StatisticsAccumulator) (e : Float) (k : ℕ) → (added_of a e k).new_samples ≡ a.new_samples + 1
unfolding added_of with_extremes with_waiting
added-waits a e k = refl

pub added-processed : (a : StatisticsAccumulator) (e : Float) (k : ℕ)
    → ((added_of a e k).processed_samples ≡ a.processed_samples) × ((added_of a e k).num_zero_evaluations ≡ a.num_zero_evaluations) × ((added_of a e k).cur_iter ≡ a.cur_iter)
unfolding added_of with_extremes with_waiting
added-processed a e k = (refl, refl, refl)

pub added-sums : (a : StatisticsAccumulator) (e : Float) (k : ℕ)
    → ((added_of a e k).sum ≡ add binary64 a.sum e) × ((added_of a e k).sum_sq ≡ add binary64 a.sum_sq (mul binary64 e e))
unfolding added_of with_extremes with_waiting
added-sums a e k = (refl, refl)

-- ---- a merge adds what waits in the other

pub merged-waits : (a b : StatisticsAccumulator) → (merged_of a b).new_samples ≡ a.new_samples + b.new_samples
unfolding merged_of with_extremes with_waiting
merged-waits a b = refl

pub merged-processed : (a b : StatisticsAccumulator) → (merged_of a b).processed_samples ≡ a.processed_samples
unfolding merged_of with_extremes with_waiting
merged-processed a b = refl

-- ---- an update moves the waiting samples to the processed ones, or leaves both

pub updated-moves : (w : Bool) (a : StatisticsAccumulator) → enough a ≡ true
    → ((updated_of w a).new_samples ≡ 0) × ((updated_of w a).processed_samples ≡ a.processed_samples + a.new_samples)
unfolding updated_of processed_of
updated-moves w a e = rw e (refl, refl)

pub updated-leaves : (w : Bool) (a : StatisticsAccumulator) → enough a ≡ false
    → ((updated_of w a).new_samples ≡ a.new_samples) × ((updated_of w a).processed_samples ≡ a.processed_samples)
unfolding updated_of raised
updated-leaves w a e = rw e (refl, refl)

pub updated-iteration : (w : Bool) (a : StatisticsAccumulator) → (updated_of w a).cur_iter ≡ a.cur_iter + 1
unfolding updated_of raised processed_of
updated-iteration w a = elim (either (enough a)) [
  | inl e ↦ rw e
  | inr e ↦ rw e
]

-- ---- well-formedness

pub fresh-sound : well_formed fresh ≡ true
unfolding well_formed finite_sums bounded_counts bounded fresh finite_of of_bits
fresh-sound = refl

-- what is kept is well formed
kept-sound : (a b : StatisticsAccumulator) → kept_of a ≡ gives b → well_formed b ≡ true
unfolding kept_of
kept-sound a b e =
    let p = passes (not (well_formed a)) 8 (gives a) b e in
    subst (λ (x : StatisticsAccumulator). well_formed x ≡ true) (given a b p.1) (not-false (well_formed a) p.0)

pub add-sample-sound : (a b : StatisticsAccumulator) (e : Float) (k : ℕ) → add_sample_of a e k ≡ gives b → well_formed b ≡ true
unfolding add_sample_of
add-sample-sound a b e k h =
    let p = passes (not (well_formed a)) 12 _ b h in
    let q = passes (not (numbered k)) 3 _ b p.1 in
    kept-sound (added_of a e k) b (passes (not (finite_of e)) 7 _ b q.1).1

pub merge-sound : (a b m : StatisticsAccumulator) → merge_of a b ≡ gives m → well_formed m ≡ true
unfolding merge_of
merge-sound a b m h = kept-sound (merged_of a b) m (passes (not (well_formed b)) 12 _ m (passes (not (well_formed a)) 12 _ m h).1).1

pub update-sound : (w p : Bool) (a b : StatisticsAccumulator) → update_of w a ≡ gives (stepped p b) → well_formed b ≡ true
unfolding update_of
update-sound w p a b h =
    let q = passes (not (well_formed (updated_of w a))) 8 _ (stepped p b) (passes (not (well_formed a)) 12 _ (stepped p b) h).1 in
    let same : updated_of w a ≡ b = cc q.1 in
    subst (λ (x : StatisticsAccumulator). well_formed x ≡ true) same (not-false (well_formed (updated_of w a)) q.0)
