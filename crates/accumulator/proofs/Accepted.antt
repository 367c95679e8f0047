-- A sample judged on the record after it: sums that are finite there were finite before, and so is the evaluation.
use mathlib.Core.Path.{◌≡◌, refl}
use mathlib.Core.Bool.{Bool, true, false, cond, ◌&&◌, ◌||◌, true≢false}
use Prim.Native.Nat.{ℕ, ◌+◌}
use lib.Ieee.{Float, binary64, add, mul, lt}
use Rattle.doubles.specs.Finite.{finite_of}
use Rattle.doubles.specs.Paper.{gives}
use Rattle.doubles.proofs.Truth.{both}
use Rattle.doubles.proofs.Finites.{add-finite}
use Rattle.accumulator.specs.declared.StatisticsAccumulator.{StatisticsAccumulator}
use Rattle.accumulator.specs.Record.{finite_sums, bounded_counts, well_formed, with_waiting, with_extremes}
use Rattle.accumulator.specs.Steps.{zero_count, replaced, added_of}
use Rattle.accumulator.specs.Calls.{kept_of, numbered, add_sample_of}

-- a record with a value added, put together of what the code's calls give: the zeros, and the extremes as chosen
pub added_is : (a : StatisticsAccumulator) (e : Float) (k z : ℕ) (h l : Bool) (hp : Float) (hn : ℕ) (lp : Float) (ln : ℕ)
    → z ≡ zero_count e → h ≡ replaced a.max_eval_positive_number (lt a.max_eval_positive e) → l ≡ replaced a.max_eval_negative_number (lt e a.max_eval_negative)
    → hp ≡ cond h e a.max_eval_positive → hn ≡ cond h k a.max_eval_positive_number → lp ≡ cond l e a.max_eval_negative → ln ≡ cond l k a.max_eval_negative_number
    → with_extremes (with_waiting a (add binary64 a.sum e) (add binary64 a.sum_sq (mul binary64 e e)) (a.new_samples + 1) (a.new_zero_evaluations + z)) hp hn lp ln ≡ added_of a e k
unfolding added_of
added_is a e k z h l hp hn lp ln ez eh el ehp ehn elp eln = rw (eln, elp, ehn, ehp, el, eh, ez)

module _ (a : StatisticsAccumulator) (e : Float) (k : ℕ) where
  finite-before : finite_sums (added_of a e k) ≡ true → (finite_sums a ≡ true) × (finite_of e ≡ true)
  unfolding finite_sums added_of with_extremes with_waiting
  finite-before h =
      let all = both _ _ h in
      let three = both _ _ all.0 in
      let two = both _ _ three.0 in
      let sums = add-finite _ _ two.0 in
      let squares = add-finite _ _ two.1 in
      (rw (sums.0, squares.0, three.1, all.1), sums.1)

  pub accepted : bounded_counts a ≡ true → (numbered k && well_formed (added_of a e k)) ≡ true → add_sample_of a e k ≡ gives (added_of a e k)
  unfolding add_sample_of kept_of well_formed
  accepted counts h =
      let judged = both (numbered k) (well_formed (added_of a e k)) h in
      let after = both (finite_sums (added_of a e k)) (bounded_counts (added_of a e k)) judged.1 in
      let before = finite-before after.0 in
      rw (before.0, counts, judged.0, before.1, after.0, after.1)

-- a record with a count beyond its bound is not well formed
pub miscounted : (a : StatisticsAccumulator) → bounded_counts a ≡ false → well_formed a ≡ false
unfolding well_formed
miscounted a h = rw h (fails (finite_sums a))
  where
    fails : (b : Bool) → (b && false) ≡ false
    fails true = refl
    fails false = refl

-- where none of four holds: neither of the first of both pairs, nor of the second
pub none : (p q r s : Bool) → ((p || q) || (r || s)) ≡ false → ((p || r) ≡ false) × ((q || s) ≡ false)
none true q r s e = absurd (true≢false e)
none false true r s e = absurd (true≢false e)
none false false true s e = absurd (true≢false e)
none false false false true e = absurd (true≢false e)
none false false false false e = (refl, refl)
