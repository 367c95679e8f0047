-- A record whose counts are within their bound, count by count.
use mathlib.Core.Path.{◌≡◌}
use mathlib.Core.Bool.{Bool, true, false, cond}
use Prim.Native.Nat.{ℕ, ◌+◌, ◌^◌, ◌≤◌}
use native.Mathlib.Omega.{arith}
use borrow.Author.Tests.{leb-true}
use lib.IntN.{pos}
use lib.Dec.{T, le→leb}
use lib.Ieee.{Float, binary64, in_float, add, eq}
use Rattle.doubles.specs.Count.{count_of}
use Rattle.doubles.specs.Numbers.{zero64}
use Rattle.doubles.proofs.Wholes.{count_add}
use Rattle.doubles.proofs.Truth.{both}
use Rattle.accumulator.specs.declared.StatisticsAccumulator.{StatisticsAccumulator}
use Rattle.accumulator.specs.Record.{bounded, bounded_counts, finite_sums, well_formed}
use Rattle.accumulator.specs.Steps.{zero_count}

pub record Within (a : StatisticsAccumulator) : Type 0 where
  pub waiting : a.new_samples ≤ 2 ^ 53
  pub waiting_zeros : a.new_zero_evaluations ≤ 2 ^ 53
  pub iterations : a.cur_iter ≤ 2 ^ 53
  pub processed : a.processed_samples ≤ 2 ^ 53
  pub zeros : a.num_zero_evaluations ≤ 2 ^ 53

bound : (n : ℕ) → bounded n ≡ true → n ≤ 2 ^ 53
unfolding bounded
bound n e = leb-true n (2 ^ 53) e

pub within : (a : StatisticsAccumulator) → bounded_counts a ≡ true → Within a
unfolding bounded_counts
within a e =
    let p = both _ _ e in
    let q = both _ _ p.0 in
    let r = both _ _ q.0 in
    let s = both _ _ r.0 in
    record {
      waiting = bound a.new_samples s.0;
      waiting_zeros = bound a.new_zero_evaluations s.1;
      iterations = bound a.cur_iter r.1;
      processed = bound a.processed_samples q.1;
      zeros = bound a.num_zero_evaluations p.1;
    }

-- such a count is a double as it stands
pub exact : (n : ℕ) → n ≤ 2 ^ 53 → T (in_float binary64 (pos n))
unfolding in_float
exact n h = le→leb n (2 ^ 53) h

-- and the doubles of the processed and the waiting samples add up to that of all samples
pub all-count : (a : StatisticsAccumulator) → bounded_counts a ≡ true
    → add binary64 (count_of a.processed_samples) (count_of a.new_samples) ≡ count_of (a.processed_samples + a.new_samples)
all-count a e = let w = within a e in count_add a.processed_samples a.new_samples w.processed w.waiting

-- a well-formed record has its counts within their bound
pub counts_of_lem : (a : StatisticsAccumulator) → well_formed a ≡ true → bounded_counts a ≡ true
unfolding well_formed
counts_of_lem a e = (both (finite_sums a) (bounded_counts a) e).1

-- an evaluation adds at most one zero
pub zero-small : (e : Float) → zero_count e ≤ 1
unfolding zero_count
zero-small e = at (eq e zero64)
  where
    at : (b : Bool) → cond b 1 0 ≤ 1
    at true = omega arith
    at false = omega arith
