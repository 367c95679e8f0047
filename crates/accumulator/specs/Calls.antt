-- What each call answers: the refusals in their order, then the answer.
use Rattle.std.specs.Prelude.{ℕ, ◌^◌, Bool, false, not, cond, leb, Float, Result, Ok, Err}
use Rattle.std.specs.Float.Ieee.{eq}
use Rattle.doubles.specs.Numbers.{zero64}
use Rattle.doubles.specs.Finite.{finite_of}
use Rattle.doubles.specs.Paper.{Paper, gives, refuses}
use Rattle.doubles.specs.Refusal.{number_of}
use Rattle.doubles.specs.declared.refusal.Refusal.{Refusal}
use Rattle.accumulator.specs.declared.StatisticsAccumulator.{StatisticsAccumulator}
use Rattle.accumulator.specs.declared.Estimate.{Estimate}
use Rattle.accumulator.specs.declared.Merged.{Merged}
use Rattle.accumulator.specs.declared.Updated.{Updated}
use Rattle.accumulator.specs.declared.Summary.{Summary}
use Rattle.accumulator.specs.Record.{well_formed}
use Rattle.accumulator.specs.Steps.{added_of, merged_of, cleared_of, copied_of}
use Rattle.accumulator.specs.Update.{enough, updated_of}

-- ---- what the answers of two records say

pub data Both : Type 0 where
  both : StatisticsAccumulator → StatisticsAccumulator → Both

abbrev pub paper_merged : Result Merged Refusal → Paper Both
paper_merged (Ok m) = gives (both m.after m.other)
paper_merged (Err r) = refuses (number_of r)

pub data Stepped : Type 0 where
  stepped : Bool → StatisticsAccumulator → Stepped

abbrev pub paper_updated : Result Updated Refusal → Paper Stepped
paper_updated (Ok u) = gives (stepped u.processed u.after)
paper_updated (Err r) = refuses (number_of r)

-- ---- the calls

-- 12: the record lent is not well formed
abbrev pub sound : {A : Type 0} → StatisticsAccumulator → Paper A → Paper A
sound a p = cond (not (well_formed a)) (refuses 12) p

-- 8: a kept sum would not be finite or a count would pass 2^53
abbrev pub kept : {A : Type 0} → StatisticsAccumulator → Paper A → Paper A
kept a p = cond (not (well_formed a)) (refuses 8) p

-- a record that is to be kept
unfoldable pub kept_of : StatisticsAccumulator → Paper StatisticsAccumulator
kept_of a = kept a (gives a)

-- a sample number is at most 2^53, 0 standing for none
unfoldable pub numbered : ℕ → Bool
numbered n = leb n (2 ^ 53)

unfoldable pub add_sample_of : StatisticsAccumulator → Float → ℕ → Paper StatisticsAccumulator
add_sample_of a e number =
    sound a
    (cond (not (numbered number)) (refuses 3)
    (cond (not (finite_of e)) (refuses 7)
    (kept_of (added_of a e number))))

unfoldable pub merge_of : StatisticsAccumulator → StatisticsAccumulator → Paper StatisticsAccumulator
merge_of a b = sound a (sound b (kept_of (merged_of a b)))

unfoldable pub merge_clearing_of : StatisticsAccumulator → StatisticsAccumulator → Paper Both
merge_clearing_of a b = sound a (sound b (kept (merged_of a b) (gives (both (merged_of a b) (cleared_of b)))))

unfoldable pub clear_of : StatisticsAccumulator → Paper StatisticsAccumulator
clear_of a = sound a (gives (cleared_of a))

unfoldable pub copy_of : StatisticsAccumulator → Paper StatisticsAccumulator
copy_of a = sound a (gives (copied_of a))

-- whether samples were processed, and the record
unfoldable pub update_of : Bool → StatisticsAccumulator → Paper Stepped
update_of weighted a = sound a (kept (updated_of weighted a) (gives (stepped (enough a) (updated_of weighted a))))

-- the estimates of a record
unfoldable pub estimates_of : StatisticsAccumulator → Estimate
estimates_of a = record { avg = a.avg; err = a.err; chi_sq = a.chi_sq }

-- as if the iteration had ended
unfoldable pub live_estimate_of : StatisticsAccumulator → Paper Estimate
live_estimate_of a = sound a (kept (updated_of false a) (gives (estimates_of (updated_of false a))))

-- flat exactly when the error is zero
unfoldable pub summary_of : StatisticsAccumulator → Summary
summary_of a =
    record {
      iterations = a.cur_iter;
      samples = a.processed_samples;
      average = a.avg;
      error = a.err;
      chi_squared = a.chi_sq;
      flat = eq a.err zero64;
    }

unfoldable pub summarize_of : StatisticsAccumulator → Paper Summary
summarize_of a = sound a (gives (summary_of a))
