-- Every input is answered, and in one way: each theorem is of `Pre` and `Post`, a call's contract as the prover reads it off the source.
use mathlib.Core.Path.{◌≡◌, refl, sym, ap, ◌∙◌}
use mathlib.Core.Bool.{Bool}
use mathlib.Core.List.{[]}
use Prim.Native.Nat.{ℕ}
use Rattle.std.specs.Prelude.{Result, Ok, Err}
use Rattle.doubles.specs.Refusal.{number_of}
use Rattle.doubles.specs.declared.refusal.Refusal.{Refusal}
use Rattle.doubles.proofs.Refusals.{number-one, paper-one}
use Rattle.accumulator.specs.declared.Estimate.{Estimate}
use Rattle.accumulator.specs.declared.Summary.{Summary}
use contract.Lifetimes.{Lfts}
use borrow.Fn.Kinds.{Dens, ended_of}
use denote.Triple.Clauses.{AtExit}
use lib.Ieee.{Float}
use denote.RattleType.{RattleType}
use denote.Builtin.{f64, u64}
use denote.Param.Laws.{Laws, IsCopy, of_field}
use denote.Param.Shared.{copy_shared}
use denote.Struct.Field.{f64-field, u64-field}
use denote.Struct.Laws.{f64-laws, f64-copy, u64-laws, u64-copy}
use mir.Syntax.{Dict}
use contract.BorrowLft.{⊑_static}
use Rattle.std.specs.declared.clone.Clone.{Ghosts}
use Rattle.accumulator.specs.declared.StatisticsAccumulator.{StatisticsAccumulator}
use Rattle.accumulator.specs.declared.Merged.{Merged}
use Rattle.accumulator.specs.declared.Updated.{Updated}
use Rattle.accumulator.specs.Calls.{paper_merged, paper_updated}
use Rattle.accumulator.proofs.StatisticsAccumulator.new.Kinds as new
use Rattle.accumulator.proofs.StatisticsAccumulator.new.Reads as new-reads
use Rattle.accumulator.proofs.StatisticsAccumulator.shallow_copy.Kinds as shallow-copy
use Rattle.accumulator.proofs.StatisticsAccumulator.shallow_copy.Reads as shallow-copy-reads
use Rattle.accumulator.proofs.StatisticsAccumulator.add_sample.Kinds as add-sample
use Rattle.accumulator.proofs.StatisticsAccumulator.add_sample.Reads as add-sample-reads
use Rattle.accumulator.proofs.StatisticsAccumulator.merge_samples_no_reset.Kinds as merge-samples-no-reset
use Rattle.accumulator.proofs.StatisticsAccumulator.merge_samples_no_reset.Reads as merge-samples-no-reset-reads
use Rattle.accumulator.proofs.StatisticsAccumulator.merge_samples.Kinds as merge-samples
use Rattle.accumulator.proofs.StatisticsAccumulator.merge_samples.Reads as merge-samples-reads
use Rattle.accumulator.proofs.StatisticsAccumulator.clear_samples.Kinds as clear-samples
use Rattle.accumulator.proofs.StatisticsAccumulator.clear_samples.Reads as clear-samples-reads
use Rattle.accumulator.proofs.StatisticsAccumulator.update_iter.Kinds as update-iter
use Rattle.accumulator.proofs.StatisticsAccumulator.update_iter.Reads as update-iter-reads
use Rattle.accumulator.proofs.StatisticsAccumulator.get_live_estimate.Kinds as get-live-estimate
use Rattle.accumulator.proofs.StatisticsAccumulator.get_live_estimate.Reads as get-live-estimate-reads
use Rattle.accumulator.proofs.StatisticsAccumulator.summary.Kinds as summary
use Rattle.accumulator.proofs.StatisticsAccumulator.summary.Reads as summary-reads
use Rattle.accumulator.proofs.steps.either.Kinds as either
use Rattle.accumulator.proofs.steps.either.Reads as either-reads
use Rattle.accumulator.proofs.steps.zero_count.Kinds as zero-count
use Rattle.accumulator.proofs.steps.zero_count.Reads as zero-count-reads
use Rattle.accumulator.proofs.steps.is_replaced.Kinds as is-replaced
use Rattle.accumulator.proofs.steps.is_replaced.Reads as is-replaced-reads

same_both : (m n : Merged) → m.after ≡ n.after → m.other ≡ n.other → m ≡ n
same_both m n a o = let first : m ≡ record { after = n.after; other = m.other } = ap (λ x. record { after = x; other = m.other }) a in
    first ∙ ap (λ x. record { after = n.after; other = x }) o

same_step : (m n : Updated) → m.processed ≡ n.processed → m.after ≡ n.after → m ≡ n
same_step m n p a = let first : m ≡ record { processed = n.processed; after = m.after } = ap (λ x. record { processed = x; after = m.after }) p in
    first ∙ ap (λ x. record { processed = n.processed; after = x }) a

-- the paper's words tell the answers of two records apart
pub merged-one : (x y : Result Merged Refusal) → paper_merged x ≡ paper_merged y → x ≡ y
merged-one (Ok m) (Ok n) e = let a : m.after ≡ n.after = cc in let o : m.other ≡ n.other = cc in ap Ok (same_both m n a o)
merged-one (Ok m) (Err q) e = cc
merged-one (Err r) (Ok n) e = cc
merged-one (Err r) (Err q) e = let n : number_of r ≡ number_of q = cc in ap Err (number-one r q n)

pub updated-one : (x y : Result Updated Refusal) → paper_updated x ≡ paper_updated y → x ≡ y
updated-one (Ok m) (Ok n) e = let p : m.processed ≡ n.processed = cc in let a : m.after ≡ n.after = cc in ap Ok (same_step m n p a)
updated-one (Ok m) (Err q) e = cc
updated-one (Err r) (Ok n) e = cc
updated-one (Err r) (Err q) e = let n : number_of r ≡ number_of q = cc in ap Err (number-one r q n)

pub new-total : (κs : Lfts 0) (a : Dens κs new.ps) → new-reads.Pre κs a
new-total κs a = tt

pub new-unique : (κs : Lfts 0) (a : Dens κs new.ps) (r r' : StatisticsAccumulator) (s s' : AtExit (ended_of 0 new.ps new.r) κs)
    → new-reads.Post κs a r s → new-reads.Post κs a r' s' → r ≡ r'
new-unique κs a r r' s s' p q = p ∙ sym q

pub shallow-copy-total : (κs : Lfts 0) (a : Dens κs shallow-copy.ps) → shallow-copy-reads.Pre κs a
shallow-copy-total κs a = tt

pub shallow-copy-unique : (κs : Lfts 0) (a : Dens κs shallow-copy.ps) (r r' : Result StatisticsAccumulator Refusal) (s s' : AtExit (ended_of 0 shallow-copy.ps shallow-copy.r) κs)
    → shallow-copy-reads.Post κs a r s → shallow-copy-reads.Post κs a r' s' → r ≡ r'
shallow-copy-unique κs a r r' s s' p q = paper-one r r' (p ∙ sym q)

pub add-sample-total : (κs : Lfts 0) (a : Dens κs add-sample.ps) → add-sample-reads.Pre κs a
add-sample-total κs a = tt

pub add-sample-unique : (κs : Lfts 0) (a : Dens κs add-sample.ps) (r r' : Result StatisticsAccumulator Refusal) (s s' : AtExit (ended_of 0 add-sample.ps add-sample.r) κs)
    → add-sample-reads.Post κs a r s → add-sample-reads.Post κs a r' s' → r ≡ r'
add-sample-unique κs a r r' s s' p q = paper-one r r' (p ∙ sym q)

pub merge-samples-no-reset-total : (κs : Lfts 0) (a : Dens κs merge-samples-no-reset.ps) → merge-samples-no-reset-reads.Pre κs a
merge-samples-no-reset-total κs a = tt

pub merge-samples-no-reset-unique : (κs : Lfts 0) (a : Dens κs merge-samples-no-reset.ps) (r r' : Result StatisticsAccumulator Refusal) (s s' : AtExit (ended_of 0 merge-samples-no-reset.ps merge-samples-no-reset.r) κs)
    → merge-samples-no-reset-reads.Post κs a r s → merge-samples-no-reset-reads.Post κs a r' s' → r ≡ r'
merge-samples-no-reset-unique κs a r r' s s' p q = paper-one r r' (p ∙ sym q)

pub merge-samples-total : (κs : Lfts 0) (a : Dens κs merge-samples.ps) → merge-samples-reads.Pre κs a
merge-samples-total κs a = tt

pub merge-samples-unique : (κs : Lfts 0) (a : Dens κs merge-samples.ps) (r r' : Result Merged Refusal) (s s' : AtExit (ended_of 0 merge-samples.ps merge-samples.r) κs)
    → merge-samples-reads.Post κs a r s → merge-samples-reads.Post κs a r' s' → r ≡ r'
merge-samples-unique κs a r r' s s' p q = merged-one r r' (p ∙ sym q)

pub clear-samples-total : (κs : Lfts 0) (a : Dens κs clear-samples.ps) → clear-samples-reads.Pre κs a
clear-samples-total κs a = tt

pub clear-samples-unique : (κs : Lfts 0) (a : Dens κs clear-samples.ps) (r r' : Result StatisticsAccumulator Refusal) (s s' : AtExit (ended_of 0 clear-samples.ps clear-samples.r) κs)
    → clear-samples-reads.Post κs a r s → clear-samples-reads.Post κs a r' s' → r ≡ r'
clear-samples-unique κs a r r' s s' p q = paper-one r r' (p ∙ sym q)

pub update-iter-total : (κs : Lfts 0) (a : Dens κs update-iter.ps) → update-iter-reads.Pre κs a
update-iter-total κs a = tt

pub update-iter-unique : (κs : Lfts 0) (a : Dens κs update-iter.ps) (r r' : Result Updated Refusal) (s s' : AtExit (ended_of 0 update-iter.ps update-iter.r) κs)
    → update-iter-reads.Post κs a r s → update-iter-reads.Post κs a r' s' → r ≡ r'
update-iter-unique κs a r r' s s' p q = updated-one r r' (p ∙ sym q)

pub get-live-estimate-total : (κs : Lfts 0) (a : Dens κs get-live-estimate.ps) → get-live-estimate-reads.Pre κs a
get-live-estimate-total κs a = tt

pub get-live-estimate-unique : (κs : Lfts 0) (a : Dens κs get-live-estimate.ps) (r r' : Result Estimate Refusal) (s s' : AtExit (ended_of 0 get-live-estimate.ps get-live-estimate.r) κs)
    → get-live-estimate-reads.Post κs a r s → get-live-estimate-reads.Post κs a r' s' → r ≡ r'
get-live-estimate-unique κs a r r' s s' p q = paper-one r r' (p ∙ sym q)

pub summary-total : (κs : Lfts 0) (a : Dens κs summary.ps) → summary-reads.Pre κs a
summary-total κs a = tt

pub summary-unique : (κs : Lfts 0) (a : Dens κs summary.ps) (r r' : Result Summary Refusal) (s s' : AtExit (ended_of 0 summary.ps summary.r) κs)
    → summary-reads.Post κs a r s → summary-reads.Post κs a r' s' → r ≡ r'
summary-unique κs a r r' s s' p q = paper-one r r' (p ∙ sym q)

-- whatever the values are, as long as they borrow nothing
module _ (T : RattleType) (laws : Laws T) (copies : IsCopy T) (clone : Ghosts T.Denot) (dict : Dict) where
  pub either-total : T.lives ≡ [] → (κs : Lfts 1) (a : Dens κs (either.ps T laws copies)) → either-reads.Pre T laws copies clone dict κs a
  either-total e κs a = rw e (⊑_static κs.0)

  pub either-unique : (κs : Lfts 1) (a : Dens κs (either.ps T laws copies)) (r r' : T.Denot) (s s' : AtExit (ended_of 1 (either.ps T laws copies) (either.r T laws copies)) κs)
      → either-reads.Post T laws copies clone dict κs a r s → either-reads.Post T laws copies clone dict κs a r' s' → r ≡ r'
  either-unique κs a r r' s s' p q = p ∙ sym q

-- what is asked of a type with a `T`, for reals and for counts
pub real-laws : Laws f64
real-laws = of_field f64-field f64-laws refl (copy_shared f64-field f64-copy)

pub count-laws : Laws u64
count-laws = of_field u64-field u64-laws refl (copy_shared u64-field u64-copy)

-- so that it is there for reals and for counts, and nothing is asked
module _ (clone : Ghosts Float) (dict : Dict) where
  pub either-real-total : (κs : Lfts 1) (a : Dens κs (either.ps f64 real-laws f64-copy)) → either-reads.Pre f64 real-laws f64-copy clone dict κs a
  either-real-total κs a = either-total f64 real-laws f64-copy clone dict refl κs a

  pub either-real-unique : (κs : Lfts 1) (a : Dens κs (either.ps f64 real-laws f64-copy)) (r r' : Float) (s s' : AtExit (ended_of 1 (either.ps f64 real-laws f64-copy) (either.r f64 real-laws f64-copy)) κs)
      → either-reads.Post f64 real-laws f64-copy clone dict κs a r s → either-reads.Post f64 real-laws f64-copy clone dict κs a r' s' → r ≡ r'
  either-real-unique κs a r r' s s' p q = p ∙ sym q

module _ (clone : Ghosts ℕ) (dict : Dict) where
  pub either-count-total : (κs : Lfts 1) (a : Dens κs (either.ps u64 count-laws u64-copy)) → either-reads.Pre u64 count-laws u64-copy clone dict κs a
  either-count-total κs a = either-total u64 count-laws u64-copy clone dict refl κs a

  pub either-count-unique : (κs : Lfts 1) (a : Dens κs (either.ps u64 count-laws u64-copy)) (r r' : ℕ) (s s' : AtExit (ended_of 1 (either.ps u64 count-laws u64-copy) (either.r u64 count-laws u64-copy)) κs)
      → either-reads.Post u64 count-laws u64-copy clone dict κs a r s → either-reads.Post u64 count-laws u64-copy clone dict κs a r' s' → r ≡ r'
  either-count-unique κs a r r' s s' p q = p ∙ sym q

pub zero-count-total : (κs : Lfts 0) (a : Dens κs zero-count.ps) → zero-count-reads.Pre κs a
zero-count-total κs a = tt

pub zero-count-unique : (κs : Lfts 0) (a : Dens κs zero-count.ps) (r r' : ℕ) (s s' : AtExit (ended_of 0 zero-count.ps zero-count.r) κs)
    → zero-count-reads.Post κs a r s → zero-count-reads.Post κs a r' s' → r ≡ r'
zero-count-unique κs a r r' s s' p q = p ∙ sym q

pub is-replaced-total : (κs : Lfts 0) (a : Dens κs is-replaced.ps) → is-replaced-reads.Pre κs a
is-replaced-total κs a = tt

pub is-replaced-unique : (κs : Lfts 0) (a : Dens κs is-replaced.ps) (r r' : Bool) (s s' : AtExit (ended_of 0 is-replaced.ps is-replaced.r) κs)
    → is-replaced-reads.Post κs a r s → is-replaced-reads.Post κs a r' s' → r ≡ r'
is-replaced-unique κs a r r' s s' p q = p ∙ sym q
