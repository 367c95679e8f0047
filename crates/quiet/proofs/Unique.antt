-- Every exported call answers on any input, and its promise allows one answer.
use mathlib.Core.Path.{◌≡◌, sym, ap, ◌∙◌}
use contract.Lifetimes.{Lfts}
use borrow.Fn.Kinds.{Dens, ended_of}
use denote.Triple.Clauses.{AtExit}
use Rattle.plan.specs.declared.Read.{Read}
use Rattle.plan.proofs.Unique.{paper-read-one}
use Rattle.plan.specs.declared.Misread.{Misread}
use Rattle.std.specs.Prelude.{Result, Float}
use Rattle.doubles.specs.declared.refusal.Refusal.{Refusal}
use Rattle.doubles.proofs.Refusals.{paper-one, fault-one}
use Rattle.accumulator.specs.declared.Estimate.{Estimate}
use Rattle.accumulator.specs.declared.Summary.{Summary}
use Rattle.lent.specs.Calls.{FreshEnd, CloneEnd}
use Rattle.quiet.proofs.clone_without_samples.Kinds as clone-kinds
use Rattle.quiet.proofs.clone_without_samples.Reads as clone-reads
use Rattle.quiet.proofs.fresh.Kinds as fresh-kinds
use Rattle.quiet.proofs.fresh.Reads as fresh-reads
use Rattle.quiet.proofs.live_estimate.Kinds as live-kinds
use Rattle.quiet.proofs.live_estimate.Reads as live-reads
use Rattle.quiet.proofs.live_estimate_of_bin.Kinds as live-of-bin-kinds
use Rattle.quiet.proofs.live_estimate_of_bin.Reads as live-of-bin-reads
use Rattle.quiet.proofs.summary.Kinds as summary-kinds
use Rattle.quiet.proofs.summary.Reads as summary-reads
use Rattle.quiet.proofs.probe.Kinds as probe-kinds
use Rattle.quiet.proofs.probe.Reads as probe-reads

pub fresh-total : (κs : Lfts 4) (a : Dens κs fresh-kinds.ps) → fresh-reads.Pre κs a
fresh-total κs a = tt

-- the answer, and every entry of the three lists
pub fresh-unique : (κs : Lfts 4) (a : Dens κs fresh-kinds.ps) (r r' : Result Read Misread) (s s' : AtExit (ended_of 4 fresh-kinds.ps fresh-kinds.r) κs)
    → fresh-reads.Post κs a r s → fresh-reads.Post κs a r' s'
    → (r ≡ r') × (s.1.0.now ≡ s'.1.0.now) × (s.1.1.0.now ≡ s'.1.1.0.now) × (s.1.1.1.0.now ≡ s'.1.1.1.0.now)
fresh-unique κs a r r' s s' p q =
    let e = p ∙ sym q in
    (paper-read-one r r' (ap (λ (x : FreshEnd). x.answer) e), ap (λ (x : FreshEnd). x.table) e, ap (λ (x : FreshEnd). x.state.reals) e, ap (λ (x : FreshEnd). x.state.counts) e)

pub clone-without-samples-total : (κs : Lfts 5) (a : Dens κs clone-kinds.ps) → clone-reads.Pre κs a
clone-without-samples-total κs a = tt

-- the answer, and every entry of the destination
pub clone-without-samples-unique : (κs : Lfts 5) (a : Dens κs clone-kinds.ps) (n n' : Result (Unit {0}) Refusal) (s s' : AtExit (ended_of 5 clone-kinds.ps clone-kinds.r) κs)
    → clone-reads.Post κs a n s → clone-reads.Post κs a n' s'
    → (n ≡ n') × (s.1.1.1.0.now ≡ s'.1.1.1.0.now) × (s.1.1.1.1.0.now ≡ s'.1.1.1.1.0.now)
clone-without-samples-unique κs a n n' s s' p q =
    let e = p ∙ sym q in
    (fault-one n n' (ap (λ (x : CloneEnd). x.answer) e), ap (λ (x : CloneEnd). x.copy.reals) e, ap (λ (x : CloneEnd). x.copy.counts) e)

pub summary-total : (κs : Lfts 3) (a : Dens κs summary-kinds.ps) → summary-reads.Pre κs a
summary-total κs a = tt

pub summary-unique : (κs : Lfts 3) (a : Dens κs summary-kinds.ps) (r r' : Result Summary Refusal) (s s' : AtExit (ended_of 3 summary-kinds.ps summary-kinds.r) κs)
    → summary-reads.Post κs a r s → summary-reads.Post κs a r' s' → r ≡ r'
summary-unique κs a r r' s s' p q = paper-one r r' (p ∙ sym q)

pub live-estimate-total : (κs : Lfts 3) (a : Dens κs live-kinds.ps) → live-reads.Pre κs a
live-estimate-total κs a = tt

pub live-estimate-unique : (κs : Lfts 3) (a : Dens κs live-kinds.ps) (r r' : Result Estimate Refusal) (s s' : AtExit (ended_of 3 live-kinds.ps live-kinds.r) κs)
    → live-reads.Post κs a r s → live-reads.Post κs a r' s' → r ≡ r'
live-estimate-unique κs a r r' s s' p q = paper-one r r' (p ∙ sym q)

pub live-estimate-of-bin-total : (κs : Lfts 3) (a : Dens κs live-of-bin-kinds.ps) → live-of-bin-reads.Pre κs a
live-estimate-of-bin-total κs a = tt

pub live-estimate-of-bin-unique : (κs : Lfts 3) (a : Dens κs live-of-bin-kinds.ps) (r r' : Result Estimate Refusal) (s s' : AtExit (ended_of 3 live-of-bin-kinds.ps live-of-bin-kinds.r) κs)
    → live-of-bin-reads.Post κs a r s → live-of-bin-reads.Post κs a r' s' → r ≡ r'
live-estimate-of-bin-unique κs a r r' s s' p q = paper-one r r' (p ∙ sym q)

pub probe-total : (κs : Lfts 3) (a : Dens κs probe-kinds.ps) → probe-reads.Pre κs a
probe-total κs a = tt

pub probe-unique : (κs : Lfts 3) (a : Dens κs probe-kinds.ps) (r r' : Result Float Refusal) (s s' : AtExit (ended_of 3 probe-kinds.ps probe-kinds.r) κs)
    → probe-reads.Post κs a r s → probe-reads.Post κs a r' s' → r ≡ r'
probe-unique κs a r r' s s' p q = paper-one r r' (p ∙ sym q)
