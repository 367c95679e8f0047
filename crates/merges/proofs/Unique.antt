-- Every exported call answers on any input, and its promise allows one answer.
use mathlib.Core.Path.{◌≡◌, sym, ap, ◌∙◌}
use contract.Lifetimes.{Lfts}
use borrow.Fn.Kinds.{Dens, ended_of}
use denote.Triple.Clauses.{AtExit}
use Rattle.std.specs.Prelude.{Result}
use Rattle.doubles.specs.declared.refusal.Refusal.{Refusal}
use Rattle.doubles.proofs.Refusals.{fault-one}
use Rattle.lent.specs.Calls.{StateEnd}
use Rattle.merges.proofs.is_mergeable.Kinds as mergeable-kinds
use Rattle.merges.proofs.is_mergeable.Reads as mergeable-reads
use Rattle.merges.proofs.merge.Kinds as merge-kinds
use Rattle.merges.proofs.merge.Reads as merge-reads

pub is-mergeable-total : (κs : Lfts 6) (a : Dens κs mergeable-kinds.ps) → mergeable-reads.Pre κs a
is-mergeable-total κs a = tt

pub is-mergeable-unique : (κs : Lfts 6) (a : Dens κs mergeable-kinds.ps) (r r' : Result (Unit {0}) Refusal) (s s' : AtExit (ended_of 6 mergeable-kinds.ps mergeable-kinds.r) κs)
    → mergeable-reads.Post κs a r s → mergeable-reads.Post κs a r' s' → r ≡ r'
is-mergeable-unique κs a r r' s s' p q = fault-one r r' (p ∙ sym q)

pub merge-total : (κs : Lfts 6) (a : Dens κs merge-kinds.ps) → merge-reads.Pre κs a
merge-total κs a = tt

-- the answer, and every entry of the two lists
pub merge-unique : (κs : Lfts 6) (a : Dens κs merge-kinds.ps) (r r' : Result (Unit {0}) Refusal) (s s' : AtExit (ended_of 6 merge-kinds.ps merge-kinds.r) κs)
    → merge-reads.Post κs a r s → merge-reads.Post κs a r' s'
    → (r ≡ r') × (s.1.0.now ≡ s'.1.0.now) × (s.1.1.0.now ≡ s'.1.1.0.now)
merge-unique κs a r r' s s' p q =
    let e = p ∙ sym q in
    (fault-one r r' (ap (λ (x : StateEnd). x.answer) e), ap (λ (x : StateEnd). x.state.reals) e, ap (λ (x : StateEnd). x.state.counts) e)
