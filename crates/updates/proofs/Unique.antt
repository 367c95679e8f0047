-- Every exported call answers on any input, and its promise allows one answer.
use mathlib.Core.Path.{◌≡◌, sym, ap, ◌∙◌}
use contract.Lifetimes.{Lfts}
use borrow.Fn.Kinds.{Dens, ended_of}
use denote.Triple.Clauses.{AtExit}
use Rattle.std.specs.Prelude.{Result}
use Rattle.doubles.specs.declared.refusal.Refusal.{Refusal}
use Rattle.doubles.proofs.Refusals.{fault-one}
use Rattle.lent.specs.Calls.{StateEnd}
use Rattle.updates.proofs.update.Kinds as update-kinds
use Rattle.updates.proofs.update.Reads as update-reads

pub update-total : (κs : Lfts 5) (a : Dens κs update-kinds.ps) → update-reads.Pre κs a
update-total κs a = tt

-- the answer, and every entry of the state; the spare is left open
pub update-unique : (κs : Lfts 5) (a : Dens κs update-kinds.ps) (r r' : Result (Unit {0}) Refusal) (s s' : AtExit (ended_of 5 update-kinds.ps update-kinds.r) κs)
    → update-reads.Post κs a r s → update-reads.Post κs a r' s' → (r ≡ r') × (s.1.0.now ≡ s'.1.0.now) × (s.1.1.0.now ≡ s'.1.1.0.now)
update-unique κs a r r' s s' p q =
    let e = p ∙ sym q in
    (fault-one r r' (ap (λ (x : StateEnd). x.answer) e), ap (λ (x : StateEnd). x.state.reals) e, ap (λ (x : StateEnd). x.state.counts) e)
