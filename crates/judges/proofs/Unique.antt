-- Every exported call answers on any input, and its promise allows one answer.
use mathlib.Core.Path.{◌≡◌, sym, ◌∙◌}
use mathlib.Core.Bool.{Bool}
use Rattle.std.specs.Prelude.{Result}
use Rattle.doubles.specs.declared.refusal.Refusal.{Refusal}
use Rattle.doubles.proofs.Refusals.{fault-one}
use contract.Lifetimes.{Lfts}
use borrow.Fn.Kinds.{Dens, ended_of}
use denote.Triple.Clauses.{AtExit}
use Rattle.judges.proofs.state.fault.Kinds as fault
use Rattle.judges.proofs.state.fault.Reads as fault-reads
use Rattle.judges.proofs.state.fault_to.Kinds as fault-to
use Rattle.judges.proofs.state.fault_to.Reads as fault-to-reads
use Rattle.judges.proofs.state.pair_fault.Kinds as pair-fault
use Rattle.judges.proofs.state.pair_fault.Reads as pair-fault-reads
use Rattle.judges.proofs.judging.axes_fit.Kinds as axes-fit
use Rattle.judges.proofs.judging.axes_fit.Reads as axes-fit-reads

pub fault-total : (κs : Lfts 3) (a : Dens κs fault.ps) → fault-reads.Pre κs a
fault-total κs a = tt

pub fault-unique : (κs : Lfts 3) (a : Dens κs fault.ps) (r r' : Result (Unit {0}) Refusal) (s s' : AtExit (ended_of 3 fault.ps fault.r) κs)
    → fault-reads.Post κs a r s → fault-reads.Post κs a r' s' → r ≡ r'
fault-unique κs a r r' s s' p q = fault-one r r' (p ∙ sym q)

pub fault-to-total : (κs : Lfts 3) (a : Dens κs fault-to.ps) → fault-to-reads.Pre κs a
fault-to-total κs a = tt

pub fault-to-unique : (κs : Lfts 3) (a : Dens κs fault-to.ps) (r r' : Result (Unit {0}) Refusal) (s s' : AtExit (ended_of 3 fault-to.ps fault-to.r) κs)
    → fault-to-reads.Post κs a r s → fault-to-reads.Post κs a r' s' → r ≡ r'
fault-to-unique κs a r r' s s' p q = fault-one r r' (p ∙ sym q)

pub pair-fault-total : (κs : Lfts 6) (a : Dens κs pair-fault.ps) → pair-fault-reads.Pre κs a
pair-fault-total κs a = tt

pub pair-fault-unique : (κs : Lfts 6) (a : Dens κs pair-fault.ps) (r r' : Result (Unit {0}) Refusal) (s s' : AtExit (ended_of 6 pair-fault.ps pair-fault.r) κs)
    → pair-fault-reads.Post κs a r s → pair-fault-reads.Post κs a r' s' → r ≡ r'
pair-fault-unique κs a r r' s s' p q = fault-one r r' (p ∙ sym q)

pub axes-fit-total : (κs : Lfts 3) (a : Dens κs axes-fit.ps) → axes-fit-reads.Pre κs a
axes-fit-total κs a = tt

pub axes-fit-unique : (κs : Lfts 3) (a : Dens κs axes-fit.ps) (r r' : Bool) (s s' : AtExit (ended_of 3 axes-fit.ps axes-fit.r) κs)
    → axes-fit-reads.Post κs a r s → axes-fit-reads.Post κs a r' s' → r ≡ r'
axes-fit-unique κs a r r' s s' p q = p ∙ sym q
