-- Every exported call answers on any input, and its promise allows one answer.
use mathlib.Core.Path.{◌≡◌, sym, ap₂, ◌∙◌}
use mathlib.Core.Bool.{Bool}
use contract.Lifetimes.{Lfts}
use borrow.Fn.Kinds.{Dens, ended_of}
use denote.Triple.Clauses.{AtExit}
use Rattle.lent.specs.declared.AxesAt.{AxesAt}
use Rattle.lent.specs.declared.Found.{Found}
use Rattle.lent.proofs.FoundBitOr.bitor.Kinds as bitor
use Rattle.lent.proofs.FoundBitOr.bitor.Reads as bitor-reads
use Rattle.lent.proofs.FoundBitOrAssign.bitor_assign.Kinds as bitor-assign
use Rattle.lent.proofs.FoundBitOrAssign.bitor_assign.Reads as bitor-assign-reads
use Rattle.lent.proofs.layout.axes_place.Kinds as axes-place
use Rattle.lent.proofs.layout.axes_place.Reads as axes-place-reads
use Rattle.lent.proofs.room.has_axes.Kinds as has-axes
use Rattle.lent.proofs.room.has_axes.Reads as has-axes-reads
use Rattle.lent.proofs.room.is_roomy.Kinds as is-roomy
use Rattle.lent.proofs.room.is_roomy.Reads as is-roomy-reads

pub axes-place-total : (κs : Lfts 1) (a : Dens κs axes-place.ps) → axes-place-reads.Pre κs a
axes-place-total κs a = tt

pub axes-place-unique : (κs : Lfts 1) (a : Dens κs axes-place.ps) (r r' : AxesAt) (s s' : AtExit (ended_of 1 axes-place.ps axes-place.r) κs)
    → axes-place-reads.Post κs a r s → axes-place-reads.Post κs a r' s' → r ≡ r'
axes-place-unique κs a r r' s s' p q = p ∙ sym q

pub has-axes-total : (κs : Lfts 0) (a : Dens κs has-axes.ps) → has-axes-reads.Pre κs a
has-axes-total κs a = tt

pub has-axes-unique : (κs : Lfts 0) (a : Dens κs has-axes.ps) (r r' : Bool) (s s' : AtExit (ended_of 0 has-axes.ps has-axes.r) κs)
    → has-axes-reads.Post κs a r s → has-axes-reads.Post κs a r' s' → r ≡ r'
has-axes-unique κs a r r' s s' p q = p ∙ sym q

pub is-roomy-total : (κs : Lfts 0) (a : Dens κs is-roomy.ps) → is-roomy-reads.Pre κs a
is-roomy-total κs a = tt

pub is-roomy-unique : (κs : Lfts 0) (a : Dens κs is-roomy.ps) (r r' : Bool) (s s' : AtExit (ended_of 0 is-roomy.ps is-roomy.r) κs)
    → is-roomy-reads.Post κs a r s → is-roomy-reads.Post κs a r' s' → r ≡ r'
is-roomy-unique κs a r r' s s' p q = p ∙ sym q

-- two findings with the same flags are one
found-one : (x y : Found) → x.eight ≡ y.eight → x.nine ≡ y.nine → x ≡ y
found-one x y e n = ap₂ {C = Found} (λ (a b : Bool). record { eight = a; nine = b }) e n

pub bitor-total : (κs : Lfts 0) (a : Dens κs bitor.ps) → bitor-reads.Pre κs a
bitor-total κs a = tt

pub bitor-unique : (κs : Lfts 0) (a : Dens κs bitor.ps) (r r' : Found) (s s' : AtExit (ended_of 0 bitor.ps bitor.r) κs)
    → bitor-reads.Post κs a r s → bitor-reads.Post κs a r' s' → r ≡ r'
bitor-unique κs a r r' s s' p q = found-one r r' (p.0 ∙ sym q.0) (p.1 ∙ sym q.1)

pub bitor-assign-total : (κs : Lfts 1) (a : Dens κs bitor-assign.ps) → bitor-assign-reads.Pre κs a
bitor-assign-total κs a = tt

-- what it leaves; it answers nothing
pub bitor-assign-unique : (κs : Lfts 1) (a : Dens κs bitor-assign.ps) (r r' : Unit {0}) (s s' : AtExit (ended_of 1 bitor-assign.ps bitor-assign.r) κs)
    → bitor-assign-reads.Post κs a r s → bitor-assign-reads.Post κs a r' s' → s.0.now ≡ s'.0.now
bitor-assign-unique κs a r r' s s' p q = found-one _ _ (p.0 ∙ sym q.0) (p.1 ∙ sym q.1)
