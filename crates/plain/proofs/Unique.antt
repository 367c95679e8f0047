-- Every exported call answers every input, and its promise allows one answer. Assumes nothing.
use Rattle.std.proofs.Common.{◌≡◌, ℕ, Bool, sym, ◌∙◌}
use contract.Lifetimes.{Lfts}
use borrow.Fn.Kinds.{Dens, ended_of}
use denote.Triple.Clauses.{AtExit}
use lib.Ieee.{Float}
use Rattle.plain.proofs.finite.Kinds as finite
use Rattle.plain.proofs.finite.Reads as finite-reads
use Rattle.plain.proofs.norm.Kinds as norm
use Rattle.plain.proofs.norm.Reads as norm-reads
use Rattle.plain.proofs.inv.Kinds as inv
use Rattle.plain.proofs.inv.Reads as inv-reads
use Rattle.plain.proofs.whole.Kinds as whole
use Rattle.plain.proofs.whole.Reads as whole-reads
use Rattle.plain.proofs.count.Kinds as count
use Rattle.plain.proofs.count.Reads as count-reads

pub finite-total : (κs : Lfts 0) (a : Dens κs finite.ps) → finite-reads.Pre κs a
finite-total κs a = tt

pub finite-unique : (κs : Lfts 0) (a : Dens κs finite.ps) (r r' : Bool) (s s' : AtExit (ended_of 0 finite.ps finite.r) κs) → finite-reads.Post κs a r s → finite-reads.Post κs a r' s' → r ≡ r'
finite-unique κs a r r' s s' p q = p ∙ sym q

pub norm-total : (κs : Lfts 0) (a : Dens κs norm.ps) → norm-reads.Pre κs a
norm-total κs a = tt

pub norm-unique : (κs : Lfts 0) (a : Dens κs norm.ps) (r r' : Float) (s s' : AtExit (ended_of 0 norm.ps norm.r) κs) → norm-reads.Post κs a r s → norm-reads.Post κs a r' s' → r ≡ r'
norm-unique κs a r r' s s' p q = p ∙ sym q

pub inv-total : (κs : Lfts 0) (a : Dens κs inv.ps) → inv-reads.Pre κs a
inv-total κs a = tt

pub inv_unique : (κs : Lfts 0) (a : Dens κs inv.ps) (r r' : Float) (s s' : AtExit (ended_of 0 inv.ps inv.r) κs) → inv-reads.Post κs a r s → inv-reads.Post κs a r' s' → r ≡ r'
inv_unique κs a r r' s s' p q = p ∙ sym q

pub whole-total : (κs : Lfts 0) (a : Dens κs whole.ps) → whole-reads.Pre κs a
whole-total κs a = tt

pub whole_unique : (κs : Lfts 0) (a : Dens κs whole.ps) (r r' : ℕ) (s s' : AtExit (ended_of 0 whole.ps whole.r) κs) → whole-reads.Post κs a r s → whole-reads.Post κs a r' s' → r ≡ r'
whole_unique κs a r r' s s' p q = p ∙ sym q

pub count-total : (κs : Lfts 0) (a : Dens κs count.ps) → count-reads.Pre κs a
count-total κs a = tt

pub count-unique : (κs : Lfts 0) (a : Dens κs count.ps) (r r' : Float) (s s' : AtExit (ended_of 0 count.ps count.r) κs) → count-reads.Post κs a r s → count-reads.Post κs a r' s' → r ≡ r'
count-unique κs a r r' s s' p q = p ∙ sym q
