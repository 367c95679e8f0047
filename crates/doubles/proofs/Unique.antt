-- Every exported call answers every input, and its promise allows one answer. Assumes nothing.
use mathlib.Core.Path.{◌≡◌, sym, ◌∙◌}
use mathlib.Core.Bool.{Bool}
use contract.Lifetimes.{Lfts}
use borrow.Fn.Kinds.{Dens, ended_of}
use denote.Triple.Clauses.{AtExit}
use Rattle.doubles.specs.declared.Parts.{Parts}
use Rattle.doubles.proofs.above_zero.Kinds as above_zero
use Rattle.doubles.proofs.above_zero.Reads as above-zero-reads
use Rattle.std.specs.Prelude.{ℕ}
use Rattle.doubles.proofs.refusal.Refusal.number.Kinds as number
use Rattle.doubles.proofs.refusal.Refusal.number.Reads as number-reads
use Rattle.doubles.proofs.split.Kinds as split
use Rattle.doubles.proofs.split.Reads as split-reads

pub above-zero-total : (κs : Lfts 0) (a : Dens κs above_zero.ps) → above-zero-reads.Pre κs a
above-zero-total κs a = tt

pub above-zero-unique : (κs : Lfts 0) (a : Dens κs above_zero.ps) (r r' : Bool) (s s' : AtExit (ended_of 0 above_zero.ps above_zero.r) κs) → above-zero-reads.Post κs a r s → above-zero-reads.Post κs a r' s' → r ≡ r'
above-zero-unique κs a r r' s s' p q = p ∙ sym q

pub split-total : (κs : Lfts 0) (a : Dens κs split.ps) → split-reads.Pre κs a
split-total κs a = tt

pub split-unique : (κs : Lfts 0) (a : Dens κs split.ps) (r r' : Parts) (s s' : AtExit (ended_of 0 split.ps split.r) κs) → split-reads.Post κs a r s → split-reads.Post κs a r' s' → r ≡ r'
split-unique κs a r r' s s' p q = p ∙ sym q

pub number-total : (κs : Lfts 0) (a : Dens κs number.ps) → number-reads.Pre κs a
number-total κs a = tt

pub number-unique : (κs : Lfts 0) (a : Dens κs number.ps) (r r' : ℕ) (s s' : AtExit (ended_of 0 number.ps number.r) κs) → number-reads.Post κs a r s → number-reads.Post κs a r' s' → r ≡ r'
number-unique κs a r r' s s' p q = p ∙ sym q
