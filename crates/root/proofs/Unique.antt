-- The exported call answers every input, and its promise allows one answer. Assumes nothing.
use Rattle.std.proofs.Common.{◌≡◌, sym, ◌∙◌}
use contract.Lifetimes.{Lfts}
use borrow.Fn.Kinds.{Dens, ended_of}
use denote.Triple.Clauses.{AtExit}
use lib.Ieee.{Float}
use Rattle.root.proofs.sqrt.Kinds as sqrt
use Rattle.root.proofs.sqrt.Reads as sqrt-reads

pub sqrt-total : (κs : Lfts 0) (a : Dens κs sqrt.ps) → sqrt-reads.Pre κs a
sqrt-total κs a = tt

pub sqrt-unique : (κs : Lfts 0) (a : Dens κs sqrt.ps) (r r' : Float) (s s' : AtExit (ended_of 0 sqrt.ps sqrt.r) κs) → sqrt-reads.Post κs a r s → sqrt-reads.Post κs a r' s' → r ≡ r'
sqrt-unique κs a r r' s s' p q = p ∙ sym q
