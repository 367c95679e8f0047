-- The exported call answers every input, and its promise allows one answer. Assumes nothing.
use mathlib.Core.Path.{◌≡◌, sym, ◌∙◌}
use contract.Lifetimes.{Lfts}
use borrow.Fn.Kinds.{Dens, ended_of}
use denote.Triple.Clauses.{AtExit}
use lib.Ieee.{Float}
use Rattle.careful.proofs.root_from.Kinds as root-from
use Rattle.careful.proofs.root_from.Reads as root-from-reads

pub root-from-total : (κs : Lfts 0) (a : Dens κs root-from.ps) → root-from-reads.Pre κs a
root-from-total κs a = tt

pub root-from-unique : (κs : Lfts 0) (a : Dens κs root-from.ps) (r r' : Float) (s s' : AtExit (ended_of 0 root-from.ps root-from.r) κs) → root-from-reads.Post κs a r s → root-from-reads.Post κs a r' s' → r ≡ r'
root-from-unique κs a r r' s s' p q = p ∙ sym q
