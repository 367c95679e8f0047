-- Every exported call answers every input, and its promise allows one answer. Assumes nothing.
use mathlib.Core.Path.{◌≡◌, sym, ◌∙◌}
use contract.Lifetimes.{Lfts}
use borrow.Fn.Kinds.{Dens, ended_of}
use denote.Triple.Clauses.{AtExit}
use lib.Ieee.{Float}
use Rattle.real.proofs.ln.Kinds as ln
use Rattle.real.proofs.ln.Reads as ln-reads
use Rattle.real.proofs.power.Kinds as power
use Rattle.real.proofs.power.Reads as power-reads

pub ln-total : (κs : Lfts 0) (a : Dens κs ln.ps) → ln-reads.Pre κs a
ln-total κs a = tt

pub ln-unique : (κs : Lfts 0) (a : Dens κs ln.ps) (r r' : Float) (s s' : AtExit (ended_of 0 ln.ps ln.r) κs) → ln-reads.Post κs a r s → ln-reads.Post κs a r' s' → r ≡ r'
ln-unique κs a r r' s s' p q = p ∙ sym q

pub power-total : (κs : Lfts 0) (a : Dens κs power.ps) → power-reads.Pre κs a
power-total κs a = tt

pub power-unique : (κs : Lfts 0) (a : Dens κs power.ps) (r r' : Float) (s s' : AtExit (ended_of 0 power.ps power.r) κs) → power-reads.Post κs a r s → power-reads.Post κs a r' s' → r ≡ r'
power-unique κs a r r' s s' p q = p ∙ sym q
