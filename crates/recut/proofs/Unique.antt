-- Every input is answered, and in one way: each theorem is of `Pre` and `Post`, a call's contract as the prover reads it off the source.
-- Of `renew` the answer is one, and the room where it is done; the spare's importances, and the room of a refusal, are left open.
use mathlib.Core.Path.{◌≡◌, refl, sym, ap, ◌∙◌}
use mathlib.Core.Bool.{Bool}
use mathlib.Core.List.{List}
use contract.Lifetimes.{Lfts}
use borrow.Fn.Kinds.{Dens, ended_of}
use denote.Triple.Clauses.{AtExit}
use lib.Ieee.{Float}
use Rattle.std.specs.Prelude.{Result, Ok, Err}
use Rattle.doubles.specs.Refusal.{number_of}
use Rattle.doubles.specs.declared.refusal.Refusal.{Refusal}
use Rattle.doubles.proofs.Refusals.{number-one}
use Rattle.recut.specs.Renew.{paper_renewed}
use Rattle.recut.proofs.adapt.Kinds as adapt
use Rattle.recut.proofs.adapt.Reads as adapt-reads
use Rattle.recut.proofs.higher_of.Kinds as higher-of
use Rattle.recut.proofs.higher_of.Reads as higher-of-reads
use Rattle.recut.proofs.chances.is_chance.Kinds as is-chance
use Rattle.recut.proofs.chances.is_chance.Reads as is-chance-reads
use Rattle.recut.proofs.gather.Kinds as gather
use Rattle.recut.proofs.gather.Reads as gather-reads
use Rattle.recut.proofs.gather_counts.Kinds as gather-counts
use Rattle.recut.proofs.gather_counts.Reads as gather-counts-reads
use Prim.Native.Nat.{ℕ}
use Rattle.recut.proofs.joined_count.Kinds as joined-count
use Rattle.recut.proofs.joined_count.Reads as joined-count-reads
use Rattle.recut.proofs.reaches.Kinds as reaches
use Rattle.recut.proofs.reaches.Reads as reaches-reads
use Rattle.recut.proofs.renew.Kinds as renew
use Rattle.recut.proofs.renew.Reads as renew-reads

pub gather-total : (κs : Lfts 2) (a : Dens κs gather.ps) → gather-reads.Pre κs a
gather-total κs a = tt

pub gather-unique : (κs : Lfts 2) (a : Dens κs gather.ps) (r r' : Unit) (s s' : AtExit (ended_of 2 gather.ps gather.r) κs)
    → gather-reads.Post κs a r s → gather-reads.Post κs a r' s' → s.0.now ≡ s'.0.now
gather-unique κs a r r' s s' p q = p ∙ sym q

pub gather-counts-total : (κs : Lfts 2) (a : Dens κs gather-counts.ps) → gather-counts-reads.Pre κs a
gather-counts-total κs a = tt

pub gather-counts-unique : (κs : Lfts 2) (a : Dens κs gather-counts.ps) (r r' : Unit) (s s' : AtExit (ended_of 2 gather-counts.ps gather-counts.r) κs)
    → gather-counts-reads.Post κs a r s → gather-counts-reads.Post κs a r' s' → s.0.now ≡ s'.0.now
gather-counts-unique κs a r r' s s' p q = p ∙ sym q

pub joined-count-total : (κs : Lfts 0) (a : Dens κs joined-count.ps) → joined-count-reads.Pre κs a
joined-count-total κs a = tt

pub joined-count-unique : (κs : Lfts 0) (a : Dens κs joined-count.ps) (r r' : ℕ) (s s' : AtExit (ended_of 0 joined-count.ps joined-count.r) κs)
    → joined-count-reads.Post κs a r s → joined-count-reads.Post κs a r' s' → r ≡ r'
joined-count-unique κs a r r' s s' p q = p ∙ sym q

pub reaches-total : (κs : Lfts 1) (a : Dens κs reaches.ps) → reaches-reads.Pre κs a
reaches-total κs a = tt

pub reaches-unique : (κs : Lfts 1) (a : Dens κs reaches.ps) (r r' : Bool) (s s' : AtExit (ended_of 1 reaches.ps reaches.r) κs)
    → reaches-reads.Post κs a r s → reaches-reads.Post κs a r' s' → r ≡ r'
reaches-unique κs a r r' s s' p q = p ∙ sym q

-- the paper's words tell the answers apart, and the rooms of what is done
pub renewed-one : (x y : Result (Unit {0}) Refusal) (room room' : List Float) → paper_renewed x room ≡ paper_renewed y room' → x ≡ y
unfolding paper_renewed
renewed-one (Ok u) (Ok v) room room' e = refl
renewed-one (Ok u) (Err q) room room' e = cc
renewed-one (Err r) (Ok v) room room' e = cc
renewed-one (Err r) (Err q) room room' e = let n : number_of r ≡ number_of q = cc in ap Err (number-one r q n)

pub room-one : (y : Result (Unit {0}) Refusal) (room room' : List Float) → paper_renewed (Ok tt) room ≡ paper_renewed y room' → room ≡ room'
unfolding paper_renewed
room-one (Ok v) room room' e = cc
room-one (Err q) room room' e = cc

pub renew-total : (κs : Lfts 4) (a : Dens κs renew.ps) → renew-reads.Pre κs a
renew-total κs a = tt

pub renew-unique : (κs : Lfts 4) (a : Dens κs renew.ps) (r r' : Result (Unit {0}) Refusal) (s s' : AtExit (ended_of 4 renew.ps renew.r) κs)
    → renew-reads.Post κs a r s → renew-reads.Post κs a r' s'
    → (r ≡ r') × (r ≡ Ok tt → s.1.1.1.1.0.now ≡ s'.1.1.1.1.0.now)
renew-unique κs a r r' s s' p q =
    let e = p ∙ sym q in
    (renewed-one r r' _ _ e, λ d. room-one r' _ _ (rw d at e))

pub adapt-total : (κs : Lfts 1) (a : Dens κs adapt.ps) → adapt-reads.Pre κs a
adapt-total κs a = tt

pub adapt-unique : (κs : Lfts 1) (a : Dens κs adapt.ps) (r r' : Bool) (s s' : AtExit (ended_of 1 adapt.ps adapt.r) κs)
    → adapt-reads.Post κs a r s → adapt-reads.Post κs a r' s' → (s.0.now ≡ s'.0.now) × (r ≡ r')
adapt-unique κs a r r' s s' p q = (p.0 ∙ sym q.0, p.1 ∙ sym q.1)

pub is-chance-total : (κs : Lfts 0) (a : Dens κs is-chance.ps) → is-chance-reads.Pre κs a
is-chance-total κs a = tt

pub is-chance-unique : (κs : Lfts 0) (a : Dens κs is-chance.ps) (r r' : Bool) (s s' : AtExit (ended_of 0 is-chance.ps is-chance.r) κs)
    → is-chance-reads.Post κs a r s → is-chance-reads.Post κs a r' s' → r ≡ r'
is-chance-unique κs a r r' s s' p q = p ∙ sym q

pub higher-of-total : (κs : Lfts 0) (a : Dens κs higher-of.ps) → higher-of-reads.Pre κs a
higher-of-total κs a = tt

pub higher-of-unique : (κs : Lfts 0) (a : Dens κs higher-of.ps) (r r' : Float) (s s' : AtExit (ended_of 0 higher-of.ps higher-of.r) κs)
    → higher-of-reads.Post κs a r s → higher-of-reads.Post κs a r' s' → r ≡ r'
higher-of-unique κs a r r' s s' p q = p ∙ sym q
