-- Every input is answered, and in one way: each theorem is of `Pre` and `Post`, a call's contract as the prover reads it off the source.
use mathlib.Core.Path.{◌≡◌, sym, ◌∙◌}
use Prim.Native.Nat.{ℕ}
use lib.Ieee.{Float}
use contract.Lifetimes.{Lfts}
use borrow.Fn.Kinds.{Dens, ended_of}
use denote.Triple.Clauses.{AtExit}
use mathlib.Core.Bool.{Bool}
use Rattle.answers.specs.declared.Replayed.{Replayed}
use Rattle.answers.proofs.words.Kinds as words
use Rattle.answers.proofs.words.Reads as words-reads
use Rattle.answers.proofs.word.Kinds as word
use Rattle.answers.proofs.word.Reads as word-reads
use Rattle.answers.proofs.bits.Kinds as bits
use Rattle.answers.proofs.bits.Reads as bits-reads
use Rattle.answers.proofs.double.Kinds as double
use Rattle.answers.proofs.double.Reads as double-reads
use Rattle.answers.proofs.below.Kinds as below
use Rattle.answers.proofs.below.Reads as below-reads
use Rattle.answers.proofs.holds.Kinds as holds
use Rattle.answers.proofs.holds.Reads as holds-reads
use Rattle.answers.proofs.byte_of.Kinds as byte-of
use Rattle.answers.proofs.byte_of.Reads as byte-of-reads
use Rattle.answers.proofs.load.Kinds as load
use Rattle.answers.proofs.load.Reads as load-reads
use Rattle.answers.proofs.Replayed.count.Kinds as count
use Rattle.answers.proofs.Replayed.count.Reads as count-reads

pub words-total : (κs : Lfts 1) (a : Dens κs words.ps) → words-reads.Pre κs a
words-total κs a = tt

pub words-unique : (κs : Lfts 1) (a : Dens κs words.ps) (r r' : ℕ) (s s' : AtExit (ended_of 1 words.ps words.r) κs)
    → words-reads.Post κs a r s → words-reads.Post κs a r' s' → r ≡ r'
words-unique κs a r r' s s' p q = p ∙ sym q

pub word_total : (κs : Lfts 1) (a : Dens κs word.ps) → word-reads.Pre κs a
word_total κs a = tt

pub word-unique : (κs : Lfts 1) (a : Dens κs word.ps) (r r' : ℕ) (s s' : AtExit (ended_of 1 word.ps word.r) κs)
    → word-reads.Post κs a r s → word-reads.Post κs a r' s' → r ≡ r'
word-unique κs a r r' s s' p q = p ∙ sym q

pub bits-total : (κs : Lfts 0) (a : Dens κs bits.ps) → bits-reads.Pre κs a
bits-total κs a = tt

pub bits-unique : (κs : Lfts 0) (a : Dens κs bits.ps) (r r' : ℕ) (s s' : AtExit (ended_of 0 bits.ps bits.r) κs)
    → bits-reads.Post κs a r s → bits-reads.Post κs a r' s' → r ≡ r'
bits-unique κs a r r' s s' p q = p ∙ sym q

pub double-total : (κs : Lfts 0) (a : Dens κs double.ps) → double-reads.Pre κs a
double-total κs a = tt

pub double-unique : (κs : Lfts 0) (a : Dens κs double.ps) (r r' : Float) (s s' : AtExit (ended_of 0 double.ps double.r) κs)
    → double-reads.Post κs a r s → double-reads.Post κs a r' s' → r ≡ r'
double-unique κs a r r' s s' p q = p ∙ sym q

pub below-total : (κs : Lfts 1) (a : Dens κs below.ps) → below-reads.Pre κs a
below-total κs a = tt

pub below-unique : (κs : Lfts 1) (a : Dens κs below.ps) (r r' : ℕ) (s s' : AtExit (ended_of 1 below.ps below.r) κs)
    → below-reads.Post κs a r s → below-reads.Post κs a r' s' → r ≡ r'
below-unique κs a r r' s s' p q = p.0 ∙ sym q.0

pub holds-total : (κs : Lfts 2) (a : Dens κs holds.ps) → holds-reads.Pre κs a
holds-total κs a = tt

pub holds-unique : (κs : Lfts 2) (a : Dens κs holds.ps) (r r' : Bool) (s s' : AtExit (ended_of 2 holds.ps holds.r) κs)
    → holds-reads.Post κs a r s → holds-reads.Post κs a r' s' → r ≡ r'
holds-unique κs a r r' s s' p q = p ∙ sym q

pub byte-of-total : (κs : Lfts 1) (a : Dens κs byte-of.ps) → byte-of-reads.Pre κs a
byte-of-total κs a = tt

pub byte-of-unique : (κs : Lfts 1) (a : Dens κs byte-of.ps) (r r' : ℕ) (s s' : AtExit (ended_of 1 byte-of.ps byte-of.r) κs)
    → byte-of-reads.Post κs a r s → byte-of-reads.Post κs a r' s' → r ≡ r'
byte-of-unique κs a r r' s s' p q = p ∙ sym q

pub load-total : (κs : Lfts 2) (a : Dens κs load.ps) → load-reads.Pre κs a
load-total κs a = tt

-- every byte
pub load-unique : (κs : Lfts 2) (a : Dens κs load.ps) (r r' : Unit {0}) (s s' : AtExit (ended_of 2 load.ps load.r) κs)
    → load-reads.Post κs a r s → load-reads.Post κs a r' s' → s.1.1.0.now ≡ s'.1.1.0.now
load-unique κs a r r' s s' p q = p ∙ sym q

pub count-total : (κs : Lfts 0) (a : Dens κs count.ps) → count-reads.Pre κs a
count-total κs a = tt

pub count-unique : (κs : Lfts 0) (a : Dens κs count.ps) (r r' : Replayed) (s s' : AtExit (ended_of 0 count.ps count.r) κs)
    → count-reads.Post κs a r s → count-reads.Post κs a r' s' → r ≡ r'
count-unique κs a r r' s s' p q = p ∙ sym q
