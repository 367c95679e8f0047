-- Every input is answered, and in one way: each theorem is of `Pre` and `Post`, a call's contract as the prover reads it off the source.
use Rattle.std.proofs.Common.{◌≡◌, ℕ, List, sym, ap, ◌∙◌}
use contract.Lifetimes.{Lfts}
use borrow.Fn.Kinds.{Dens, ended_of}
use denote.Triple.Clauses.{AtExit}
use lib.Ieee.{Float}
use Rattle.stream.specs.declared.MonteCarloRng.{MonteCarloRng}
use Rattle.stream.specs.declared.Next.{Next}
use Rattle.stream.specs.Calls.{Filled}
use Rattle.std.specs.Prelude.{Result}
use Rattle.doubles.specs.declared.refusal.Refusal.{Refusal}
use Rattle.doubles.proofs.Refusals.{paper-one}
use Rattle.stream.proofs.unit_of.Kinds as unit-of
use Rattle.stream.proofs.unit_of.Reads as unit-of-reads
use Rattle.stream.proofs.MonteCarloRng.next_u64.Kinds as next-u64
use Rattle.stream.proofs.MonteCarloRng.next_u64.Reads as next-u64-reads
use Rattle.stream.proofs.MonteCarloRng.next_u32.Kinds as next-u32
use Rattle.stream.proofs.MonteCarloRng.next_u32.Reads as next-u32-reads
use Rattle.stream.proofs.MonteCarloRng.unit.Kinds as unit
use Rattle.stream.proofs.MonteCarloRng.unit.Reads as unit-reads
use Rattle.stream.proofs.MonteCarloRng.seed_from_u64.Kinds as seed-from-u64
use Rattle.stream.proofs.MonteCarloRng.seed_from_u64.Reads as seed-from-u64-reads
use Rattle.stream.proofs.MonteCarloRng.from_seed.Kinds as from-seed
use Rattle.stream.proofs.MonteCarloRng.from_seed.Reads as from-seed-reads
use Rattle.stream.proofs.MonteCarloRng.import.Kinds as import
use Rattle.stream.proofs.MonteCarloRng.import.Reads as import-reads
use Rattle.stream.proofs.MonteCarloRng.export.Kinds as export
use Rattle.stream.proofs.MonteCarloRng.export.Reads as export-reads
use Rattle.stream.proofs.MonteCarloRng.jump.Kinds as jump
use Rattle.stream.proofs.MonteCarloRng.jump.Reads as jump-reads
use Rattle.stream.proofs.MonteCarloRng.long_jump.Kinds as long-jump
use Rattle.stream.proofs.MonteCarloRng.long_jump.Reads as long-jump-reads
use Rattle.stream.proofs.MonteCarloRng.new.Kinds as new
use Rattle.stream.proofs.MonteCarloRng.new.Reads as new-reads
use Rattle.stream.proofs.MonteCarloRng.fill_bytes.Kinds as fill-bytes
use Rattle.stream.proofs.MonteCarloRng.fill_bytes.Reads as fill-bytes-reads

pub unit-of-total : (κs : Lfts 0) (a : Dens κs unit-of.ps) → unit-of-reads.Pre κs a
unit-of-total κs a = tt

pub unit-of-unique : (κs : Lfts 0) (a : Dens κs unit-of.ps) (r r' : Float) (s s' : AtExit (ended_of 0 unit-of.ps unit-of.r) κs)
    → unit-of-reads.Post κs a r s → unit-of-reads.Post κs a r' s' → r ≡ r'
unit-of-unique κs a r r' s s' p q = p ∙ sym q

pub next-u64-total : (κs : Lfts 0) (a : Dens κs next-u64.ps) → next-u64-reads.Pre κs a
next-u64-total κs a = tt

pub next-u64-unique : (κs : Lfts 0) (a : Dens κs next-u64.ps) (r r' : Next ℕ) (s s' : AtExit (ended_of 0 next-u64.ps next-u64.r) κs)
    → next-u64-reads.Post κs a r s → next-u64-reads.Post κs a r' s' → r ≡ r'
next-u64-unique κs a r r' s s' p q = p ∙ sym q

pub next-u32-total : (κs : Lfts 0) (a : Dens κs next-u32.ps) → next-u32-reads.Pre κs a
next-u32-total κs a = tt

pub next-u32-unique : (κs : Lfts 0) (a : Dens κs next-u32.ps) (r r' : Next ℕ) (s s' : AtExit (ended_of 0 next-u32.ps next-u32.r) κs)
    → next-u32-reads.Post κs a r s → next-u32-reads.Post κs a r' s' → r ≡ r'
next-u32-unique κs a r r' s s' p q = p ∙ sym q

pub unit-total : (κs : Lfts 0) (a : Dens κs unit.ps) → unit-reads.Pre κs a
unit-total κs a = tt

pub unit-unique : (κs : Lfts 0) (a : Dens κs unit.ps) (r r' : Next Float) (s s' : AtExit (ended_of 0 unit.ps unit.r) κs)
    → unit-reads.Post κs a r s → unit-reads.Post κs a r' s' → r ≡ r'
unit-unique κs a r r' s s' p q = p ∙ sym q

pub seed-from-u64-total : (κs : Lfts 0) (a : Dens κs seed-from-u64.ps) → seed-from-u64-reads.Pre κs a
seed-from-u64-total κs a = tt

pub seed-from-u64-unique : (κs : Lfts 0) (a : Dens κs seed-from-u64.ps) (r r' : MonteCarloRng) (s s' : AtExit (ended_of 0 seed-from-u64.ps seed-from-u64.r) κs)
    → seed-from-u64-reads.Post κs a r s → seed-from-u64-reads.Post κs a r' s' → r ≡ r'
seed-from-u64-unique κs a r r' s s' p q = p ∙ sym q

pub from-seed-total : (κs : Lfts 0) (a : Dens κs from-seed.ps) → from-seed-reads.Pre κs a
from-seed-total κs a = tt

pub from-seed-unique : (κs : Lfts 0) (a : Dens κs from-seed.ps) (r r' : MonteCarloRng) (s s' : AtExit (ended_of 0 from-seed.ps from-seed.r) κs)
    → from-seed-reads.Post κs a r s → from-seed-reads.Post κs a r' s' → r ≡ r'
from-seed-unique κs a r r' s s' p q = p ∙ sym q

pub import-total : (κs : Lfts 0) (a : Dens κs import.ps) → import-reads.Pre κs a
import-total κs a = tt

pub import-unique : (κs : Lfts 0) (a : Dens κs import.ps) (r r' : MonteCarloRng) (s s' : AtExit (ended_of 0 import.ps import.r) κs)
    → import-reads.Post κs a r s → import-reads.Post κs a r' s' → r ≡ r'
import-unique κs a r r' s s' p q = p ∙ sym q

pub export-total : (κs : Lfts 0) (a : Dens κs export.ps) → export-reads.Pre κs a
export-total κs a = tt

pub export-unique : (κs : Lfts 0) (a : Dens κs export.ps) (r r' : List ℕ) (s s' : AtExit (ended_of 0 export.ps export.r) κs)
    → export-reads.Post κs a r s → export-reads.Post κs a r' s' → r ≡ r'
export-unique κs a r r' s s' p q = p ∙ sym q

pub jump-total : (κs : Lfts 0) (a : Dens κs jump.ps) → jump-reads.Pre κs a
jump-total κs a = tt

pub jump-unique : (κs : Lfts 0) (a : Dens κs jump.ps) (r r' : MonteCarloRng) (s s' : AtExit (ended_of 0 jump.ps jump.r) κs)
    → jump-reads.Post κs a r s → jump-reads.Post κs a r' s' → r ≡ r'
jump-unique κs a r r' s s' p q = p ∙ sym q

pub long-jump-total : (κs : Lfts 0) (a : Dens κs long-jump.ps) → long-jump-reads.Pre κs a
long-jump-total κs a = tt

pub long-jump-unique : (κs : Lfts 0) (a : Dens κs long-jump.ps) (r r' : MonteCarloRng) (s s' : AtExit (ended_of 0 long-jump.ps long-jump.r) κs)
    → long-jump-reads.Post κs a r s → long-jump-reads.Post κs a r' s' → r ≡ r'
long-jump-unique κs a r r' s s' p q = p ∙ sym q

pub new-total : (κs : Lfts 0) (a : Dens κs new.ps) → new-reads.Pre κs a
new-total κs a = tt

pub new-unique : (κs : Lfts 0) (a : Dens κs new.ps) (r r' : Result MonteCarloRng Refusal) (s s' : AtExit (ended_of 0 new.ps new.r) κs)
    → new-reads.Post κs a r s → new-reads.Post κs a r' s' → r ≡ r'
new-unique κs a r r' s s' p q = paper-one r r' (p ∙ sym q)

pub fill-bytes-total : (κs : Lfts 1) (a : Dens κs fill-bytes.ps) → fill-bytes-reads.Pre κs a
fill-bytes-total κs a = tt

-- the stream, and every byte
pub fill-bytes-unique : (κs : Lfts 1) (a : Dens κs fill-bytes.ps) (r r' : MonteCarloRng) (s s' : AtExit (ended_of 1 fill-bytes.ps fill-bytes.r) κs)
    → fill-bytes-reads.Post κs a r s → fill-bytes-reads.Post κs a r' s' → (r ≡ r') × (s.1.0.now ≡ s'.1.0.now)
fill-bytes-unique κs a r r' s s' p q = let e = p ∙ sym q in (ap (λ (f : Filled). f.stream) e, ap (λ (f : Filled). f.bytes) e)
