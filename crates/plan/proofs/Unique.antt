-- Every input is answered, and in one way: each theorem is of `Pre` and `Post`, a call's contract as the prover reads it off the source.
use mathlib.Core.Path.{◌≡◌, sym, ap, ◌∙◌}
use Prim.Native.Nat.{ℕ}
use contract.Lifetimes.{Lfts}
use borrow.Fn.Kinds.{Dens, ended_of}
use denote.Triple.Clauses.{AtExit}
use Rattle.plan.specs.declared.Read.{Read}
use Rattle.plan.specs.declared.Needs.{Needs}
use Rattle.plan.specs.declared.Misread.{Misread}
use Rattle.std.specs.Prelude.{Result, Ok, Err}
use Rattle.doubles.specs.Refusal.{number_of}
use Rattle.doubles.specs.declared.refusal.Refusal.{Refusal}
use Rattle.doubles.proofs.Refusals.{number-one}
use Rattle.plan.specs.Paper.{PlanRead, plan_read, paper_read, paper_sized}
use Rattle.plan.specs.Calls.{End}
use Rattle.plan.proofs.measure_plan.Kinds as measure-plan
use Rattle.plan.proofs.measure_plan.Reads as measure-plan-reads
use Rattle.plan.proofs.measure_prefix.Kinds as measure-prefix
use Rattle.plan.proofs.measure_prefix.Reads as measure-prefix-reads
use Rattle.plan.proofs.read_plan.Kinds as read-plan
use Rattle.plan.proofs.read_plan.Reads as read-plan-reads
use Rattle.plan.proofs.read_prefix.Kinds as read-prefix
use Rattle.plan.proofs.read_prefix.Reads as read-prefix-reads
use Rattle.plan.proofs.sizes.Kinds as sizes
use Rattle.plan.proofs.sizes.Reads as sizes-reads

abbrev misread : Refusal → ℕ → Misread
misread w n = record { why = w; at = n }

-- the paper's words tell the answers apart
pub paper-read-one : (a b : Result Read Misread) → paper_read a ≡ paper_read b → a ≡ b
paper-read-one (Ok r) (Ok q) h =
    let p : plan_read r.end r.needs ≡ plan_read q.end q.needs = cc in
    ap (λ (p : PlanRead). Ok (record { end = p.end; needs = p.needs })) p
paper-read-one (Ok r) (Err m) h = cc
paper-read-one (Err m) (Ok r) h = cc
paper-read-one (Err m) (Err k) h =
    let n : number_of m.why ≡ number_of k.why = cc in
    let w : m.why ≡ k.why = number-one m.why k.why n in
    let a : m.at ≡ k.at = cc in
    let b : misread m.why m.at ≡ misread k.why k.at = cc in
    ap Err b

pub paper-sized-one : (a b : Result Needs Refusal) → paper_sized a ≡ paper_sized b → a ≡ b
paper-sized-one (Ok n) (Ok m) h = cc
paper-sized-one (Ok n) (Err k) h = cc
paper-sized-one (Err k) (Ok n) h = cc
paper-sized-one (Err k) (Err m) h = let n : number_of k ≡ number_of m = cc in ap Err (number-one k m n)

pub measure-plan-total : (κs : Lfts 1) (a : Dens κs measure-plan.ps) → measure-plan-reads.Pre κs a
measure-plan-total κs a = tt

pub measure-plan-unique : (κs : Lfts 1) (a : Dens κs measure-plan.ps) (r r' : Result Read Misread) (s s' : AtExit (ended_of 1 measure-plan.ps measure-plan.r) κs)
    → measure-plan-reads.Post κs a r s → measure-plan-reads.Post κs a r' s' → r ≡ r'
measure-plan-unique κs a r r' s s' p q = paper-read-one r r' (p ∙ sym q)

pub measure-prefix-total : (κs : Lfts 1) (a : Dens κs measure-prefix.ps) → measure-prefix-reads.Pre κs a
measure-prefix-total κs a = tt

pub measure-prefix-unique : (κs : Lfts 1) (a : Dens κs measure-prefix.ps) (r r' : Result Read Misread) (s s' : AtExit (ended_of 1 measure-prefix.ps measure-prefix.r) κs)
    → measure-prefix-reads.Post κs a r s → measure-prefix-reads.Post κs a r' s' → r ≡ r'
measure-prefix-unique κs a r r' s s' p q = paper-read-one r r' (p ∙ sym q)

pub read-plan-total : (κs : Lfts 2) (a : Dens κs read-plan.ps) → read-plan-reads.Pre κs a
read-plan-total κs a = tt

-- the answer, and every word of the table
pub read-plan-unique : (κs : Lfts 2) (a : Dens κs read-plan.ps) (r r' : Result Read Misread) (s s' : AtExit (ended_of 2 read-plan.ps read-plan.r) κs)
    → read-plan-reads.Post κs a r s → read-plan-reads.Post κs a r' s' → (r ≡ r') × (s.1.0.now ≡ s'.1.0.now)
read-plan-unique κs a r r' s s' p q =
    let e = p ∙ sym q in (paper-read-one r r' (ap (λ (o : End). o.answer) e), ap (λ (o : End). o.table) e)

pub read-prefix-total : (κs : Lfts 2) (a : Dens κs read-prefix.ps) → read-prefix-reads.Pre κs a
read-prefix-total κs a = tt

pub read-prefix-unique : (κs : Lfts 2) (a : Dens κs read-prefix.ps) (r r' : Result Read Misread) (s s' : AtExit (ended_of 2 read-prefix.ps read-prefix.r) κs)
    → read-prefix-reads.Post κs a r s → read-prefix-reads.Post κs a r' s' → (r ≡ r') × (s.1.0.now ≡ s'.1.0.now)
read-prefix-unique κs a r r' s s' p q =
    let e = p ∙ sym q in (paper-read-one r r' (ap (λ (o : End). o.answer) e), ap (λ (o : End). o.table) e)

pub sizes-total : (κs : Lfts 1) (a : Dens κs sizes.ps) → sizes-reads.Pre κs a
sizes-total κs a = tt

pub sizes-unique : (κs : Lfts 1) (a : Dens κs sizes.ps) (r r' : Result Needs Refusal) (s s' : AtExit (ended_of 1 sizes.ps sizes.r) κs)
    → sizes-reads.Post κs a r s → sizes-reads.Post κs a r' s' → r ≡ r'
sizes-unique κs a r r' s s' p q = paper-sized-one r r' (p.0 ∙ sym q.0)
