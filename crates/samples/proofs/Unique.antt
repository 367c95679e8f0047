-- Every exported call answers on any input, and its promise allows one answer.
use mathlib.Core.Path.{◌≡◌, sym, ap, ◌∙◌}
use Prim.Native.Nat.{ℕ}
use contract.Lifetimes.{Lfts}
use borrow.Fn.Kinds.{Dens, ended_of}
use denote.Triple.Clauses.{AtExit}
use lib.Ieee.{Float}
use Rattle.lent.specs.Calls.{StateEnd}
use Rattle.samples.proofs.draw.Kinds as draw-kinds
use Rattle.samples.proofs.draw.Reads as draw-reads
use Rattle.samples.proofs.draw_and_train.Kinds as draw-and-train-kinds
use Rattle.samples.proofs.draw_and_train.Reads as draw-and-train-reads
use Rattle.lent.specs.declared.Batched as given
use Rattle.lent.specs.declared.Drawing.{Drawing}
use Rattle.stream.specs.declared.MonteCarloRng.{MonteCarloRng}
use Rattle.std.specs.Prelude.{Result}
use Rattle.doubles.specs.declared.refusal.Refusal.{Refusal}
use Rattle.doubles.proofs.Refusals.{paper-one, fault-one}
use Rattle.lent.specs.Batched.{Batched, BatchEnd, said}
use Rattle.samples.proofs.weight_of.Kinds as weight-of-kinds
use Rattle.samples.proofs.weight_of.Reads as weight-of-reads
use Rattle.samples.proofs.train.Kinds as train-kinds
use Rattle.samples.proofs.train.Reads as train-reads

-- what is said of a batch tells its answers apart
pub said-one : (x y : given.Batched) → said x ≡ said y → x ≡ y
said-one x y e =
    let f : x.end ≡ y.end = fault-one x.end y.end (ap (λ (b : Batched). b.refused) e) in
    let d : x.done ≡ y.done = ap (λ (b : Batched). b.done) e in
    let s : x.stream ≡ y.stream = ap (λ (b : Batched). b.stream) e in
    same f d s
  where
    same : {p q : Result (Unit {0}) Refusal} {m n : ℕ} {s t : MonteCarloRng} → p ≡ q → m ≡ n → s ≡ t
        → ◌≡◌ {A = given.Batched} (record { end = p; done = m; stream = s }) (record { end = q; done = n; stream = t })
    same f d s = rw (f, d, s)

pub weight-of-total : (κs : Lfts 0) (a : Dens κs weight-of-kinds.ps) → weight-of-reads.Pre κs a
weight-of-total κs a = tt

pub weight-of-unique : (κs : Lfts 0) (a : Dens κs weight-of-kinds.ps) (r r' : Float) (s s' : AtExit (ended_of 0 weight-of-kinds.ps weight-of-kinds.r) κs)
    → weight-of-reads.Post κs a r s → weight-of-reads.Post κs a r' s' → r ≡ r'
weight-of-unique κs a r r' s s' p q = p ∙ sym q

pub draw-total : (κs : Lfts 3) (a : Dens κs draw-kinds.ps) → draw-reads.Pre κs a
draw-total κs a = tt

pub draw-unique : (κs : Lfts 3) (a : Dens κs draw-kinds.ps) (r r' : Result Drawing Refusal) (s s' : AtExit (ended_of 3 draw-kinds.ps draw-kinds.r) κs)
    → draw-reads.Post κs a r s → draw-reads.Post κs a r' s' → r ≡ r'
draw-unique κs a r r' s s' p q = paper-one r r' (p ∙ sym q)

pub train-total : (κs : Lfts 3) (a : Dens κs train-kinds.ps) → train-reads.Pre κs a
train-total κs a = tt

-- the answer, and every entry of the two lists
pub train-unique : (κs : Lfts 3) (a : Dens κs train-kinds.ps) (r r' : Result (Unit {0}) Refusal) (s s' : AtExit (ended_of 3 train-kinds.ps train-kinds.r) κs)
    → train-reads.Post κs a r s → train-reads.Post κs a r' s' → (r ≡ r') × (s.1.0.now ≡ s'.1.0.now) × (s.1.1.0.now ≡ s'.1.1.0.now)
train-unique κs a r r' s s' p q =
    let e = p ∙ sym q in
    (fault-one r r' (ap (λ (x : StateEnd). x.answer) e), ap (λ (x : StateEnd). x.state.reals) e, ap (λ (x : StateEnd). x.state.counts) e)

pub draw-and-train-total : (κs : Lfts 4) (a : Dens κs draw-and-train-kinds.ps) → draw-and-train-reads.Pre κs a
draw-and-train-total κs a = tt

-- the answer, and every entry of the two lists
pub draw-and-train-unique : (κs : Lfts 4) (a : Dens κs draw-and-train-kinds.ps) (r r' : given.Batched) (s s' : AtExit (ended_of 4 draw-and-train-kinds.ps draw-and-train-kinds.r) κs)
    → draw-and-train-reads.Post κs a r s → draw-and-train-reads.Post κs a r' s' → (r ≡ r') × (s.1.0.now ≡ s'.1.0.now) × (s.1.1.0.now ≡ s'.1.1.0.now)
draw-and-train-unique κs a r r' s s' p q =
    let e = p ∙ sym q in
    (said-one r r' (ap (λ (x : BatchEnd). x.answer) e), ap (λ (x : BatchEnd). x.state.reals) e, ap (λ (x : BatchEnd). x.state.counts) e)
