-- Every exported call answers on any input, and its promise allows one answer.
use Rattle.std.proofs.Common.{◌≡◌, ℕ, Bool, sym, refl, ap, ap₂, ◌∙◌}
use contract.Lifetimes.{Lfts}
use borrow.Fn.Kinds.{Dens, ended_of}
use denote.Triple.Clauses.{AtExit}
use Rattle.feed.specs.declared.Run.{Run}
use Rattle.std.specs.Prelude.{Option, Some, None, Result, Ok, Err}
use Rattle.doubles.specs.Refusal.{number_of}
use Rattle.doubles.specs.declared.refusal.Refusal.{Refusal}
use Rattle.doubles.proofs.Refusals.{number-one}
use Rattle.accumulator.specs.declared.Summary.{Summary}
use Rattle.feed.specs.declared.Refused.{Refused}
use Rattle.feed.specs.declared.Turned.{Turned}
use Rattle.feed.specs.Said.{Said, paper_told}
use Rattle.feed.specs.Turns.{TurnEnd}
use Rattle.feed.proofs.beginning.Kinds as beginning-kinds
use Rattle.feed.proofs.beginning.Reads as beginning-reads
use Rattle.feed.proofs.is_over.Kinds as is-over-kinds
use Rattle.feed.proofs.is_over.Reads as is-over-reads
use Rattle.feed.proofs.turn.Kinds as turn-kinds
use Rattle.feed.proofs.turn.Reads as turn-reads

abbrev told : Refusal → ℕ → Result (Option Summary) Refused
told w at = Err (record { why = w; offset = at })

-- the paper's words tell the answers apart
pub told-one : (x y : Result (Option Summary) Refused) → paper_told x ≡ paper_told y → x ≡ y
unfolding paper_told
told-one (Ok None) (Ok None) e = refl
told-one (Ok None) (Ok (Some s)) e = cc
told-one (Ok None) (Err r) e = cc
told-one (Ok (Some s)) (Ok None) e = cc
told-one (Ok (Some s)) (Ok (Some t)) e = cc
told-one (Ok (Some s)) (Err r) e = cc
told-one (Err r) (Ok None) e = cc
told-one (Err r) (Ok (Some t)) e = cc
told-one (Err r) (Err q) e =
    let n : number_of r.why ≡ number_of q.why = cc in
    let at : r.offset ≡ q.offset = cc in
    ap₂ (λ (w : Refusal) (o : ℕ). told w o) (number-one r.why q.why n) at

pub turned-one : (r r' : Turned) → r.run ≡ r'.run → r.taken ≡ r'.taken → r.told ≡ r'.told → r ≡ r'
turned-one r r' e f g =
    ap (λ (x : Run). record { run = x; taken = r.taken; told = r.told }) e
    ∙ ap (λ (n : ℕ). record { run = r'.run; taken = n; told = r.told }) f
    ∙ ap (λ (t : Result (Option Summary) Refused). record { run = r'.run; taken = r'.taken; told = t }) g

pub beginning-total : (κs : Lfts 0) (a : Dens κs beginning-kinds.ps) → beginning-reads.Pre κs a
beginning-total κs a = tt

pub beginning-unique : (κs : Lfts 0) (a : Dens κs beginning-kinds.ps) (r r' : Run) (s s' : AtExit (ended_of 0 beginning-kinds.ps beginning-kinds.r) κs)
    → beginning-reads.Post κs a r s → beginning-reads.Post κs a r' s' → r ≡ r'
beginning-unique κs a r r' s s' p q = p ∙ sym q

pub is-over-total : (κs : Lfts 0) (a : Dens κs is-over-kinds.ps) → is-over-reads.Pre κs a
is-over-total κs a = tt

pub is-over-unique : (κs : Lfts 0) (a : Dens κs is-over-kinds.ps) (r r' : Bool) (s s' : AtExit (ended_of 0 is-over-kinds.ps is-over-kinds.r) κs)
    → is-over-reads.Post κs a r s → is-over-reads.Post κs a r' s' → r ≡ r'
is-over-unique κs a r r' s s' p q = p ∙ sym q

pub turn-total : (κs : Lfts 6) (a : Dens κs turn-kinds.ps) → turn-reads.Pre κs a
turn-total κs a = tt

-- the answer, and every entry of the table and of the grid's two lists; the spare is left open
pub turn-unique : (κs : Lfts 6) (a : Dens κs turn-kinds.ps) (r r' : Turned) (s s' : AtExit (ended_of 6 turn-kinds.ps turn-kinds.r) κs)
    → turn-reads.Post κs a r s → turn-reads.Post κs a r' s'
    → (r ≡ r') × (s.1.1.1.0.now ≡ s'.1.1.1.0.now) × (s.1.1.1.1.0.now ≡ s'.1.1.1.1.0.now) × (s.1.1.1.1.1.0.now ≡ s'.1.1.1.1.1.0.now)
turn-unique κs a r r' s s' p q =
    let e = p.0 ∙ sym q.0 in
    let o = ap (λ (x : TurnEnd). x.answer) e in
    (turned-one r r' (ap (λ (x : Said). x.run) o) (ap (λ (x : Said). x.taken) o) (told-one r.told r'.told (ap (λ (x : Said). x.told) o)), ap (λ (x : TurnEnd). x.table) e, ap (λ (x : TurnEnd). x.state.reals) e, ap (λ (x : TurnEnd). x.state.counts) e)
