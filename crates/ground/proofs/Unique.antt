-- Every exported call answers on any input, and its promise allows one answer.
use mathlib.Core.Path.{◌≡◌, refl, sym, ap, ◌∙◌}
use mathlib.Core.List.{[]}
use contract.Lifetimes.{Lfts}
use contract.BorrowLft.{⊑_static}
use borrow.Fn.Kinds.{Dens, ended_of}
use denote.Triple.Clauses.{AtExit}
use Prim.Native.Nat.{ℕ}
use denote.RattleType.{RattleType}
use denote.Builtin.{f64, u64}
use denote.Param.Laws.{Laws, IsCopy}
use denote.Struct.Laws.{f64-copy, u64-copy}
use mir.Syntax.{Dict}
use Rattle.std.specs.declared.clone.Clone.{Ghosts}
use lib.Ieee.{Float}
use Rattle.lent.specs.Memory.{Memory}
use Rattle.accumulator.specs.declared.StatisticsAccumulator.{StatisticsAccumulator}
use Rattle.accumulator.proofs.Unique.{real-laws, count-laws}
use Rattle.ground.proofs.floors.floored.Kinds as floored
use Rattle.ground.proofs.floors.floored.Reads as floored-reads
use Rattle.ground.proofs.accounts.load.Kinds as load
use Rattle.ground.proofs.accounts.load.Reads as load-reads
use Rattle.ground.proofs.accounts.store.Kinds as store
use Rattle.ground.proofs.accounts.store.Reads as store-reads
use Rattle.ground.proofs.accounts.clear.Kinds as clear
use Rattle.ground.proofs.accounts.clear.Reads as clear_reads
use Rattle.ground.proofs.parts.set.Kinds as set
use Rattle.ground.proofs.parts.set.Reads as set-reads
use Rattle.ground.proofs.laying.clear_waiting.Kinds as clear-waiting
use Rattle.ground.proofs.laying.clear_waiting.Reads as clear-waiting-reads
use Rattle.ground.proofs.laying.empty_axis.Kinds as empty-axis
use Rattle.ground.proofs.laying.empty_axis.Reads as empty-axis-reads

pub floored-total : (κs : Lfts 0) (a : Dens κs floored.ps) → floored-reads.Pre κs a
floored-total κs a = tt

pub floored-unique : (κs : Lfts 0) (a : Dens κs floored.ps) (r r' : Float) (s s' : AtExit (ended_of 0 floored.ps floored.r) κs)
    → floored-reads.Post κs a r s → floored-reads.Post κs a r' s' → r ≡ r'
floored-unique κs a r r' s s' p q = p ∙ sym q

pub load-total : (κs : Lfts 2) (a : Dens κs load.ps) → load-reads.Pre κs a
load-total κs a = tt

pub load-unique : (κs : Lfts 2) (a : Dens κs load.ps) (r r' : StatisticsAccumulator) (s s' : AtExit (ended_of 2 load.ps load.r) κs)
    → load-reads.Post κs a r s → load-reads.Post κs a r' s' → r ≡ r'
load-unique κs a r r' s s' p q = p ∙ sym q

pub store-total : (κs : Lfts 2) (a : Dens κs store.ps) → store-reads.Pre κs a
store-total κs a = tt

pub store-unique : (κs : Lfts 2) (a : Dens κs store.ps) (r r' : Unit {0}) (s s' : AtExit (ended_of 2 store.ps store.r) κs)
    → store-reads.Post κs a r s → store-reads.Post κs a r' s' → (s.0.now ≡ s'.0.now) × (s.1.0.now ≡ s'.1.0.now)
store-unique κs a r r' s s' p q =
    let e = p ∙ sym q in
    (ap (λ (x : Memory). x.reals) e, ap (λ (x : Memory). x.counts) e)

pub clear-total : (κs : Lfts 2) (a : Dens κs clear.ps) → clear_reads.Pre κs a
clear-total κs a = tt

pub clear-unique : (κs : Lfts 2) (a : Dens κs clear.ps) (r r' : Unit {0}) (s s' : AtExit (ended_of 2 clear.ps clear.r) κs)
    → clear_reads.Post κs a r s → clear_reads.Post κs a r' s' → (s.0.now ≡ s'.0.now) × (s.1.0.now ≡ s'.1.0.now)
clear-unique κs a r r' s s' p q =
    let e = p ∙ sym q in
    (ap (λ (x : Memory). x.reals) e, ap (λ (x : Memory). x.counts) e)

-- whatever the entries are; the call is there for all that borrow nothing, as reals and counts
module _ (T : RattleType) (laws : Laws T) (copies : IsCopy T) (clone : Ghosts T.Denot) (dict : Dict) where
  pub set-total : T.lives ≡ [] → (κs : Lfts 3) (a : Dens κs (set.ps T laws copies)) → set-reads.Pre T laws copies clone dict κs a
  set-total e κs a = rw e (⊑_static κs.1.1.0)

  pub set-unique : (κs : Lfts 3) (a : Dens κs (set.ps T laws copies)) (r r' : Unit {0}) (s s' : AtExit (ended_of 3 (set.ps T laws copies) (set.r T laws copies)) κs)
      → set-reads.Post T laws copies clone dict κs a r s → set-reads.Post T laws copies clone dict κs a r' s' → s.0.now ≡ s'.0.now
  set-unique κs a r r' s s' p q = p ∙ sym q

-- so that it is there for reals and for counts, and nothing is asked
module _ (clone : Ghosts Float) (dict : Dict) where
  pub set-reals-total : (κs : Lfts 3) (a : Dens κs (set.ps f64 real-laws f64-copy)) → set-reads.Pre f64 real-laws f64-copy clone dict κs a
  set-reals-total κs a = set-total f64 real-laws f64-copy clone dict refl κs a

  pub set-reals-unique : (κs : Lfts 3) (a : Dens κs (set.ps f64 real-laws f64-copy)) (r r' : Unit {0}) (s s' : AtExit (ended_of 3 (set.ps f64 real-laws f64-copy) (set.r f64 real-laws f64-copy)) κs)
      → set-reads.Post f64 real-laws f64-copy clone dict κs a r s → set-reads.Post f64 real-laws f64-copy clone dict κs a r' s' → s.0.now ≡ s'.0.now
  set-reals-unique κs a r r' s s' p q = p ∙ sym q

module _ (clone : Ghosts ℕ) (dict : Dict) where
  pub set-counts-total : (κs : Lfts 3) (a : Dens κs (set.ps u64 count-laws u64-copy)) → set-reads.Pre u64 count-laws u64-copy clone dict κs a
  set-counts-total κs a = set-total u64 count-laws u64-copy clone dict refl κs a

  pub set-counts-unique : (κs : Lfts 3) (a : Dens κs (set.ps u64 count-laws u64-copy)) (r r' : Unit {0}) (s s' : AtExit (ended_of 3 (set.ps u64 count-laws u64-copy) (set.r u64 count-laws u64-copy)) κs)
      → set-reads.Post u64 count-laws u64-copy clone dict κs a r s → set-reads.Post u64 count-laws u64-copy clone dict κs a r' s' → s.0.now ≡ s'.0.now
  set-counts-unique κs a r r' s s' p q = p ∙ sym q

pub clear-waiting-total : (κs : Lfts 2) (a : Dens κs clear-waiting.ps) → clear-waiting-reads.Pre κs a
clear-waiting-total κs a = tt

-- every entry of the two lists
pub clear-waiting-unique : (κs : Lfts 2) (a : Dens κs clear-waiting.ps) (r r' : Unit {0}) (s s' : AtExit (ended_of 2 clear-waiting.ps clear-waiting.r) κs)
    → clear-waiting-reads.Post κs a r s → clear-waiting-reads.Post κs a r' s' → (s.0.now ≡ s'.0.now) × (s.1.0.now ≡ s'.1.0.now)
clear-waiting-unique κs a r r' s s' p q =
    let e = p ∙ sym q in
    (ap (λ (x : Memory). x.reals) e, ap (λ (x : Memory). x.counts) e)

pub empty-axis-total : (κs : Lfts 2) (a : Dens κs empty-axis.ps) → empty-axis-reads.Pre κs a
empty-axis-total κs a = tt

pub empty-axis-unique : (κs : Lfts 2) (a : Dens κs empty-axis.ps) (r r' : Unit {0}) (s s' : AtExit (ended_of 2 empty-axis.ps empty-axis.r) κs)
    → empty-axis-reads.Post κs a r s → empty-axis-reads.Post κs a r' s' → (s.0.now ≡ s'.0.now) × (s.1.0.now ≡ s'.1.0.now)
empty-axis-unique κs a r r' s s' p q =
    let e = p ∙ sym q in
    (ap (λ (x : Memory). x.reals) e, ap (λ (x : Memory). x.counts) e)
