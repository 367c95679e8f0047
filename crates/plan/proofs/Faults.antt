-- What a field without fault shows of its numbers, and that it can then be taken.
use mathlib.Core.Path.{◌≡◌, refl, sym, ◌∙◌}
use mathlib.Core.Bool.{Bool, true, false, not, cond}
use mathlib.Core.List.{List}
use Prim.Native.Nat.{ℕ, ◌+◌, ◌*◌, ◌/◌, ◌%◌, ◌≤◌, ◌<◌}
use native.Mathlib.Nat.{mul-le-mul}
use native.Mathlib.Omega.{arith}
use lib.Dec.{leb, eqb}
use lib.ListN.{length, get_or}
use borrow.Author.Tests.{not-false, leb-true, eqb-true, eqb-false, ne_eqb}
use Rattle.std.specs.Prelude.{Option, None, Some, Result, Ok, Err}
use Rattle.std.specs.Result.{MatchResult, IsErrAnd, result_ok}
use Rattle.doubles.specs.Refusal.{number_of, fault_of}
use Rattle.doubles.specs.declared.refusal.Refusal.{Refusal}
use Rattle.plan.specs.declared.Misread.{Misread}
use Rattle.plan.specs.declared.Tally.{Tally}
use Rattle.plan.specs.declared.AxesPlan.{AxesPlan}
use Rattle.plan.specs.declared.BinsPlan.{BinsPlan}
use Rattle.doubles.proofs.Refusals.{number-above}
use Rattle.plan.specs.Judged.{Judged, Stop}
use Rattle.plan.specs.Numbers.{number_at, run_of, values_at}
use Rattle.plan.specs.Ranges.{within, floor_fits, ratio_fits, bounded}
use Rattle.plan.specs.Fields.{values_in, evolution_fault, span_of, axes_fault, bins_fault}
use Rattle.plan.specs.Bounds.{Roomy, AxesFit, BinsFit}
use Rattle.plan.proofs.Flags.{at_least, at_most, present, pass, last}

-- 1. A grid's numbers -------------------------------------------------------------------------------

pub record AxesOk (a : AxesPlan) (left : ℕ) : Type 0 where
  pub some : 0 < left
  pub axes : within 1 8 a.axes ≡ true
  pub bins : within 1 1024 a.bins ≡ true
  pub flag : leb a.flag 1 ≡ true
  pub floor : floor_fits a.floor ≡ true

pub axes-free : (a : AxesPlan) (left : ℕ) → axes_fault a left ≡ 0 → AxesOk a left
unfolding axes_fault
axes-free a left e =
    let p = pass (eqb left 0) 2 _ (omega arith) e in
    let q = pass (not (within 1 8 a.axes)) 2 _ (omega arith) p.rest in
    let r = pass (not (within 1 1024 a.bins)) 2 _ (omega arith) q.rest in
    let s = pass (not (leb a.flag 1)) 3 _ (omega arith) r.rest in
    record {
      some = present {n = left} p.rung;
      axes = not-false _ q.rung;
      bins = not-false _ r.rung;
      flag = not-false _ s.rung;
      floor = last (floor_fits a.floor) 3 (omega arith) s.rest;
    }

pub record BinsOk (b : BinsPlan) (left l : ℕ) : Type 0 where
  pub some : 0 < left
  pub level : 0 < l
  pub bins : within 1 256 b.bins ≡ true
  pub flag : leb b.flag 1 ≡ true
  pub ratio : ratio_fits b.ratio ≡ true

pub bins-free : (b : BinsPlan) (left l : ℕ) → bins_fault b left l ≡ 0 → BinsOk b left l
unfolding bins_fault
bins-free b left l e =
    let p = pass (eqb left 0) 2 _ (omega arith) e in
    let q = pass (eqb l 0) 2 _ (omega arith) p.rest in
    let r = pass (not (within 1 256 b.bins)) 2 _ (omega arith) q.rest in
    let s = pass (not (leb b.flag 1)) 3 _ (omega arith) r.rest in
    record {
      some = present {n = left} p.rung;
      level = present {n = l} q.rung;
      bins = not-false _ r.rung;
      flag = not-false _ s.rung;
      ratio = last (ratio_fits b.ratio) 3 (omega arith) s.rest;
    }

-- 2. A bin evolution --------------------------------------------------------------------------------

-- what stands where a 02 may stand, k its number of values
pub data Evolution (bs : List ℕ) (at : ℕ) : ℕ → Type 0 where
  absent : (get_or bs at 0 ≡ 2 → ⊥) → Evolution bs at 0
  there : {k : ℕ} → get_or bs at 0 ≡ 2 → number_at bs (at + 1) 2 ≡ 2 * k → 0 < k → k ≤ 16 → at + 3 + 2 * k ≤ length bs → bounded (values_at bs (at + 3) k) ≡ true
      → Evolution bs at k

values-there : (bs : List ℕ) (at : ℕ) → eqb (get_or bs at 0) 2 ≡ true → values_in bs at ≡ number_at bs (at + 1) 2 / 2
unfolding values_in
values-there bs at t = rw t

values-absent : (bs : List ℕ) (at : ℕ) → eqb (get_or bs at 0) 2 ≡ false → Evolution bs at (values_in bs at)
unfolding values_in
values-absent bs at t = rw t (absent (eqb-false _ 2 t))

evolution-there : (bs : List ℕ) (at : ℕ) → eqb (get_or bs at 0) 2 ≡ true → evolution_fault bs at ≡ 0 → Evolution bs at (values_in bs at)
unfolding evolution_fault
evolution-there bs at t e =
    let p = pass (not (leb (at + 3 + number_at bs (at + 1) 2) (length bs))) 1 _ (omega arith) (rw t at e) in
    let q = pass (not (eqb (number_at bs (at + 1) 2 % 2) 0)) 1 _ (omega arith) p.rest in
    let r = pass (not (within 1 16 (values_in bs at))) 2 _ (omega arith) q.rest in
    let w : at + 3 + number_at bs (at + 1) 2 ≤ length bs = leb-true _ _ (not-false _ p.rung) in
    let even : number_at bs (at + 1) 2 % 2 ≡ 0 = eqb-true _ 0 (not-false _ q.rung) in
    let few : within 1 16 (values_in bs at) ≡ true = not-false _ r.rung in
    let half = values-there bs at t in
    let size : number_at bs (at + 1) 2 ≡ 2 * values_in bs at = omega arith in
    there {k = values_in bs at} (eqb-true _ 2 t) size (at_least 1 16 _ few) (at_most 1 16 _ few) (omega arith)
    (last (bounded (values_at bs (at + 3) (values_in bs at))) 2 (omega arith) r.rest)

pub evolution-free : (bs : List ℕ) (at : ℕ) → evolution_fault bs at ≡ 0 → Evolution bs at (values_in bs at)
evolution-free bs at e = go (eqb (get_or bs at 0) 2) refl
  where
    go : (b : Bool) → eqb (get_or bs at 0) 2 ≡ b → Evolution bs at (values_in bs at)
    go true t = evolution-there bs at t e
    go false t = values-absent bs at t

module _ {bs : List ℕ} {at : ℕ} where
  pub evolution-few : {k : ℕ} → Evolution bs at k → k ≤ 16
  evolution-few (absent n) = omega arith
  evolution-few (there t n z f w b) = f

  pub evolution-bounded : {k : ℕ} → Evolution bs at k → bounded (values_at bs (at + 3) k) ≡ true
  unfolding values_at run_of bounded
  evolution-bounded (absent n) = refl
  evolution-bounded (there t n z f w b) = b

  pub evolution-reach : {k : ℕ} → Evolution bs at k → at ≤ length bs → at + span_of k ≤ length bs + 19
  unfolding span_of
  evolution-reach (absent n) h = omega arith
  evolution-reach {k} (there t n z f w b) h = let e : k ≡ 0 → ⊥ = λ y. absurd (omega arith) in rw (ne_eqb k 0 e) (omega arith)

-- 3. Taking a grid ----------------------------------------------------------------------------------

module _ {axes most : ℕ} (few : axes ≤ 8) (small : most ≤ 1024) where
  pub area : axes * most ≤ 8192
  area = mul-le-mul few small

  pub reals-area : axes * (6 * most + 1) ≤ 49160
  reals-area = let h : 6 * most + 1 ≤ 6145 = omega arith in mul-le-mul few h

  pub counts-area : axes * (3 * most + 2) ≤ 24592
  counts-area = let h : 3 * most + 2 ≤ 3074 = omega arith in mul-le-mul few h

pub axes-fit : {y : Tally} → Roomy y → (a : AxesPlan) → axes_fault a y.left ≡ 0 → a.most ≤ 1024 → a.values ≤ 16 → AxesFit a y
axes-fit {y} r a e m v =
    let o = axes-free a y.left e in
    record { some = o.some; room = r; axes = at_most 1 8 a.axes o.axes; most = m; values = v }

pub bins-fit : {y : Tally} → Roomy y → (b : BinsPlan) (l : ℕ) → bins_fault b y.left l ≡ 0 → BinsFit b y
bins-fit {y} r b l e =
    let o = bins-free b y.left l e in
    record { some = o.some; room = r; bins = at_most 1 256 b.bins o.bins }

-- 4. A fault and where it stands ----------------------------------------------------------------------

above : (r : Refusal) → eqb (number_of r) 0 ≡ false
above r = ne_eqb (number_of r) 0 (λ z. absurd (omega (arith, z, number-above r)))

-- `map_err` gives a fault its offset, and leaves what has none
pub faulted : (P : Refusal → Misread → Type 0) (r : Result (Unit {0}) Refusal) {q : Result (Unit {0}) Misread} (at : ℕ) {m : Misread}
    → MatchResult r (λ x. q ≡ Ok x) (λ e. IsErrAnd q (P e)) → q ≡ Err m → ((e : Refusal) → P e m → m ≡ record { why = e; at = at }) → {A : Type 0} (x : Judged A)
    → Stop (number_of m.why) m.at ≡ cond (not (eqb (fault_of r) 0)) (Stop (fault_of r) at) x
faulted P (Ok y) at h e f x = absurd (let k : ◌≡◌ {A = Result (Unit {0}) Misread} (Ok y) (Err _) = sym h ∙ e in cc)
faulted P (Err w) at h e f x = rw (f w (rw e at h), above w)

pub faultless : (P : Refusal → Misread → Type 0) (r : Result (Unit {0}) Refusal) {q : Result (Unit {0}) Misread} {u : Unit {0}}
    → MatchResult r (λ x. q ≡ Ok x) (λ e. IsErrAnd q (P e)) → q ≡ Ok u → fault_of r ≡ 0
faultless P (Ok x) h e = refl
faultless P (Err w) h e = absurd (rw e at h)

-- `ok` is nothing where a fault stands
pub some-fault : (r : Result (Unit {0}) Refusal) → None ≡ result_ok r → eqb (fault_of r) 0 ≡ false
some-fault (Ok x) e = absurd (let k : ◌≡◌ {A = Option (Unit {0})} None (Some x) = e in cc)
some-fault (Err w) e = above w

pub no-fault : (r : Result (Unit {0}) Refusal) {u : Unit {0}} → Some u ≡ result_ok r → fault_of r ≡ 0
no-fault (Ok x) e = refl
no-fault (Err w) {u} e = absurd (let k : ◌≡◌ {A = Option (Unit {0})} (Some u) None = e in cc)
