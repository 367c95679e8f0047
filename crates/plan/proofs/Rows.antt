-- What a record shows of the words where it stands.
use mathlib.Core.Path.{◌≡◌, refl, sym, ap}
use mathlib.Core.Bool.{Bool, true, false, not, cond}
use mathlib.Core.List.{List}
use Prim.Native.Nat.{ℕ, ◌+◌, ◌≤◌, ◌<◌}
use native.Mathlib.Omega.{arith}
use lib.Dec.{leb, ltb, eqb}
use lib.ListN.{get_or}
use borrow.Author.Tests.{not-false, leb-true, ltb-true, eqb-true, eq-eqb, ne_eqb}
use Rattle.plan.specs.declared.Place.{Place}
use Rattle.plan.specs.declared.Tally.{Tally}
use Rattle.plan.specs.declared.AxesPlan.{AxesPlan}
use Rattle.plan.specs.declared.BinsPlan.{BinsPlan}
use Rattle.plan.specs.declared.BinPlan.{BinPlan}
use Rattle.plan.specs.declared.Child.TheVariants as child
use Rattle.plan.specs.Judged.{Field, Step, Stop, Found}
use Rattle.plan.specs.Numbers.{words_at}
use Rattle.plan.specs.Ranges.{bounded, most_of}
use Rattle.plan.specs.Plan.{Tree, nothing}
use Rattle.plan.specs.Fields.{axes_fault, bins_fault}
use Rattle.plan.specs.Needs.{axes_taken, bins_taken}
use Rattle.plan.specs.Reading.{Out, tree_of, step_of}
use Rattle.plan.specs.Walk.{axes_row, bins_row, placed, evolved, axes_at_word, bins_at_word, row_of, child_of, from_table}
use Rattle.plan.specs.Bounds.{Roomy, AxesFit}
use Rattle.plan.proofs.Flags.{and_left, and_right, at_most}
use Rattle.plan.proofs.Ranges.{most-within}
use Rattle.plan.proofs.Faults.{axes-free, axes-fit, bins-free, bins-fit}
use Rattle.plan.proofs.Trees.{roomy-axes, roomy-bins}
use Rattle.plan.proofs.Here.{found, as-found, pick, hangs, past, stop-found, other-child, axes-nothing}
use Rattle.plan.proofs.Readings.{Kept, kept, stops-reads}
use Rattle.plan.proofs.Steps.{some}

-- 1. A record -------------------------------------------------------------------------------------------

-- what the words of an axes grid's record show of its 01 and its 02
pub record Evolved (xs : List ℕ) (w : ℕ) (a : AxesPlan) : Type 0 where
  pub least : a.least < 0x1_0000_0000
  pub few : a.values ≤ 16
  pub inbounds : bounded (words_at xs (w + 11) a.values) ≡ true
  pub most : a.most ≡ most_of a.bins (words_at xs (w + 11) a.values)

pub evolved-shows : (xs : List ℕ) (w : ℕ) (a : AxesPlan) → evolved xs w a ≡ true → Evolved xs w a
unfolding evolved
evolved-shows xs w a e =
    let r = and_right (ltb a.least 0x1_0000_0000) _ e in
    let s = and_right (leb a.values 16) _ r in
    record {
      least = ltb-true _ _ (and_left (ltb a.least 0x1_0000_0000) _ e);
      few = leb-true _ _ (and_left (leb a.values 16) _ r);
      inbounds = and_left (bounded (words_at xs (w + 11) a.values)) _ s;
      most = eqb-true _ _ (and_right (bounded (words_at xs (w + 11) a.values)) _ s);
    }

pub evolved-fit : (xs : List ℕ) {a : AxesPlan} {y : Tally} → Roomy y → axes_fault a y.left ≡ 0 → evolved xs y.words a ≡ true → AxesFit a y
evolved-fit xs {a} {y} r f e =
    let v = evolved-shows xs y.words a e in
    let o = axes-free a y.left f in
    axes-fit r a f (rw v.most (most-within a.bins _ (at_most 1 1024 a.bins o.bins) v.inbounds)) v.few

-- the words that the plan does not choose
pub record Placed (xs : List ℕ) (l : ℕ) (y : Tally) (k : ℕ) : Type 0 where
  pub level : get_or xs (y.words + 1) 0 ≡ l
  pub reals : get_or xs (y.words + k) 0 ≡ y.reals
  pub counts : get_or xs (y.words + (k + 1)) 0 ≡ y.counts

pub placed-shows : (xs : List ℕ) (l : ℕ) (y : Tally) (k : ℕ) → placed xs l y k ≡ true → Placed xs l y k
unfolding placed
placed-shows xs l y k e =
    let r = and_right (eqb (get_or xs (y.words + 1) 0) l) _ e in
    record {
      level = eqb-true _ l (and_left (eqb (get_or xs (y.words + 1) 0) l) _ e);
      reals = eqb-true _ _ (and_left (eqb (get_or xs (y.words + k) 0) y.reals) _ r);
      counts = eqb-true _ _ (and_right (eqb (get_or xs (y.words + k) 0) y.reals) _ r);
    }

pub record AxesAt (xs : List ℕ) (l : ℕ) (p : Place) : Type 0 where
  pub kind : get_or xs p.tally.words 0 ≡ 1
  pub place : placed xs l p.tally 9 ≡ true
  pub free : axes_fault (axes_row xs p.tally.words) p.tally.left ≡ 0
  pub evolution : evolved xs p.tally.words (axes_row xs p.tally.words) ≡ true

pub record BinsAt (xs : List ℕ) (l : ℕ) (p : Place) : Type 0 where
  pub kind : get_or xs p.tally.words 0 ≡ 2
  pub place : placed xs l p.tally 5 ≡ true
  pub free : bins_fault (bins_row xs p.tally.words) p.tally.left l ≡ 0

-- every record is one of these
pub data Row (xs : List ℕ) (l : ℕ) (p : Place) : Field → Type 0 where
  stop : (n at : ℕ) → Row xs l p (Stop n at)
  axes : AxesAt xs l p → Row xs l p (found (child.Axes (axes_row xs p.tally.words)) p.at (axes_taken (axes_row xs p.tally.words) p.tally))
  bins : BinsAt xs l p → Row xs l p (found (child.Bins (bins_row xs p.tally.words)) p.at (bins_taken (bins_row xs p.tally.words) p.tally))

module _ (xs : List ℕ) (l : ℕ) (p : Place) where
  axes-in : get_or xs p.tally.words 0 ≡ 1 → Row xs l p (axes_at_word xs l p)
  unfolding axes_at_word
  axes-in t =
      pick (Row xs l p) (not (placed xs l p.tally 9)) (λ u. stop 12 0)
      (λ u. pick (Row xs l p) (not (eqb (axes_fault (axes_row xs p.tally.words) p.tally.left) 0)) (λ v. stop 12 0)
      (λ v. pick (Row xs l p) (evolved xs p.tally.words (axes_row xs p.tally.words))
      (λ w. axes (record { kind = t; place = not-false _ u; free = eqb-true _ 0 (not-false _ v); evolution = w })) (λ w. stop 12 0)))

  bins-in : get_or xs p.tally.words 0 ≡ 2 → Row xs l p (bins_at_word xs l p)
  unfolding bins_at_word
  bins-in t =
      pick (Row xs l p) (not (placed xs l p.tally 5)) (λ u. stop 12 0)
      (λ u. pick (Row xs l p) (eqb (bins_fault (bins_row xs p.tally.words) p.tally.left l) 0)
      (λ v. bins (record { kind = t; place = not-false _ u; free = eqb-true _ 0 v })) (λ v. stop 12 0))

  pub row : Row xs l p (row_of xs l p)
  unfolding row_of
  row =
      pick (Row xs l p) (eqb (get_or xs p.tally.words 0) 1) (λ u. axes-in (eqb-true _ 1 u))
      (λ u. pick (Row xs l p) (eqb (get_or xs p.tally.words 0) 2) (λ v. bins-in (eqb-true _ 2 v)) (λ v. stop 12 0))

pub record BinsMet (xs : List ℕ) (l : ℕ) (p : Place) (b : BinsPlan) (q : Place) : Type 0 where
  pub at : BinsAt xs l p
  pub numbers : b ≡ bins_row xs p.tally.words
  pub past : q ≡ record { at = p.at; tally = bins_taken (bins_row xs p.tally.words) p.tally }

pub record AxesMet (xs : List ℕ) (l : ℕ) (p : Place) (a : AxesPlan) (q : Place) : Type 0 where
  pub at : AxesAt xs l p
  pub numbers : a ≡ axes_row xs p.tally.words
  pub past : q ≡ record { at = p.at; tally = axes_taken (axes_row xs p.tally.words) p.tally }

module _ {xs : List ℕ} {l : ℕ} {p : Place} where
  bins-of : {F : Field} (b : BinsPlan) (q : Place) → Row xs l p F → F ≡ Found (record { child = child.Bins b; past = q }) → BinsMet xs l p b q
  bins-of b q (stop n at) e = stop-found e
  bins-of b q (axes h) e = (other-child _ b (ap hangs e)).1 _ refl
  bins-of b q (bins h) e = let n : child.Bins (bins_row xs p.tally.words) ≡ child.Bins b = ap hangs e in record { at = h; numbers = cc; past = sym (ap (past p) e) }

  axes-of : {F : Field} (a : AxesPlan) (q : Place) → Row xs l p F → F ≡ Found (record { child = child.Axes a; past = q }) → AxesMet xs l p a q
  axes-of a q (stop n at) e = stop-found e
  axes-of a q (axes h) e = let n : child.Axes (axes_row xs p.tally.words) ≡ child.Axes a = ap hangs e in record { at = h; numbers = cc; past = sym (ap (past p) e) }
  axes-of a q (bins h) e = (other-child _ (bins_row xs p.tally.words) refl).1 a (ap hangs e)

  nothing-of : {P : Type 0} {F : Field} (q : Place) → Row xs l p F → F ≡ Found (record { child = child.Nothing; past = q }) → P
  nothing-of q (stop n at) e = stop-found e
  nothing-of q (axes h) e = axes-nothing _ (ap hangs e)
  nothing-of q (bins h) e = (other-child _ (bins_row xs p.tally.words) refl).0 (ap hangs e)

module _ (xs : List ℕ) (l : ℕ) (p : Place) where
  pub bins-met : (b : BinsPlan) (q : Place) → row_of xs l p ≡ Found (record { child = child.Bins b; past = q }) → BinsMet xs l p b q
  bins-met b q e = bins-of b q (row xs l p) e

  pub axes-met : (a : AxesPlan) (q : Place) → row_of xs l p ≡ Found (record { child = child.Axes a; past = q }) → AxesMet xs l p a q
  axes-met a q e = axes-of a q (row xs l p) e

  pub nothing-met : {P : Type 0} (q : Place) → row_of xs l p ≡ Found (record { child = child.Nothing; past = q }) → P
  nothing-met q e = nothing-of q (row xs l p) e

-- 2. The place past it ------------------------------------------------------------------------------------

past-in : {xs : List ℕ} {l : ℕ} {p : Place} → Roomy p.tally → {F : Field} (x : BinPlan) → Row xs l p F → F ≡ Found x → Roomy x.past.tally
past-in r x (stop n at) e = stop-found e
past-in {xs} {l} {p} r x (axes h) e = rw (sym (ap (past p) e)) (roomy-axes _ _ (evolved-fit xs r h.free h.evolution))
past-in {xs} {l} {p} r x (bins h) e = rw (sym (ap (past p) e)) (roomy-bins _ _ (bins-fit r _ l h.free))

pub past-roomy : (xs : List ℕ) (l : ℕ) (p : Place) → Roomy p.tally → (x : BinPlan) → Found x ≡ row_of xs l p → Roomy x.past.tally
past-roomy xs l p r x e = past-in r x (row xs l p) (sym e)

pub deep-row : (xs : List ℕ) (l : ℕ) (p : Place) {x : BinPlan} {b : BinsPlan} → Found x ≡ row_of xs l p → x.child ≡ child.Bins b → 0 < l
deep-row xs l p {x} {b} e h = (bins-free _ p.tally.left l (bins-met xs l p b x.past (as-found e h)).at.free).level

pub links-before : (xs : List ℕ) (l : ℕ) (p : Place) {x : BinPlan} {b : BinsPlan} → Found x ≡ row_of xs l p → x.child ≡ child.Bins b → b.bins ≤ x.past.tally.words
unfolding bins_taken
links-before xs l p {x} {b} e h =
    let k = bins-met xs l p b x.past (as-found e h) in
    let w : x.past.tally.words ≡ p.tally.words + (7 + (bins_row xs p.tally.words).bins) = ap (λ (q : Place). q.tally.words) k.past in
    let n = ap (λ (c : BinsPlan). c.bins) k.numbers in
    omega arith

-- 3. A child by its link ----------------------------------------------------------------------------------

module _ (xs : List ℕ) (f : Place → Out) (s : ℕ) (p : Place) where
  pub child-none : get_or xs s 0 ≡ 0 → Found p ≡ step_of (child_of xs f s p)
  unfolding child_of
  child-none e = rw e

  pub child-astray : (get_or xs s 0 ≡ 0 → ⊥) → (get_or xs s 0 ≡ p.tally.words → ⊥) → Stop 12 0 ≡ step_of (child_of xs f s p)
  unfolding child_of
  child-astray z n = rw (ne_eqb (get_or xs s 0) 0 z, ne_eqb (get_or xs s 0) p.tally.words n)

  pub child-there : {r : Step} → (get_or xs s 0 ≡ 0 → ⊥) → get_or xs s 0 ≡ p.tally.words → r ≡ step_of (f p) → r ≡ step_of (child_of xs f s p)
  unfolding child_of
  child-there z n e = rw (ne_eqb (get_or xs s 0) 0 z, eq-eqb (get_or xs s 0) p.tally.words n) e

-- taken apart
pub child-case : (xs : List ℕ) (f : Place → Out) (s : ℕ) (p : Place) (t : Tree) (q : Place) {P : Type 0} → child_of xs f s p ≡ Out.reads t q
    → (get_or xs s 0 ≡ 0 → t ≡ nothing → q ≡ p → P) → (get_or xs s 0 ≡ p.tally.words → f p ≡ Out.reads t q → P) → P
unfolding child_of
child-case xs f s p t q {P} e a b = go (eqb (get_or xs s 0) 0) (eqb (get_or xs s 0) p.tally.words) refl refl e
  where
    go : (x y : Bool) → eqb (get_or xs s 0) 0 ≡ x → eqb (get_or xs s 0) p.tally.words ≡ y → cond x (Out.reads nothing p) (cond y (f p) (Out.stops 12 0)) ≡ Out.reads t q → P
    go true y u v e = a (eqb-true _ 0 u) (cc) (cc)
    go false true u v e = b (eqb-true _ _ v) e
    go false false u v e = stops-reads e

-- 4. What the walk leaves has room --------------------------------------------------------------------------

roomies : (xs : List ℕ) → Kept (from_table xs) (λ l p t q. Roomy p.tally → Roomy q.tally) (λ l s p t q. Roomy p.tally → Roomy q.tally) (λ l s n p ts q. Roomy p.tally → Roomy q.tally)
roomies xs = record {
  empty = λ l p q e. nothing-met xs l p q e;
  leaf = λ l p a q e r. past-roomy xs l p r (record { child = child.Axes a; past = q }) (sym e);
  inner = λ l p b s ts q e k r. k (past-roomy xs l p r (record { child = child.Bins b; past = s }) (sym e));
  hangs = λ l s p t q k e r. child-case xs (tree_of (from_table xs) l) s p t q e (λ u v w. rw w r) (λ u v. k p t q v r);
  end = λ l s p r. r;
  next = λ l s n p t u ts q c k r. k (c r);
}

pub known-roomy : (xs : List ℕ) (l : ℕ) (s : ℕ) (p q : Place) → Roomy p.tally → Found q ≡ step_of (child_of xs (tree_of (from_table xs) l) s p) → Roomy q.tally
known-roomy xs l s p q r e =
    let o = some (child_of xs (tree_of (from_table xs) l) s p) q e in
    child-case xs (tree_of (from_table xs) l) s p o.tree q o.read (λ u v w. rw w r) (λ u v. kept (roomies xs) l p o.tree q v r)
