-- What a field shows of the bytes where it stands.
use mathlib.Core.Path.{◌≡◌, refl, sym, ap, ◌∙◌}
use mathlib.Core.Bool.{Bool, true, false, not, cond}
use mathlib.Core.List.{List}
use Prim.Native.Nat.{ℕ, ◌+◌, ◌≤◌, ◌<◌}
use native.Mathlib.Omega.{arith}
use lib.Dec.{leb, eqb}
use lib.ListN.{length, get_or}
use borrow.Author.Tests.{not-false, leb-true, eqb-true}
use Rattle.plan.specs.declared.Place.{Place}
use Rattle.plan.specs.declared.Tally.{Tally}
use Rattle.plan.specs.declared.AxesPlan.{AxesPlan}
use Rattle.plan.specs.declared.BinsPlan.{BinsPlan}
use Rattle.plan.specs.declared.BinPlan.{BinPlan}
use Rattle.plan.specs.declared.Child.{Child}
use Rattle.plan.specs.declared.Child.TheVariants as child
use Rattle.plan.specs.Judged.{Field, Stop, Found}
use Rattle.plan.specs.Numbers.{number_at, values_at}
use Rattle.plan.specs.Ranges.{bounded, most_of}
use Rattle.plan.specs.Fields.{formed, span_of, evolution_fault, axes_at, bins_at, axes_fault, bins_fault, axes_field, bins_field, nothing_field, field_of}
use Rattle.plan.specs.Needs.{axes_taken, bins_taken}
use Rattle.plan.specs.Bounds.{Roomy, Inside, AxesFit}
use Rattle.plan.proofs.Flags.{and_left, and_right, at_most}
use Rattle.plan.proofs.Ranges.{most-within, scan-most}
use Rattle.plan.proofs.Faults.{Evolution, evolution-free, evolution-few, evolution-bounded, evolution-reach, axes-free, axes-fit, bins-free, bins-fit}
use Rattle.plan.proofs.Trees.{roomy-axes, roomy-bins}

-- a field that was found
abbrev pub found : Child → ℕ → Tally → Field
found x at y = Found (record { child = x; past = record { at = at; tally = y } })

-- a bin's record, with what it holds
pub as-found : {F : Field} {x : BinPlan} {k : Child} → Found x ≡ F → x.child ≡ k → F ≡ Found (record { child = k; past = x.past })
as-found {F} {x} e h = sym e ∙ ap (λ (c : Child). Found (record { child = c; past = x.past })) h

pub record NothingHere (bs : List ℕ) (p : Place) : Type 0 where
  pub tag : get_or bs p.at 0 ≡ 4
  pub form : formed bs p.at 0 ≡ true

pub record AxesHere (bs : List ℕ) (p : Place) : Type 0 where
  pub form : formed bs p.at 16 ≡ true
  pub free : axes_fault (axes_at bs p.at) p.tally.left ≡ 0
  pub evolution : evolution_fault bs (p.at + 19) ≡ 0

pub record BinsHere (bs : List ℕ) (l : ℕ) (p : Place) : Type 0 where
  pub tag : get_or bs p.at 0 ≡ 3
  pub form : formed bs p.at 11 ≡ true
  pub free : bins_fault (bins_at bs p.at) p.tally.left l ≡ 0

-- every field is one of these
pub data Here (bs : List ℕ) (l : ℕ) (p : Place) : Field → Type 0 where
  stop : (n at : ℕ) → Here bs l p (Stop n at)
  nothing : NothingHere bs p → Here bs l p (found child.Nothing (p.at + 3) p.tally)
  axes : get_or bs p.at 0 ≡ 1 → AxesHere bs p → Here bs l p (found (child.Axes (axes_at bs p.at)) (p.at + span_of (axes_at bs p.at).values) (axes_taken (axes_at bs p.at) p.tally))
  bins : BinsHere bs l p → Here bs l p (found (child.Bins (bins_at bs p.at)) (p.at + 14) (bins_taken (bins_at bs p.at) p.tally))

pub pick : {A : Type 0} (P : A → Type 0) (b : Bool) {x y : A} → (b ≡ true → P x) → (b ≡ false → P y) → P (cond b x y)
pick P true f g = f refl
pick P false f g = g refl

module _ (bs : List ℕ) (l : ℕ) (p : Place) where
  axes-in : get_or bs p.at 0 ≡ 1 → Here bs l p (axes_field bs p)
  unfolding axes_field
  axes-in t =
      pick (Here bs l p) (not (formed bs p.at 16)) (λ u. stop 1 p.at)
      (λ u. pick (Here bs l p) (not (eqb (axes_fault (axes_at bs p.at) p.tally.left) 0)) (λ v. stop _ _)
      (λ v. pick (Here bs l p) (not (eqb (evolution_fault bs (p.at + 19)) 0)) (λ w. stop _ _)
      (λ w. axes t (record { form = not-false _ u; free = eqb-true _ 0 (not-false _ v); evolution = eqb-true _ 0 (not-false _ w) }))))

  bins-in : get_or bs p.at 0 ≡ 3 → Here bs l p (bins_field bs l p)
  unfolding bins_field
  bins-in t =
      pick (Here bs l p) (not (formed bs p.at 11)) (λ u. stop 1 p.at)
      (λ u. pick (Here bs l p) (not (eqb (bins_fault (bins_at bs p.at) p.tally.left l) 0)) (λ v. stop _ _)
      (λ v. bins (record { tag = t; form = not-false _ u; free = eqb-true _ 0 (not-false _ v) })))

  nothing-in : get_or bs p.at 0 ≡ 4 → Here bs l p (nothing_field bs p)
  unfolding nothing_field
  nothing-in t = pick (Here bs l p) (formed bs p.at 0) (λ u. nothing (record { tag = t; form = u })) (λ u. stop 1 p.at)

  pub here : Here bs l p (field_of bs l p)
  unfolding field_of
  here =
      pick (Here bs l p) (eqb (get_or bs p.at 0) 1) (λ u. axes-in (eqb-true _ 1 u))
      (λ u. pick (Here bs l p) (eqb (get_or bs p.at 0) 3) (λ v. bins-in (eqb-true _ 3 v))
      (λ v. pick (Here bs l p) (eqb (get_or bs p.at 0) 4) (λ w. nothing-in (eqb-true _ 4 w)) (λ w. stop 1 p.at)))

-- a well formed field lies within the bytes, and its length stands there
pub whole : (bs : List ℕ) (at n : ℕ) → formed bs at n ≡ true → at + 3 + n ≤ length bs
unfolding formed
whole bs at n e = leb-true _ _ (and_right (eqb (number_at bs (at + 1) 2) n) (leb (at + 3 + n) (length bs)) e)

pub length-here : (bs : List ℕ) (at n : ℕ) → formed bs at n ≡ true → number_at bs (at + 1) 2 ≡ n
unfolding formed
length-here bs at n e = eqb-true _ n (and_left (eqb (number_at bs (at + 1) 2) n) (leb (at + 3 + n) (length bs)) e)

-- what a field that was found shows
abbrev pub hangs : Field → Child
hangs (Stop n at) = child.Nothing
hangs (Found x) = x.child

abbrev pub past : Place → Field → Place
past p (Stop n at) = p
past p (Found x) = x.past

pub record BinsFound (bs : List ℕ) (l : ℕ) (p : Place) (b : BinsPlan) (q : Place) : Type 0 where
  pub at : BinsHere bs l p
  pub numbers : b ≡ bins_at bs p.at
  pub past : q ≡ record { at = p.at + 14; tally = bins_taken (bins_at bs p.at) p.tally }

pub record AxesFound (bs : List ℕ) (p : Place) (a : AxesPlan) (q : Place) : Type 0 where
  pub tag : get_or bs p.at 0 ≡ 1
  pub at : AxesHere bs p
  pub numbers : a ≡ axes_at bs p.at
  pub past : q ≡ record { at = p.at + span_of (axes_at bs p.at).values; tally = axes_taken (axes_at bs p.at) p.tally }

pub record NothingFound (bs : List ℕ) (p : Place) (q : Place) : Type 0 where
  pub at : NothingHere bs p
  pub past : q ≡ record { at = p.at + 3; tally = p.tally }

pub stop-found : {P : Type 0} {n at : ℕ} {x : BinPlan} → Stop n at ≡ Found x → P
stop-found e = let z : ◌≡◌ {A = ℕ} 0 1 = cc in absurd (omega arith)

pub other-child : {P : Type 0} (x : Child) (b : BinsPlan) → x ≡ child.Bins b → (x ≡ child.Nothing → P) × ((a : AxesPlan) → x ≡ child.Axes a → P)
other-child x b e =
    ((λ h. let z : ◌≡◌ {A = ℕ} 0 1 = cc in absurd (omega arith)), (λ a h. let z : ◌≡◌ {A = ℕ} 0 1 = cc in absurd (omega arith)))

pub axes-nothing : {P : Type 0} (a : AxesPlan) → child.Axes a ≡ child.Nothing → P
axes-nothing a e = let z : ◌≡◌ {A = ℕ} 0 1 = cc in absurd (omega arith)

module _ {bs : List ℕ} {l : ℕ} {p : Place} where
  bins-of : {F : Field} (b : BinsPlan) (q : Place) → Here bs l p F → F ≡ Found (record { child = child.Bins b; past = q }) → BinsFound bs l p b q
  bins-of b q (stop n at) e = stop-found e
  bins-of b q (nothing h) e = (other-child child.Nothing b (ap hangs e)).0 refl
  bins-of b q (axes t h) e = (other-child _ b (ap hangs e)).1 _ refl
  bins-of b q (bins h) e = let n : child.Bins (bins_at bs p.at) ≡ child.Bins b = ap hangs e in record { at = h; numbers = cc; past = sym (ap (past p) e) }

  axes-of : {F : Field} (a : AxesPlan) (q : Place) → Here bs l p F → F ≡ Found (record { child = child.Axes a; past = q }) → AxesFound bs p a q
  axes-of a q (stop n at) e = stop-found e
  axes-of a q (nothing h) e = axes-nothing a (sym (ap hangs e))
  axes-of a q (axes t h) e = let n : child.Axes (axes_at bs p.at) ≡ child.Axes a = ap hangs e in record { tag = t; at = h; numbers = cc; past = sym (ap (past p) e) }
  axes-of a q (bins h) e = (other-child _ (bins_at bs p.at) refl).1 a (ap hangs e)

  nothing-of : {F : Field} (q : Place) → Here bs l p F → F ≡ Found (record { child = child.Nothing; past = q }) → NothingFound bs p q
  nothing-of q (stop n at) e = stop-found e
  nothing-of q (nothing h) e = record { at = h; past = sym (ap (past p) e) }
  nothing-of q (axes t h) e = axes-nothing _ (ap hangs e)
  nothing-of q (bins h) e = (other-child _ (bins_at bs p.at) refl).0 (ap hangs e)

module _ (bs : List ℕ) (l : ℕ) (p : Place) where
  pub bins-found : (b : BinsPlan) (q : Place) → field_of bs l p ≡ Found (record { child = child.Bins b; past = q }) → BinsFound bs l p b q
  bins-found b q e = bins-of b q (here bs l p) e

  pub axes-found : (a : AxesPlan) (q : Place) → field_of bs l p ≡ Found (record { child = child.Axes a; past = q }) → AxesFound bs p a q
  axes-found a q e = axes-of a q (here bs l p) e

  pub nothing-found : (q : Place) → field_of bs l p ≡ Found (record { child = child.Nothing; past = q }) → NothingFound bs p q
  nothing-found q e = nothing-of q (here bs l p) e

-- the place past a field lies within the bytes, and has room for the rest
pub here-evolved : {bs : List ℕ} {p : Place} → AxesHere bs p → Evolution bs (p.at + 19) (axes_at bs p.at).values
unfolding axes_at
here-evolved {bs} {p} h = evolution-free bs (p.at + 19) h.evolution

pub here-bounded : {bs : List ℕ} {p : Place} → AxesHere bs p → bounded (values_at bs (p.at + 22) (axes_at bs p.at).values) ≡ true
here-bounded {bs} {p} h =
    let e : p.at + 19 + 3 ≡ p.at + 22 = omega arith in
    rw e at (evolution-bounded (here-evolved h))

pub here-most : {bs : List ℕ} {p : Place} → AxesHere bs p → (axes_at bs p.at).most ≡ most_of (axes_at bs p.at).bins (values_at bs (p.at + 22) (axes_at bs p.at).values)
unfolding axes_at
here-most {bs} {p} h = scan-most _ _ (here-bounded h)

pub here-fit : {bs : List ℕ} {p : Place} → Roomy p.tally → AxesHere bs p → AxesFit (axes_at bs p.at) p.tally
here-fit {bs} {p} r h =
    let o = axes-free (axes_at bs p.at) p.tally.left h.free in
    axes-fit r (axes_at bs p.at) h.free (rw (here-most h) (most-within _ _ (at_most 1 1024 _ o.bins) (here-bounded h))) (evolution-few (here-evolved h))

pub here-reach : {bs : List ℕ} {p : Place} → AxesHere bs p → p.at + span_of (axes_at bs p.at).values ≤ length bs
here-reach {bs} {p} h =
    let w : p.at + 19 ≤ length bs = omega (arith, whole bs p.at 16 h.form) in
    omega (arith, evolution-reach (here-evolved h) w)

-- the same as the code meets it, which has read the numbers and their faults by then
pub read_here : {bs : List ℕ} {p : Place} {a : AxesPlan} {f g : ℕ} → formed bs p.at 16 ≡ true → a ≡ axes_at bs p.at → f ≡ axes_fault a p.tally.left → f ≡ 0
    → g ≡ evolution_fault bs (p.at + 19) → g ≡ 0 → AxesHere bs p
read_here {bs} {p} form e m z n y = record { form = form; free = ap (λ (x : AxesPlan). axes_fault x p.tally.left) (sym e) ∙ sym m ∙ z; evolution = sym n ∙ y }

past-in : {bs : List ℕ} {l : ℕ} {p : Place} → Inside bs p → {F : Field} (x : BinPlan) → Here bs l p F → F ≡ Found x → Inside bs x.past
past-in i x (stop n at) e = stop-found e
past-in {bs} {l} {p} i x (nothing h) e = rw (sym (ap (past p) e)) record { small = i.small; reach = omega (arith, whole bs p.at 0 h.form); roomy = i.roomy }
past-in {bs} {l} {p} i x (axes t h) e = rw (sym (ap (past p) e)) record { small = i.small; reach = here-reach h; roomy = roomy-axes _ _ (here-fit i.roomy h) }
past-in {bs} {l} {p} i x (bins h) e =
    rw (sym (ap (past p) e)) record { small = i.small; reach = omega (arith, whole bs p.at 11 h.form); roomy = roomy-bins _ _ (bins-fit i.roomy _ l h.free) }

pub past-inside : {bs : List ℕ} (l : ℕ) {p : Place} → Inside bs p → (x : BinPlan) → Found x ≡ field_of bs l p → Inside bs x.past
past-inside {bs} l {p} i x e = past-in i x (here bs l p) (sym e)

-- a bins grid has a level to spare
pub deep : (bs : List ℕ) (l : ℕ) (p : Place) {x : BinPlan} {b : BinsPlan} → Found x ≡ field_of bs l p → x.child ≡ child.Bins b → 0 < l
deep bs l p {x} {b} e h =
    let k = bins-found bs l p b x.past (as-found e h) in
    (bins-free (bins_at bs p.at) p.tally.left l k.at.free).level
