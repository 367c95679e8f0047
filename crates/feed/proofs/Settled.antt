-- Reading a plan off bytes with others behind them: what was settled stays. A refusal other than 1 is settled, and so is a plan with
-- something behind it.
use Rattle.std.proofs.Common.{◌≡◌, ℕ, zero, suc, ◌+◌, ◌*◌, ◌/◌, ◌<◌, ◌≤◌, Bool, true, false, cond, not, eqb, ltb, leb, List, ◌∷◌, ◌++◌, length, get_or, sym, refl, ap, ◌∙◌, subst, arith, length-append, ltb-false, ltb-true, eq-eqb, eqb-true, le-leb, leb-true}
use borrow.Author.Tests.{eqb-false}
use lib.ListN.{get_or-append, get_or-eq_default}
use Rattle.plan.specs.declared.Place.{Place}
use Rattle.plan.specs.declared.AxesPlan.{AxesPlan}
use Rattle.plan.specs.declared.Child.TheVariants as child
use Rattle.plan.specs.Judged.{Field}
use Rattle.plan.specs.Judged as field
use Rattle.plan.specs.Numbers.{number_at, run_of, values_at}
use Rattle.plan.specs.Needs.{axes_taken}
use Rattle.plan.specs.Fields.{formed, values_in, evolution_fault, span_of, axes_at, axes_fault, axes_field, bins_at, bins_field, nothing_field, field_of}
use Rattle.plan.proofs.Here.{whole, length-here}
use Rattle.feed.proofs.Joined.{number-front}

there : (bs : List ℕ) (at : ℕ) → eqb (get_or bs at 0) 2 ≡ true → values_in bs at ≡ number_at bs (at + 1) 2 / 2
unfolding values_in
there bs at e = rw e

absent : (bs : List ℕ) (at : ℕ) → eqb (get_or bs at 0) 2 ≡ false → values_in bs at ≡ 0
unfolding values_in
absent bs at e = rw e

cut : (bs : List ℕ) (at : ℕ) → eqb (get_or bs at 0) 2 ≡ true → leb (at + 3 + number_at bs (at + 1) 2) (length bs) ≡ false → evolution_fault bs at ≡ 1
unfolding evolution_fault
cut bs at e l = rw (e, l)

none : (bs : List ℕ) (at : ℕ) → eqb (get_or bs at 0) 2 ≡ false → evolution_fault bs at ≡ 0
unfolding evolution_fault
none bs at e = rw e

-- the field 01 by its form, its faults and its numbers
abbrev pub axes_by : Bool → ℕ → ℕ → AxesPlan → Place → Field
axes_by f n e a p =
    cond (not f) (field.Stop 1 p.at)
    (cond (not (eqb n 0)) (field.Stop n p.at)
    (cond (not (eqb e 0)) (field.Stop e (p.at + 19))
    (field.Found (record { child = child.Axes a; past = record { at = p.at + span_of a.values; tally = axes_taken a p.tally } }))))

pub axes-by : (bs : List ℕ) (p : Place) → axes_field bs p ≡ axes_by (formed bs p.at 16) (axes_fault (axes_at bs p.at) p.tally.left) (evolution_fault bs (p.at + 19)) (axes_at bs p.at) p
unfolding axes_field
axes-by bs p = refl

no-values : (bs : List ℕ) (at : ℕ) → eqb (get_or bs (at + 19) 0) 2 ≡ false → span_of (axes_at bs at).values ≡ 19
unfolding axes_at span_of
no-values bs at e = rw (absent bs (at + 19) e)

pub past-field : (bs : List ℕ) (l : ℕ) (p : Place) → length bs ≤ p.at → field_of bs l p ≡ field.Stop 1 p.at
unfolding field_of
past-field bs l p h = rw (get_or-eq_default bs 0 {n = p.at} h)

module _ (xs ys : List ℕ) where
  abbrev zs : List ℕ
  zs = xs ++ ys

  pub longer : length xs ≤ length zs
  longer = omega (arith, length-append xs ys)

  pub byte-front : (at : ℕ) → at < length xs → get_or zs at 0 ≡ get_or xs at 0
  byte-front at h = get_or-append xs ys 0 at h

  pub values-front : (k at : ℕ) → at + 2 * k ≤ length xs → values_at zs at k ≡ values_at xs at k
  unfolding values_at run_of
  values-front zero at h = refl
  values-front (suc k) at h =
      ap (λ (x : ℕ). x ∷ run_of (λ i. number_at zs i 2) 2 (at + 2) k) (number-front xs ys 2 at (omega arith))
      ∙ ap (λ (l : List ℕ). number_at xs at 2 ∷ l) (values-front k (at + 2) (omega arith))

  formed-front : (at n : ℕ) → formed xs at n ≡ true → formed zs at n ≡ true
  unfolding formed
  formed-front at n e =
      let w = whole xs at n e in
      let l : at + 3 + n ≤ length zs = omega (arith, longer) in
      rw (number-front xs ys 2 (at + 1) (omega arith), eq-eqb (number_at xs (at + 1) 2) n (length-here xs at n e), le-leb (at + 3 + n) (length zs) l)

  -- ---- 02

  pub record Evolved (at : ℕ) : Type 0 where
    pub fault : evolution_fault zs at ≡ evolution_fault xs at
    pub number : values_in zs at ≡ values_in xs at
    pub values : values_at zs (at + 3) (values_in xs at) ≡ values_at xs (at + 3) (values_in xs at)

  pub no-evolution : (at : ℕ) → at < length xs → eqb (get_or xs at 0) 2 ≡ false → Evolved at
  unfolding evolution_fault values_in values_at run_of
  no-evolution at h e =
      let t : eqb (get_or zs at 0) 2 ≡ false = ap (λ (x : ℕ). eqb x 2) (byte-front at h) ∙ e in
      record { fault = rw (t, e); number = rw (t, e); values = rw e }

  pub evolution-there : (at : ℕ) → at < length xs → at + 3 + number_at xs (at + 1) 2 ≤ length xs → eqb (get_or xs at 0) 2 ≡ true → Evolved at
  unfolding evolution_fault
  evolution-there at h w e =
      let t : eqb (get_or zs at 0) 2 ≡ true = ap (λ (x : ℕ). eqb x 2) (byte-front at h) ∙ e in
      let n = number-front xs ys 2 (at + 1) (omega arith) in
      let v = there zs at t ∙ ap (λ (x : ℕ). x / 2) n ∙ sym (there xs at e) in
      let half : values_in xs at ≡ number_at xs (at + 1) 2 / 2 = there xs at e in
      let vs = values-front (values_in xs at) (at + 3) (omega arith) in
      let l : at + 3 + number_at xs (at + 1) 2 ≤ length zs = omega (arith, longer) in
      record { fault = rw (t, e, n, v, vs, le-leb (at + 3 + number_at xs (at + 1) 2) (length zs) l, le-leb (at + 3 + number_at xs (at + 1) 2) (length xs) w); number = v; values = vs }

  -- where no 02 stands there, some other byte does
  evolution-stays : (at : ℕ) → (evolution_fault xs at ≡ 1 → ⊥) → (eqb (get_or xs at 0) 2 ≡ false → at < length xs) → Evolved at
  evolution-stays at settled other = by-tag (eqb (get_or xs at 0) 2) refl
    where
      by-room : eqb (get_or xs at 0) 2 ≡ true → (b : Bool) → leb (at + 3 + number_at xs (at + 1) 2) (length xs) ≡ b → Evolved at
      by-room e true l = let w = leb-true (at + 3 + number_at xs (at + 1) 2) (length xs) l in evolution-there at (omega arith) w e
      by-room e false l = absurd (settled (cut xs at e l))

      by-tag : (b : Bool) → eqb (get_or xs at 0) 2 ≡ b → Evolved at
      by-tag true e = by-room e (leb (at + 3 + number_at xs (at + 1) 2) (length xs)) refl
      by-tag false e = no-evolution at (other e) e

  -- ---- fields

  unfoldable pub Settled : Field → Type 0
  Settled (field.Stop n at) = n ≡ 1 → ⊥
  Settled (field.Found x) = x.past.at < length xs

  module _ (at : ℕ) (w : at + 19 ≤ length xs) where
    pub fault-stays : (left : ℕ) → axes_fault (axes_at zs at) left ≡ axes_fault (axes_at xs at) left
    unfolding axes_fault axes_at
    fault-stays left = rw (byte-front (at + 3) (omega arith), number-front xs ys 2 (at + 4) (omega arith), byte-front (at + 10) (omega arith), number-front xs ys 8 (at + 11) (omega arith))

    pub axes-same : Evolved (at + 19) → axes_at zs at ≡ axes_at xs at
    unfolding axes_at
    axes-same v =
        let i : at + 19 + 3 ≡ at + 22 = omega arith in
        let vs : values_at zs (at + 22) (values_in xs (at + 19)) ≡ values_at xs (at + 22) (values_in xs (at + 19)) = rw i at v.values in
        rw (byte-front (at + 3) (omega arith), number-front xs ys 2 (at + 4) (omega arith), number-front xs ys 4 (at + 6) (omega arith), byte-front (at + 10) (omega arith), number-front xs ys 8 (at + 11) (omega arith), v.number, vs)

  pub bins-same : (at : ℕ) → at + 14 ≤ length xs → bins_at zs at ≡ bins_at xs at
  unfolding bins_at
  bins-same at w = rw (number-front xs ys 2 (at + 3) (omega arith), number-front xs ys 8 (at + 5) (omega arith), byte-front (at + 13) (omega arith))

  -- ---- 01

  module _ (p : Place) where
    abbrev fault : ℕ
    fault = axes_fault (axes_at xs p.at) p.tally.left

    abbrev evolution : ℕ
    evolution = evolution_fault xs (p.at + 19)

    module _ (f : formed xs p.at 16 ≡ true) where
      room : p.at + 19 ≤ length xs
      room = omega (arith, whole xs p.at 16 f)

      module _ (free : eqb fault 0 ≡ true) where
        by-evolution : (b : Bool) → eqb evolution 0 ≡ b → Settled (cond (not b) (field.Stop evolution (p.at + 19)) (axes_by true 0 0 (axes_at xs p.at) p))
            → axes_field zs p ≡ cond (not b) (field.Stop evolution (p.at + 19)) (axes_by true 0 0 (axes_at xs p.at) p)
        unfolding Settled
        by-evolution false e h =
            let v = evolution-stays (p.at + 19) h (λ t. absurd (eqb-false evolution 0 e (none xs (p.at + 19) t))) in
            axes-by zs p ∙ rw (formed-front p.at 16 f, fault-stays p.at room p.tally.left, free, v.fault, e)
        by-evolution true e h =
            let z : evolution ≡ 0 = eqb-true evolution 0 e in
            let v = evolution-stays (p.at + 19) (λ y. absurd (omega arith)) (λ t. omega (arith, no-values xs p.at t)) in
            axes-by zs p ∙ rw (formed-front p.at 16 f, fault-stays p.at room p.tally.left, free, v.fault, e, axes-same p.at room v)

      by-fault : (b : Bool) → eqb fault 0 ≡ b → Settled (cond (not b) (field.Stop fault p.at) (axes_by true 0 evolution (axes_at xs p.at) p))
          → axes_field zs p ≡ cond (not b) (field.Stop fault p.at) (axes_by true 0 evolution (axes_at xs p.at) p)
      by-fault false e h = axes-by zs p ∙ rw (formed-front p.at 16 f, fault-stays p.at room p.tally.left, e)
      by-fault true e h = by-evolution e (eqb evolution 0) refl h

    by_form : (b : Bool) → formed xs p.at 16 ≡ b → Settled (axes_by b fault evolution (axes_at xs p.at) p) → axes_field zs p ≡ axes_by b fault evolution (axes_at xs p.at) p
    unfolding Settled
    by_form false e h = absurd (h refl)
    by_form true e h = by-fault e (eqb fault 0) refl h

    axes-stays : Settled (axes_field xs p) → axes_field zs p ≡ axes_field xs p
    axes-stays h = by_form (formed xs p.at 16) refl (subst Settled (axes-by xs p) h) ∙ sym (axes-by xs p)

    -- ---- 03 and 04

    bins-by : (l : ℕ) (b : Bool) → formed xs p.at 11 ≡ b → Settled (bins_field xs l p) → bins_field zs l p ≡ bins_field xs l p
    unfolding bins_field Settled
    bins-by l true f h = rw (formed-front p.at 11 f, f, bins-same p.at (omega (arith, whole xs p.at 11 f)))
    bins-by l false f h = absurd (rw f at h refl)

    nothing-by : (b : Bool) → formed xs p.at 0 ≡ b → Settled (nothing_field xs p) → nothing_field zs p ≡ nothing_field xs p
    unfolding nothing_field Settled
    nothing-by true f h = rw (formed-front p.at 0 f, f)
    nothing-by false f h = absurd (rw f at h refl)

    -- ---- any field

    by-tag : (l : ℕ) (a b c : Bool) → Settled (cond a (axes_field xs p) (cond b (bins_field xs l p) (cond c (nothing_field xs p) (field.Stop 1 p.at))))
        → cond a (axes_field zs p) (cond b (bins_field zs l p) (cond c (nothing_field zs p) (field.Stop 1 p.at))) ≡ cond a (axes_field xs p) (cond b (bins_field xs l p) (cond c (nothing_field xs p) (field.Stop 1 p.at)))
    by-tag l true b c h = axes-stays h
    by-tag l false true c h = bins-by l (formed xs p.at 11) refl h
    by-tag l false false true h = nothing-by (formed xs p.at 0) refl h
    by-tag l false false false h = refl

    by_place : (l : ℕ) (b : Bool) → ltb p.at (length xs) ≡ b → Settled (field_of xs l p) → field_of zs l p ≡ field_of xs l p
    unfolding field_of Settled
    by_place l true e h =
        let g = get_or xs p.at 0 in
        rw (byte-front p.at (ltb-true p.at (length xs) e)) (by-tag l (eqb g 1) (eqb g 3) (eqb g 4) h)
    by_place l false e h = absurd (stopped (subst Settled (past-field xs l p (ltb-false p.at (length xs) e)) h))
      where
        stopped : Settled (field.Stop 1 p.at) → ⊥
        stopped h = h refl

    pub field-stays : (l : ℕ) → Settled (field_of xs l p) → field_of zs l p ≡ field_of xs l p
    field-stays l h = by_place l (ltb p.at (length xs)) refl h
