-- The same of a whole plan, field after field: what its reading came to stays, if it is no 1 and does not end with the bytes.
use Rattle.std.proofs.Common.{◌≡◌, ℕ, zero, suc, ◌+◌, ◌-◌, ◌*◌, ◌<◌, ◌≤◌, Bool, true, false, eqb, ltb, List, ◌++◌, length, get_or, sym, refl, ap, ◌∙◌, subst, arith, ltb-false, ltb-true, ne_eqb}
use Rattle.plan.specs.declared.Place.{Place}
use Rattle.plan.specs.declared.AxesPlan.{AxesPlan}
use Rattle.plan.specs.declared.Child.{Child}
use Rattle.plan.specs.declared.Child.TheVariants as child
use Rattle.plan.specs.Judged.{Field}
use Rattle.plan.specs.Judged as field
use Rattle.plan.specs.declared.BinsPlan.{BinsPlan}
use Rattle.plan.specs.Numbers.{run_of, values_at}
use Rattle.plan.specs.Plan.{Tree, axes}
use Rattle.plan.specs.Fields.{span_of, field_of}
use Rattle.plan.specs.Reading.{Out, Outs, cons_to, then, bins_to, trees_of, hung, opened, tree_of, from_bytes}
use Rattle.plan.specs.Calls.{begin, grid_of}
use Rattle.plan.proofs.Here.{axes-found, here-reach, deep}
use Rattle.plan.proofs.Readings.{tree-stop}
use Rattle.feed.proofs.Settled.{Settled, byte-front, values-front, field-stays, past-field}

pub span-some : (k : ℕ) → span_of (suc k) ≡ 22 + 2 * suc k
unfolding span_of
span-some k = rw (ne_eqb (suc k) 0 (λ z. absurd (omega arith)))

module _ (xs ys : List ℕ) where
  abbrev zs : List ℕ
  zs = xs ++ ys

  unfoldable pub Settles : Out → Type 0
  Settles (Out.stops n at) = n ≡ 1 → ⊥
  Settles (Out.reads t q) = q.at < length xs

  unfoldable SettlesAll : Outs → Type 0
  SettlesAll (Outs.stops n at) = n ≡ 1 → ⊥
  SettlesAll (Outs.reads ts q) = q.at < length xs

  -- nothing is settled past the end
  place_inside : (l : ℕ) (p : Place) (b : Bool) → ltb p.at (length xs) ≡ b → Settles (tree_of (from_bytes xs) l p) → p.at < length xs
  unfolding Settles
  place_inside l p true e h = ltb-true p.at (length xs) e
  place_inside l p false e h =
      absurd (subst Settles (tree-stop (from_bytes xs) l p (past-field xs l p (ltb-false p.at (length xs) e))) h refl)

  -- ---- children

  cons-settled : (t : Tree) (o : Outs) → SettlesAll (cons_to t o) → SettlesAll o
  unfolding SettlesAll
  cons-settled t (Outs.stops n at) h = h
  cons-settled t (Outs.reads ts q) h = h

  bins-settled : (b : BinsPlan) (o : Outs) → Settles (bins_to b o) → SettlesAll o
  unfolding Settles SettlesAll
  bins-settled b (Outs.stops n at) h = h
  bins-settled b (Outs.reads ts q) h = h

  module _ (l : ℕ) where
    abbrev before : ℕ → Place → Out
    before s x = tree_of (from_bytes xs) l x

    abbrev after : ℕ → Place → Out
    after s x = tree_of (from_bytes zs) l x

    first-inside : (s n : ℕ) (p : Place) (o : Out) → tree_of (from_bytes xs) l p ≡ o → SettlesAll (then o (λ q. trees_of before (s + 1) n q)) → ((q : Place) → SettlesAll (trees_of before (s + 1) n q) → q.at < length xs) → Settles o
    unfolding Settles SettlesAll
    first-inside s n p (Out.stops m at) e h rest = h
    first-inside s n p (Out.reads t q) e h rest = rest q (cons-settled t (trees_of before (s + 1) n q) h)

    children-inside : (n s : ℕ) (p : Place) → SettlesAll (trees_of before s n p) → p.at < length xs
    unfolding trees_of SettlesAll
    children-inside zero s p h = h
    children-inside (suc n) s p h =
        place_inside l p (ltb p.at (length xs)) refl (first-inside s n p (tree_of (from_bytes xs) l p) refl h (λ q k. children-inside n (s + 1) q k))

    module _ (stays : (x : Place) → Settles (tree_of (from_bytes xs) l x) → tree_of (from_bytes zs) l x ≡ tree_of (from_bytes xs) l x) where
      first-stays : (s n : ℕ) (p : Place) (o : Out) → tree_of (from_bytes xs) l p ≡ o → SettlesAll (then o (λ q. trees_of before (s + 1) n q))
          → ((q : Place) → SettlesAll (trees_of before (s + 1) n q) → trees_of after (s + 1) n q ≡ trees_of before (s + 1) n q)
          → then (tree_of (from_bytes zs) l p) (λ q. trees_of after (s + 1) n q) ≡ then o (λ q. trees_of before (s + 1) n q)
      first-stays s n p (Out.stops m at) e h rest =
          let i = first-inside s n p (Out.stops m at) e h (λ q k. children-inside n (s + 1) q k) in
          ap (λ (o : Out). then o (λ q. trees_of after (s + 1) n q)) (stays p (subst Settles (sym e) i) ∙ e)
      first-stays s n p (Out.reads t q) e h rest =
          let i = first-inside s n p (Out.reads t q) e h (λ q k. children-inside n (s + 1) q k) in
          ap (λ (o : Out). then o (λ q. trees_of after (s + 1) n q)) (stays p (subst Settles (sym e) i) ∙ e)
          ∙ ap (cons_to t) (rest q (cons-settled t (trees_of before (s + 1) n q) h))

      children-stay : (n s : ℕ) (p : Place) → SettlesAll (trees_of before s n p) → trees_of after s n p ≡ trees_of before s n p
      unfolding trees_of
      children-stay zero s p h = refl
      children-stay (suc n) s p h = first-stays s n p (tree_of (from_bytes xs) l p) refl h (λ q k. children-stay n (s + 1) q k)

  -- ---- a node

  values_of : (k at : ℕ) → at + span_of k ≤ length xs → values_at zs (at + 22) k ≡ values_at xs (at + 22) k
  unfolding values_at run_of
  values_of zero at h = refl
  values_of (suc k) at h = values-front xs ys (suc k) (at + 22) (omega (arith, span-some k))

  evolution-same : (l : ℕ) (p : Place) (a : AxesPlan) (q : Place) → field_of xs l p ≡ field.Found (record { child = child.Axes a; past = q }) → values_at zs (p.at + 22) a.values ≡ values_at xs (p.at + 22) a.values
  evolution-same l p a q e =
      let k = axes-found xs l p a q e in
      let r : p.at + span_of a.values ≤ length xs = rw k.numbers (here-reach k.at) in
      values_of a.values p.at r

  module _ (l : ℕ) (p : Place) (f f' : ℕ → Place → Out)
      (children : 0 < l → (s n : ℕ) (q : Place) → SettlesAll (trees_of f s n q) → (trees_of f' s n q ≡ trees_of f s n q) × (q.at < length xs)) where
    abbrev evolution : AxesPlan → List ℕ
    evolution a = values_at xs (p.at + 22) a.values

    abbrev evolution' : AxesPlan → List ℕ
    evolution' a = values_at zs (p.at + 22) a.values

    kept : (F : Field) → field_of xs l p ≡ F → Settled xs ys F → field_of zs l p ≡ F
    kept F e h = field-stays xs ys p l (subst (Settled xs ys) (sym e) h) ∙ e

    hung-stays : (c : Child) (q : Place) → field_of xs l p ≡ field.Found (record { child = c; past = q }) → Settles (hung evolution f c q) → opened evolution' f' (field_of zs l p) ≡ hung evolution f c q
    unfolding Settles Settled
    hung-stays child.Nothing q e h = ap (opened evolution' f') (kept (field.Found (record { child = child.Nothing; past = q })) e h)
    hung-stays (child.Axes a) q e h =
        ap (opened evolution' f') (kept (field.Found (record { child = child.Axes a; past = q })) e h) ∙ ap (λ (vs : List ℕ). Out.reads (axes a vs) q) (evolution-same l p a q e)
    hung-stays (child.Bins b) q e h =
        let k = children (deep xs l p (sym e) refl) (q.tally.words - b.bins) b.bins q (bins-settled b (trees_of f (q.tally.words - b.bins) b.bins q) h) in
        ap (opened evolution' f') (kept (field.Found (record { child = child.Bins b; past = q })) e k.1) ∙ ap (bins_to b) k.0

    node_stays : (F : Field) → field_of xs l p ≡ F → Settles (opened evolution f F) → opened evolution' f' (field_of zs l p) ≡ opened evolution f F
    unfolding Settles Settled
    node_stays (field.Stop n at) e h = ap (opened evolution' f') (kept (field.Stop n at) e h)
    node_stays (field.Found x) e h = hung-stays x.child x.past e h

  tree-stays : (l : ℕ) (p : Place) → Settles (tree_of (from_bytes xs) l p) → tree_of (from_bytes zs) l p ≡ tree_of (from_bytes xs) l p
  unfolding tree_of
  tree-stays zero p h = node_stays 0 p (λ s q. Out.stops 2 q.at) (λ s q. Out.stops 2 q.at) (λ z. absurd (omega arith)) (field_of xs 0 p) refl h
  tree-stays (suc l) p h =
      node_stays (suc l) p (before l) (after l) (λ z s n q k. (children-stay l (tree-stays l) n s q k, children-inside l n s q k)) (field_of xs (suc l) p) refl h

  -- ---- the grid

  by-tag : (b : Bool) → eqb (get_or xs 0 0) 4 ≡ b → Settles (grid_of xs) → grid_of zs ≡ grid_of xs
  unfolding grid_of Settles
  by-tag true e h = absurd (rw e at h refl)
  by-tag false e h =
      let k : Settles (tree_of (from_bytes xs) 4 begin) = rw e at h in
      let i = place_inside 4 begin (ltb 0 (length xs)) refl k in
      let t : eqb (get_or zs 0 0) 4 ≡ false = ap (λ (x : ℕ). eqb x 4) (byte-front xs ys 0 i) ∙ e in
      rw (t, e) (tree-stays 4 begin k)

  pub grid-stays : Settles (grid_of xs) → grid_of zs ≡ grid_of xs
  grid-stays h = by-tag (eqb (get_or xs 0 0) 4) refl h
