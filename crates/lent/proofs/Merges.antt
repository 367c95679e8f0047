-- Two grids' axes side by side: what is found of the first pair and what is left make the model's answer.
use mathlib.Core.Path.{◌≡◌, refl, sym, ap, ap₂, ◌∙◌}
use mathlib.Core.Logic.{inl, inr}
use mathlib.Core.Bool.{Bool, true, false, ◌&&◌, and_assoc, and-true, false≢true}
use mathlib.Core.List.{List, [], ◌∷◌}
use Prim.Native.Nat.{ℕ, zero, suc, ◌+◌, ◌≤◌, ◌<◌}
use native.Mathlib.Omega.{arith}
use borrow.Author.Tests.{eqb-true}
use lib.Dec.{eqb}
use lib.ListN.{length, get_or}
use lib.Ieee.{Float}
use Rattle.doubles.proofs.Truth.{either, both}
use Rattle.model.specs.Axes.{Axis}
use Rattle.model.specs.Sound.{kept_axis, kept_axis_list}
use Rattle.model.specs.Merge.{same_lengths, equal_all, equal_edges, merge_axis, merge_all}
use Rattle.lent.specs.declared.AxesAt.{AxesAt}
use Rattle.lent.specs.Layout.{stretch, axis_at, axes_from}
use Rattle.lent.specs.Drawn.{axes_at}
use Rattle.lent.specs.Onward.{onward}
use Rattle.lent.proofs.First.{first-apart}
use Rattle.lent.proofs.Reading.{length-axes, length-bins}

none-there : (m : ℕ) (reals : List Float) (counts : List ℕ) (k r c : ℕ) → k ≤ 0 → axes_from m reals counts k r c ≡ []
unfolding axes_from
none-there m reals counts zero r c h = refl
none-there m reals counts (suc k) r c h = absurd (omega arith)

-- the same lengths are as many
same-many : (xs ys : List Axis) → same_lengths xs ys ≡ true → length xs ≡ length ys
unfolding same_lengths
same-many [] [] e = refl
same-many [] (b ∷ ys) e = absurd (false≢true e)
same-many (a ∷ xs) [] e = absurd (false≢true e)
same-many (a ∷ xs) (b ∷ ys) e = ap suc (same-many xs ys (both (eqb (length a.bins) (length b.bins)) (same_lengths xs ys) e).1)

-- axes that are kept: the first is, and so are the others
pub kept-first : (reals : List Float) (counts : List ℕ) (g : AxesAt) → 0 < g.axes → kept_axis_list (axes_at reals counts g) ≡ true
    → (kept_axis (axis_at g.most reals counts g.reals g.counts) ≡ true) × (kept_axis_list (axes_at reals counts (onward g)) ≡ true)
unfolding kept_axis_list
kept-first reals counts g h e =
    both (kept_axis (axis_at g.most reals counts g.reals g.counts)) (kept_axis_list (axes_at reals counts (onward g)))
    (sym (ap kept_axis_list (first-apart reals counts g h)) ∙ e)

pub kept_on : (reals : List Float) (counts : List ℕ) (g g' : AxesAt) → 0 < g.axes → kept_axis_list (axes_at reals counts g) ≡ true → g' ≡ onward g
    → kept_axis_list (axes_at reals counts g') ≡ true
kept_on reals counts g g' h e f = ap (λ (a : AxesAt). kept_axis_list (axes_at reals counts a)) f ∙ (kept-first reals counts g h e).1

module _ (reals : List Float) (counts : List ℕ) (theirs : List Float) (tallies : List ℕ) where
  abbrev pub same_at : AxesAt → AxesAt → Bool
  same_at g o = same_lengths (axes_at reals counts g) (axes_at theirs tallies o)

  same_first : (g o : AxesAt) → 0 < g.axes → 0 < o.axes
      → same_at g o ≡ (eqb (get_or counts g.counts 0) (get_or tallies o.counts 0) && same_at (onward g) (onward o))
  unfolding same_lengths axis_at
  same_first g o h k =
      ap₂ same_lengths (first-apart reals counts g h) (first-apart theirs tallies o k)
      ∙ ap₂ (λ (a b : ℕ). eqb a b && same_at (onward g) (onward o))
      (length-bins g.most reals counts g.reals g.counts 0 (get_or counts g.counts 0))
      (length-bins o.most theirs tallies o.reals o.counts 0 (get_or tallies o.counts 0))

  -- as many axes as the other, where lengths are the same
  pub as_many : (g o : AxesAt) → same_at g o ≡ true → g.axes ≡ o.axes
  as_many g o e =
      sym (length-axes g.most reals counts g.axes g.reals g.counts)
      ∙ same-many (axes_at reals counts g) (axes_at theirs tallies o) e
      ∙ length-axes o.most theirs tallies o.axes o.reals o.counts

  pub same-differ : (g o : AxesAt) → (g.axes ≡ o.axes → ⊥) → false ≡ same_at g o
  same-differ g o h = elim (either (same_at g o)) [
    | inl e ↦ absurd (h (as_many g o e))
    | inr e ↦ sym e
  ]

  pub same_next : (g o g' o' : AxesAt) (ok : Bool) → 0 < g.axes → g.axes ≡ o.axes → g' ≡ onward g → o' ≡ onward o
      → ((ok && eqb (get_or counts g.counts 0) (get_or tallies o.counts 0)) && same_at g' o') ≡ (ok && same_at g o)
  same_next g o g' o' ok h e f k =
      ap₂ (λ (a b : AxesAt). (ok && eqb (get_or counts g.counts 0) (get_or tallies o.counts 0)) && same_at a b) f k
      ∙ and_assoc ok (eqb (get_or counts g.counts 0) (get_or tallies o.counts 0)) (same_at (onward g) (onward o))
      ∙ ap (λ (b : Bool). ok && b) (sym (same_first g o h (omega (arith, e))))

  pub same_out : (g o : AxesAt) (ok : Bool) → g.axes ≤ 0 → g.axes ≡ o.axes → (ok && same_at g o) ≡ ok
  unfolding same_lengths
  same_out g o ok h e =
      ap₂ (λ (xs ys : List Axis). ok && same_lengths xs ys) (none-there g.most reals counts g.axes g.reals g.counts h)
      (none-there o.most theirs tallies o.axes o.reals o.counts (omega (arith, e)))
      ∙ and-true ok

  -- what the same lengths say of the first pair and of the others
  pub record Paired (g o : AxesAt) : Type 0 where
    pub there : 0 < o.axes
    pub held : get_or counts g.counts 0 ≡ get_or tallies o.counts 0
    pub rest : same_at (onward g) (onward o) ≡ true

  pub paired : (g o : AxesAt) → 0 < g.axes → same_at g o ≡ true → Paired g o
  paired g o h e =
      let k : 0 < o.axes = omega (arith, as_many g o e) in
      let t = both (eqb (get_or counts g.counts 0) (get_or tallies o.counts 0)) (same_at (onward g) (onward o)) (sym (same_first g o h k) ∙ e) in
      record { there = k; held = eqb-true _ _ t.0; rest = t.1 }

  pub pairs-on : (g o g' o' : AxesAt) → 0 < g.axes → same_at g o ≡ true → g' ≡ onward g → o' ≡ onward o → same_at g' o' ≡ true
  pairs-on g o g' o' h e f k = ap₂ same_at f k ∙ (paired g o h e).rest

  -- ---- equal edges

  abbrev pub equal_at : AxesAt → AxesAt → Bool
  equal_at g o = equal_edges (axes_at reals counts g) (axes_at theirs tallies o)

  pub equal_next : (g o g' o' : AxesAt) (ok here : Bool) → 0 < g.axes → same_at g o ≡ true → g' ≡ onward g → o' ≡ onward o
      → here ≡ equal_all (stretch g.reals (get_or counts g.counts 0 + 1) reals) (stretch o.reals (get_or counts g.counts 0 + 1) theirs)
      → ((ok && here) && equal_at g' o') ≡ (ok && equal_at g o)
  unfolding equal_edges axis_at
  equal_next g o g' o' ok here h e f k t =
      let p = paired g o h e in
      let es : List Float = stretch g.reals (get_or counts g.counts 0 + 1) reals in
      ap₂ (λ (a b : AxesAt). (ok && here) && equal_at a b) f k
      ∙ and_assoc ok here (equal_at (onward g) (onward o))
      ∙ ap (λ (b : Bool). ok && (b && equal_at (onward g) (onward o))) (t ∙ ap (λ (n : ℕ). equal_all es (stretch o.reals (n + 1) theirs)) p.held)
      ∙ ap (λ (b : Bool). ok && b) (sym (ap₂ equal_edges (first-apart reals counts g h) (first-apart theirs tallies o p.there)))

  pub equal-out : (g o : AxesAt) (ok : Bool) → g.axes ≤ 0 → (ok && equal_at g o) ≡ ok
  unfolding equal_edges
  equal-out g o ok h =
      ap (λ (xs : List Axis). ok && equal_edges xs (axes_at theirs tallies o)) (none-there g.most reals counts g.axes g.reals g.counts h) ∙ and-true ok

  -- ---- what may be kept

  abbrev pub fit_at : AxesAt → AxesAt → Bool
  fit_at g o = kept_axis_list (merge_all (axes_at reals counts g) (axes_at theirs tallies o))

  pub fit_next : (g o g' o' : AxesAt) (ok here : Bool) → 0 < g.axes → same_at g o ≡ true → g' ≡ onward g → o' ≡ onward o
      → here ≡ kept_axis (merge_axis (axis_at g.most reals counts g.reals g.counts) (axis_at o.most theirs tallies o.reals o.counts))
      → ((ok && here) && fit_at g' o') ≡ (ok && fit_at g o)
  unfolding kept_axis_list merge_all
  fit_next g o g' o' ok here h e f k t =
      ap₂ (λ (a b : AxesAt). (ok && here) && fit_at a b) f k
      ∙ and_assoc ok here (fit_at (onward g) (onward o))
      ∙ ap (λ (b : Bool). ok && (b && fit_at (onward g) (onward o))) t
      ∙ ap (λ (b : Bool). ok && b)
      (sym (ap₂ (λ (xs ys : List Axis). kept_axis_list (merge_all xs ys)) (first-apart reals counts g h) (first-apart theirs tallies o (paired g o h e).there)))

  pub fit-out : (g o : AxesAt) (ok : Bool) → g.axes ≤ 0 → (ok && fit_at g o) ≡ ok
  unfolding kept_axis_list merge_all
  fit-out g o ok h =
      ap (λ (xs : List Axis). ok && kept_axis_list (merge_all xs (axes_at theirs tallies o))) (none-there g.most reals counts g.axes g.reals g.counts h) ∙ and-true ok
