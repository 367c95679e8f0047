-- Merging a tree into another: each step of the code as the definitions have it.
use mathlib.Core.Path.{◌≡◌, refl, sym, ap, ap₂, ◌∙◌, subst}
use mathlib.Core.Bool.{Bool, true, false, not, cond}
use mathlib.Core.List.{List}
use Prim.Native.Nat.{ℕ, zero, suc, ◌+◌, ◌-◌, ◌*◌, ◌≤◌, ◌<◌}
use native.Mathlib.Nat.{suc-mul}
use native.Mathlib.Omega.{arith}
use borrow.Author.Tests.{lt-ltb, le-ltb, ne_eqb, eq-eqb}
use lib.ListN.{get_or}
use Rattle.std.specs.Prelude.{Result, Ok, Err}
use Rattle.doubles.specs.Paper.{Paper, gives, refuses}
use Rattle.doubles.specs.Refusal.{paper}
use Rattle.doubles.specs.declared.refusal.Refusal.{Refusal}
use Rattle.accumulator.specs.declared.StatisticsAccumulator.{StatisticsAccumulator}
use Rattle.accumulator.specs.Calls as account
use Rattle.model.specs.Grid.{Grid}
use Rattle.model.specs.Sound.{kept_grid}
use Rattle.model.specs.Merge.{same_shape, equal_grid, merge_grid, merge_of}
use Rattle.lent.specs.declared.AxesAt.{AxesAt}
use Rattle.lent.specs.Layout.{axis_reals, axis_counts}
use Rattle.lent.specs.Onward.{onward}
use Rattle.lent.specs.Memory.{Memory, memory, record_at, stored}
use Rattle.lent.specs.Merged.{merged_reals, merged_counts, merge_at, merged_memory, Spaced}
use Rattle.lent.specs.Tree.{axes_place, AxesLaid, BinsLaid}
use Rattle.lent.specs.Matched.{obstacle, grid_obstacle}
use Rattle.lent.specs.United.{stored_by, joined_record, united_axes, united_bin, united_bins, united_own, united_child, united_children, united_node, united_grid, OwnRoom}

-- ---- axes that lie in memory

pub record Ahead (g : AxesAt) (R C : ℕ) : Type 0 where
  pub few : g.most ≤ 1024
  pub room : g.reals + (6 * g.most + 1) ≤ R
  pub places : g.counts + (3 * g.most + 2) ≤ C
  pub rest : Spaced (onward g) R C

pub spaced-first : (g : AxesAt) (R C : ℕ) → 0 < g.axes → Spaced g R C → Ahead g R C
unfolding onward axis_reals axis_counts
spaced-first g R C h s =
    let e : g.axes ≡ suc (g.axes - 1) = omega arith in
    let u : g.axes * (6 * g.most + 1) ≡ (g.axes - 1) * (6 * g.most + 1) + (6 * g.most + 1) = ap (λ (n : ℕ). n * (6 * g.most + 1)) e ∙ suc-mul (g.axes - 1) (6 * g.most + 1) in
    let v : g.axes * (3 * g.most + 2) ≡ (g.axes - 1) * (3 * g.most + 2) + (3 * g.most + 2) = ap (λ (n : ℕ). n * (3 * g.most + 2)) e ∙ suc-mul (g.axes - 1) (3 * g.most + 2) in
    let r = s.room in
    let p = s.places in
    record { few = s.most; room = omega arith; places = omega arith; rest = record { most = s.most; room = omega arith; places = omega arith } }

pub spaced-on : (g o : AxesAt) (R C : ℕ) → 0 < g.axes → Spaced g R C → o ≡ onward g → Spaced o R C
spaced-on g o R C h s e = subst (λ (a : AxesAt). Spaced a R C) (sym e) (spaced-first g R C h s).rest

pub spaced-at : (table : List ℕ) (R C w R' C' : ℕ) (g : AxesAt) → AxesLaid table R C w → R' ≡ R → C' ≡ C → g ≡ axes_place table w → Spaced g R' C'
unfolding axes_place axis_reals axis_counts
spaced-at table R C w R' C' g a e f p =
    subst (λ (o : AxesAt). Spaced o R' C') (sym p) (record { most = a.most; room = omega (arith, a.room, e); places = omega (arith, a.places, f) })

-- ---- one axis

module _ (m r c : ℕ) (o : AxesAt) (others s : Memory) where
  pub axis-full : m < get_or s.counts c 0 → s ≡ merge_at m others r c o s
  unfolding merge_at
  axis-full h = rw (lt-ltb m (get_or s.counts c 0) h)

  pub axis-over : get_or s.counts c 0 ≤ m → o.most < get_or s.counts c 0 → s ≡ merge_at m others r c o s
  unfolding merge_at
  axis-over h k = rw (le-ltb m (get_or s.counts c 0) h, lt-ltb o.most (get_or s.counts c 0) k)

  pub axis-joins : get_or s.counts c 0 ≤ m → get_or s.counts c 0 ≤ o.most
      → memory (merged_reals m o.most (get_or s.counts c 0) r o.reals others.reals s.reals) (merged_counts m o.most (get_or s.counts c 0) c o.counts others.counts s.counts) ≡ merge_at m others r c o s
  unfolding merge_at
  axis-joins h k = rw (le-ltb m (get_or s.counts c 0) h, le-ltb o.most (get_or s.counts c 0) k)

-- ---- one record

module _ (r c q d : ℕ) (others s : Memory) where
  pub record-joined : (p : Result StatisticsAccumulator Refusal) (a b x : StatisticsAccumulator) (t : Memory) → a ≡ record_at s.reals s.counts r c → b ≡ record_at others.reals others.counts q d
      → paper p ≡ account.merge_of a b → Ok x ≡ p → t ≡ stored r c x s → t ≡ joined_record r c q d others s
  unfolding joined_record stored_by
  record-joined p a b x t e f m k u =
      u ∙ ap (λ (n : Paper StatisticsAccumulator). stored_by r c n s) (ap paper k ∙ m ∙ ap₂ account.merge_of e f)

  pub record-stays : (p : Result StatisticsAccumulator Refusal) (a b : StatisticsAccumulator) (n : Refusal) → a ≡ record_at s.reals s.counts r c → b ≡ record_at others.reals others.counts q d
      → paper p ≡ account.merge_of a b → Err n ≡ p → s ≡ joined_record r c q d others s
  unfolding joined_record stored_by
  record-stays p a b n e f m k = ap (λ (n : Paper StatisticsAccumulator). stored_by r c n s) (ap paper k ∙ m ∙ ap₂ account.merge_of e f)

module _ (table other : List ℕ) (others : Memory) where
  -- ---- two axes grids

  pub axes-stay : (w v : ℕ) (g o : AxesAt) (s : Memory) → g ≡ axes_place table w → o ≡ axes_place other v → (g.axes ≡ o.axes → ⊥) → s ≡ united_axes table other others w v s
  unfolding united_axes
  axes-stay w v g o s p q n =
      let e : (axes_place table w).axes ≡ (axes_place other v).axes → ⊥ = λ x. n (ap (λ (a : AxesAt). a.axes) p ∙ x ∙ sym (ap (λ (a : AxesAt). a.axes) q)) in
      rw (ne_eqb (axes_place table w).axes (axes_place other v).axes e)

  pub axes-united : (w v : ℕ) (g o : AxesAt) (s t u : Memory) → g ≡ axes_place table w → o ≡ axes_place other v → g.axes ≡ o.axes
      → t ≡ joined_record (get_or table (w + 9) 0) (get_or table (w + 10) 0) (get_or other (v + 9) 0) (get_or other (v + 10) 0) others s → u ≡ merged_memory g o others t → u ≡ united_axes table other others w v s
  unfolding united_axes
  axes-united w v g o s t u p q e f m =
      let k : (axes_place table w).axes ≡ (axes_place other v).axes = sym (ap (λ (a : AxesAt). a.axes) p) ∙ e ∙ ap (λ (a : AxesAt). a.axes) q in
      m ∙ ap₂ (λ (a b : AxesAt). merged_memory a b others t) p q ∙ ap (merged_memory (axes_place table w) (axes_place other v) others) f
      ∙ sym (ap (λ (b : Bool). cond b (merged_memory (axes_place table w) (axes_place other v) others (joined_record (get_or table (w + 9) 0) (get_or table (w + 10) 0) (get_or other (v + 9) 0) (get_or other (v + 10) 0) others s)) s) (eq-eqb (axes_place table w).axes (axes_place other v).axes k))

  -- ---- two bins grids' own

  module _ (w v n : ℕ) where
    pub bins-next : (i : ℕ) (s t : Memory) → i < n → t ≡ united_bin table other others w v i s → united_bins table other others w v (i + 1) (n - (i + 1)) t ≡ united_bins table other others w v i (n - i) s
    unfolding united_bins
    bins-next i s t h e = let g : n - i ≡ suc (n - (i + 1)) = omega arith in rw (e, g)

    pub bins-done : (i : ℕ) (s : Memory) → n ≤ i → united_bins table other others w v i (n - i) s ≡ s
    unfolding united_bins
    bins-done i s h = let g : n - i ≡ 0 = omega arith in rw g

  pub own-united : (w v : ℕ) (s t u : Memory) → t ≡ joined_record (get_or table (w + 5) 0) (get_or table (w + 6) 0) (get_or other (v + 5) 0) (get_or other (v + 6) 0) others s
      → u ≡ united_bins table other others w v 0 (get_or table (w + 2) 0) t → u ≡ united_own table other others w v s
  unfolding united_own
  own-united w v s t u e m = m ∙ ap (united_bins table other others w v 0 (get_or table (w + 2) 0)) e

  -- ---- what hangs below

  module _ (f : ℕ → ℕ → Memory → Memory) where
    pub none_here : (link far : ℕ) (s : Memory) → link ≡ 0 → s ≡ united_child table other others f link far s
    unfolding united_child
    none_here link far s e = rw e

    pub none-there : (link far : ℕ) (s : Memory) → (link ≡ 0 → ⊥) → far ≡ 0 → s ≡ united_child table other others f link far s
    unfolding united_child
    none-there link far s n e = rw (ne_eqb link 0 n, e)

    pub child-united : (link far : ℕ) (s : Memory) → (link ≡ 0 → ⊥) → (far ≡ 0 → ⊥) → f link far s ≡ united_child table other others f link far s
    unfolding united_child
    child-united link far s n k = rw (ne_eqb link 0 n, ne_eqb far 0 k)

    module _ (w v n : ℕ) where
      pub children-next : (i : ℕ) (s t : Memory) → i < n → t ≡ united_child table other others f (get_or table (w + 7 + i) 0) (get_or other (v + 7 + i) 0) s
          → united_children table other others f w v (i + 1) (n - (i + 1)) t ≡ united_children table other others f w v i (n - i) s
      unfolding united_children
      children-next i s t h e = let g : n - i ≡ suc (n - (i + 1)) = omega arith in rw (e, g)

      pub children-done : (i : ℕ) (s : Memory) → n ≤ i → united_children table other others f w v i (n - i) s ≡ s
      unfolding united_children
      children-done i s h = let g : n - i ≡ 0 = omega arith in rw g

  -- ---- which of the two each run is

  module _ (l w v : ℕ) (s : Memory) where
    pub both-axes : get_or table w 0 ≡ 1 → get_or other v 0 ≡ 1 → united_axes table other others w v s ≡ united_grid table other others l w v s
    unfolding united_grid united_node
    both-axes e d = by l
      where
        by : (k : ℕ) → united_axes table other others w v s ≡ united_grid table other others k w v s
        by zero = refl
        by (suc k) = rw (e, d)

    pub axes-bins : get_or table w 0 ≡ 1 → (get_or other v 0 ≡ 1 → ⊥) → 1 ≤ l → s ≡ united_grid table other others l w v s
    unfolding united_grid united_node
    axes-bins e d h = by l h
      where
        by : (k : ℕ) → 1 ≤ k → s ≡ united_grid table other others k w v s
        by zero x = absurd (omega (arith, x))
        by (suc k) x = rw (e, ne_eqb (get_or other v 0) 1 d)

    pub bins-axes : (get_or table w 0 ≡ 1 → ⊥) → get_or other v 0 ≡ 1 → 1 ≤ l → s ≡ united_grid table other others l w v s
    unfolding united_grid united_node
    bins-axes e d h = by l h
      where
        by : (k : ℕ) → 1 ≤ k → s ≡ united_grid table other others k w v s
        by zero x = absurd (omega (arith, x))
        by (suc k) x = rw (ne_eqb (get_or table w 0) 1 e, d)

    pub many-differ : (get_or table w 0 ≡ 1 → ⊥) → (get_or other v 0 ≡ 1 → ⊥) → (get_or table (w + 2) 0 ≡ get_or other (v + 2) 0 → ⊥) → 1 ≤ l → s ≡ united_grid table other others l w v s
    unfolding united_grid united_node
    many-differ e d n h = by l h
      where
        by : (k : ℕ) → 1 ≤ k → s ≡ united_grid table other others k w v s
        by zero x = absurd (omega (arith, x))
        by (suc k) x = rw (ne_eqb (get_or table w 0) 1 e, ne_eqb (get_or other v 0) 1 d, ne_eqb (get_or table (w + 2) 0) (get_or other (v + 2) 0) n)

    pub both-bins : (get_or table w 0 ≡ 1 → ⊥) → (get_or other v 0 ≡ 1 → ⊥) → get_or table (w + 2) 0 ≡ get_or other (v + 2) 0 → 1 ≤ l
        → united_children table other others (united_grid table other others (l - 1)) w v 0 (get_or table (w + 2) 0) (united_own table other others w v s) ≡ united_grid table other others l w v s
    unfolding united_grid united_node
    both-bins e d n h = by l h
      where
        by : (k : ℕ) → 1 ≤ k → united_children table other others (united_grid table other others (k - 1)) w v 0 (get_or table (w + 2) 0) (united_own table other others w v s) ≡ united_grid table other others k w v s
        by zero x = absurd (omega (arith, x))
        by (suc k) x = let q : suc k - 1 ≡ k = omega arith in rw (q, ne_eqb (get_or table w 0) 1 e, ne_eqb (get_or other v 0) 1 d, eq-eqb (get_or table (w + 2) 0) (get_or other (v + 2) 0) n)

-- a bins grid's own lies in memory of the same lengths
pub own_room : (f : ℕ → Type 0) (table : List ℕ) (R C w : ℕ) → BinsLaid f table R C w → OwnRoom table R C w
own_room f table R C w b = record { head = omega (arith, b.head); room = b.room; places = b.places }

-- ---- what the model answers

module _ (g o : Grid) (n : ℕ) (e : n ≡ grid_obstacle g o) where
  told : (a b c : Bool) (m : Grid) → (obstacle a b c ≡ 0 → ⊥) → cond (not a) (refuses 4) (cond (not b) (refuses 11) (cond (not c) (refuses 8) (gives m))) ≡ refuses (obstacle a b c)
  unfolding obstacle
  told false b c m z = refl
  told true false c m z = refl
  told true true false m z = refl
  told true true true m z = absurd (z refl)

  given : (a b c : Bool) (m : Grid) → obstacle a b c ≡ 0 → cond (not a) (refuses 4) (cond (not b) (refuses 11) (cond (not c) (refuses 8) (gives m))) ≡ gives m
  unfolding obstacle
  given false b c m z = absurd (omega (arith, z))
  given true false c m z = absurd (omega (arith, z))
  given true true false m z = absurd (omega (arith, z))
  given true true true m z = refl

  pub merge-refused : (n ≡ 0 → ⊥) → merge_of g o ≡ refuses n
  unfolding merge_of grid_obstacle
  merge-refused z = told (same_shape g o) (equal_grid g o) (kept_grid (merge_grid g o)) (merge_grid g o) (λ x. z (e ∙ x)) ∙ ap refuses (sym e)

  pub merge-given : n ≡ 0 → merge_of g o ≡ gives (merge_grid g o)
  unfolding merge_of grid_obstacle
  merge-given z = given (same_shape g o) (equal_grid g o) (kept_grid (merge_grid g o)) (merge_grid g o) (sym e ∙ z)
