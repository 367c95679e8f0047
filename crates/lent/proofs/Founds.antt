-- Laying a fresh tree: each step of the code as the definitions have it.
use mathlib.Core.Path.{◌≡◌, refl, sym, ap, ◌∙◌, subst}
use mathlib.Core.List.{List}
use Prim.Native.Nat.{ℕ, zero, suc, ◌+◌, ◌-◌, ◌*◌, ◌≤◌, ◌<◌}
use native.Mathlib.Omega.{arith}
use borrow.Author.Tests.{ne_eqb}
use lib.ListN.{get_or, set, replicate}
use lib.Ieee.{Float}
use Rattle.doubles.specs.Count.{count_of}
use Rattle.doubles.specs.Inverse.{inv_of}
use Rattle.accumulator.specs.declared.StatisticsAccumulator.{StatisticsAccumulator}
use Rattle.accumulator.specs.Record.{fresh}
use Rattle.lent.specs.declared.AxesAt.{AxesAt}
use Rattle.lent.specs.Layout.{axis_reals, axis_counts}
use Rattle.lent.specs.Memory.{Memory, memory, over_axes, stored}
use Rattle.lent.specs.Laid.{lay_at}
use Rattle.lent.specs.Tree.{axes_place, AxesLaid, BinsLaid, Laid}
use Rattle.lent.specs.Founded.{laid_axes, laid_bin, laid_bins, laid_own, laid_child, laid_children, laid_node, laid_grid}

-- what lies there lies in memory of the same lengths
pub laid_kept : (l : ℕ) (table : List ℕ) (R C R' C' w : ℕ) → R' ≡ R → C' ≡ C → Laid l table R C w → Laid l table R' C' w
laid_kept l table R C R' C' w e f h = subst (λ (n : ℕ). Laid l table n C' w) (sym e) (subst (λ (n : ℕ). Laid l table R n w) (sym f) h)

pub bins-kept : (l : ℕ) (table : List ℕ) (R C R' C' w : ℕ) → R' ≡ R → C' ≡ C → BinsLaid (Laid l table R C) table R C w → BinsLaid (Laid l table R' C') table R' C' w
bins-kept l table R C R' C' w e f h =
    subst (λ (n : ℕ). BinsLaid (Laid l table n C') table n C' w) (sym e) (subst (λ (n : ℕ). BinsLaid (Laid l table R n) table R n w) (sym f) h)

-- ---- an axes grid

pub axes-room : (table : List ℕ) (R C R' C' w : ℕ) (g : AxesAt) → AxesLaid table R C w → R' ≡ R → C' ≡ C → g ≡ axes_place table w
    → (g.axes ≤ 8) × (get_or table (w + 3) 0 ≤ g.most) × (g.most ≤ 1024) × (g.reals + g.axes * axis_reals g.most ≤ R') × (g.counts + g.axes * axis_counts g.most ≤ C')
unfolding axes_place axis_reals axis_counts
axes-room table R C R' C' w g a e f p =
    subst (λ (o : AxesAt). (o.axes ≤ 8) × (get_or table (w + 3) 0 ≤ o.most) × (o.most ≤ 1024) × (o.reals + o.axes * (6 * o.most + 1) ≤ R') × (o.counts + o.axes * (3 * o.most + 2) ≤ C')) (sym p)
    (a.axes, a.fits, a.most, omega (arith, a.room, e), omega (arith, a.places, f))

pub axes-founded : (table : List ℕ) (w : ℕ) (g : AxesAt) (a : StatisticsAccumulator) (s t u : Memory) → g ≡ axes_place table w → a ≡ fresh
    → t ≡ stored (get_or table (w + 9) 0) (get_or table (w + 10) 0) a s
    → u ≡ over_axes (lay_at g.most) g.most (replicate g.axes (get_or table (w + 3) 0)) g.reals g.counts t → u ≡ laid_axes table w s
unfolding laid_axes
axes-founded table w g a s t u p f e o =
    o ∙ ap (λ (h : AxesAt). over_axes (lay_at h.most) h.most (replicate h.axes (get_or table (w + 3) 0)) h.reals h.counts t) p
    ∙ ap (over_axes (lay_at (axes_place table w).most) (axes_place table w).most (replicate (axes_place table w).axes (get_or table (w + 3) 0)) (axes_place table w).reals (axes_place table w).counts)
    (e ∙ ap (λ (b : StatisticsAccumulator). stored (get_or table (w + 9) 0) (get_or table (w + 10) 0) b s) f)

-- ---- a bins grid's own

module _ (table : List ℕ) (w n : ℕ) where
  pub bins-next : (i : ℕ) (s t : Memory) (count even : Float) (a : StatisticsAccumulator) → i < n → count ≡ count_of (get_or table (w + 2) 0) → even ≡ inv_of count → a ≡ fresh
      → t ≡ stored (get_or table (w + 5) 0 + 14 + get_or table (w + 2) 0 + 14 * i) (get_or table (w + 6) 0 + 7 + 7 * i) a (memory (set s.reals (get_or table (w + 5) 0 + 14 + i) even) s.counts)
      → laid_bins table w (i + 1) (n - (i + 1)) t ≡ laid_bins table w i (n - i) s
  unfolding laid_bins laid_bin
  bins-next i s t count even a h k p f e =
      let g : n - i ≡ suc (n - (i + 1)) = omega arith in
      rw (e, f, p, k, g)

  pub bins-done : (i : ℕ) (s : Memory) → n ≤ i → laid_bins table w i (n - i) s ≡ s
  unfolding laid_bins
  bins-done i s h = let g : n - i ≡ 0 = omega arith in rw g

pub own-founded : (table : List ℕ) (w : ℕ) (s t u : Memory) (a : StatisticsAccumulator) → a ≡ fresh → t ≡ stored (get_or table (w + 5) 0) (get_or table (w + 6) 0) a s
    → u ≡ laid_bins table w 0 (get_or table (w + 2) 0) t → u ≡ laid_own table w s
unfolding laid_own
own-founded table w s t u a f e o =
    o ∙ ap (laid_bins table w 0 (get_or table (w + 2) 0)) (e ∙ ap (λ (b : StatisticsAccumulator). stored (get_or table (w + 5) 0) (get_or table (w + 6) 0) b s) f)

-- ---- what hangs below

module _ (f : ℕ → Memory → Memory) where
  pub nothing-laid : (link : ℕ) (s : Memory) → link ≡ 0 → s ≡ laid_child f link s
  unfolding laid_child
  nothing-laid link s e = rw e

  pub child-laid : (link : ℕ) (s : Memory) → (link ≡ 0 → ⊥) → f link s ≡ laid_child f link s
  unfolding laid_child
  child-laid link s z = rw (ne_eqb link 0 z)

  module _ (table : List ℕ) (w n : ℕ) where
    pub children-next : (i : ℕ) (s t : Memory) → i < n → t ≡ laid_child f (get_or table (w + 7 + i) 0) s
        → laid_children f table w (i + 1) (n - (i + 1)) t ≡ laid_children f table w i (n - i) s
    unfolding laid_children
    children-next i s t h e = let g : n - i ≡ suc (n - (i + 1)) = omega arith in rw (e, g)

    pub children-done : (i : ℕ) (s : Memory) → n ≤ i → laid_children f table w i (n - i) s ≡ s
    unfolding laid_children
    children-done i s h = let g : n - i ≡ 0 = omega arith in rw g

-- ---- which of the two a run is

pub grid-axes : (l : ℕ) (table : List ℕ) (w : ℕ) (s : Memory) → get_or table w 0 ≡ 1 → laid_axes table w s ≡ laid_grid l table w s
unfolding laid_grid laid_node
grid-axes zero table w s e = refl
grid-axes (suc l) table w s e = rw e

pub grid-bins : (l : ℕ) (table : List ℕ) (w : ℕ) (s : Memory) → (get_or table w 0 ≡ 1 → ⊥) → 1 ≤ l
    → laid_children (laid_grid (l - 1) table) table w 0 (get_or table (w + 2) 0) (laid_own table w s) ≡ laid_grid l table w s
unfolding laid_grid laid_node
grid-bins zero table w s n h = absurd (omega arith)
grid-bins (suc l) table w s n h = let e : suc l - 1 ≡ l = omega arith in rw (e, ne_eqb (get_or table w 0) 1 n)
