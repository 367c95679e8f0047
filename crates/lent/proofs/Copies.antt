-- Axes without what waits in their bins, in lent memory, are read as the model's cleared axes.
use mathlib.Core.Path.{◌≡◌, refl, sym, ap, subst, ◌∙◌}
use mathlib.Core.List.{List, [], ◌∷◌, map}
use Prim.Native.Nat.{ℕ, zero, suc, ◌+◌, ◌-◌, ◌*◌, ◌≤◌, ◌<◌}
use native.Mathlib.Omega.{arith}
use lib.ListN.{length, get_or, replicate, length-replicate}
use lib.Ieee.{nan}
use Rattle.model.specs.Axes.{Axis, cleared_axis}
use Rattle.lent.specs.declared.AxesAt.{AxesAt}
use Rattle.lent.specs.Layout.{axis_reals, axis_counts, axis_at, axes_from}
use Rattle.lent.specs.Memory.{Memory, over_axes, Asked}
use Rattle.lent.specs.Drawn.{Standing, Stands, axes_at}
use Rattle.lent.specs.Laid.{waitless_at}
use Rattle.lent.specs.Onward.{onward}
use Rattle.lent.specs.Cleared.{clear_at, cleared_memory}
use Rattle.lent.proofs.Same.{Same, stretch-same}
use Rattle.lent.proofs.Reading.{Holding, length-axes}
use Rattle.lent.proofs.Over.{Apart, Local, Frames, each_axis, over_below, over-above, over-tied}
use Rattle.lent.proofs.Inside.{Here, inside-waitless}
use Rattle.lent.proofs.Empties.{Waitless, waitless-is, axis-is, cleared-bins}
use Rattle.lent.proofs.Standing.{next}

-- ---- axis after axis

pub cleared-next : (g g' : AxesAt) (n : ℕ) (s t : Memory) → 0 < g.axes → g' ≡ onward g → n ≡ get_or s.counts g.counts 0
    → t ≡ waitless_at g.most g.reals g.counts n s → cleared_memory g' t ≡ cleared_memory g s
unfolding cleared_memory clear_at over_axes onward
cleared-next g g' n s t h e f u =
    let one : g.axes ≡ suc (g.axes - 1) = omega arith in
    ap (λ (a : AxesAt). cleared_memory a t) e
    ∙ ap (λ (v : Memory). over_axes (clear_at g.most) g.most (replicate (g.axes - 1) tt) (g.reals + axis_reals g.most) (g.counts + axis_counts g.most) v)
    (u ∙ ap (λ (j : ℕ). waitless_at g.most g.reals g.counts j s) f)
    ∙ ap (λ (j : ℕ). over_axes (clear_at g.most) g.most (replicate j tt) g.reals g.counts s) (sym one)

pub cleared-done : (g : AxesAt) (s : Memory) → g.axes ≤ 0 → cleared_memory g s ≡ s
unfolding cleared_memory over_axes
cleared-done g s h = let e : g.axes ≡ 0 = omega arith in ap (λ (j : ℕ). over_axes (clear_at g.most) g.most (replicate j tt) g.reals g.counts s) e

-- nothing outside the axis is touched
pub cleared-apart : (m r c n : ℕ) (s t : Memory) → n ≤ m → Here m r c s → t ≡ waitless_at m r c n s → Apart m r c t s
cleared-apart m r c n s t h i e = subst (λ (u : Memory). Apart m r c u s) (sym e) (inside-waitless m r c n h s i).apart

-- ---- the tie

-- what a step asks at its axis: it lies in memory and holds no more than its bins
pub record Roomed (m r c : ℕ) (u : Unit {0}) (s : Memory) : Type 0 where
  pub held : get_or s.counts c 0 ≤ m
  pub here : Here m r c s

module _ (m r c : ℕ) (s : Memory) (p : Roomed m r c tt s) where
  abbrev n : ℕ
  n = get_or s.counts c 0

  abbrev t : Memory
  t = waitless_at m r c n s

  gone : Waitless m r c n p.held t s
  gone = waitless-is m r c n p.held s p.here

  held-still : get_or t.counts c 0 ≡ n
  held-still = (gone.head c (c + 2) (omega arith)).cells c (omega arith) (omega arith)

  axis-cleared : axis_at m t.reals t.counts r c ≡ cleared_axis (axis_at m s.reals s.counts r c)
  unfolding axis_at cleared_axis
  axis-cleared =
      let few = p.held in
      let front = gone.front r (r + (2 * m + 1)) (omega arith) in
      axis-is m r c n t.reals t.counts (cleared_axis (axis_at m s.reals s.counts r c)) held-still
      (stretch-same nan r (r + (2 * m + 1)) r (n + 1) t.reals s.reals front (omega arith) (omega arith))
      (cleared-bins m r c n t.reals t.counts gone.sums gone.squares gone.waiting gone.zeros s.reals s.counts few (gone.extremes (r + (4 * m + 1)) (r + (6 * m + 1)) (omega arith)))
      (stretch-same nan r (r + (2 * m + 1)) (r + (m + 1)) n t.reals s.reals front (omega arith) (omega arith))
      (stretch-same 0 (c + (2 * m + 2)) (c + (3 * m + 2)) (c + (2 * m + 2)) n t.counts s.counts (gone.counters (c + (2 * m + 2)) (c + (3 * m + 2)) (omega arith)) (omega arith) (omega arith))
      ((gone.head c (c + 2) (omega arith)).cells (c + 1) (omega arith) (omega arith))

module _ (m : ℕ) where
  clear-tied : (r c : ℕ) (u : Unit {0}) (s : Memory) → Roomed m r c u s
      → axis_at m (clear_at m r c u s).reals (clear_at m r c u s).counts r c ≡ cleared_axis (axis_at m s.reals s.counts r c)
  unfolding clear_at
  clear-tied r c tt s p = axis-cleared m r c s p

  clear-holds : (r c : ℕ) (u : Unit {0}) (s : Memory) → Roomed m r c u s → get_or (clear_at m r c u s).counts c 0 ≤ m
  unfolding clear_at
  clear-holds r c tt s p = omega (arith, held-still m r c s p, p.held)

  clear-local : Local m (clear_at m) (Roomed m)
  clear-local r c u s s' a b p =
      record {
        held = omega (arith, p.held, b.cells c (omega arith) (omega arith));
        here = record { room = omega (arith, p.here.room, a.size); places = omega (arith, p.here.places, b.size) };
      }

  clear-frames : Frames m (clear_at m) (Roomed m)
  unfolding clear_at
  clear-frames r c u s p = cleared-apart m r c (get_or s.counts c 0) s _ p.held p.here refl

  -- axes that stand there
  pub roomed : (k r c : ℕ) (s : Memory) → Standing m s.reals s.counts k r c → Asked (Roomed m) m (replicate k tt) r c s × Holding m s.counts k c
  unfolding Asked Holding axis_reals axis_counts
  roomed zero r c s t = (tt, tt)
  roomed (suc k) r c s t =
      let e : suc k - 0 ≡ suc k = omega arith in
      let f : suc k - (0 + 1) ≡ k = omega arith in
      let n = next m s.reals s.counts (suc k) 0 r c (omega arith) (subst (λ (j : ℕ). Standing m s.reals s.counts j r c) (sym e) t) in
      let rest = roomed k (r + (6 * m + 1)) (c + (3 * m + 2)) s (subst (λ (j : ℕ). Standing m s.reals s.counts j (r + (6 * m + 1)) (c + (3 * m + 2))) f n.rest) in
      ((record { held = n.held; here = record { room = n.room; places = n.places } }, rest.0), (n.held, rest.1))

all-cleared : (axs : List Axis) → each_axis (λ (a : Axis) (u : Unit {0}). cleared_axis a) axs (replicate (length axs) tt) ≡ map cleared_axis axs
unfolding each_axis
all-cleared [] = refl
all-cleared (a ∷ axs) = ap (λ (l : List Axis). cleared_axis a ∷ l) (all-cleared axs)

-- a grid's axes without what waits in them
pub cleared-axes : (g : AxesAt) (s : Memory) → Stands s.reals s.counts g
    → axes_at (cleared_memory g s).reals (cleared_memory g s).counts g ≡ map cleared_axis (axes_at s.reals s.counts g)
unfolding cleared_memory
cleared-axes g s t =
    let m = g.most in
    let k = g.axes in
    let a = roomed m k g.reals g.counts s t.2 in
    let many : length (replicate k tt) ≡ k = length-replicate k tt in
    let after : ℕ → List Axis = λ j. axes_from m (over_axes (clear_at m) m (replicate k tt) g.reals g.counts s).reals (over_axes (clear_at m) m (replicate k tt) g.reals g.counts s).counts j g.reals g.counts in
    let was : ℕ → List Axis = λ j. axes_from m s.reals s.counts j g.reals g.counts in
    subst (λ (j : ℕ). after j ≡ each_axis (λ (x : Axis) (u : Unit {0}). cleared_axis x) (was j) (replicate k tt)) many
    (over-tied m (clear_at m) (Roomed m) (clear-local m) (clear-frames m) (λ x u. cleared_axis x) (clear-tied m) (clear-holds m) (replicate k tt) g.reals g.counts s
    (subst (λ (j : ℕ). Holding m s.counts j g.counts) (sym many) a.1) a.0)
    ∙ ap (λ (j : ℕ). each_axis (λ (x : Axis) (u : Unit {0}). cleared_axis x) (was k) (replicate j tt)) (sym (length-axes m s.reals s.counts k g.reals g.counts))
    ∙ all-cleared (was k)

-- nothing below the first axis is touched, nor above the last
module _ (g : AxesAt) (s : Memory) (t : Stands s.reals s.counts g) where
  pub cleared-below : (lo hi lo' hi' : ℕ) → hi ≤ g.reals → hi' ≤ g.counts
      → Same nan lo hi (cleared_memory g s).reals s.reals × Same 0 lo' hi' (cleared_memory g s).counts s.counts
  unfolding cleared_memory
  cleared-below =
      over_below g.most (clear_at g.most) (Roomed g.most) (clear-local g.most) (clear-frames g.most) (replicate g.axes tt) g.reals g.counts s
      (roomed g.most g.axes g.reals g.counts s t.2).0

  pub cleared-above : (lo hi lo' hi' : ℕ) → g.reals + g.axes * (6 * g.most + 1) ≤ lo → g.counts + g.axes * (3 * g.most + 2) ≤ lo'
      → Same nan lo hi (cleared_memory g s).reals s.reals × Same 0 lo' hi' (cleared_memory g s).counts s.counts
  unfolding cleared_memory
  cleared-above lo hi lo' hi' h k =
      let many = length-replicate g.axes tt in
      over-above g.most (clear_at g.most) (Roomed g.most) (clear-local g.most) (clear-frames g.most) (replicate g.axes tt) g.reals g.counts s
      (roomed g.most g.axes g.reals g.counts s t.2).0 lo hi lo' hi'
      (subst (λ (j : ℕ). g.reals + j * (6 * g.most + 1) ≤ lo) (sym many) h) (subst (λ (j : ℕ). g.counts + j * (3 * g.most + 2) ≤ lo') (sym many) k)
