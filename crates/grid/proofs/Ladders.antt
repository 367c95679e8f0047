-- The model's answers against their tests in order: a training's form, a training, a probe, an update, a merge, an estimate along a path.
use mathlib.Core.Path.{◌≡◌, refl, ap, ◌∙◌}
use mathlib.Core.Bool.{Bool, true, false, not, ◌&&◌, cond}
use mathlib.Core.List.{List, [], ◌∷◌}
use Prim.Native.Nat.{ℕ, zero, suc}
use native.Mathlib.Omega.{arith}
use borrow.Author.Tests.{eqb-true, not-false}
use lib.Dec.{eqb, ltb}
use lib.ListN.{length}
use lib.Ieee.{Float, binary64, mul}
use Rattle.doubles.specs.Numbers.{one64}
use Rattle.doubles.specs.Inverse.{inv_of}
use Rattle.doubles.specs.Finite.{finite_of}
use Rattle.doubles.specs.Total.{all_finite}
use Rattle.doubles.specs.Paper.{Paper, refuses}
use Rattle.doubles.proofs.Truth.{both}
use Rattle.accumulator.specs.declared.StatisticsAccumulator.{StatisticsAccumulator}
use Rattle.accumulator.specs.Record.{well_formed}
use Rattle.accumulator.specs.Update.{updated_of}
use Rattle.accumulator.specs.Calls.{estimates_of, live_estimate_of}
use Rattle.axis.specs.Edges.{in_unit, bin_of, weight_of}
use Rattle.model.specs.Axes.{Axis, AxesGrid}
use Rattle.model.specs.Grid.{Grid, Bins, Child, axes, bins, none, more, nothing, grid, many}
use Rattle.model.specs.Sound.{kept_grid, kept_bins, kept_child}
use Rattle.model.specs.Draw.{Sample, floored_of}
use Rattle.model.specs.Probe.{Coordinate, open', given, probe_all, through, probe_axes, probe_grid, probe_bin, probe_child}
use Rattle.model.specs.Train.{fault_of_all, fault_of_axes, fault_of, fault_of_bin, fault_of_child, train_grid, numbered, train_of}
use Rattle.model.specs.Merge.{same_shape, equal_grid, merge_grid, merge_fault, merge_of}
use Rattle.model.specs.Update.{rate_fits, update_grid, update_of}
use Rattle.lent.specs.Bins.{bin_along, bin_named, bin_over, estimate_by}
use Rattle.grid.specs.Order.{Test, test, Ordered, live_tests, along_tests, along_bin, along_child, given_tests, probe_tests, probe_bin_tests, probe_child_tests, unit_tests, axes_tests, form_tests, form_bin_tests, form_child_tests, train_tests, update_tests, match_tests, merge_tests}
use Rattle.grid.proofs.Orders.{given-last, held, passed, step, unless, first_of, Above, by_number, changed, above-append, turned}

-- a number that is not 0
no : (n : ℕ) → suc n ≡ 0 → ⊥
no n z = omega (arith, z)

-- ---- a training's form

unit-first : (xs : List Float) → fault_of_all xs ≡ first_of (unit_tests xs)
unfolding fault_of_all unit_tests first_of
unit-first [] = refl
unit-first (x ∷ xs) = ap (λ (n : ℕ). cond (not (in_unit x)) 5 n) (unit-first xs)

unit-above : (xs : List Float) → Above (unit_tests xs)
unfolding unit_tests Above
unit-above [] = tt
unit-above (x ∷ xs) = (no 4, unit-above xs)

axes-first : (g : AxesGrid) (path : List ℕ) (ws xs : List Float) → fault_of_axes g path ws xs ≡ first_of (axes_tests g path ws xs)
unfolding fault_of_axes axes_tests first_of
axes-first g [] ws xs = ap (λ (n : ℕ). cond (not (eqb (length ws) 1)) 4 (cond (not (eqb (length xs) (length g.axes))) 4 n)) (unit-first xs)
axes-first g (i ∷ path) ws xs = refl

axes-above : (g : AxesGrid) (path : List ℕ) (ws xs : List Float) → Above (axes_tests g path ws xs)
unfolding axes_tests Above
axes-above g [] ws xs = (no 3, (no 3, unit-above xs))
axes-above g (i ∷ path) ws xs = (no 3, tt)

mutual
  unfolding fault_of fault_of_bin fault_of_child form_tests form_bin_tests form_child_tests first_of

  form-first : (g : Grid) (path : List ℕ) (ws xs : List Float) → fault_of g path ws xs ≡ first_of (form_tests g path ws xs)
  form-first (axes g) path ws xs = axes-first g path ws xs
  form-first (bins h bs) [] ws xs = refl
  form-first (bins h bs) (i ∷ path) [] xs = turned (ltb i (many bs)) 4 6
  form-first (bins h bs) (i ∷ path) (w ∷ ws) xs = turned (ltb i (many bs)) _ 6 ∙ ap (λ (n : ℕ). cond (not (ltb i (many bs))) 6 n) (form-bin-first bs i path ws xs)

  form-bin-first : (bs : Bins) (i : ℕ) (path : List ℕ) (ws xs : List Float) → fault_of_bin bs i path ws xs ≡ first_of (form_bin_tests bs i path ws xs)
  form-bin-first none i path ws xs = refl
  form-bin-first (more b c bs) zero path ws xs = form-child-first c path ws xs
  form-bin-first (more b c bs) (suc i) path ws xs = form-bin-first bs i path ws xs

  form-child-first : (c : Child) (path : List ℕ) (ws xs : List Float) → fault_of_child c path ws xs ≡ first_of (form_child_tests c path ws xs)
  form-child-first nothing [] [] [] = refl
  form-child-first nothing [] [] (x ∷ xs) = refl
  form-child-first nothing [] (w ∷ ws) xs = refl
  form-child-first nothing (i ∷ path) ws xs = refl
  form-child-first (grid g) path ws xs = form-first g path ws xs

mutual
  unfolding form_tests form_bin_tests form_child_tests Above

  form-above : (g : Grid) (path : List ℕ) (ws xs : List Float) → Above (form_tests g path ws xs)
  form-above (axes g) path ws xs = axes-above g path ws xs
  form-above (bins h bs) [] ws xs = (no 3, tt)
  form-above (bins h bs) (i ∷ path) [] xs = (no 5, (no 3, tt))
  form-above (bins h bs) (i ∷ path) (w ∷ ws) xs = (no 5, form-bin-above bs i path ws xs)

  form-bin-above : (bs : Bins) (i : ℕ) (path : List ℕ) (ws xs : List Float) → Above (form_bin_tests bs i path ws xs)
  form-bin-above none i path ws xs = (no 5, tt)
  form-bin-above (more b c bs) zero path ws xs = form-child-above c path ws xs
  form-bin-above (more b c bs) (suc i) path ws xs = form-bin-above bs i path ws xs

  form-child-above : (c : Child) (path : List ℕ) (ws xs : List Float) → Above (form_child_tests c path ws xs)
  form-child-above nothing [] [] [] = tt
  form-child-above nothing [] [] (x ∷ xs) = (no 3, tt)
  form-child-above nothing [] (w ∷ ws) xs = (no 3, tt)
  form-child-above nothing (i ∷ path) ws xs = (no 3, tt)
  form-child-above (grid g) path ws xs = form-above g path ws xs

-- ---- a training

pub train-ordered : (g : Grid) (s : Sample) (e : Float) (k : ℕ) → Ordered (train_tests g s e k) (train_of g s e k)
unfolding train_tests train_of
train-ordered g s e k =
    let there = train_grid g s.path s.weights s.coordinates e k in
    step (not (numbered k)) 3 _ _ (λ z. by_number (form_tests g s.path s.weights s.coordinates) _ _ (fault_of g s.path s.weights s.coordinates) (form-first g s.path s.weights s.coordinates) (form-above g s.path s.weights s.coordinates)
    (λ y. step (not (finite_of e && all_finite s.weights)) 7 _ _ (λ x. step (not (kept_grid there)) 8 _ _ (λ w. given-last there))))

pub train-above : (g : Grid) (s : Sample) (e : Float) (k : ℕ) → Above (train_tests g s e k)
unfolding train_tests Above
train-above g s e k = (no 2, above-append (form_tests g s.path s.weights s.coordinates) _ (form-above g s.path s.weights s.coordinates) (no 6, (no 7, tt)))

-- ---- an update, a merge

pub update-ordered : (bins_rate axes_rate : Float) (g : Grid) → Ordered (update_tests bins_rate axes_rate g) (update_of bins_rate axes_rate g)
unfolding update_tests update_of
update-ordered bins_rate axes_rate g =
    let o = update_grid bins_rate axes_rate g in
    step (not (rate_fits bins_rate && rate_fits axes_rate)) 3 _ _ (λ z. step o.eight 8 _ _ (λ y. step o.nine 9 _ _ (λ x. given-last o.after)))

pub update-above : (bins_rate axes_rate : Float) (g : Grid) → Above (update_tests bins_rate axes_rate g)
unfolding update_tests Above
update-above bins_rate axes_rate g = (no 2, (no 7, (no 8, tt)))

pub merge-ordered : (g o : Grid) → Ordered (merge_tests g o) (merge_of g o)
unfolding merge_tests merge_of
merge-ordered g o = step (not (same_shape g o)) 4 _ _ (λ z. step (not (equal_grid g o)) 11 _ _ (λ y. step (not (kept_grid (merge_grid g o))) 8 _ _ (λ x. given-last (merge_grid g o))))

pub merge-above : (g o : Grid) → Above (merge_tests g o)
unfolding merge_tests Above
merge-above g o = (no 3, (no 10, (no 7, tt)))

pub match-first : (g o : Grid) → merge_fault g o ≡ first_of (match_tests g o)
unfolding match_tests merge_fault first_of
match-first g o = refl

pub match-above : (g o : Grid) → Above (match_tests g o)
unfolding match_tests Above
match-above g o = (no 3, (no 10, tt))

-- ---- a probe

through-ordered : (f : Float → Float) (ts : List Test) (p : Paper Float) → Ordered ts p → Ordered ts (through f p)
through-ordered f ts p o = changed ts p (through f p) o (λ n e. ap (through f) e) (λ x e. (f x, ap (through f) e))

given-ordered : (axs : List Axis) (xs : List Coordinate) (w : Float) → length xs ≡ length axs → Ordered (given_tests xs) (probe_all axs xs w)
unfolding given_tests probe_all
given-ordered [] [] w h = given-last w
given-ordered [] (x ∷ xs) w h = absurd (omega arith)
given-ordered (a ∷ axs) [] w h = absurd (omega arith)
given-ordered (a ∷ axs) (open' ∷ xs) w h = given-ordered axs xs w (omega arith)
given-ordered (a ∷ axs) (given x ∷ xs) w h = step (not (in_unit x)) 5 _ _ (λ z. given-ordered axs xs (mul binary64 w (weight_of a.edges (bin_of a.edges x))) (omega arith))

axes-probed : (g : AxesGrid) (xs : List Coordinate) → Ordered (test (not (eqb (length xs) (length g.axes))) 4 ∷ given_tests xs) (probe_axes g xs)
unfolding probe_axes
axes-probed g xs =
    step (not (eqb (length xs) (length g.axes))) 4 _ _
    (λ z. through-ordered (floored_of g.plan.floor) _ _ (given-ordered g.axes xs one64 (eqb-true _ _ (not-false (eqb (length xs) (length g.axes)) z))))

mutual
  unfolding probe_tests probe_bin_tests probe_child_tests probe_grid probe_bin probe_child

  pub probe-ordered : (g : Grid) (path : List ℕ) (xs : List Coordinate) → Ordered (probe_tests g path xs) (probe_grid g path xs)
  probe-ordered (axes g) [] xs = axes-probed g xs
  probe-ordered (axes g) (i ∷ path) xs = held 4 []
  probe-ordered (bins h bs) [] xs = held 4 []
  probe-ordered (bins h bs) (i ∷ path) xs = unless (ltb i (many bs)) 6 _ _ (λ z. probe-bin-ordered bs i path xs)

  probe-bin-ordered : (bs : Bins) (i : ℕ) (path : List ℕ) (xs : List Coordinate) → Ordered (probe_bin_tests bs i path xs) (probe_bin bs i path xs)
  probe-bin-ordered none i path xs = held 6 []
  probe-bin-ordered (more b c bs) zero path xs = through-ordered (mul binary64 (inv_of b.probability)) _ _ (probe-child-ordered c path xs)
  probe-bin-ordered (more b c bs) (suc i) path xs = probe-bin-ordered bs i path xs

  probe-child-ordered : (c : Child) (path : List ℕ) (xs : List Coordinate) → Ordered (probe_child_tests c path xs) (probe_child c path xs)
  probe-child-ordered nothing [] [] = given-last one64
  probe-child-ordered nothing [] (x ∷ xs) = held 4 []
  probe-child-ordered nothing (i ∷ path) xs = held 4 []
  probe-child-ordered (grid g) [] [] = given-last one64
  probe-child-ordered (grid g) [] (x ∷ xs) = probe-ordered g [] (x ∷ xs)
  probe-child-ordered (grid g) (i ∷ path) xs = probe-ordered g (i ∷ path) xs

-- ---- estimates of well-formed accumulators

pub live-ordered : (a : StatisticsAccumulator) → well_formed a ≡ true → Ordered (live_tests a) (live_estimate_of a)
unfolding live_tests live_estimate_of
live-ordered a w = rw w (step (not (well_formed (updated_of false a))) 8 _ _ (λ z. given-last (estimates_of (updated_of false a))))

-- an index past the end is 6, before what is found there
inside : (b : Bool) (ts : List Test) (p : Paper StatisticsAccumulator) → Ordered ts (estimate_by p) → Ordered (test (not b) 6 ∷ ts) (estimate_by (cond b p (refuses 6)))
unfolding estimate_by
inside true ts p o = passed 6 ts (estimate_by p) o
inside false ts p o = held 6 ts

mutual
  unfolding along_tests along_bin along_child bin_along bin_named bin_over estimate_by kept_grid kept_bins kept_child

  pub along-ordered : (g : Grid) (path : List ℕ) → kept_grid g ≡ true → Ordered (along_tests g path) (estimate_by (bin_along g path))
  along-ordered (axes g) path k = held 4 []
  along-ordered (bins h bs) [] k = held 4 []
  along-ordered (bins h bs) (i ∷ path) k = inside (ltb i (many bs)) _ _ (along-bin-ordered bs i path (both (well_formed h.own) _ k).1)

  along-bin-ordered : (bs : Bins) (i : ℕ) (path : List ℕ) → kept_bins bs ≡ true → Ordered (along_bin bs i path) (estimate_by (bin_named bs i path))
  along-bin-ordered none i path k = held 6 []
  along-bin-ordered (more b c bs) zero path k = let q = both (well_formed b.own) _ k in along-child-ordered c b.own path q.0 (both (kept_child c) _ q.1).0
  along-bin-ordered (more b c bs) (suc i) path k = along-bin-ordered bs i path (both (kept_child c) _ (both (well_formed b.own) _ k).1).1

  along-child-ordered : (c : Child) (a : StatisticsAccumulator) (path : List ℕ) → well_formed a ≡ true → kept_child c ≡ true → Ordered (along_child c a path) (estimate_by (bin_over c a path))
  along-child-ordered nothing a [] w k = live-ordered a w
  along-child-ordered nothing a (i ∷ path) w k = held 4 []
  along-child-ordered (grid g) a [] w k = live-ordered a w
  along-child-ordered (grid g) a (i ∷ path) w k = along-ordered g (i ∷ path) k
