-- A drawn sample has its grid's form: its path goes down the grid, its weights and its coordinates are as many as the form asks, and each
-- coordinate is a number in [0, 1]. So training it is refused neither with 4, 5 nor 6.
use mathlib.Core.Path.{◌≡◌, refl, sym, ap, ap₂, ◌∙◌, subst}
use mathlib.Core.Bool.{Bool, true, false, ◌&&◌, cond}
use mathlib.Core.List.{List, [], ◌∷◌}
use Prim.Native.Nat.{ℕ, zero, suc, ◌+◌, ◌/◌, ◌^◌, ◌≤◌, ◌<◌}
use native.Mathlib.Nat.{mod-lt}
use native.Mathlib.Omega.{arith}
use lib.Dec.{eqb}
use lib.Pow.{pow_pos, shr_lt}
use lib.ListN.{length}
use lib.Ieee.{Float, binary64, add, lt, le, eq, of_bits}
use borrow.Author.Tests.{lt-ltb, eqb-true, eq-eqb}
use Rattle.doubles.specs.Numbers.{zero64, one64}
use Rattle.doubles.proofs.Truth.{is, both}
use Rattle.doubles.proofs.Order.{le-trans-float}
use Rattle.stream.specs.declared.MonteCarloRng.{MonteCarloRng}
use Rattle.stream.specs.Words.{times}
use Rattle.stream.specs.Xoshiro.{word_of, step_of}
use Rattle.stream.specs.Calls.{unit_of}
use Rattle.stream.proofs.Units.{largest, unit-exact, unit-low, unit-high}
use Rattle.axis.specs.Edges.{bins_of, well_formed, in_unit}
use Rattle.axis.proofs.Bins.{and}
use Rattle.axis.proofs.Points.{point-in-unit}
use Rattle.model.specs.Axes.{Axis, AxesPlan, AxesGrid}
use Rattle.model.specs.Grid.{Head, Grid, Bins, Child, axes, bins, none, more, nothing, grid, many, probabilities}
use Rattle.model.specs.Draw.{Sample, unit_at, place_on, walked, placed_from, placed_of, draw_axes, reached, draw_nothing, draw_grid, draw_bin, draw_child}
use Rattle.model.specs.Sound.{chance, listed, formed_axis, formed_axis_list, formed_grid, formed_bins, formed_child, sound}
use Rattle.model.specs.Train.{fault_of_all, fault_of_axes, fault_of, fault_of_bin, fault_of_child}

-- ---- what a draw asks of a grid besides that it is well formed, and a plan's table gives

-- the bin numbers that a plan lists are at most 2^53
unfoldable pub FewBins : AxesPlan → Type 0
FewBins plan = (n : ℕ) → listed n (plan.bins ∷ plan.evolution) ≡ true → n ≤ 2 ^ 53

-- at most 2^53 bins on every axis, and at least one in every bins grid
unfoldable mutual
  pub Sized : Grid → Type 0
  Sized (axes g) = FewBins g.plan
  Sized (bins h bs) = (1 ≤ many bs) × SizedBins bs

  pub SizedBins : Bins → Type 0
  SizedBins none = Unit {0}
  SizedBins (more b c bs) = SizedChild c × SizedBins bs

  pub SizedChild : Child → Type 0
  SizedChild nothing = Unit {0}
  SizedChild (grid g) = Sized g

-- ---- a word has 64 bits, and its unit draw is a number in [0, 1]

pub word_below : (s : MonteCarloRng) → word_of s < 2 ^ 64
unfolding word_of times
word_below s = mod-lt _ (pow_pos 64)

below_one : le largest one64 ≡ true
unfolding le of_bits
below_one = refl

pub unit-in : (w : ℕ) → w < 2 ^ 64 → in_unit (unit_of w) ≡ true
unfolding in_unit
unit-in w h = and (le zero64 (unit_of w)) (le (unit_of w) one64) (is (unit-low w h)) (le-trans-float (unit_of w) largest one64 (is (unit-high w h)) below_one)

-- ---- the coordinates

-- an axis's own
axis-has : (plan : AxesPlan) (ax : Axis) → FewBins plan → formed_axis plan ax ≡ true → (well_formed ax.edges ≡ true) × (bins_of ax.edges ≤ 2 ^ 53)
unfolding formed_axis FewBins bins_of
axis-has plan ax few f =
    let a = both (listed (length ax.bins) (plan.bins ∷ plan.evolution)) _ f in
    let b = both (eqb (length ax.edges) (length ax.bins + 1)) _ a.1 in
    let c = both (eqb (length ax.importances) (length ax.bins)) _ b.1 in
    let d = both (eqb (length ax.counters) (length ax.bins)) _ c.1 in
    (d.1, omega (arith, few (length ax.bins) a.0, eqb-true (length ax.edges) (length ax.bins + 1) b.0))

place_in : (evenly : Bool) (es : List Float) (s : MonteCarloRng) → well_formed es ≡ true → bins_of es ≤ 2 ^ 53 → in_unit (place_on evenly es (unit_at s)).at ≡ true
unfolding place_on unit_at
place_in true es s w few = unit-in (word_of s) (word_below s)
place_in false es s w few = point-in-unit es (word_of s / 2 ^ 11) (unit_of (word_of s)) w few (shr_lt 53 11 (word_below s)) (unit-exact (word_of s) (word_below s))

-- as many as axes
walked-size : (evenly : Bool) (axs : List Axis) (w : Float) (s : MonteCarloRng) → length (walked evenly axs w s).coordinates ≡ length axs
unfolding walked
walked-size evenly [] w s = refl
walked-size evenly (a ∷ axs) w s = ap suc (walked-size evenly axs _ (step_of s))

pub placed-size : (f : Float) (axs : List Axis) (s : MonteCarloRng) → length (placed_from f axs s).coordinates ≡ length axs
unfolding placed_from
placed-size f axs s = pick (eq f zero64) (eq f one64)
  where
    pick : (b c : Bool) → length (cond b (walked false axs one64 s) (cond c (walked true axs one64 s) (walked (lt (unit_at s) f) axs one64 (step_of s)))).coordinates ≡ length axs
    pick true c = walked-size false axs one64 s
    pick false true = walked-size true axs one64 s
    pick false false = walked-size (lt (unit_at s) f) axs one64 (step_of s)

-- each a number in [0, 1]
module _ (plan : AxesPlan) (few : FewBins plan) where
  walked-in : (evenly : Bool) (axs : List Axis) (w : Float) (s : MonteCarloRng) → formed_axis_list plan axs ≡ true → fault_of_all (walked evenly axs w s).coordinates ≡ 0
  unfolding walked fault_of_all formed_axis_list
  walked-in evenly [] w s f = refl
  walked-in evenly (a ∷ axs) w s f =
      let p = both (formed_axis plan a) (formed_axis_list plan axs) f in
      let q = axis-has plan a few p.0 in
      rw (place_in evenly a.edges s q.0 q.1) (walked-in evenly axs _ (step_of s) p.1)

  placed-in : (f : Float) (axs : List Axis) (s : MonteCarloRng) → formed_axis_list plan axs ≡ true → fault_of_all (placed_from f axs s).coordinates ≡ 0
  unfolding placed_from
  placed-in f axs s h = pick (eq f zero64) (eq f one64)
    where
      pick : (b c : Bool) → fault_of_all (cond b (walked false axs one64 s) (cond c (walked true axs one64 s) (walked (lt (unit_at s) f) axs one64 (step_of s)))).coordinates ≡ 0
      pick true c = walked-in false axs one64 s h
      pick false true = walked-in true axs one64 s h
      pick false false = walked-in (lt (unit_at s) f) axs one64 (step_of s) h

axes-drawn : (g : AxesGrid) (s : MonteCarloRng) → FewBins g.plan → formed_axis_list g.plan g.axes ≡ true
    → fault_of_axes g (draw_axes g s).sample.path (draw_axes g s).sample.weights (draw_axes g s).sample.coordinates ≡ 0
unfolding fault_of_axes draw_axes placed_of
axes-drawn g s few f =
    rw (eq-eqb _ _ (placed-size g.plan.floor g.axes s), placed-in g.plan few g.plan.floor g.axes s f)

-- ---- the bin that a draw reaches is there

reached-below : (r sum : Float) (ps : List Float) → 1 ≤ length ps → reached r sum ps < length ps
unfolding reached
reached-below r sum [] h = h
reached-below r sum (p ∷ []) h = omega arith
reached-below r sum (p ∷ (q ∷ ps)) h = pick (le r (add binary64 sum p)) (reached-below r (add binary64 sum p) (q ∷ ps) (omega arith))
  where
    pick : (b : Bool) → reached r (add binary64 sum p) (q ∷ ps) < length (q ∷ ps) → cond b 0 (suc (reached r (add binary64 sum p) (q ∷ ps))) < length (p ∷ (q ∷ ps))
    pick true l = omega arith
    pick false l = omega arith

many-chances : (bs : Bins) → length (probabilities bs) ≡ many bs
unfolding probabilities many
many-chances none = refl
many-chances (more b c bs) = ap suc (many-chances bs)

-- ---- the tree

-- a sample of bin k, the one i places on: what follows its first bin and its first weight has the form that hangs there
record Hangs (bs : Bins) (i k : ℕ) (x : Sample) : Type 0 where
  path : List ℕ
  weight : Float
  weights : List Float
  path-is : x.path ≡ k ∷ path
  weights-is : x.weights ≡ weight ∷ weights
  fits : fault_of_bin bs i path weights x.coordinates ≡ 0

-- in full: a weight is there, and the bin too
above : (h : Head) (bs : Bins) (i : ℕ) (x : Sample) → i < many bs → Hangs bs i i x → fault_of (bins h bs) x.path x.weights x.coordinates ≡ 0
unfolding fault_of
above h bs i x l t =
    ap₂ (λ (p : List ℕ) (ws : List Float). fault_of (bins h bs) p ws x.coordinates) t.path-is t.weights-is
    ∙ ap (λ (b : Bool). cond b (fault_of_bin bs i t.path t.weights x.coordinates) 6) (lt-ltb i (many bs) l)
    ∙ t.fits

mutual
  unfolding draw_grid draw_bin draw_child draw_nothing fault_of fault_of_bin fault_of_child formed_grid formed_bins formed_child Sized SizedBins SizedChild many

  form-drawn : (g : Grid) (s : MonteCarloRng) → formed_grid g ≡ true → Sized g
      → fault_of g (draw_grid g s).sample.path (draw_grid g s).sample.weights (draw_grid g s).sample.coordinates ≡ 0
  form-drawn (axes g) s f z = axes-drawn g s z f
  form-drawn (bins h bs) s f z =
      let i = reached (unit_at s) zero64 (probabilities bs) in
      let e = many-chances bs in
      let l : i < many bs = subst (λ (n : ℕ). i < n) e (reached-below (unit_at s) zero64 (probabilities bs) (subst (λ (n : ℕ). 1 ≤ n) (sym e) z.0)) in
      above h bs i (draw_bin bs i i (step_of s)).sample l (bin-drawn bs i i (step_of s) f z.1 l)

  bin-drawn : (bs : Bins) (i k : ℕ) (s : MonteCarloRng) → formed_bins bs ≡ true → SizedBins bs → i < many bs → Hangs bs i k (draw_bin bs i k s).sample
  bin-drawn none i k s f z l = absurd (omega arith)
  bin-drawn (more b c bs) zero k s f z l =
      let q = both (formed_child c) (formed_bins bs) (both (chance b.probability) (formed_child c && formed_bins bs) f).1 in
      record { path = (draw_child c s).sample.path; weight = _; weights = (draw_child c s).sample.weights; path-is = refl; weights-is = refl; fits = child-drawn c s q.0 z.0 }
  bin-drawn (more b c bs) (suc i) k s f z l =
      let q = both (formed_child c) (formed_bins bs) (both (chance b.probability) (formed_child c && formed_bins bs) f).1 in
      let t = bin-drawn bs i k s q.1 z.1 (omega arith) in
      record { path = t.path; weight = t.weight; weights = t.weights; path-is = t.path-is; weights-is = t.weights-is; fits = t.fits }

  child-drawn : (c : Child) (s : MonteCarloRng) → formed_child c ≡ true → SizedChild c
      → fault_of_child c (draw_child c s).sample.path (draw_child c s).sample.weights (draw_child c s).sample.coordinates ≡ 0
  child-drawn nothing s f z = refl
  child-drawn (grid g) s f z = form-drawn g s f z

-- of a well-formed grid
pub drawn-formed : (g : Grid) (s : MonteCarloRng) → sound g ≡ true → Sized g
    → fault_of g (draw_grid g s).sample.path (draw_grid g s).sample.weights (draw_grid g s).sample.coordinates ≡ 0
unfolding sound
drawn-formed g s w z = form-drawn g s (both (formed_grid g) _ w).0 z
