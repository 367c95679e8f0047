-- A probe axis by axis: the weight so far and what is left of the axes make the model's probe.
use mathlib.Core.Path.{◌≡◌, refl, sym, ap, ◌∙◌}
use mathlib.Core.Bool.{Bool, true, false, not, cond, ◌||◌}
use mathlib.Core.List.{List, ◌∷◌}
use Prim.Native.Nat.{ℕ, zero, suc, ◌+◌, ◌-◌, ◌≤◌, ◌<◌}
use native.Mathlib.Omega.{arith}
use lib.ListN.{length, get_or, take, drop}
use lib.Ieee.{Float, nan, binary64, mul}
use Rattle.std.specs.Prelude.{Result, Ok, Err}
use Rattle.doubles.specs.Paper.{Paper, gives, refuses}
use Rattle.doubles.specs.Refusal.{paper}
use Rattle.doubles.specs.declared.refusal.Refusal.{Refusal}
use Rattle.axis.specs.Edges.{in_unit, bin_of, weight_of}
use Rattle.model.specs.Axes.{Axis, AxesGrid}
use Rattle.model.specs.Draw.{floored_of}
use Rattle.model.specs.Probe.{Coordinate, probe_all, probe_axes, through}
use Rattle.lent.specs.declared.AxesAt.{AxesAt}
use Rattle.lent.specs.declared.Coordinates.{Coordinates}
use Rattle.lent.specs.Layout.{stretch, axis_at, axes_from}
use Rattle.lent.specs.Drawn.{axes_at}
use Rattle.lent.specs.Onward.{onward}
use Rattle.lent.specs.Probed.{coordinate_of, coordinates_from, probed_of}
use Rattle.lent.proofs.First.{first-apart}

-- the promise of a probe is the model's
pub probed-model : (g : AxesGrid) (xs : List Coordinate) → probe_axes g xs ≡ probed_of g.plan.floor g.axes xs
unfolding probe_axes probed_of
probed-model g xs = refl

pub coordinates-length : (p : Coordinates) (i n : ℕ) → length (coordinates_from p i n) ≡ n
unfolding coordinates_from
coordinates-length p i zero = refl
coordinates-length p i (suc n) = ap suc (coordinates-length p (i + 1) n)

-- one axis
one_more : (ax : Axis) (rest : List Axis) (free : Bool) (x : Float) (xs : List Coordinate) (w : Float)
    → probe_all (ax ∷ rest) (coordinate_of free x ∷ xs) w
    ≡ cond (not (free || in_unit x)) (refuses 5) (probe_all rest xs (cond free w (mul binary64 w (weight_of ax.edges (bin_of ax.edges x)))))
unfolding probe_all coordinate_of
one_more ax rest true x xs w = refl
one_more ax rest false x xs w = refl

module _ (reals : List Float) (counts : List ℕ) (p : Coordinates) where
  -- what is left to do from an axis on
  abbrev pub left_of : AxesAt → ℕ → Float → Paper Float
  left_of g d w = probe_all (axes_at reals counts g) (coordinates_from p d g.axes) w

  probed-on : (g : AxesAt) (d : ℕ) (w : Float) → 0 < g.axes
      → left_of g d w
      ≡ cond (not (get_or p.free d false || in_unit (get_or p.at d nan))) (refuses 5)
      (left_of (onward g) (d + 1)
      (cond (get_or p.free d false) w
      (mul binary64 w (weight_of (stretch g.reals (get_or counts g.counts 0 + 1) reals) (bin_of (stretch g.reals (get_or counts g.counts 0 + 1) reals) (get_or p.at d nan))))))
  unfolding coordinates_from axis_at onward
  probed-on g d w h =
      let e : g.axes ≡ suc (g.axes - 1) = omega arith in
      ap (λ (axs : List Axis). probe_all axs (coordinates_from p d g.axes) w) (first-apart reals counts g h)
      ∙ ap (λ (n : ℕ). probe_all (axis_at g.most reals counts g.reals g.counts ∷ axes_at reals counts (onward g)) (coordinates_from p d n) w) e
      ∙ one_more _ _ _ _ _ _

  -- a coordinate that is no number in [0, 1]
  pub probed-stop : (g : AxesAt) (d : ℕ) (w : Float) (fit : Bool) → 0 < g.axes
      → fit ≡ (get_or p.free d false || in_unit (get_or p.at d nan)) → not fit ≡ true → left_of g d w ≡ refuses 5
  probed-stop g d w fit h e n = probed-on g d w h ∙ rw (sym e, n)

  -- one that is, and the weight with this axis's own
  pub probed-next : (g o : AxesAt) (d : ℕ) (w v : Float) (fit : Bool) → 0 < g.axes → o ≡ onward g
      → fit ≡ (get_or p.free d false || in_unit (get_or p.at d nan)) → not fit ≡ false
      → v ≡ cond (get_or p.free d false) w
      (mul binary64 w (weight_of (take (g.reals + get_or counts g.counts 0 + 1 - g.reals) (drop g.reals reals)) (bin_of (take (g.reals + get_or counts g.counts 0 + 1 - g.reals) (drop g.reals reals)) (get_or p.at d nan))))
      → left_of o (d + 1) v ≡ left_of g d w
  unfolding stretch
  probed-next g o d w v fit h after e n f =
      let part : g.reals + get_or counts g.counts 0 + 1 - g.reals ≡ get_or counts g.counts 0 + 1 = omega arith in
      sym (probed-on g d w h ∙ rw (sym e, n, after, f, part))

  pub probed-out : (g : AxesAt) (d : ℕ) (w : Float) → g.axes ≤ 0 → left_of g d w ≡ gives w
  unfolding probe_all axes_from
  probed-out g d w h = let e : g.axes ≡ 0 = omega arith in rw e

-- the floor on a probe's answer
pub floors-weight : (f w v : Float) (p : Result Float Refusal) → p ≡ Ok w → v ≡ floored_of f w → paper {A = Float} (Ok v) ≡ through (floored_of f) (paper p)
floors-weight f w v p e g = rw (e, g)

pub floors-refusal : (f : Float) (r : Refusal) (p : Result Float Refusal) → p ≡ Err r → paper {A = Float} (Err r) ≡ through (floored_of f) (paper p)
floors-refusal f r p e = rw e
