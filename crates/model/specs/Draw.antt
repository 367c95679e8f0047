-- Sampling: the Rust's `sample` of either grid, with the document's draw and last-bin rule.
use Rattle.std.specs.Prelude.{ℕ, zero, suc, Bool, true, false, cond, List, [], ◌∷◌, Float}
use Rattle.std.specs.Float.{binary64}
use Rattle.std.specs.Float.Ieee.{add, sub, mul, div, lt, le, eq}
use Rattle.doubles.specs.Numbers.{zero64, one64}
use Rattle.doubles.specs.Inverse.{inv_of}
use Rattle.stream.specs.declared.MonteCarloRng.{MonteCarloRng}
use Rattle.stream.specs.Xoshiro.{word_of, step_of}
use Rattle.stream.specs.Calls.{unit_of}
use Rattle.axis.specs.declared.Point.{Point}
use Rattle.axis.specs.Edges.{bin_of, weight_of}
use Rattle.axis.specs.Calls.{point_of}
use Rattle.model.specs.Axes.{Axis, AxesGrid}
use Rattle.model.specs.Grid.{Bin, Grid, Bins, Child, axes, bins, none, more, nothing, grid, probabilities}

-- a sample: a bin for each bins grid on its path, a weight for each of them and for the axes grid at its end, that grid's coordinates
pub record Sample : Type 0 where
  pub path : List ℕ
  pub weights : List Float
  pub coordinates : List Float

-- a sample's weight is that of its first level
unfoldable pub weight_at : List Float → Float
weight_at [] = one64
weight_at (w ∷ ws) = w

pub record Drawing : Type 0 where
  pub sample : Sample
  pub stream : MonteCarloRng

-- the unit draw of a stream's next word
unfoldable pub unit_at : MonteCarloRng → Float
unit_at s = unit_of (word_of s)

-- the floor f on a weight w: 0 leaves it; 1 gives 1; else 1/((1 − f)/w + f), 0 staying 0
unfoldable pub floored_of : Float → Float → Float
floored_of f w =
    cond (eq f zero64) w
    (cond (eq f one64) one64
    (cond (eq w zero64) zero64
    (inv_of (add binary64 (div binary64 (sub binary64 one64 f) w) f))))

-- the axes one by one, from a weight and a stream: coordinates, weight, stream
pub record Placed : Type 0 where
  pub coordinates : List Float
  pub weight : Float
  pub stream : MonteCarloRng

abbrev pub ahead : Float → Placed → Placed
ahead x p = record { coordinates = x ∷ p.coordinates; weight = p.weight; stream = p.stream }

-- a coordinate and its weight: even sampling takes the unit draw itself with the weight of its bin, else it is the axis's own draw
unfoldable pub place_on : Bool → List Float → Float → Point
place_on evenly es u = cond evenly (record { at = u; weight = weight_of es (bin_of es u) }) (point_of es u)

unfoldable pub walked : Bool → List Axis → Float → MonteCarloRng → Placed
walked evenly [] w s = record { coordinates = []; weight = w; stream = s }
walked evenly (ax ∷ rest) w s =
    let p = place_on evenly ax.edges (unit_at s) in
    ahead p.at (walked evenly rest (mul binary64 w p.weight) (step_of s))

-- floor 0 draws no choice word, nor does floor 1; else one draw below the floor selects even sampling
unfoldable pub placed_from : Float → List Axis → MonteCarloRng → Placed
placed_from f xs s =
    cond (eq f zero64) (walked false xs one64 s)
    (cond (eq f one64) (walked true xs one64 s)
    (walked (lt (unit_at s) f) xs one64 (step_of s)))

unfoldable pub placed_of : AxesGrid → MonteCarloRng → Placed
placed_of g s = placed_from g.plan.floor g.axes s

unfoldable pub draw_axes : AxesGrid → MonteCarloRng → Drawing
draw_axes g s =
    let p = placed_of g s in
    record { sample = record { path = []; weights = floored_of g.plan.floor p.weight ∷ []; coordinates = p.coordinates }; stream = p.stream }

-- the first bin whose running sum of probabilities is at least the draw; if none, the last
unfoldable pub reached : Float → Float → List Float → ℕ
reached r sum [] = 0
reached r sum (p ∷ []) = 0
reached r sum (p ∷ (q ∷ ps)) = cond (le r (add binary64 sum p)) 0 (suc (reached r (add binary64 sum p) (q ∷ ps)))

-- a bin's sample over its child's: the weight is the inverse of its probability times the child's
abbrev pub over : ℕ → Bin → Drawing → Drawing
over i b d =
    record {
      sample =
          record {
            path = i ∷ d.sample.path;
            weights = mul binary64 (inv_of b.probability) (weight_at d.sample.weights) ∷ d.sample.weights;
            coordinates = d.sample.coordinates;
          };
      stream = d.stream;
    }

-- no child: nothing is drawn and nothing weighs
unfoldable pub draw_nothing : MonteCarloRng → Drawing
draw_nothing s = record { sample = record { path = []; weights = []; coordinates = [] }; stream = s }

unfoldable mutual
  pub draw_grid : Grid → MonteCarloRng → Drawing
  draw_grid (axes g) s = draw_axes g s
  draw_grid (bins h bs) s = let i = reached (unit_at s) zero64 (probabilities bs) in draw_bin bs i i (step_of s)

  -- the bin i places on, whose number is k
  pub draw_bin : Bins → ℕ → ℕ → MonteCarloRng → Drawing
  draw_bin none i k s = draw_nothing s
  draw_bin (more b c bs) zero k s = over k b (draw_child c s)
  draw_bin (more b c bs) (suc i) k s = draw_bin bs i k s

  pub draw_child : Child → MonteCarloRng → Drawing
  draw_child nothing s = draw_nothing s
  draw_child (grid g) s = draw_grid g s
