-- The sampling that a floor selects.
use Rattle.std.specs.Prelude.{◌≡◌, Bool, List, Float}
use Rattle.doubles.specs.Numbers.{one64}
use Rattle.stream.specs.declared.MonteCarloRng.{MonteCarloRng}
use Rattle.model.specs.Axes.{Axis}
use Rattle.model.specs.Draw.{walked, placed_from}

-- even or not, from this stream on: the model's walk over any axes
abbrev pub Selects : Float → MonteCarloRng → Bool → MonteCarloRng → Type 0
Selects floor start evenly s = (axs : List Axis) → placed_from floor axs start ≡ walked evenly axs one64 s
