-- Samples: what the struct says, in the model's words.
use Rattle.std.specs.Prelude.{◌≡◌, ℕ, zero, suc, ◌+◌, ◌≤◌, ◌≢◌, Bool, ◌&&◌, List, [], ◌∷◌, length, get_or, Float}
use Rattle.std.proofs.lemmas.List.Edits.{sets}
use Rattle.std.specs.Float.{nan}
use Rattle.doubles.specs.Numbers.{zero64}
use Rattle.model.specs.Grid.{Child}
use Rattle.model.specs.Sound.{formed_child, kept_child}
use Rattle.model.specs.Draw.{Sample, Drawing, weight_at}
use Rattle.lent.specs.Drawn.{padded}
use Rattle.lent.specs.Tree.{Laid}
use Rattle.lent.specs.declared.Sample as given
use Rattle.lent.specs.declared.Drawing as drawn
use Rattle.lent.specs.declared.Traced.{Traced}

-- n entries of an array, from entry i on
unfoldable pub entries : {A : Type 0} → A → List A → ℕ → ℕ → List A
entries d xs i zero = []
entries d xs i (suc n) = get_or xs i d ∷ entries d xs (i + 1) n

unfoldable pub sample_of : given.Sample → Sample
sample_of s =
    record { path = entries 0 s.path 0 s.levels; weights = entries nan s.weights 0 s.given; coordinates = entries nan s.coordinates 0 s.axes }

-- a bin and a weight in front
unfoldable pub pushed : ℕ → Float → Sample → Sample
pushed i w s = record { path = i ∷ s.path; weights = w ∷ s.weights; coordinates = s.coordinates }

-- what hangs at a link lies there: nothing at 0, else a grid
unfoldable pub ChildLaid : ℕ → List ℕ → ℕ → ℕ → ℕ → Type 0
ChildLaid l table R C link = link ≢ 0 → Laid l table R C link

unfoldable pub sound_child : Child → Bool
sound_child c = formed_child c && kept_child c

-- a sample of nothing
abbrev pub empty : Sample
empty = record { path = []; weights = []; coordinates = [] }

-- ---- a sample as the struct: what is not given is 0

unfoldable pub laid_sample : Sample → given.Sample
laid_sample s =
    record {
      path = padded 4 0 s.path;
      levels = length s.path;
      weights = padded 5 zero64 s.weights;
      given = length s.weights;
      coordinates = padded 8 zero64 s.coordinates;
      axes = length s.coordinates;
    }

unfoldable pub laid_drawing : Drawing → drawn.Drawing
laid_drawing d = record { sample = laid_sample d.sample; stream = d.stream }

-- its lists are those of a grid with so many levels at most
pub record Short (l : ℕ) (s : Sample) : Type 0 where
  pub levels : length s.path ≤ l
  pub given : length s.weights ≤ l + 1
  pub axes : length s.coordinates ≤ 8

-- what a draw below d levels answers: how many levels, weights and coordinates are there now, its weight and its stream
unfoldable pub traced_of : ℕ → Drawing → Traced
traced_of d m =
    record {
      levels = d + length m.sample.path;
      given = d + length m.sample.weights;
      axes = length m.sample.coordinates;
      weight = weight_at m.sample.weights;
      stream = m.stream;
    }

-- a drawn sample written over another: its entries before those that were there, and how many they are
pub record WrittenOver (s s' : given.Sample) (m : Sample) : Type 0 where
  pub path : s'.path ≡ sets s.path 0 m.path
  pub levels : s'.levels ≡ length m.path
  pub weights : s'.weights ≡ sets s.weights 0 m.weights
  pub given : s'.given ≡ length m.weights
  pub coordinates : s'.coordinates ≡ sets s.coordinates 0 m.coordinates
  pub axes : s'.axes ≡ length m.coordinates
  pub short : Short 4 m

-- a draw below d levels is this one of the model's: its answer, and its lists written over those that were there
abbrev pub TracesAxes : ℕ → Drawing → Traced → List Float → List Float → List Float → List Float → Type 0
TracesAxes d m t ws ws' xs xs' = (t ≡ traced_of d m) × (ws' ≡ sets ws d m.sample.weights) × (xs' ≡ sets xs 0 m.sample.coordinates) × Short 0 m.sample

abbrev pub Traces : ℕ → ℕ → Drawing → Traced → List ℕ → List ℕ → List Float → List Float → List Float → List Float → Type 0
Traces l d m t ps ps' ws ws' xs xs' =
    (t ≡ traced_of d m) × (ps' ≡ sets ps d m.sample.path) × (ws' ≡ sets ws d m.sample.weights) × (xs' ≡ sets xs 0 m.sample.coordinates) × Short l m.sample
