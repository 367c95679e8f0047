-- The bins that a sample's coordinates fall to on the axes where its path ends, and an array that begins with them.
use Rattle.std.specs.Prelude.{◌≡◌, List, [], ◌∷◌, ℕ, zero, suc, length, Float}
use Rattle.model.specs.Grid.{Grid, Bins, Child, axes, bins, none, more, nothing, grid}
use Rattle.lent.specs.declared.Sample.{Sample}
use Rattle.lent.specs.Sampled.{entries}
use Rattle.lent.specs.Trained.{bins_on}
use Rattle.lent.specs.Absorbed.{path_left, places_in, Takes, TakesChild}

unfoldable mutual
  pub spots_of : Grid → List ℕ → List Float → List ℕ
  spots_of (axes g) path xs = bins_on g.axes xs
  spots_of (bins h bs) [] xs = []
  spots_of (bins h bs) (i ∷ path) xs = spots_of_bin bs i path xs

  pub spots_of_bin : Bins → ℕ → List ℕ → List Float → List ℕ
  spots_of_bin none i path xs = []
  spots_of_bin (more b c bs) zero path xs = spots_of_child c path xs
  spots_of_bin (more b c bs) (suc i) path xs = spots_of_bin bs i path xs

  pub spots_of_child : Child → List ℕ → List Float → List ℕ
  spots_of_child nothing path xs = []
  spots_of_child (grid g) path xs = spots_of g path xs

-- an array begins with these
abbrev pub Begins : List ℕ → List ℕ → Type 0
Begins spots is = entries 0 spots 0 (length is) ≡ is

-- an array begins with the bins of what is left of a sample below d bins grids
abbrev pub Found : List ℕ → Grid → Sample → ℕ → Type 0
Found spots g s d = Begins spots (spots_of g (path_left s d) (places_in s))

abbrev pub FoundChild : List ℕ → Child → Sample → ℕ → Type 0
FoundChild spots c s d = Begins spots (spots_of_child c (path_left s d) (places_in s))

-- ---- a grid takes a sample, and an array begins with its bins

pub record Held (s : Sample) (spots : List ℕ) (g : Grid) (d number : ℕ) : Type 0 where
  pub takes : Takes g s d number
  pub found : Found spots g s d

pub record HeldChild (s : Sample) (spots : List ℕ) (c : Child) (d number : ℕ) : Type 0 where
  pub takes : TakesChild c s d number
  pub found : FoundChild spots c s d
