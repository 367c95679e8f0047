-- Training and merging keep a grid's form; so a grid that was well formed is so again where what it would leave is kept.
use mathlib.Core.Path.{◌≡◌, refl, ap}
use mathlib.Core.Bool.{true}
use mathlib.Core.List.{List, [], ◌∷◌}
use Prim.Native.Nat.{ℕ, zero, suc}
use lib.ListN.{length, length-set, get_or}
use lib.Ieee.{Float, binary64, mul}
use Rattle.doubles.proofs.Truth.{both}
use Rattle.accumulator.specs.declared.StatisticsAccumulator.{StatisticsAccumulator}
use Rattle.accumulator.specs.Record.{fresh, well_formed}
use Rattle.accumulator.specs.Steps.{added_of}
use Rattle.axis.specs.Edges.{bin_of}
use Rattle.model.specs.Axes.{Axis, AxesPlan}
use Rattle.model.specs.Grid.{Grid, Bins, Child, axes, bins, none, more, nothing, grid, with_bin}
use Rattle.model.specs.Draw.{weight_at}
use Rattle.model.specs.Sound.{sound, formed_axis, formed_axis_list, formed_grid, formed_bins, formed_child, kept_grid}
use Rattle.model.specs.Merge.{merge_bin_records, merge_axis, merge_all, merge_grid, merge_bins, merge_child}
use Rattle.model.specs.Train.{train_axis, train_all, train_axes, train_grid, train_bin, train_child}
use Rattle.lent.specs.State.{own_of}

axis-formed : (plan : AxesPlan) (ax : Axis) (x v : Float) → formed_axis plan (train_axis ax x v) ≡ formed_axis plan ax
unfolding formed_axis train_axis
axis-formed plan ax x v =
    let i = bin_of ax.edges x in
    rw (length-set ax.bins i (added_of (get_or ax.bins i fresh) v 0))

pub axes-formed : (plan : AxesPlan) (axs : List Axis) (xs : List Float) (v : Float) → formed_axis_list plan (train_all axs xs v) ≡ formed_axis_list plan axs
unfolding formed_axis_list train_all
axes-formed plan [] xs v = refl
axes-formed plan (ax ∷ axs) [] v = refl
axes-formed plan (ax ∷ axs) (x ∷ xs) v = rw (axis-formed plan ax x v, axes-formed plan axs xs v)

mutual
  unfolding formed_grid formed_bins formed_child train_grid train_axes train_bin train_child with_bin

  pub grid-formed : (g : Grid) (path : List ℕ) (ws xs : List Float) (e : Float) (k : ℕ) → formed_grid (train_grid g path ws xs e k) ≡ formed_grid g
  grid-formed (axes g) path ws xs e k = axes-formed g.plan g.axes xs (mul binary64 (weight_at ws) e)
  grid-formed (bins h bs) [] ws xs e k = refl
  grid-formed (bins h bs) (i ∷ path) [] xs e k = refl
  grid-formed (bins h bs) (i ∷ path) (w ∷ ws) xs e k = bins-formed bs i w path ws xs e k

  bins-formed : (bs : Bins) (i : ℕ) (w : Float) (path : List ℕ) (ws xs : List Float) (e : Float) (k : ℕ) → formed_bins (train_bin bs i w path ws xs e k) ≡ formed_bins bs
  bins-formed none i w path ws xs e k = refl
  bins-formed (more b c bs) zero w path ws xs e k = rw (child-formed c path ws xs e k)
  bins-formed (more b c bs) (suc i) w path ws xs e k = rw (bins-formed bs i w path ws xs e k)

  child-formed : (c : Child) (path : List ℕ) (ws xs : List Float) (e : Float) (k : ℕ) → formed_child (train_child c path ws xs e k) ≡ formed_child c
  child-formed nothing path ws xs e k = refl
  child-formed (grid g) path ws xs e k = grid-formed g path ws xs e k

-- the form of a well-formed grid, and well formed again
pub sound-formed : (g : Grid) → sound g ≡ true → formed_grid g ≡ true
unfolding sound
sound-formed g e = (both (formed_grid g) (kept_grid g) e).0

pub sound-trained : (g : Grid) (path : List ℕ) (ws xs : List Float) (e : Float) (k : ℕ) → sound g ≡ true → kept_grid (train_grid g path ws xs e k) ≡ true → sound (train_grid g path ws xs e k) ≡ true
unfolding sound
sound-trained g path ws xs e k w q = rw (grid-formed g path ws xs e k, (both (formed_grid g) (kept_grid g) w).0, q)

-- ---- so does merging

merged-length : (xs ys : List StatisticsAccumulator) → length (merge_bin_records xs ys) ≡ length xs
unfolding merge_bin_records
merged-length [] ys = refl
merged-length (a ∷ rest) [] = refl
merged-length (a ∷ rest) (b ∷ bs) = ap suc (merged-length rest bs)

merged-axis : (plan : AxesPlan) (a b : Axis) → formed_axis plan (merge_axis a b) ≡ formed_axis plan a
unfolding formed_axis merge_axis
merged-axis plan a b = rw (merged-length a.bins b.bins)

merged-axes : (plan : AxesPlan) (axs others : List Axis) → formed_axis_list plan (merge_all axs others) ≡ formed_axis_list plan axs
unfolding formed_axis_list merge_all
merged-axes plan [] others = refl
merged-axes plan (a ∷ axs) [] = refl
merged-axes plan (a ∷ axs) (b ∷ others) = rw (merged-axis plan a b, merged-axes plan axs others)

mutual
  unfolding formed_grid formed_bins formed_child merge_grid merge_bins merge_child with_bin

  merged-grid : (g o : Grid) → formed_grid (merge_grid g o) ≡ formed_grid g
  merged-grid (axes g) (axes o) = merged-axes g.plan g.axes o.axes
  merged-grid (axes g) (bins h bs) = refl
  merged-grid (bins h bs) (axes o) = refl
  merged-grid (bins h bs) (bins k cs) = merged-bins bs cs

  merged-bins : (bs cs : Bins) → formed_bins (merge_bins bs cs) ≡ formed_bins bs
  merged-bins none cs = refl
  merged-bins (more b c bs) none = refl
  merged-bins (more b c bs) (more d e ds) = rw (merged-child c e, merged-bins bs ds)

  merged-child : (c e : Child) → formed_child (merge_child c e) ≡ formed_child c
  merged-child nothing e = refl
  merged-child (grid g) nothing = refl
  merged-child (grid g) (grid o) = merged-grid g o

pub sound-merged : (g o : Grid) → sound g ≡ true → kept_grid (merge_grid g o) ≡ true → sound (merge_grid g o) ≡ true
unfolding sound
sound-merged g o w q = rw (merged-grid g o, (both (formed_grid g) (kept_grid g) w).0, q)

-- the accumulator of a well-formed grid is well formed
pub own-kept : (g : Grid) → sound g ≡ true → well_formed (own_of g) ≡ true
unfolding sound kept_grid own_of
own-kept (axes g) w = (both (well_formed g.own) _ (both (formed_grid (axes g)) _ w).1).0
own-kept (bins h bs) w = (both (well_formed h.own) _ (both (formed_grid (bins h bs)) _ w).1).0
