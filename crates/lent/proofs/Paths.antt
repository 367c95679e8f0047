-- A probe down its path: at each level what the model answers, as the code branches.
use mathlib.Core.Path.{◌≡◌, refl, sym, ap, ◌∙◌}
use mathlib.Core.Bool.{Bool, true, false, cond, false≢true}
use mathlib.Core.List.{List, [], ◌∷◌}
use Prim.Native.Nat.{ℕ, zero, suc, ◌+◌, ◌-◌, ◌≤◌, ◌<◌}
use native.Mathlib.Omega.{arith}
use borrow.Author.Tests.{lt-ltb, le-ltb, le-leb, lt-leb, eq-eqb, ne_eqb, leb-true, eqb-true}
use lib.Dec.{leb, ltb, eqb}
use lib.ListN.{length, get_or}
use lib.Ieee.{Float, nan, binary64, mul}
use Rattle.doubles.specs.Numbers.{one64}
use Rattle.doubles.specs.Inverse.{inv_of}
use Rattle.doubles.proofs.Truth.{both}
use Rattle.std.specs.Prelude.{Result, Ok, Err}
use Rattle.doubles.specs.Paper.{gives, refuses}
use Rattle.doubles.specs.Refusal.{paper}
use Rattle.doubles.specs.declared.refusal.Refusal.{Refusal}
use Rattle.model.specs.Axes.{AxesGrid}
use Rattle.model.specs.Grid.{Grid, Bins, Child, Head, axes, bins, nothing, grid, many}
use Rattle.model.specs.Probe.{Coordinate, through, probe_axes, probe_grid, probe_bin, probe_child}
use Rattle.lent.specs.declared.Coordinates.{Coordinates}
use Rattle.lent.specs.declared.Region.{Region}
use Rattle.lent.specs.declared.AxesAt.{AxesAt}
use Rattle.lent.specs.Drawn.{axes_at}
use Rattle.lent.specs.Tree.{axes_plan_at, axes_place, axes_grid_at, bin_in, child_in, bins_in}
use Rattle.lent.specs.Sampled.{entries}
use Rattle.lent.specs.Probed.{coordinates_from, coordinates_of, probed_of, path_from, ends_at}
use Rattle.lent.proofs.Probes.{coordinates-length, probed-model}

-- ---- the path at a depth

pub path-out : (p : Region) (d : ℕ) → p.levels ≤ d → path_from p d ≡ []
unfolding path_from entries
path-out p d h = let e : p.levels - d ≡ 0 = omega arith in rw e

pub path-on : (p : Region) (d : ℕ) → d < p.levels → path_from p d ≡ get_or p.path d 0 ∷ path_from p (d + 1)
unfolding path_from entries
path-on p d h = let e : p.levels - d ≡ suc (p.levels - (d + 1)) = omega arith in ap (entries 0 p.path d) e

-- ---- an axes grid

pub axes-passed : (g : AxesGrid) (p : Region) (d : ℕ) (xs : List Coordinate) → d < p.levels → probe_grid (axes g) (path_from p d) xs ≡ refuses 4
unfolding probe_grid
axes-passed g p d xs h = ap (λ (is : List ℕ). probe_grid (axes g) is xs) (path-on p d h)

pub axes-met : (g : AxesGrid) (p : Region) (d : ℕ) (xs : List Coordinate) → p.levels ≤ d → probe_grid (axes g) (path_from p d) xs ≡ probe_axes g xs
unfolding probe_grid
axes-met g p d xs h = ap (λ (is : List ℕ). probe_grid (axes g) is xs) (path-out p d h)

-- ---- a bins grid

pub bins-ended : (h : Head) (bs : Bins) (p : Region) (d : ℕ) (xs : List Coordinate) → p.levels ≤ d → probe_grid (bins h bs) (path_from p d) xs ≡ refuses 4
unfolding probe_grid
bins-ended h bs p d xs k = ap (λ (is : List ℕ). probe_grid (bins h bs) is xs) (path-out p d k)

module _ (f : ℕ → Grid) (table : List ℕ) (reals : List Float) (counts : List ℕ) (w : ℕ) where
  pub many-bins : (i n : ℕ) → many (bins_in f table reals counts w i n) ≡ n
  unfolding many bins_in
  many-bins i zero = refl
  many-bins i (suc n) = ap suc (many-bins (i + 1) n)

  probe-bin-from : (n j i : ℕ) (path : List ℕ) (xs : List Coordinate) → i < n
      → probe_bin (bins_in f table reals counts w j n) i path xs
      ≡ through (mul binary64 (inv_of (bin_in table reals counts w (j + i)).probability)) (probe_child (child_in f (get_or table (w + 7 + (j + i)) 0)) path xs)
  unfolding probe_bin bins_in
  probe-bin-from zero j i path xs h = absurd (omega arith)
  probe-bin-from (suc n) j zero path xs h = let e : j + 0 ≡ j = omega arith in rw e
  probe-bin-from (suc n) j (suc i) path xs h = let e : j + suc i ≡ j + 1 + i = omega arith in rw e (probe-bin-from n (j + 1) i path xs (omega arith))

  -- the bin that the path names
  probe-bin : (n i : ℕ) (path : List ℕ) (xs : List Coordinate) → i < n
      → probe_bin (bins_in f table reals counts w 0 n) i path xs
      ≡ through (mul binary64 (inv_of (get_or reals (get_or table (w + 5) 0 + 14 + i) nan))) (probe_child (child_in f (get_or table (w + 7 + i) 0)) path xs)
  unfolding bin_in
  probe-bin n i path xs h =
      let e : 0 + i ≡ i = omega arith in
      probe-bin-from n 0 i path xs h
      ∙ ap (λ (k : ℕ). through (mul binary64 (inv_of (bin_in table reals counts w k).probability)) (probe_child (child_in f (get_or table (w + 7 + k) 0)) path xs)) e

  module _ (h : Head) (n : ℕ) (p : Region) (d : ℕ) (xs : List Coordinate) (on : d < p.levels) where
    bins-at : probe_grid (bins h (bins_in f table reals counts w 0 n)) (path_from p d) xs
        ≡ cond (ltb (get_or p.path d 0) n) (probe_bin (bins_in f table reals counts w 0 n) (get_or p.path d 0) (path_from p (d + 1)) xs) (refuses 6)
    unfolding probe_grid
    bins-at =
        ap (λ (is : List ℕ). probe_grid (bins h (bins_in f table reals counts w 0 n)) is xs) (path-on p d on)
        ∙ ap (λ (k : ℕ). cond (ltb (get_or p.path d 0) k) (probe_bin (bins_in f table reals counts w 0 n) (get_or p.path d 0) (path_from p (d + 1)) xs) (refuses 6)) (many-bins 0 n)

    pub bins-strayed : n ≤ get_or p.path d 0 → probe_grid (bins h (bins_in f table reals counts w 0 n)) (path_from p d) xs ≡ refuses 6
    bins-strayed k = bins-at ∙ rw (le-ltb (get_or p.path d 0) n k)

    pub bins-through : get_or p.path d 0 < n
        → probe_grid (bins h (bins_in f table reals counts w 0 n)) (path_from p d) xs
        ≡ through (mul binary64 (inv_of (get_or reals (get_or table (w + 5) 0 + 14 + get_or p.path d 0) nan))) (probe_child (child_in f (get_or table (w + 7 + get_or p.path d 0) 0)) (path_from p (d + 1)) xs)
    bins-through k =
        bins-at ∙ rw (lt-ltb (get_or p.path d 0) n k) (probe-bin n (get_or p.path d 0) (path_from p (d + 1)) xs k)

-- ---- what hangs at a link

here : (c : Child) → probe_child c [] [] ≡ gives one64
unfolding probe_child
here nothing = refl
here (grid g) = refl

pub ends-over : (p : Region) (d : ℕ) → d < p.levels → false ≡ ends_at p d
unfolding ends_at
ends-over p d h = rw (lt-leb p.levels d h)

pub ends-bare : (p : Region) (d : ℕ) → p.levels ≤ d → eqb p.coordinates.many 0 ≡ ends_at p d
unfolding ends_at
ends-bare p d h = rw (le-leb p.levels d h)

length-entries : (xs : List ℕ) (i n : ℕ) → length (entries 0 xs i n) ≡ n
unfolding entries
length-entries xs i zero = refl
length-entries xs i (suc n) = ap suc (length-entries xs (i + 1) n)

ended : (p : Region) (d : ℕ) → p.levels ≤ d → p.coordinates.many ≡ 0 → ends_at p d ≡ true
unfolding ends_at
ended p d h e = rw (le-leb p.levels d h, eq-eqb p.coordinates.many 0 e)

still-left : (p : Region) (d : ℕ) (b : Bool) → b ≡ ends_at p d → b ≡ false → path_from p d ≡ [] → coordinates_of p.coordinates ≡ [] → ⊥
unfolding path_from coordinates_of
still-left p d b e f u v =
    let m : p.levels - d ≡ 0 = sym (length-entries p.path d (p.levels - d)) ∙ ap length u in
    let n : p.coordinates.many ≡ 0 = sym (coordinates-length p.coordinates 0 p.coordinates.many) ∙ ap length v in
    false≢true (sym f ∙ e ∙ ended p d (omega arith) n)

nothing_left : (path : List ℕ) (xs : List Coordinate) → (path ≡ [] → xs ≡ [] → ⊥) → probe_child nothing path xs ≡ refuses 4
unfolding probe_child
nothing_left [] [] h = absurd (h refl refl)
nothing_left [] (x ∷ xs) h = refl
nothing_left (i ∷ path) xs h = refl

grid-left : (g : Grid) (path : List ℕ) (xs : List Coordinate) → (path ≡ [] → xs ≡ [] → ⊥) → probe_child (grid g) path xs ≡ probe_grid g path xs
unfolding probe_child
grid-left g [] [] h = absurd (h refl refl)
grid-left g [] (x ∷ xs) h = refl
grid-left g (i ∷ path) xs h = refl

no-coordinates : (p : Coordinates) → p.many ≡ 0 → coordinates_of p ≡ []
unfolding coordinates_of coordinates_from
no-coordinates p e = ap (coordinates_from p 0) e

-- the path ends, with no coordinates
pub child-ended : (c : Child) (p : Region) (d : ℕ) (b : Bool) → b ≡ ends_at p d → b ≡ true → probe_child c (path_from p d) (coordinates_of p.coordinates) ≡ gives one64
unfolding ends_at
child-ended c p d b e f =
    let both_hold = both (leb p.levels d) (eqb p.coordinates.many 0) (sym e ∙ f) in
    ap (λ (is : List ℕ). probe_child c is (coordinates_of p.coordinates)) (path-out p d (leb-true p.levels d both_hold.0))
    ∙ ap (probe_child c []) (no-coordinates p.coordinates (eqb-true p.coordinates.many 0 both_hold.1))
    ∙ here c

-- something is left: nothing hangs there, or a grid
pub child-missing : (f : ℕ → Grid) (link : ℕ) (p : Region) (d : ℕ) (b : Bool) → b ≡ ends_at p d → b ≡ false → link ≡ 0
    → probe_child (child_in f link) (path_from p d) (coordinates_of p.coordinates) ≡ refuses 4
unfolding child_in
child-missing f link p d b e n z = rw z (nothing_left (path_from p d) (coordinates_of p.coordinates) (still-left p d b e n))

pub child-hung : (f : ℕ → Grid) (link : ℕ) (p : Region) (d : ℕ) (b : Bool) → b ≡ ends_at p d → b ≡ false → (link ≡ 0 → ⊥)
    → probe_child (child_in f link) (path_from p d) (coordinates_of p.coordinates) ≡ probe_grid (f link) (path_from p d) (coordinates_of p.coordinates)
unfolding child_in
child-hung f link p d b e n z = rw (ne_eqb link 0 z) (grid-left (f link) (path_from p d) (coordinates_of p.coordinates) (still-left p d b e n))

-- ---- the answers as the code makes them

pub through-weight : (f : Float → Float) (w : Float) (p : Result Float Refusal) → p ≡ Ok w → paper {A = Float} (Ok (f w)) ≡ through f (paper p)
through-weight f w p e = rw e

pub through-refusal : (f : Float → Float) (r : Refusal) (p : Result Float Refusal) → p ≡ Err r → paper {A = Float} (Err r) ≡ through f (paper p)
through-refusal f r p e = rw e

-- the axes where the code finds them
pub axes-probed : (table : List ℕ) (reals : List Float) (counts : List ℕ) (w : ℕ) (g : AxesAt) (xs : List Coordinate) → g ≡ axes_place table w
    → probed_of g.floor (axes_at reals counts g) xs ≡ probe_axes (axes_grid_at table reals counts w) xs
unfolding axes_grid_at axes_plan_at axes_place
axes-probed table reals counts w g xs e =
    ap (λ (a : AxesAt). probed_of a.floor (axes_at reals counts a) xs) e ∙ sym (probed-model (axes_grid_at table reals counts w) xs)
