-- A grid in lent memory: its run of the plan's table says what it is and where it begins (docs/DESIGN.md, "Lent memory").
use Rattle.std.specs.Prelude.{◌≡◌, ◌≢◌, ◌⊎◌, Bool, true, cond, ◌&&◌, List, ℕ, zero, suc, ◌+◌, ◌*◌, ◌^◌, ◌≤◌, ◌<◌, eqb, leb, length, get_or, Float}
use Rattle.std.specs.Float.{nan, binary64}
use Rattle.std.specs.Float.Ieee.{of_bits}
use Rattle.doubles.specs.Numbers.{zero64}
use Rattle.plan.specs.Numbers.{words_at}
use Rattle.plan.specs.Ranges.{floor_fits, ratio_fits}
use Rattle.model.specs.Axes.{AxesPlan, AxesGrid}
use Rattle.model.specs.Grid.{Grid, Bins, Child, Head, Bin, axes, bins, none, more, nothing, grid}
use Rattle.lent.specs.declared.AxesAt.{AxesAt}
use Rattle.lent.specs.Memory.{record_at}
use Rattle.lent.specs.Drawn.{axes_at}

-- ---- reading

-- what an axes grid's run says: its plan, and where its axes begin, behind its own accumulator
unfoldable pub axes_plan_at : List ℕ → ℕ → AxesPlan
axes_plan_at table w =
    record {
      bins = get_or table (w + 3) 0;
      least = get_or table (w + 4) 0;
      averages = eqb (get_or table (w + 5) 0) 1;
      evolution = words_at table (w + 11) (get_or table (w + 8) 0);
      floor = of_bits binary64 (get_or table (w + 6) 0);
    }

unfoldable pub axes_place : List ℕ → ℕ → AxesAt
axes_place table w =
    record {
      axes = get_or table (w + 2) 0;
      most = get_or table (w + 7) 0;
      floor = of_bits binary64 (get_or table (w + 6) 0);
      reals = get_or table (w + 9) 0 + 14;
      counts = get_or table (w + 10) 0 + 7;
    }

-- of any table and word: a run's head lies there, and its places are none past 2^63; else the place of no axes
unfoldable pub place_fits : List ℕ → ℕ → Bool
place_fits table w = leb (w + 11) (length table) && (leb (get_or table (w + 9) 0) (2 ^ 63) && leb (get_or table (w + 10) 0) (2 ^ 63))

abbrev pub nowhere : AxesAt
nowhere = record { axes = 0; most = 0; floor = zero64; reals = 0; counts = 0 }

unfoldable pub place_of : List ℕ → ℕ → AxesAt
place_of table w = cond (place_fits table w) (axes_place table w) nowhere

unfoldable pub axes_grid_at : List ℕ → List Float → List ℕ → ℕ → AxesGrid
axes_grid_at table reals counts w =
    record {
      plan = axes_plan_at table w;
      axes = axes_at reals counts (axes_place table w);
      own = record_at reals counts (get_or table (w + 9) 0) (get_or table (w + 10) 0);
    }

-- a bins grid's own, and its bin i: the probabilities stand behind its own accumulator, the bins' accumulators behind those
unfoldable pub head_at : List ℕ → List Float → List ℕ → ℕ → Head
head_at table reals counts w =
    record {
      ratio = of_bits binary64 (get_or table (w + 3) 0);
      averages = eqb (get_or table (w + 4) 0) 1;
      own = record_at reals counts (get_or table (w + 5) 0) (get_or table (w + 6) 0);
    }

unfoldable pub bin_in : List ℕ → List Float → List ℕ → ℕ → ℕ → Bin
bin_in table reals counts w i =
    record {
      probability = get_or reals (get_or table (w + 5) 0 + 14 + i) nan;
      own = record_at reals counts (get_or table (w + 5) 0 + 14 + get_or table (w + 2) 0 + 14 * i) (get_or table (w + 6) 0 + 7 + 7 * i);
    }

-- what hangs at a link: 0 is nothing, else the run's word
unfoldable pub child_in : (ℕ → Grid) → ℕ → Child
child_in f link = cond (eqb link 0) nothing (grid (f link))

-- n bins from bin i on
unfoldable pub bins_in : (ℕ → Grid) → List ℕ → List Float → List ℕ → ℕ → ℕ → ℕ → Bins
bins_in f table reals counts w i zero = none
bins_in f table reals counts w i (suc n) =
    more (bin_in table reals counts w i) (child_in f (get_or table (w + 7 + i) 0)) (bins_in f table reals counts w (i + 1) n)

unfoldable pub node_at : (ℕ → Grid) → List ℕ → List Float → List ℕ → ℕ → Grid
node_at f table reals counts w =
    cond (eqb (get_or table w 0) 1) (axes (axes_grid_at table reals counts w))
    (bins (head_at table reals counts w) (bins_in f table reals counts w 0 (get_or table (w + 2) 0)))

-- the grid whose run begins at word w, with so many levels left; where none is left only an axes grid can stand
unfoldable pub grid_at : ℕ → List ℕ → List Float → List ℕ → ℕ → Grid
grid_at zero table reals counts w = axes (axes_grid_at table reals counts w)
grid_at (suc l) table reals counts w = node_at (grid_at l table reals counts) table reals counts w

-- ---- what lies there

-- an axes grid's run lies in the table, its numbers are within their bounds, and its stretches lie within R reals and C counts
pub record AxesLaid (table : List ℕ) (R C w : ℕ) : Type 0 where
  pub kind : get_or table w 0 ≡ 1
  pub head : w + (11 + get_or table (w + 8) 0) ≤ length table
  pub axes : get_or table (w + 2) 0 ≤ 8
  pub some : 1 ≤ get_or table (w + 3) 0
  pub fits : get_or table (w + 3) 0 ≤ get_or table (w + 7) 0
  pub most : get_or table (w + 7) 0 ≤ 1024
  pub values : (i : ℕ) → i < get_or table (w + 8) 0 → (1 ≤ get_or table (w + 11 + i) 0) × (get_or table (w + 11 + i) 0 ≤ get_or table (w + 7) 0)
  pub floor : floor_fits (get_or table (w + 6) 0) ≡ true
  pub room : get_or table (w + 9) 0 + 14 + get_or table (w + 2) 0 * (6 * get_or table (w + 7) 0 + 1) ≤ R
  pub places : get_or table (w + 10) 0 + 7 + get_or table (w + 2) 0 * (3 * get_or table (w + 7) 0 + 2) ≤ C

-- where a run's reals and counts begin
unfoldable pub reals_from : List ℕ → ℕ → ℕ
reals_from table w = cond (eqb (get_or table w 0) 1) (get_or table (w + 9) 0) (get_or table (w + 5) 0)

unfoldable pub counts_from : List ℕ → ℕ → ℕ
counts_from table w = cond (eqb (get_or table w 0) 1) (get_or table (w + 10) 0) (get_or table (w + 6) 0)

-- a bins grid's, where each link is 0 or that of a child, whose stretches begin past its own
pub record BinsLaid (f : ℕ → Type 0) (table : List ℕ) (R C w : ℕ) : Type 0 where
  pub kind : get_or table w 0 ≡ 2
  pub head : w + (7 + get_or table (w + 2) 0) ≤ length table
  pub some : 1 ≤ get_or table (w + 2) 0
  pub most : get_or table (w + 2) 0 ≤ 256
  pub ratio : ratio_fits (get_or table (w + 3) 0) ≡ true
  pub room : get_or table (w + 5) 0 + 14 + 15 * get_or table (w + 2) 0 ≤ R
  pub places : get_or table (w + 6) 0 + 7 + 7 * get_or table (w + 2) 0 ≤ C
  pub children : (i : ℕ) → i < get_or table (w + 2) 0 → get_or table (w + 7 + i) 0 ≢ 0 → f (get_or table (w + 7 + i) 0)
  pub past : (i : ℕ) → i < get_or table (w + 2) 0 → get_or table (w + 7 + i) 0 ≢ 0
      → (get_or table (w + 5) 0 + 14 + 15 * get_or table (w + 2) 0 ≤ reals_from table (get_or table (w + 7 + i) 0)) × (get_or table (w + 6) 0 + 7 + 7 * get_or table (w + 2) 0 ≤ counts_from table (get_or table (w + 7 + i) 0))

unfoldable pub Laid : ℕ → List ℕ → ℕ → ℕ → ℕ → Type 0
Laid zero table R C w = AxesLaid table R C w
Laid (suc l) table R C w = AxesLaid table R C w ⊎ BinsLaid (Laid l table R C) table R C w
