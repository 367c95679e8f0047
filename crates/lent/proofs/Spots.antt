-- The bins of a sample on the axes that are left to it: the first as it is found there, and the others once that one was judged.
use mathlib.Core.Path.{◌≡◌, sym, ap, ◌∙◌, subst}
use mathlib.Core.Bool.{Bool, true, ◌&&◌, and_assoc, and-true}
use mathlib.Core.List.{List, [], ◌∷◌, ◌++◌, append-nil, append_assoc}
use Prim.Native.Nat.{ℕ, ◌+◌, ◌-◌, ◌*◌, ◌≤◌, ◌<◌}
use native.Mathlib.Numerals.{add-one}
use native.Mathlib.Omega.{arith}
use lib.ListN.{length, take, drop, set, get_or}
use lib.Seq.{take-suc-set, length-take-le}
use lib.Ieee.{Float, nan}
use Rattle.doubles.proofs.Truth.{both}
use Rattle.axis.specs.Edges.{in_unit, bin_of}
use Rattle.lent.specs.Layout.{stretch, axis_reals, axis_counts, axis_at, axes_from}
use Rattle.lent.specs.Memory.{Memory, Asked}
use Rattle.lent.specs.Drawn.{Standing}
use Rattle.lent.specs.Sampled.{entries}
use Rattle.lent.specs.Trained.{all_in_unit, bins_on, Cell, cell_fits, cells_fit}
use Rattle.lent.specs.Found.{Begins}
use Rattle.lent.proofs.Standing.{left-on, next}
use Rattle.lent.proofs.Fitting.{one_left}
use Rattle.lent.proofs.Trains.{entries-take}

-- an array whose first k entries are these begins with them
pub begun : (spots is : List ℕ) (k : ℕ) → k ≤ length spots → take k spots ≡ is → Begins spots is
begun spots is k h e = let n : length is ≡ k = sym (ap length e) ∙ length-take-le k spots h in ap (entries 0 spots 0) n ∙ entries-take 0 spots k h ∙ e

module _ (m k : ℕ) (xs : List Float) where
  -- the bins on the axes from d on, where those begin at r and c
  unfoldable pub spots_left : ℕ → ℕ → ℕ → Memory → List ℕ
  spots_left d r c s = bins_on (axes_from m s.reals s.counts (k - d) r c) (entries nan xs d (k - d))

  -- what is asked of them
  pub record Left (d r c : ℕ) (s : Memory) : Type 0 where
    pub standing : Standing m s.reals s.counts (k - d) r c
    pub unit : all_in_unit (entries nan xs d (k - d)) ≡ true
    pub cells : Asked (Cell m) m (spots_left d r c s) r c s

  pub spots-all : (r c : ℕ) (s : Memory) → spots_left 0 r c s ≡ bins_on (axes_from m s.reals s.counts k r c) (entries nan xs 0 k)
  unfolding spots_left
  spots-all r c s = let e : k - 0 ≡ k = omega arith in rw e

  pub left-all : (r c : ℕ) (s : Memory) → Standing m s.reals s.counts k r c → all_in_unit (entries nan xs 0 k) ≡ true
      → Asked (Cell m) m (bins_on (axes_from m s.reals s.counts k r c) (entries nan xs 0 k)) r c s → Left 0 r c s
  left-all r c s a b g =
      let e : k - 0 ≡ k = omega arith in
      record { standing = rw e a; unit = rw e b; cells = subst (λ (is : List ℕ). Asked (Cell m) m is r c s) (sym (spots-all r c s)) g }

  spots-none : (d r c : ℕ) (s : Memory) → k ≤ d → spots_left d r c s ≡ []
  unfolding spots_left bins_on axes_from
  spots-none d r c s h = let e : k - d ≡ 0 = omega arith in rw e

  pub fits-none : (d r c : ℕ) (s : Memory) (v : Float) (ok : Bool) → k ≤ d → (ok && cells_fit m v (spots_left d r c s) r c s) ≡ ok
  unfolding cells_fit
  fits-none d r c s v ok h = ap (λ (is : List ℕ). ok && cells_fit m v is r c s) (spots-none d r c s h) ∙ and-true ok

  -- all of them are written
  pub noted-all : (d r c : ℕ) (s : Memory) (spots is : List ℕ) → d ≤ k → k ≤ d → take d spots ++ spots_left d r c s ≡ is → take k spots ≡ is
  noted-all d r c s spots is h i e =
      let same : k ≡ d = omega arith in
      ap (λ (n : ℕ). take n spots) same ∙ sym (append-nil (take d spots)) ∙ ap (λ (l : List ℕ). take d spots ++ l) (sym (spots-none d r c s i)) ∙ e

  -- ---- at axis d
  module _ (d r c : ℕ) (s : Memory) (h : d < k) where
    abbrev r' : ℕ
    r' = r + (6 * m + 1)

    abbrev c' : ℕ
    c' = c + (3 * m + 2)

    abbrev spot : ℕ
    spot = bin_of (stretch r (get_or s.counts c 0 + 1) s.reals) (get_or xs d nan)

    spots-on : spots_left d r c s ≡ spot ∷ spots_left (d + 1) r' c' s
    unfolding spots_left bins_on axis_at
    spots-on = rw (left-on m s.reals s.counts k d r c h, one_left nan xs d k h)

    module _ (l : Left d r c s) where
      units : (in_unit (get_or xs d nan) ≡ true) × (all_in_unit (entries nan xs (d + 1) (k - (d + 1))) ≡ true)
      unfolding all_in_unit
      units = both (in_unit (get_or xs d nan)) (all_in_unit (entries nan xs (d + 1) (k - (d + 1)))) (ap all_in_unit (sym (one_left nan xs d k h)) ∙ l.unit)

      pub unit-here : in_unit (get_or xs d nan) ≡ true
      unit-here = units.0

      -- the bin as it is found on the part of the edges that is lent
      module _ (b : ℕ) (found : b ≡ bin_of (take (r + get_or s.counts c 0 + 1 - r) (drop r s.reals)) (get_or xs d nan)) where
        is-spot : b ≡ spot
        unfolding stretch
        is-spot = let n : r + get_or s.counts c 0 + 1 - r ≡ get_or s.counts c 0 + 1 = omega arith in rw n at found

        with-spot : spots_left d r c s ≡ b ∷ spots_left (d + 1) r' c' s
        with-spot = spots-on ∙ ap (λ (i : ℕ). i ∷ spots_left (d + 1) r' c' s) (sym is-spot)

        asked : Asked (Cell m) m (b ∷ spots_left (d + 1) r' c' s) r c s
        asked = subst (λ (is : List ℕ). Asked (Cell m) m is r c s) with-spot l.cells

        pub cell-here : Cell m r c b s
        unfolding Asked
        cell-here = asked.0

        pub left-judged : Left (d + 1) r' c' s
        unfolding Asked axis_reals axis_counts
        left-judged = record { standing = (next m s.reals s.counts k d r c h l.standing).rest; unit = units.1; cells = asked.1 }

        pub fits_on : (v : Float) (ok : Bool)
            → ((ok && cell_fits m v r c b s) && cells_fit m v (spots_left (d + 1) r' c' s) r' c' s) ≡ (ok && cells_fit m v (spots_left d r c s) r c s)
        unfolding cells_fit axis_reals axis_counts
        fits_on v ok = rw with-spot (and_assoc ok (cell_fits m v r c b s) (cells_fit m v (spots_left (d + 1) r' c' s) r' c' s))

        -- the bin is written behind those before it
        pub noted-on : (spots : List ℕ) → d < length spots → take (d + 1) (set spots d b) ++ spots_left (d + 1) r' c' s ≡ take d spots ++ spots_left d r c s
        noted-on spots i = rw (with-spot, add-one, take-suc-set spots d, append_assoc)
