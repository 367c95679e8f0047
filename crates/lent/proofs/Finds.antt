-- The bins that a judged sample falls to: an array that begins with them at a grid begins with them at what hangs at the sample's bin.
use mathlib.Core.Path.{◌≡◌, sym, ap, ◌∙◌, subst}
use mathlib.Core.List.{List}
use Prim.Native.Nat.{ℕ, zero, suc, ◌+◌, ◌≤◌, ◌<◌}
use native.Mathlib.Omega.{arith}
use borrow.Author.Tests.{ne_eqb}
use lib.ListN.{length, get_or}
use lib.Ieee.{Float, nan}
use Rattle.model.specs.Grid.{Grid, Child, Head, axes, bins}
use Rattle.lent.specs.declared.Sample.{Sample}
use Rattle.lent.specs.declared.AxesAt.{AxesAt}
use Rattle.lent.specs.Memory.{memory, Asked}
use Rattle.lent.specs.Drawn.{axes_at}
use Rattle.lent.specs.Tree.{axes_place, axes_grid_at, child_in, bins_in, AxesLaid}
use Rattle.lent.specs.Sampled.{entries}
use Rattle.lent.specs.Trained.{bins_on, Cell}
use Rattle.lent.specs.Absorbed.{path_left, places_in, Takes}
use Rattle.lent.specs.Found.{spots_of, spots_of_bin, spots_of_child, Begins, Found, FoundChild, Held, HeldChild}
use Rattle.lent.proofs.Fitting.{one_left}
use Rattle.lent.proofs.Accepts.{spots-there, spots-many, cells_of, formed, takes-below, takes-grid, takes-as, takes-child-as}

-- ---- an axes grid

module _ (table : List ℕ) (reals : List Float) (counts : List ℕ) (w : ℕ) (s : Sample) (d number : ℕ) (a : AxesLaid table (length reals) (length counts) w)
    (t : Takes (axes (axes_grid_at table reals counts w)) s d number) (g : AxesAt) (p : g ≡ axes_place table w) (spots : List ℕ) where
  pub axes-found : Begins spots (bins_on (axes_at reals counts g) (entries nan s.coordinates 0 g.axes)) → Found spots (axes (axes_grid_at table reals counts w)) s d
  unfolding spots_of axes_grid_at
  axes-found f = subst (λ (is : List ℕ). Begins spots is) (spots-there table reals counts w s d number a t g p) f

  module _ (f : Found spots (axes (axes_grid_at table reals counts w)) s d) where
    pub found-there : entries 0 spots 0 g.axes ≡ bins_on (axes_at reals counts (axes_place table w)) (places_in s)
    unfolding spots_of axes_grid_at
    found-there = ap (λ (o : AxesAt). entries 0 spots 0 o.axes) p ∙ ap (entries 0 spots 0) (sym (spots-many table reals counts w s d number a t)) ∙ f

    -- what training these bins asks
    pub found-asked : (g.axes ≤ 8) × (g.most ≤ 1024) × Asked (Cell g.most) g.most (entries 0 spots 0 g.axes) g.reals g.counts (memory reals counts)
    found-asked =
        let c = cells_of table reals counts w s d number a t g p in (
          c.0.0,
          c.0.1,
          subst (λ (is : List ℕ). Asked (Cell g.most) g.most is g.reals g.counts (memory reals counts)) (spots-there table reals counts w s d number a t g p ∙ sym found-there) c.2,
        )

-- ---- a bins grid

module _ (f : ℕ → Grid) (table : List ℕ) (reals : List Float) (counts : List ℕ) (w : ℕ) where
  spots-from : (n j i : ℕ) (path : List ℕ) (xs : List Float) → i < n → spots_of_bin (bins_in f table reals counts w j n) i path xs ≡ spots_of_child (child_in f (get_or table (w + 7 + (j + i)) 0)) path xs
  unfolding spots_of_bin bins_in
  spots-from zero j i path xs h = absurd (omega arith)
  spots-from (suc n) j zero path xs h = let e : j + 0 ≡ j = omega arith in rw e
  spots-from (suc n) j (suc i) path xs h = let e : j + suc i ≡ j + 1 + i = omega arith in rw e (spots-from n (j + 1) i path xs (omega arith))

  module _ (n : ℕ) (h : Head) (s : Sample) (d number : ℕ) (t : Takes (bins h (bins_in f table reals counts w 0 n)) s d number) (spots : List ℕ) where
    abbrev spot : ℕ
    spot = get_or s.path d 0

    spots-below : spots_of (bins h (bins_in f table reals counts w 0 n)) (path_left s d) (places_in s) ≡ spots_of_child (child_in f (get_or table (w + 7 + spot) 0)) (path_left s (d + 1)) (places_in s)
    unfolding spots_of
    spots-below =
        let q = formed f table reals counts w n h s d number t in
        let e : 0 + spot ≡ spot = omega arith in
        ap (λ (path : List ℕ). spots_of (bins h (bins_in f table reals counts w 0 n)) path (places_in s)) (one_left 0 s.path d s.levels q.deeper)
        ∙ spots-from n 0 spot (path_left s (d + 1)) (places_in s) q.bin ∙ ap (λ (j : ℕ). spots_of_child (child_in f (get_or table (w + 7 + j) 0)) (path_left s (d + 1)) (places_in s)) e

    pub bins-found : FoundChild spots (child_in f (get_or table (w + 7 + spot) 0)) s (d + 1) → Found spots (bins h (bins_in f table reals counts w 0 n)) s d
    bins-found k = subst (λ (is : List ℕ). Begins spots is) (sym spots-below) k

    pub found_below : Found spots (bins h (bins_in f table reals counts w 0 n)) s d → FoundChild spots (child_in f (get_or table (w + 7 + spot) 0)) s (d + 1)
    found_below k = subst (λ (is : List ℕ). Begins spots is) spots-below k

-- ---- what hangs at a link

module _ (f : ℕ → Grid) (link : ℕ) (s : Sample) (d : ℕ) (spots : List ℕ) where
  pub none_found : link ≡ 0 → FoundChild spots (child_in f link) s d
  unfolding child_in spots_of_child entries
  none_found z = rw z

  spots-hung : (link ≡ 0 → ⊥) → spots_of (f link) (path_left s d) (places_in s) ≡ spots_of_child (child_in f link) (path_left s d) (places_in s)
  unfolding child_in spots_of_child
  spots-hung z = rw (ne_eqb link 0 z)

  pub grid-found : (link ≡ 0 → ⊥) → Found spots (f link) s d → FoundChild spots (child_in f link) s d
  grid-found z k = subst (λ (is : List ℕ). Begins spots is) (spots-hung z) k

  pub found-grid : (link ≡ 0 → ⊥) → FoundChild spots (child_in f link) s d → Found spots (f link) s d
  found-grid z k = subst (λ (is : List ℕ). Begins spots is) (sym (spots-hung z)) k

-- ---- what is handed over

module _ {s : Sample} {spots : List ℕ} {d number : ℕ} where
  pub held-as : {g g' : Grid} → g ≡ g' → Held s spots g d number → Held s spots g' d number
  held-as e h = record { takes = takes-as s e h.takes; found = subst (λ (g : Grid). Found spots g s d) e h.found }

  pub held-child-as : {c c' : Child} → c ≡ c' → HeldChild s spots c d number → HeldChild s spots c' d number
  held-child-as e h = record { takes = takes-child-as s e h.takes; found = subst (λ (c : Child). FoundChild spots c s d) e h.found }

  module _ (f : ℕ → Grid) where
    pub held_below : (table : List ℕ) (reals : List Float) (counts : List ℕ) (w n : ℕ) (o : Head) → Held s spots (bins o (bins_in f table reals counts w 0 n)) d number
        → HeldChild s spots (child_in f (get_or table (w + 7 + get_or s.path d 0) 0)) (d + 1) number
    held_below table reals counts w n o h =
        record {
          takes = takes-below f table reals counts w n o s d number h.takes;
          found = found_below f table reals counts w n o s d number h.takes spots h.found;
        }

    pub held-grid : (link : ℕ) → (link ≡ 0 → ⊥) → HeldChild s spots (child_in f link) d number → Held s spots (f link) d number
    held-grid link z h = record { takes = takes-grid f link s d number z h.takes; found = found-grid f link s d spots z h.found }
