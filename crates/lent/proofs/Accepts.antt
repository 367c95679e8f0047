-- A sample judged on what it touches: along its path the form that it has, and that of what would be kept only the touched may fail.
use mathlib.Core.Path.{◌≡◌, refl, sym, ap, ap₂, ◌∙◌, subst}
use mathlib.Core.Bool.{Bool, true, false, not, ◌&&◌, cond, and_assoc, and-true}
use mathlib.Core.List.{List, [], ◌∷◌}
use Prim.Native.Nat.{ℕ, zero, suc, ◌+◌, ◌-◌, ◌*◌, ◌^◌, ◌≤◌, ◌<◌}
use native.Mathlib.Omega.{arith}
use borrow.Author.Tests.{ltb-true, ltb-false, leb-true, eqb-true, ne_eqb}
use lib.Dec.{leb, ltb, eqb}
use lib.ListN.{length, drop, get_or, set, length-drop}
use lib.Seq.{length-take-le}
use lib.Ieee.{Float, nan, binary64, add, mul}
use Rattle.doubles.specs.Finite.{finite_of}
use Rattle.doubles.proofs.Truth.{both}
use Rattle.accumulator.specs.declared.StatisticsAccumulator.{StatisticsAccumulator}
use Rattle.accumulator.specs.Record.{fresh, well_formed}
use Rattle.accumulator.specs.Steps.{zero_count, added_of}
use Rattle.axis.specs.Edges.{in_unit, bin_of}
use Rattle.axis.specs.Edges as Edges
use Rattle.axis.proofs.Bins.{bin-rule}
use Rattle.model.specs.Grid.{Grid, Child, Head, axes, bins, with_head, with_bin}
use Rattle.model.specs.Draw.{weight_at}
use Rattle.model.specs.Sound.{chance, sound, formed_grid, all_sound, kept_axis, kept_axis_list, kept_grid, kept_bins, kept_child}
use Rattle.model.specs.Train.{fault_of, fault_of_child, train_axis, train_all, train_axes, train_grid, train_bin, train_child}
use Rattle.lent.specs.declared.Sample.{Sample}
use Rattle.lent.specs.declared.AxesAt.{AxesAt}
use Rattle.lent.specs.Layout.{stretch, axis_reals, axis_counts, bin_at, bins_from, axis_at, axes_from}
use Rattle.lent.specs.Memory.{memory, Asked, record_at}
use Rattle.lent.specs.Drawn.{Standing, axes_at}
use Rattle.lent.specs.Tree.{axes_place, axes_grid_at, bin_in, child_in, bins_in, AxesLaid}
use Rattle.lent.specs.Judged.{sound_bin}
use Rattle.lent.specs.Sampled.{entries, sound_child}
use Rattle.lent.specs.Trained.{all_in_unit, bins_on, Cell, cell_fits, cells_fit, form_fault, CellsOf}
use Rattle.lent.specs.Absorbed.{path_left, weights_left, places_in, Takes, TakesChild}
use Rattle.lent.proofs.Judges.{sound-bin}
use Rattle.lent.proofs.Reading.{length-axes, length-bins, get_d-all}
use Rattle.lent.proofs.Samples.{sound-in, sound-below, child-sound, sound-stands}
use Rattle.lent.proofs.Fitting.{none_left, one_left, many-left, axes-form, link-grid, bins-none, bins-past, bins-bare, bins-below}
use Rattle.lent.proofs.Standing.{begins}
use Rattle.lent.proofs.Trained.{added-bin, length-on}

-- ---- the form of a sample that has one

-- where a bins grid has it: an index, its bin, a weight, and below it what hangs there
pub record Bound (f : ℕ → Grid) (table : List ℕ) (w n : ℕ) (s : Sample) (d : ℕ) : Type 0 where
  pub deeper : d < s.levels
  pub bin : get_or s.path d 0 < n
  pub weight : d < s.given
  pub below : fault_of_child (child_in f (get_or table (w + 7 + get_or s.path d 0) 0)) (path_left s (d + 1)) (weights_left s (d + 1)) (places_in s) ≡ 0

module _ (f : ℕ → Grid) (table : List ℕ) (reals : List Float) (counts : List ℕ) (w n : ℕ) (h : Head) (s : Sample) (d : ℕ) where
  abbrev here : List ℕ → List Float → ℕ
  here path ws = fault_of (bins h (bins_in f table reals counts w 0 n)) path ws (places_in s)

  abbrev i : ℕ
  i = get_or s.path d 0

  module _ (e : here (path_left s d) (weights_left s d) ≡ 0) where
    goes_on : d < s.levels
    goes_on = told (ltb d s.levels) refl
      where
        told : (b : Bool) → ltb d s.levels ≡ b → d < s.levels
        told true q = ltb-true d s.levels q
        told false q =
            let z : here [] (weights_left s d) ≡ 0 = ap (λ (p : List ℕ). here p (weights_left s d)) (sym (none_left 0 s.path d s.levels (ltb-false d s.levels q))) ∙ e in
            absurd (omega (arith, bins-none f table reals counts w h n (weights_left s d) (places_in s), z))

    first : here (i ∷ path_left s (d + 1)) (weights_left s d) ≡ 0
    first = ap (λ (p : List ℕ). here p (weights_left s d)) (sym (one_left 0 s.path d s.levels goes_on)) ∙ e

    in-bin : i < n
    in-bin = told (ltb i n) refl
      where
        told : (b : Bool) → ltb i n ≡ b → i < n
        told true q = ltb-true i n q
        told false q = absurd (omega (arith, bins-past f table reals counts w h n i (path_left s (d + 1)) (weights_left s d) (places_in s) (ltb-false i n q), first))

    weighed : d < s.given
    weighed = told (ltb d s.given) refl
      where
        told : (b : Bool) → ltb d s.given ≡ b → d < s.given
        told true q = ltb-true d s.given q
        told false q =
            let z : here (i ∷ path_left s (d + 1)) [] ≡ 0 = ap (here (i ∷ path_left s (d + 1))) (sym (none_left nan s.weights d s.given (ltb-false d s.given q))) ∙ first in
            absurd (omega (arith, bins-bare f table reals counts w h n i (path_left s (d + 1)) (places_in s) in-bin, z))

    pub bound : Bound f table w n s d
    bound =
        record {
          deeper = goes_on;
          bin = in-bin;
          weight = weighed;
          below = bins-below f table reals counts w h n i (path_left s (d + 1)) (get_or s.weights d nan) (weights_left s (d + 1)) (places_in s) in-bin
              ∙ ap (here (i ∷ path_left s (d + 1))) (sym (one_left nan s.weights d s.given weighed)) ∙ first;
        }

-- where an axes grid has it: no index, one weight, a coordinate in [0, 1] for each axis
pub record Ended (table : List ℕ) (w : ℕ) (s : Sample) (d : ℕ) : Type 0 where
  pub levels : s.levels ≤ d
  pub weight : s.given ≡ d + 1
  pub axes : s.axes ≡ get_or table (w + 2) 0
  pub unit : all_in_unit (places_in s) ≡ true

pub record Form (k : ℕ) (path : List ℕ) (ws xs : List Float) : Type 0 where
  pub levels : length path ≡ 0
  pub weight : length ws ≡ 1
  pub axes : length xs ≡ k
  pub unit : all_in_unit xs ≡ true

pub form-is : (k : ℕ) (path : List ℕ) (ws xs : List Float) → form_fault k path ws xs ≡ 0 → Form k path ws xs
unfolding form_fault
form-is k (i ∷ path) ws xs e = absurd (omega (arith, e))
form-is k [] ws xs e = first (eqb (length ws) 1) refl e
  where
    last : (b : Bool) → cond {A = ℕ} b 0 5 ≡ 0 → b ≡ true
    last true q = refl
    last false q = absurd (omega (arith, q))

    second : (b : Bool) → eqb (length xs) k ≡ b → cond {A = ℕ} (not b) 4 (cond (all_in_unit xs) 0 5) ≡ 0 → (length xs ≡ k) × (all_in_unit xs ≡ true)
    second true q r = (eqb-true (length xs) k q, last (all_in_unit xs) r)
    second false q r = absurd (omega (arith, r))

    first : (b : Bool) → eqb (length ws) 1 ≡ b → cond {A = ℕ} (not b) 4 (cond (not (eqb (length xs) k)) 4 (cond (all_in_unit xs) 0 5)) ≡ 0 → Form k [] ws xs
    first true q r = let z = second (eqb (length xs) k) refl r in record { levels = refl; weight = eqb-true (length ws) 1 q; axes = z.0; unit = z.1 }
    first false q r = absurd (omega (arith, r))

pub ended : (table : List ℕ) (reals : List Float) (counts : List ℕ) (w : ℕ) (s : Sample) (d : ℕ)
    → fault_of (axes (axes_grid_at table reals counts w)) (path_left s d) (weights_left s d) (places_in s) ≡ 0 → Ended table w s d
ended table reals counts w s d e =
    let f = form-is (get_or table (w + 2) 0) (path_left s d) (weights_left s d) (places_in s) (axes-form table reals counts w (path_left s d) (weights_left s d) (places_in s) ∙ e) in
    record {
      levels = omega (arith, f.levels, many-left 0 s.path d (s.levels - d));
      weight = omega (arith, f.weight, many-left nan s.weights d (s.given - d));
      axes = sym (many-left nan s.coordinates 0 s.axes) ∙ f.axes;
      unit = f.unit;
    }

-- ---- the axes

-- of sound records one is replaced
set-sound : (xs : List StatisticsAccumulator) (i : ℕ) (a : StatisticsAccumulator) → i < length xs → all_sound xs ≡ true → all_sound (set xs i a) ≡ well_formed a
unfolding all_sound
set-sound [] i a h e = absurd (omega arith)
set-sound (x ∷ xs) zero a h e = let q = both (well_formed x) (all_sound xs) e in rw q.1 (and-true (well_formed a))
set-sound (x ∷ xs) (suc i) a h e = let q = both (well_formed x) (all_sound xs) e in rw q.0 (set-sound xs i a (omega arith) q.1)

at-sound : (xs : List StatisticsAccumulator) (i : ℕ) (d : StatisticsAccumulator) → i < length xs → all_sound xs ≡ true → well_formed (get_or xs i d) ≡ true
unfolding all_sound
at-sound [] i d h e = absurd (omega arith)
at-sound (x ∷ xs) zero d h e = (both (well_formed x) (all_sound xs) e).0
at-sound (x ∷ xs) (suc i) d h e = at-sound xs i d (omega arith) (both (well_formed x) (all_sound xs) e).1

length-stretch : (r n : ℕ) (xs : List Float) → r + n ≤ length xs → length (stretch r n xs) ≡ n
unfolding stretch
length-stretch r n xs h = length-take-le n (drop r xs) (omega (arith, length-drop r xs))

module _ (m : ℕ) (reals : List Float) (counts : List ℕ) where
  -- a coordinate's bin is one that the axis holds
  bin-held : (r n : ℕ) (x : Float) → r + (n + 1) ≤ length reals → Edges.well_formed (stretch r (n + 1) reals) ≡ true → in_unit x ≡ true → bin_of (stretch r (n + 1) reals) x < n
  bin-held r n x h e u =
      let b = (bin-rule (stretch r (n + 1) reals) x (bin_of (stretch r (n + 1) reals) x) e).1 (u, refl) in
      omega (arith, b.there, length-stretch r (n + 1) reals h)

  -- one axis that is kept: its record there
  bin-sound : (r c i : ℕ) → i < get_or counts c 0 → kept_axis (axis_at m reals counts r c) ≡ true → well_formed (bin_at m reals counts r c i) ≡ true
  unfolding kept_axis axis_at
  bin-sound r c i h e =
      let n = get_or counts c 0 in
      let bs = bins_from m reals counts r c 0 n in
      let q = both (all_sound bs) _ e in
      ap well_formed (sym (get_d-all m reals counts fresh r c n i h)) ∙ at-sound bs i fresh (omega (arith, h, length-bins m reals counts r c 0 n)) q.0

  bin-bounds : (r c i : ℕ) → well_formed (bin_at m reals counts r c i) ≡ true → (get_or counts (c + 2 + i) 0 ≤ 2 ^ 53) × (get_or counts (c + (m + 2) + i) 0 ≤ 2 ^ 53)
  unfolding bin_at
  bin-bounds r c i e =
      let s = get_or reals (r + (2 * m + 1) + i) nan in
      let q = get_or reals (r + (3 * m + 1) + i) nan in
      let n = get_or counts (c + 2 + i) 0 in
      let z = get_or counts (c + (m + 2) + i) 0 in
      let p = both (finite_of s && finite_of q) (leb n (2 ^ 53) && leb z (2 ^ 53)) (sym (sound-bin s q _ _ n z) ∙ e) in
      let k = both (leb (get_or counts (c + 2 + i) 0) (2 ^ 53)) (leb (get_or counts (c + (m + 2) + i) 0) (2 ^ 53)) p.1 in
      (leb-true _ _ k.0, leb-true _ _ k.1)

  axis-cell : (r c : ℕ) (x : Float) → get_or counts c 0 ≤ m → r + axis_reals m ≤ length reals → c + axis_counts m ≤ length counts
      → Edges.well_formed (stretch r (get_or counts c 0 + 1) reals) ≡ true → in_unit x ≡ true → kept_axis (axis_at m reals counts r c) ≡ true
      → Cell m r c (bin_of (axis_at m reals counts r c).edges x) (memory reals counts)
  unfolding axis_reals axis_counts axis_at
  axis-cell r c x h j k e u q =
      let i = bin_of (stretch r (get_or counts c 0 + 1) reals) x in
      let b = bin-held r (get_or counts c 0) x (omega arith) e u in
      let z = bin-bounds r c i (bin-sound r c i b q) in
      record { bin = b; held = h; room = j; places = k; waiting = z.0; zeros = z.1 }

  -- what a sample asks of the axes
  pub cells-asked : (k r c : ℕ) (xs : List Float) → length xs ≡ k → Standing m reals counts k r c → all_in_unit xs ≡ true → kept_axis_list (axes_from m reals counts k r c) ≡ true
      → Asked (Cell m) m (bins_on (axes_from m reals counts k r c) xs) r c (memory reals counts)
  unfolding axes_from bins_on Asked Standing all_in_unit kept_axis_list
  cells-asked zero r c xs e s u q = tt
  cells-asked (suc k) r c [] e s u q = absurd (omega (arith, e))
  cells-asked (suc k) r c (x ∷ xs) e s u q =
      let b = begins m reals counts k (r + axis_reals m) (c + axis_counts m) s.2 in
      let v = both (in_unit x) (all_in_unit xs) u in
      let p = both (kept_axis (axis_at m reals counts r c)) (kept_axis_list (axes_from m reals counts k (r + axis_reals m) (c + axis_counts m))) q in
      (axis-cell r c x s.0 b.0 b.1 s.1 v.0 p.0, cells-asked k (r + axis_reals m) (c + axis_counts m) xs (omega (arith, e)) s.2 v.1 p.1)

  module _ (v : Float) where
    bin_fits : (r c i : ℕ) → well_formed (added_of (bin_at m reals counts r c i) v 0) ≡ cell_fits m v r c i (memory reals counts)
    unfolding bin_at cell_fits
    bin_fits r c i = ap well_formed (added-bin _ _ _ _ _ _ v) ∙ sound-bin _ _ _ _ _ _ ∙ sym (and_assoc
        (finite_of (add binary64 (get_or reals (r + (2 * m + 1) + i) nan) v) && finite_of (add binary64 (get_or reals (r + (3 * m + 1) + i) nan) (mul binary64 v v)))
        (leb (get_or counts (c + 2 + i) 0 + 1) (2 ^ 53)) (leb (get_or counts (c + (m + 2) + i) 0 + zero_count v) (2 ^ 53)))

    cell-kept : (r c : ℕ) (x : Float) → bin_of (axis_at m reals counts r c).edges x < get_or counts c 0 → kept_axis (axis_at m reals counts r c) ≡ true
        → kept_axis (train_axis (axis_at m reals counts r c) x v) ≡ cell_fits m v r c (bin_of (axis_at m reals counts r c).edges x) (memory reals counts)
    unfolding kept_axis train_axis axis_at cell_fits
    cell-kept r c x h e =
        let n = get_or counts c 0 in
        let bs = bins_from m reals counts r c 0 n in
        let i = bin_of (stretch r (n + 1) reals) x in
        let q = both (all_sound bs) _ e in
        rw q.1 (and-true _ ∙ set-sound bs i (added_of (get_or bs i fresh) v 0) (omega (arith, h, length-bins m reals counts r c 0 n)) q.0
        ∙ ap (λ (a : StatisticsAccumulator). well_formed (added_of a v 0)) (get_d-all m reals counts fresh r c n i h) ∙ bin_fits r c i)

    pub cells-kept : (k r c : ℕ) (xs : List Float) → length xs ≡ k → Standing m reals counts k r c → all_in_unit xs ≡ true → kept_axis_list (axes_from m reals counts k r c) ≡ true
        → kept_axis_list (train_all (axes_from m reals counts k r c) xs v) ≡ cells_fit m v (bins_on (axes_from m reals counts k r c) xs) r c (memory reals counts)
    unfolding axes_from bins_on Standing all_in_unit kept_axis_list train_all cells_fit
    cells-kept zero r c xs e s u q = refl
    cells-kept (suc k) r c [] e s u q = absurd (omega (arith, e))
    cells-kept (suc k) r c (x ∷ xs) e s u q =
        let b = begins m reals counts k (r + axis_reals m) (c + axis_counts m) s.2 in
        let y = both (in_unit x) (all_in_unit xs) u in
        let p = both (kept_axis (axis_at m reals counts r c)) (kept_axis_list (axes_from m reals counts k (r + axis_reals m) (c + axis_counts m))) q in
        let cell = axis-cell r c x s.0 b.0 b.1 s.1 y.0 p.0 in
        ap₂ ◌&&◌ (cell-kept r c x cell.bin p.0) (cells-kept k (r + axis_reals m) (c + axis_counts m) xs (omega (arith, e)) s.2 y.1 p.1)

-- ---- an axes grid

module _ (table : List ℕ) (reals : List Float) (counts : List ℕ) (w : ℕ) (s : Sample) (d : ℕ) where
  abbrev there : Grid
  there = axes (axes_grid_at table reals counts w)

  abbrev weight : Float
  weight = get_or s.weights d nan

  abbrev spots : List ℕ
  spots = bins_on (axes_at reals counts (axes_place table w)) (places_in s)

  -- its axes are kept
  axes-kept : sound there ≡ true → kept_axis_list (axes_at reals counts (axes_place table w)) ≡ true
  unfolding sound kept_grid axes_grid_at
  axes-kept e = (both (well_formed (record_at reals counts (get_or table (w + 9) 0) (get_or table (w + 10) 0))) (kept_axis_list (axes_at reals counts (axes_place table w))) (both (formed_grid there) (kept_grid there) e).1).1

  pub own-sound : sound there ≡ true → well_formed (record_at reals counts (get_or table (w + 9) 0) (get_or table (w + 10) 0)) ≡ true
  unfolding sound kept_grid axes_grid_at
  own-sound e = (both _ _ (both (formed_grid there) (kept_grid there) e).1).0

  module _ (number : ℕ) (a : AxesLaid table (length reals) (length counts) w) (t : Takes there s d number) where
    form : Ended table w s d
    form = ended table reals counts w s d t.form

    pub spread : length (places_in s) ≡ get_or table (w + 2) 0
    spread = many-left nan s.coordinates 0 s.axes ∙ form.axes

    -- as wide as the grid
    as_wide : (axes_place table w).axes ≡ s.axes
    unfolding axes_place
    as_wide = sym form.axes

    as_many : all_in_unit (entries nan s.coordinates 0 (axes_place table w).axes) ≡ true
    as_many = ap (λ (k : ℕ). all_in_unit (entries nan s.coordinates 0 k)) as_wide ∙ form.unit

    pub spots-asked : Asked (Cell (axes_place table w).most) (axes_place table w).most spots (axes_place table w).reals (axes_place table w).counts (memory reals counts)
    unfolding axes_place
    spots-asked =
        cells-asked (get_or table (w + 7) 0) reals counts (get_or table (w + 2) 0) (get_or table (w + 9) 0 + 14) (get_or table (w + 10) 0 + 7) (places_in s) spread
        (sound-stands table reals counts w a t.well).2 form.unit (axes-kept t.well)

    pub spots-many : length spots ≡ (axes_place table w).axes
    unfolding axes_place
    spots-many =
        length-on (get_or table (w + 2) 0) (axes_at reals counts (axes_place table w)) (places_in s)
        (length-axes (get_or table (w + 7) 0) reals counts (get_or table (w + 2) 0) (get_or table (w + 9) 0 + 14) (get_or table (w + 10) 0 + 7)) spread

    -- the same for a place that the code has read
    module _ (g : AxesAt) (p : g ≡ axes_place table w) where
      pub spots-there : bins_on (axes_at reals counts g) (entries nan s.coordinates 0 g.axes) ≡ spots
      spots-there = ap (λ (o : AxesAt). bins_on (axes_at reals counts o) (entries nan s.coordinates 0 o.axes)) p ∙ ap (λ (k : ℕ). bins_on (axes_at reals counts (axes_place table w)) (entries nan s.coordinates 0 k)) as_wide

      pub fit-there : (v : Float) → cells_fit g.most v (bins_on (axes_at reals counts g) (entries nan s.coordinates 0 g.axes)) g.reals g.counts (memory reals counts)
          ≡ cells_fit (axes_place table w).most v spots (axes_place table w).reals (axes_place table w).counts (memory reals counts)
      fit-there v = ap₂ (λ (o : AxesAt) (is : List ℕ). cells_fit o.most v is o.reals o.counts (memory reals counts)) p spots-there

      pub cells_of : CellsOf g (entries nan s.coordinates 0 g.axes) (memory reals counts)
      cells_of =
          let asked = subst (λ (k : ℕ). Asked (Cell (axes_place table w).most) (axes_place table w).most (bins_on (axes_at reals counts (axes_place table w)) (entries nan s.coordinates 0 k)) (axes_place table w).reals (axes_place table w).counts (memory reals counts))
          (sym as_wide) spots-asked in
          subst (λ (o : AxesAt). CellsOf o (entries nan s.coordinates 0 o.axes) (memory reals counts)) (sym p) (sound-stands table reals counts w a t.well, as_many, asked)

    pub alone : weights_left s d ≡ weight ∷ []
    alone = one_left nan s.weights d s.given (omega (arith, form.weight)) ∙ ap (λ (ws : List Float). weight ∷ ws) (none_left nan s.weights (d + 1) s.given (omega (arith, form.weight)))

    -- what would be kept
    pub axes-told : (e : Float)
        → (well_formed (added_of (record_at reals counts (get_or table (w + 9) 0) (get_or table (w + 10) 0)) (mul binary64 e weight) number)
        && cells_fit (axes_place table w).most (mul binary64 weight e) spots (axes_place table w).reals (axes_place table w).counts (memory reals counts))
        ≡ kept_grid (train_grid there (path_left s d) (weights_left s d) (places_in s) e number)
    unfolding kept_grid train_grid train_axes axes_grid_at axes_place weight_at
    axes-told e =
        rw alone (ap (λ (b : Bool). well_formed (added_of (record_at reals counts (get_or table (w + 9) 0) (get_or table (w + 10) 0)) (mul binary64 e weight) number) && b)
        (sym (cells-kept (get_or table (w + 7) 0) reals counts (mul binary64 weight e) (get_or table (w + 2) 0) (get_or table (w + 9) 0 + 14) (get_or table (w + 10) 0 + 7) (places_in s) spread
        (sound-stands table reals counts w a t.well).2 form.unit (axes-kept t.well))))

-- ---- a bins grid

module _ (f : ℕ → Grid) (table : List ℕ) (reals : List Float) (counts : List ℕ) (w : ℕ) where
  abbrev value : Float → ℕ → Float → Float
  value v i e = mul binary64 (mul binary64 v (bin_in table reals counts w i).probability) e

  -- of bins that are kept only the touched one may fail, and what hangs there
  bin-told : (n j i : ℕ) (v : Float) (path : List ℕ) (ws xs : List Float) (e : Float) (number : ℕ) → i < n → kept_bins (bins_in f table reals counts w j n) ≡ true
      → kept_bins (train_bin (bins_in f table reals counts w j n) i v path ws xs e number)
      ≡ (well_formed (added_of (bin_in table reals counts w (j + i)).own (value v (j + i) e) number) && kept_child (train_child (child_in f (get_or table (w + 7 + (j + i)) 0)) path ws xs e number))
  unfolding kept_bins train_bin bins_in with_bin
  bin-told zero j i v path ws xs e number h q = absurd (omega arith)
  bin-told (suc n) j zero v path ws xs e number h q =
      let z : j + 0 ≡ j = omega arith in
      let p = both (well_formed (bin_in table reals counts w j).own) _ q in
      let k = both (kept_child (child_in f (get_or table (w + 7 + j) 0))) (kept_bins (bins_in f table reals counts w (j + 1) n)) p.1 in
      rw (z, k.1) (ap (λ (b : Bool). well_formed (added_of (bin_in table reals counts w j).own (value v j e) number) && b) (and-true _))
  bin-told (suc n) j (suc i) v path ws xs e number h q =
      let z : j + suc i ≡ j + 1 + i = omega arith in
      let p = both (well_formed (bin_in table reals counts w j).own) _ q in
      let k = both (kept_child (child_in f (get_or table (w + 7 + j) 0))) (kept_bins (bins_in f table reals counts w (j + 1) n)) p.1 in
      rw (z, p.0, k.0) (bin-told n (j + 1) i v path ws xs e number (omega arith) k.1)

  module _ (n : ℕ) (h : Head) (s : Sample) (d number : ℕ) (t : Takes (bins h (bins_in f table reals counts w 0 n)) s d number) where
    abbrev spot : ℕ
    spot = get_or s.path d 0

    pub formed : Bound f table w n s d
    formed = bound f table reals counts w n h s d t.form

    pub head-sound : well_formed h.own ≡ true
    unfolding sound kept_grid
    head-sound = (both _ _ (both (formed_grid (bins h (bins_in f table reals counts w 0 n))) (kept_grid (bins h (bins_in f table reals counts w 0 n))) t.well).1).0

    others-kept : kept_bins (bins_in f table reals counts w 0 n) ≡ true
    unfolding sound kept_grid
    others-kept = (both (well_formed h.own) (kept_bins (bins_in f table reals counts w 0 n)) (both (formed_grid (bins h (bins_in f table reals counts w 0 n))) (kept_grid (bins h (bins_in f table reals counts w 0 n))) t.well).1).1

    pub spot-sound : well_formed (bin_in table reals counts w spot).own ≡ true
    unfolding sound_bin sound_child
    spot-sound = (both (chance (bin_in table reals counts w spot).probability) (well_formed (bin_in table reals counts w spot).own) (both
        (chance (bin_in table reals counts w spot).probability && well_formed (bin_in table reals counts w spot).own) (sound_child (child_in f (get_or table (w + 7 + spot) 0))) (sound-in f table reals counts w h n spot formed.bin t.well)).0).1

    pub takes-below : TakesChild (child_in f (get_or table (w + 7 + spot) 0)) s (d + 1) number
    takes-below =
        record {
          well = sound-below (bin_in table reals counts w spot) (child_in f (get_or table (w + 7 + spot) 0)) (sound-in f table reals counts w h n spot formed.bin t.well);
          form = formed.below;
          number = t.number;
        }

    pub bins-told : (e : Float)
        → (well_formed (added_of h.own (mul binary64 e (get_or s.weights d nan)) number)
        && (well_formed (added_of (bin_in table reals counts w spot).own (value (get_or s.weights d nan) spot e) number)
        && kept_child (train_child (child_in f (get_or table (w + 7 + spot) 0)) (path_left s (d + 1)) (weights_left s (d + 1)) (places_in s) e number)))
        ≡ kept_grid (train_grid (bins h (bins_in f table reals counts w 0 n)) (path_left s d) (weights_left s d) (places_in s) e number)
    unfolding kept_grid train_grid with_head
    bins-told e =
        let z : 0 + spot ≡ spot = omega arith in
        rw (one_left 0 s.path d s.levels formed.deeper, one_left nan s.weights d s.given formed.weight)
        (ap (λ (b : Bool). well_formed (added_of h.own (mul binary64 e (get_or s.weights d nan)) number) && b)
        (sym (subst (λ (j : ℕ). kept_bins (train_bin (bins_in f table reals counts w 0 n) spot (get_or s.weights d nan) (path_left s (d + 1)) (weights_left s (d + 1)) (places_in s) e number)
        ≡ (well_formed (added_of (bin_in table reals counts w j).own (value (get_or s.weights d nan) j e) number) && kept_child (train_child (child_in f (get_or table (w + 7 + j) 0)) (path_left s (d + 1)) (weights_left s (d + 1)) (places_in s) e number))) z
        (bin-told n 0 spot (get_or s.weights d nan) (path_left s (d + 1)) (weights_left s (d + 1)) (places_in s) e number formed.bin others-kept))))

-- ---- what hangs at a link

module _ (f : ℕ → Grid) (link : ℕ) where
  pub none_told : (path : List ℕ) (ws xs : List Float) (e : Float) (number : ℕ) → link ≡ 0 → true ≡ kept_child (train_child (child_in f link) path ws xs e number)
  unfolding child_in train_child kept_child
  none_told path ws xs e number z = rw z

  pub grid-told : (path : List ℕ) (ws xs : List Float) (e : Float) (number : ℕ) → (link ≡ 0 → ⊥)
      → kept_grid (train_grid (f link) path ws xs e number) ≡ kept_child (train_child (child_in f link) path ws xs e number)
  unfolding child_in train_child kept_child
  grid-told path ws xs e number z = rw (ne_eqb link 0 z)

  pub takes-grid : (s : Sample) (d number : ℕ) → (link ≡ 0 → ⊥) → TakesChild (child_in f link) s d number → Takes (f link) s d number
  takes-grid s d number z t =
      record { well = child-sound f link z t.well; form = link-grid f link (path_left s d) (weights_left s d) (places_in s) z ∙ t.form; number = t.number }

-- ---- the same by another name of the grid

module _ (s : Sample) {d number : ℕ} where
  pub takes-as : {g g' : Grid} → g ≡ g' → Takes g s d number → Takes g' s d number
  takes-as e t = subst (λ (g : Grid). Takes g s d number) e t

  pub takes-child-as : {c c' : Child} → c ≡ c' → TakesChild c s d number → TakesChild c' s d number
  takes-child-as e t = subst (λ (c : Child). TakesChild c s d number) e t
