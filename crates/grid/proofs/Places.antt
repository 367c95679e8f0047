-- Each call, seen at an address: one law that speaks of a place with an axis and of a place with none.
use mathlib.Core.Path.{◌≡◌, refl, ◌∙◌, subst}
use mathlib.Core.Bool.{Bool, true, false, not, ◌||◌, cond, true≢false}
use mathlib.Core.List.{List, [], ◌∷◌, map}
use mathlib.Core.Option.{Option, some}
use mathlib.Core.Option as option
use Prim.Native.Nat.{ℕ, zero, suc}
use native.Mathlib.Omega.{arith}
use borrow.Author.Tests.{eqb-true, not-false}
use lib.Dec.{eqb, ltb}
use lib.ListN.{length, get_or, drop}
use lib.Ieee.{Float, nan, binary64, mul, eq}
use Rattle.doubles.specs.Numbers.{zero64}
use Rattle.accumulator.specs.Record.{well_formed}
use Rattle.accumulator.specs.Update.{updated_of}
use Rattle.recut.specs.Chances.{adapted_to, all_chances}
use Rattle.model.specs.Axes.{Axis, AxesPlan, AxesGrid, cleared_axis, copy_axes}
use Rattle.model.specs.Grid.{Head, Grid, Bins, Child, axes, bins, none, more, nothing, grid, many, with_head, cleared_bins, copy_grid}
use Rattle.model.specs.Draw.{weight_at}
use Rattle.model.specs.Train.{fault_of_all, fault_of_axes, fault_of, fault_of_bin, fault_of_child, train_axis, train_all, train_axes, train_grid, train_bin, train_child}
use Rattle.model.specs.Merge.{merge_axis, merge_all, merge_grid, merge_bins, merge_child}
use Rattle.model.specs.Update.{Outcome, update_axis, outcome_of, update_all, update_axes, all_idle, raws, with_probabilities, adapted_bins, update_grid, update_bins, update_child}
use Rattle.lent.proofs.States.{passes}
use Rattle.lent.proofs.Turns.{no-either}
use Rattle.grid.specs.Address.{Spot, spot, nth, axis_at, axis_in, axis_under}
use Rattle.grid.specs.History.{is, same}

-- a change of the axis that is there
abbrev pub through : (Spot → Spot) → Option Spot → Option Spot
through f option.none = option.none
through f (some s) = some (f s)

-- two axes at one address, joined
abbrev pub meet : Option Spot → Option Spot → Option Spot
meet option.none o = option.none
meet (some s) option.none = some s
meet (some s) (some t) = some (spot s.plan (merge_axis s.axis t.axis))

idle : (o : Option Spot) → o ≡ through (λ s. s) o
idle option.none = refl
idle (some s) = refl

alone : (o : Option Spot) → o ≡ meet o option.none
alone option.none = refl
alone (some s) = refl

-- ---- training

-- the axis with the coordinate's sample joined
abbrev pub hit : List Float → Float → ℕ → Float → Spot → Spot
hit xs e k w s = spot s.plan (train_axis s.axis (get_or xs k nan) (mul binary64 w e))

-- what a sample's path makes of the axis at another path's end
abbrev pub reached : List ℕ → List Float → List Float → Float → List ℕ → ℕ → Spot → Spot
reached path ws xs e p k s = cond (same path p) (hit xs e k (weight_at (drop (length path) ws)) s) s

train-nth : (plan : AxesPlan) (axs : List Axis) (xs : List Float) (v : Float) (k : ℕ) → length xs ≡ length axs
    → nth plan (train_all axs xs v) k ≡ through (λ s. spot s.plan (train_axis s.axis (get_or xs k nan) v)) (nth plan axs k)
unfolding nth train_all
train-nth plan [] xs v k h = refl
train-nth plan (a ∷ axs) [] v k h = absurd (omega arith)
train-nth plan (a ∷ axs) (x ∷ xs) v zero h = refl
train-nth plan (a ∷ axs) (x ∷ xs) v (suc k) h = train-nth plan axs xs v k (omega arith)

-- a sample of an axes grid's form
pub axes-fit : (g : AxesGrid) (ws xs : List Float) → fault_of_axes g [] ws xs ≡ 0 → (length xs ≡ length g.axes) × (fault_of_all xs ≡ 0)
unfolding fault_of_axes
axes-fit g ws xs f =
    let a = passes (not (eqb (length ws) 1)) 4 _ (λ z. omega (arith, z)) f in
    let b = passes (not (eqb (length xs) (length g.axes))) 4 _ (λ z. omega (arith, z)) a.1 in
    (eqb-true _ _ (not-false (eqb (length xs) (length g.axes)) b.0), b.1)

-- an index that is there
pub in-range : (b : Bool) (rest : ℕ) → cond b rest 6 ≡ 0 → rest ≡ 0
in-range true rest e = e
in-range false rest e = absurd (omega (arith, e))

-- a bins grid asks for a weight
pub no-weight : (b : Bool) → ◌≡◌ {A = ℕ} (cond b 4 6) 0 → ⊥
no-weight true e = omega (arith, e)
no-weight false e = omega (arith, e)

mutual
  unfolding fault_of fault_of_axes fault_of_bin fault_of_child train_grid train_axes train_bin train_child axis_at axis_in axis_under same is

  pub train-at : (g : Grid) (path : List ℕ) (ws xs : List Float) (e : Float) (n : ℕ) (p : List ℕ) (k : ℕ) → fault_of g path ws xs ≡ 0
      → axis_at (train_grid g path ws xs e n) p k ≡ through (reached path ws xs e p k) (axis_at g p k)
  train-at (axes g) [] ws xs e n [] k f = train-nth g.plan g.axes xs (mul binary64 (weight_at ws) e) k (axes-fit g ws xs f).0
  train-at (axes g) [] ws xs e n (j ∷ p) k f = refl
  train-at (axes g) (i ∷ path) ws xs e n p k f = absurd (omega (arith, f))
  train-at (bins h bs) [] ws xs e n p k f = absurd (omega (arith, f))
  train-at (bins h bs) (i ∷ path) [] xs e n p k f = absurd (no-weight (ltb i (many bs)) f)
  train-at (bins h bs) (i ∷ path) (w ∷ ws) xs e n [] k f = refl
  train-at (bins h bs) (i ∷ path) (w ∷ ws) xs e n (j ∷ p) k f = train-in bs i w path ws xs e n j p k (in-range (ltb i (many bs)) _ f)

  train-in : (bs : Bins) (i : ℕ) (w : Float) (path : List ℕ) (ws xs : List Float) (e : Float) (n j : ℕ) (p : List ℕ) (k : ℕ) → fault_of_bin bs i path ws xs ≡ 0
      → axis_in (train_bin bs i w path ws xs e n) j p k ≡ through (reached (i ∷ path) (w ∷ ws) xs e (j ∷ p) k) (axis_in bs j p k)
  train-in none i w path ws xs e n j p k f = refl
  train-in (more b c bs) zero w path ws xs e n zero p k f = train-under c path ws xs e n p k f
  train-in (more b c bs) zero w path ws xs e n (suc j) p k f = idle (axis_in bs j p k)
  train-in (more b c bs) (suc i) w path ws xs e n zero p k f = idle (axis_under c p k)
  train-in (more b c bs) (suc i) w path ws xs e n (suc j) p k f = train-in bs i w path ws xs e n j p k f

  train-under : (c : Child) (path : List ℕ) (ws xs : List Float) (e : Float) (n : ℕ) (p : List ℕ) (k : ℕ) → fault_of_child c path ws xs ≡ 0
      → axis_under (train_child c path ws xs e n) p k ≡ through (reached path ws xs e p k) (axis_under c p k)
  train-under nothing path ws xs e n p k f = refl
  train-under (grid g) path ws xs e n p k f = train-at g path ws xs e n p k f

-- ---- merging

merge-nth : (plan plan' : AxesPlan) (axs others : List Axis) (k : ℕ) → nth plan (merge_all axs others) k ≡ meet (nth plan axs k) (nth plan' others k)
unfolding nth merge_all
merge-nth plan plan' [] others k = refl
merge-nth plan plan' (a ∷ axs) [] k = alone (nth plan (a ∷ axs) k)
merge-nth plan plan' (a ∷ axs) (b ∷ others) zero = refl
merge-nth plan plan' (a ∷ axs) (b ∷ others) (suc k) = merge-nth plan plan' axs others k

mutual
  unfolding merge_grid merge_bins merge_child axis_at axis_in axis_under

  pub merge-at : (g o : Grid) (p : List ℕ) (k : ℕ) → axis_at (merge_grid g o) p k ≡ meet (axis_at g p k) (axis_at o p k)
  merge-at (axes g) (axes o) [] k = merge-nth g.plan o.plan g.axes o.axes k
  merge-at (axes g) (axes o) (i ∷ p) k = refl
  merge-at (axes g) (bins h bs) [] k = alone (nth g.plan g.axes k)
  merge-at (axes g) (bins h bs) (i ∷ p) k = refl
  merge-at (bins h bs) (axes o) [] k = refl
  merge-at (bins h bs) (axes o) (i ∷ p) k = alone (axis_in bs i p k)
  merge-at (bins h bs) (bins h' ds) [] k = refl
  merge-at (bins h bs) (bins h' ds) (i ∷ p) k = merge_in bs ds i p k

  merge_in : (bs ds : Bins) (i : ℕ) (p : List ℕ) (k : ℕ) → axis_in (merge_bins bs ds) i p k ≡ meet (axis_in bs i p k) (axis_in ds i p k)
  merge_in none ds i p k = refl
  merge_in (more b c bs) none i p k = alone (axis_in (more b c bs) i p k)
  merge_in (more b c bs) (more b' d ds) zero p k = merge-under c d p k
  merge_in (more b c bs) (more b' d ds) (suc i) p k = merge_in bs ds i p k

  merge-under : (c d : Child) (p : List ℕ) (k : ℕ) → axis_under (merge_child c d) p k ≡ meet (axis_under c p k) (axis_under d p k)
  merge-under nothing d p k = refl
  merge-under (grid g) nothing p k = alone (axis_at g p k)
  merge-under (grid g) (grid o) p k = merge-at g o p k

-- ---- a copy

copy-nth : (plan : AxesPlan) (axs : List Axis) (k : ℕ) → nth plan (map cleared_axis axs) k ≡ through (λ s. spot s.plan (cleared_axis s.axis)) (nth plan axs k)
unfolding nth
copy-nth plan [] k = refl
copy-nth plan (a ∷ axs) zero = refl
copy-nth plan (a ∷ axs) (suc k) = copy-nth plan axs k

-- what hangs at a bin stays
copy-in : (bs : Bins) (i : ℕ) (p : List ℕ) (k : ℕ) → axis_in (cleared_bins bs) i p k ≡ axis_in bs i p k
unfolding cleared_bins axis_in
copy-in none i p k = refl
copy-in (more b c bs) zero p k = refl
copy-in (more b c bs) (suc i) p k = copy-in bs i p k

abbrev pub cleared : List ℕ → Spot → Spot
cleared p s = cond (same p []) (spot s.plan (cleared_axis s.axis)) s

pub copy_at : (g : Grid) (p : List ℕ) (k : ℕ) → axis_at (copy_grid g) p k ≡ through (cleared p) (axis_at g p k)
unfolding copy_grid copy_axes axis_at same
copy_at (axes g) [] k = copy-nth g.plan g.axes k
copy_at (axes g) (i ∷ p) k = refl
copy_at (bins h bs) [] k = refl
copy_at (bins h bs) (i ∷ p) k = copy-in bs i p k ∙ idle (axis_in bs i p k)

-- ---- an update

-- what became of an axis, and whether 8 or 9 was found there
abbrev pub fate : Float → Spot → Outcome Axis
fate rate s = outcome_of s.axis (update_axis s.plan rate s.axis)

abbrev pub renewed : Float → Spot → Spot
renewed rate s = spot s.plan (fate rate s).after

update-nth : (plan : AxesPlan) (rate : Float) (axs : List Axis) (k : ℕ) → nth plan (update_all plan rate axs).after k ≡ through (renewed rate) (nth plan axs k)
unfolding nth update_all
update-nth plan rate [] k = refl
update-nth plan rate (a ∷ axs) zero = refl
update-nth plan rate (a ∷ axs) (suc k) = update-nth plan rate axs k

-- new probabilities leave what hangs there
with_in : (bs : Bins) (ps : List Float) (i : ℕ) (p : List ℕ) (k : ℕ) → axis_in (with_probabilities bs ps) i p k ≡ axis_in bs i p k
unfolding with_probabilities axis_in
with_in none ps i p k = refl
with_in (more b c bs) [] i p k = refl
with_in (more b c bs) (q ∷ ps) zero p k = refl
with_in (more b c bs) (q ∷ ps) (suc i) p k = with_in bs ps i p k

module _ (rate : Float) (h : Head) (o : Outcome Bins) where
  abbrev early : Bool
  early = eq rate zero64 || all_idle h.averages o.after

  abbrev chances : List Float
  chances = adapted_to h.ratio (raws h.averages o.after)

  abbrev ended : Bool → Outcome Grid
  ended b = cond b (record { eight = o.eight; nine = o.nine; after = bins h o.after })
      (record { eight = o.eight || not (well_formed (updated_of false h.own)); nine = o.nine || not (all_chances chances); after = bins (with_head h (updated_of false h.own)) (with_probabilities o.after chances) })

  adapted-in : (p : List ℕ) (k : ℕ) (x : Option Spot) → axis_at (bins h o.after) p k ≡ x → axis_at (adapted_bins rate h o).after p k ≡ x
  unfolding adapted_bins axis_at
  adapted-in p k x e = pick early p e
    where
      pick : (b : Bool) (p : List ℕ) → axis_at (bins h o.after) p k ≡ x → axis_at (ended b).after p k ≡ x
      pick true p q = q
      pick false [] q = q
      pick false (i ∷ p) q = with_in o.after chances i p k ∙ q

  -- nothing was found in the bins
  adapted-clear : (adapted_bins rate h o).eight ≡ false → (adapted_bins rate h o).nine ≡ false → (o.eight ≡ false) × (o.nine ≡ false)
  unfolding adapted_bins
  adapted-clear = pick early
    where
      pick : (b : Bool) → (ended b).eight ≡ false → (ended b).nine ≡ false → (o.eight ≡ false) × (o.nine ≡ false)
      pick true x y = (x, y)
      pick false x y = ((no-either o.eight _ x).0, (no-either o.nine _ y).0)

mutual
  unfolding update_grid update_axes update_bins update_child axis_at axis_in axis_under

  pub update-at : (g : Grid) (bins_rate axes_rate : Float) (p : List ℕ) (k : ℕ) → axis_at (update_grid bins_rate axes_rate g).after p k ≡ through (renewed axes_rate) (axis_at g p k)
  update-at (axes g) bins_rate axes_rate [] k = update-nth g.plan axes_rate g.axes k
  update-at (axes g) bins_rate axes_rate (i ∷ p) k = refl
  update-at (bins h bs) bins_rate axes_rate [] k = adapted-in bins_rate h (update_bins bins_rate axes_rate bs) [] k _ refl
  update-at (bins h bs) bins_rate axes_rate (i ∷ p) k = adapted-in bins_rate h (update_bins bins_rate axes_rate bs) (i ∷ p) k _ (update-in bs bins_rate axes_rate i p k)

  update-in : (bs : Bins) (bins_rate axes_rate : Float) (i : ℕ) (p : List ℕ) (k : ℕ) → axis_in (update_bins bins_rate axes_rate bs).after i p k ≡ through (renewed axes_rate) (axis_in bs i p k)
  update-in none bins_rate axes_rate i p k = refl
  update-in (more b c bs) bins_rate axes_rate zero p k = update-under c bins_rate axes_rate p k
  update-in (more b c bs) bins_rate axes_rate (suc i) p k = update-in bs bins_rate axes_rate i p k

  update-under : (c : Child) (bins_rate axes_rate : Float) (p : List ℕ) (k : ℕ) → axis_under (update_child bins_rate axes_rate c).after p k ≡ through (renewed axes_rate) (axis_under c p k)
  update-under nothing bins_rate axes_rate p k = refl
  update-under (grid g) bins_rate axes_rate p k = update-at g bins_rate axes_rate p k

-- where nothing is found in a grid, nothing is at any of its axes
pub never : {s : Spot} → option.none ≡ some s → ⊥
never e = let z : true ≡ false = cc in true≢false z

pub same_spot : {s t : Spot} → some s ≡ some t → s ≡ t
same_spot e = cc

abbrev Unfound : Float → Spot → Type 0
Unfound rate s = ((fate rate s).eight ≡ false) × ((fate rate s).nine ≡ false)

clear-nth : (plan : AxesPlan) (rate : Float) (axs : List Axis) (k : ℕ) (s : Spot) → (update_all plan rate axs).eight ≡ false → (update_all plan rate axs).nine ≡ false → nth plan axs k ≡ some s → Unfound rate s
unfolding nth update_all
clear-nth plan rate [] k s x y e = absurd (never e)
clear-nth plan rate (a ∷ axs) zero s x y e = subst (Unfound rate) (same_spot e) ((no-either _ (update_all plan rate axs).eight x).0, (no-either _ (update_all plan rate axs).nine y).0)
clear-nth plan rate (a ∷ axs) (suc k) s x y e = clear-nth plan rate axs k s (no-either (outcome_of a (update_axis plan rate a)).eight _ x).1 (no-either (outcome_of a (update_axis plan rate a)).nine _ y).1 e

mutual
  unfolding update_grid update_axes update_bins update_child axis_at axis_in axis_under

  pub clear_at : (g : Grid) (bins_rate axes_rate : Float) (p : List ℕ) (k : ℕ) (s : Spot) → (update_grid bins_rate axes_rate g).eight ≡ false → (update_grid bins_rate axes_rate g).nine ≡ false
      → axis_at g p k ≡ some s → Unfound axes_rate s
  clear_at (axes g) bins_rate axes_rate [] k s x y e = clear-nth g.plan axes_rate g.axes k s (no-either (update_all g.plan axes_rate g.axes).eight (not (well_formed (updated_of false g.own))) x).0 y e
  clear_at (axes g) bins_rate axes_rate (i ∷ p) k s x y e = absurd (never e)
  clear_at (bins h bs) bins_rate axes_rate [] k s x y e = absurd (never e)
  clear_at (bins h bs) bins_rate axes_rate (i ∷ p) k s x y e =
      let q = adapted-clear bins_rate h (update_bins bins_rate axes_rate bs) x y in clear_in bs bins_rate axes_rate i p k s q.0 q.1 e

  clear_in : (bs : Bins) (bins_rate axes_rate : Float) (i : ℕ) (p : List ℕ) (k : ℕ) (s : Spot) → (update_bins bins_rate axes_rate bs).eight ≡ false → (update_bins bins_rate axes_rate bs).nine ≡ false
      → axis_in bs i p k ≡ some s → Unfound axes_rate s
  clear_in none bins_rate axes_rate i p k s x y e = absurd (never e)
  clear_in (more b c bs) bins_rate axes_rate zero p k s x y e =
      let own = not (well_formed (updated_of false b.own)) in
      let eight = (update_child bins_rate axes_rate c).eight in
      let nine = (update_child bins_rate axes_rate c).nine in
      clear-under c bins_rate axes_rate p k s (no-either eight own (no-either (eight || own) (update_bins bins_rate axes_rate bs).eight x).0).0 (no-either nine (update_bins bins_rate axes_rate bs).nine y).0 e
  clear_in (more b c bs) bins_rate axes_rate (suc i) p k s x y e =
      let own = not (well_formed (updated_of false b.own)) in
      let eight = (update_child bins_rate axes_rate c).eight in
      let nine = (update_child bins_rate axes_rate c).nine in
      clear_in bs bins_rate axes_rate i p k s (no-either (eight || own) (update_bins bins_rate axes_rate bs).eight x).1 (no-either nine (update_bins bins_rate axes_rate bs).nine y).1 e

  clear-under : (c : Child) (bins_rate axes_rate : Float) (p : List ℕ) (k : ℕ) (s : Spot) → (update_child bins_rate axes_rate c).eight ≡ false → (update_child bins_rate axes_rate c).nine ≡ false
      → axis_under c p k ≡ some s → Unfound axes_rate s
  clear-under nothing bins_rate axes_rate p k s x y e = absurd (never e)
  clear-under (grid g) bins_rate axes_rate p k s x y e = clear_at g bins_rate axes_rate p k s x y e
