-- A grid reads the same out of any memory that is alike on what the grid takes of it.
use mathlib.Core.Path.{◌≡◌, refl, sym, ap, ◌∙◌, subst}
use mathlib.Core.Logic.{inl, inr}
use mathlib.Core.Bool.{Bool, true, false, cond}
use mathlib.Core.List.{List, ◌∷◌}
use Prim.Native.Nat.{ℕ, zero, suc, ◌+◌, ◌*◌, ◌≤◌, ◌<◌}
use native.Mathlib.Omega.{arith}
use borrow.Author.Tests.{ne_eqb, eqb-false}
use lib.Dec.{eqb}
use lib.ListN.{length, get_or}
use lib.Ieee.{Float, nan}
use Rattle.doubles.proofs.Truth.{both}
use Rattle.plan.specs.declared.Tally.{Tally}
use Rattle.plan.specs.Plan.{Tree, nothing}
use Rattle.plan.specs.Needs.{after}
use Rattle.plan.proofs.Records.{Stands}
use Rattle.model.specs.Axes.{AxesPlan}
use Rattle.model.specs.Grid as model
use Rattle.model.specs.Sound.{chance, listed, formed_axis, formed_axis_list, formed_grid, formed_bins, formed_child}
use Rattle.lent.specs.Layout.{axis_reals, axis_counts, axis_at, axes_from}
use Rattle.lent.specs.Memory.{record_at}
use Rattle.lent.specs.Judged.{AllUpto}
use Rattle.lent.specs.Tree.{axes_plan_at, axes_place, axes_grid_at, head_at, bin_in, child_in, bins_in, node_at, grid_at, reals_from, counts_from, AxesLaid, BinsLaid, Laid}
use Rattle.lent.proofs.Same.{Alike, alike-within}
use Rattle.lent.proofs.Reading.{Holding, length-bins, record-alike, axes-alike}
use Rattle.lent.proofs.Judges.{listed-upto}
use Rattle.lent.proofs.Laid.{axes-from, bins-from, stands_from, stands-laid}
use Rattle.lent.proofs.Sounds.{numbers-upto, node-axes}

-- axes of the stated form hold no more bins than they have room for
pub holding-formed : (plan : AxesPlan) (m : ℕ) (reals : List Float) (counts : List ℕ) (k r c : ℕ) → AllUpto m (plan.bins ∷ plan.evolution)
    → formed_axis_list plan (axes_from m reals counts k r c) ≡ true → Holding m counts k c
unfolding Holding axes_from formed_axis_list formed_axis axis_at
holding-formed plan m reals counts zero r c u e = tt
holding-formed plan m reals counts (suc k) r c u e =
    let p = both (formed_axis plan (axis_at m reals counts r c)) (formed_axis_list plan (axes_from m reals counts k (r + axis_reals m) (c + axis_counts m))) e in
    let held = (both (listed (length (axis_at m reals counts r c).bins) (plan.bins ∷ plan.evolution)) _ p.0).0 in
    let few = listed-upto m (length (axis_at m reals counts r c).bins) (plan.bins ∷ plan.evolution) u held in
    (omega (arith, few.1, length-bins m reals counts r c 0 (get_or counts c 0)), holding-formed plan m reals counts k (r + axis_reals m) (c + axis_counts m) u p.1)

module _ (xs : List ℕ) (reals reals' : List Float) (counts counts' : List ℕ) (R C : ℕ) where
  -- at a level: whatever lies there, of the stated form in the first memory
  abbrev Reads : ℕ → Type 0
  Reads l = (w : ℕ) → Laid l xs R C w → formed_grid (grid_at l xs reals counts w) ≡ true → Alike nan (reals_from xs w) R reals reals' → Alike 0 (counts_from xs w) C counts counts'
      → grid_at l xs reals counts w ≡ grid_at l xs reals' counts' w

  axes-read : (l w : ℕ) → AxesLaid xs R C w → formed_grid (grid_at l xs reals counts w) ≡ true → Alike nan (reals_from xs w) R reals reals' → Alike 0 (counts_from xs w) C counts counts'
      → grid_at l xs reals counts w ≡ grid_at l xs reals' counts' w
  unfolding axes_grid_at axes_place axes_plan_at formed_grid
  axes-read l w a f s t =
      let from = axes-from xs w a.kind in
      let AR = get_or xs (w + 9) 0 in
      let Ac = get_or xs (w + 10) 0 in
      let K = get_or xs (w + 2) 0 in
      let M = get_or xs (w + 7) 0 in
      let form = sym (ap formed_grid (node-axes l xs reals counts w a.kind)) ∙ f in
      let held = holding-formed (axes_plan_at xs w) M reals counts K (AR + 14) (Ac + 7) (numbers-upto xs R C w a) form in
      let own = record-alike AR Ac reals reals' counts counts' (alike-within nan (reals_from xs w) R AR (AR + 14) reals reals' (omega (arith, from.0)) (omega (arith, a.room)) s)
      (alike-within 0 (counts_from xs w) C Ac (Ac + 7) counts counts' (omega (arith, from.1)) (omega (arith, a.places)) t) in
      let all = axes-alike M reals reals' counts counts' K (AR + 14) (Ac + 7) held
      (alike-within nan (reals_from xs w) R (AR + 14) (AR + 14 + K * (6 * M + 1)) reals reals' (omega (arith, from.0)) a.room s)
      (alike-within 0 (counts_from xs w) C (Ac + 7) (Ac + 7 + K * (3 * M + 2)) counts counts' (omega (arith, from.1)) a.places t) in
      let there : axes_grid_at xs reals counts w ≡ axes_grid_at xs reals' counts' w = rw (own, all) in
      node-axes l xs reals counts w a.kind ∙ ap model.axes there ∙ sym (node-axes l xs reals' counts' w a.kind)

  module _ (l : ℕ) (deeper : Reads l) (w : ℕ) (b : BinsLaid (Laid l xs R C) xs R C w) where
    abbrev BR : ℕ
    BR = get_or xs (w + 5) 0

    abbrev BC : ℕ
    BC = get_or xs (w + 6) 0

    abbrev N : ℕ
    N = get_or xs (w + 2) 0

    abbrev at : ℕ → ℕ
    at i = get_or xs (w + 7 + i) 0

    -- what hangs at bin i, out of memory that is alike past the grid's own
    child-read : (i : ℕ) → i < N → formed_child (child_in (grid_at l xs reals counts) (at i)) ≡ true → Alike nan (BR + 14 + 15 * N) R reals reals' → Alike 0 (BC + 7 + 7 * N) C counts counts'
        → child_in (grid_at l xs reals counts) (at i) ≡ child_in (grid_at l xs reals' counts') (at i)
    unfolding child_in formed_child
    child-read i j f s t = told (eqb (at i) 0) refl f
      where
        told : (o : Bool) → eqb (at i) 0 ≡ o → formed_child (cond o model.nothing (model.grid (grid_at l xs reals counts (at i)))) ≡ true
            → cond o model.nothing (model.grid (grid_at l xs reals counts (at i))) ≡ cond o model.nothing (model.grid (grid_at l xs reals' counts' (at i)))
        told true o q = refl
        told false o q =
            let z = eqb-false (at i) 0 o in
            ap model.grid (deeper (at i) (b.children i j z) q (alike-within nan (BR + 14 + 15 * N) R (reals_from xs (at i)) R reals reals' (b.past i j z).0 (omega arith) s)
            (alike-within 0 (BC + 7 + 7 * N) C (counts_from xs (at i)) C counts counts' (b.past i j z).1 (omega arith) t))

    module _ (s : Alike nan BR R reals reals') (t : Alike 0 BC C counts counts') where
      own_read : (r c : ℕ) → BR ≤ r → BC ≤ c → r + 14 ≤ BR + 14 + 15 * N → c + 7 ≤ BC + 7 + 7 * N → record_at reals counts r c ≡ record_at reals' counts' r c
      own_read r c x y p q =
          record-alike r c reals reals' counts counts' (alike-within nan BR R r (r + 14) reals reals' x (omega (arith, b.room)) s) (alike-within 0 BC C c (c + 7) counts counts' y (omega (arith, b.places)) t)

      -- the last n bins, from bin i on
      bins-read : (n i : ℕ) → i + n ≡ N → formed_bins (bins_in (grid_at l xs reals counts) xs reals counts w i n) ≡ true
          → bins_in (grid_at l xs reals counts) xs reals counts w i n ≡ bins_in (grid_at l xs reals' counts') xs reals' counts' w i n
      unfolding bins_in bin_in formed_bins
      bins-read zero i e f = refl
      bins-read (suc n) i e f =
          let form = (both (chance (bin_in xs reals counts w i).probability) _ f).1 in
          let parts = both (formed_child (child_in (grid_at l xs reals counts) (at i))) (formed_bins (bins_in (grid_at l xs reals counts) xs reals counts w (i + 1) n)) form in
          rw (
            s.cells (BR + 14 + i) (omega arith) (omega (arith, b.room)),
            own_read (BR + 14 + N + 14 * i) (BC + 7 + 7 * i) (omega arith) (omega arith) (omega arith) (omega arith),
            child-read i (omega arith) parts.0 (alike-within nan BR R (BR + 14 + 15 * N) R reals reals' (omega arith) (omega arith) s) (alike-within 0 BC C (BC + 7 + 7 * N) C counts counts' (omega arith) (omega arith) t),
            bins-read n (i + 1) (omega arith) parts.1,
          )

      node-read : formed_grid (grid_at (suc l) xs reals counts w) ≡ true → grid_at (suc l) xs reals counts w ≡ grid_at (suc l) xs reals' counts' w
      unfolding grid_at node_at head_at formed_grid
      node-read f =
          let z : get_or xs w 0 ≡ 1 → ⊥ = λ e. absurd (omega (arith, b.kind)) in
          let form : formed_bins (bins_in (grid_at l xs reals counts) xs reals counts w 0 N) ≡ true =
          subst (λ (o : Bool). formed_grid (cond o (model.axes (axes_grid_at xs reals counts w)) (model.bins (head_at xs reals counts w) (bins_in (grid_at l xs reals counts) xs reals counts w 0 N))) ≡ true) (ne_eqb (get_or xs w 0) 1 z) f in
          rw (ne_eqb (get_or xs w 0) 1 z, own_read BR BC (omega arith) (omega arith) (omega arith) (omega arith), bins-read N 0 (omega arith) form)

  laid-alike : (l : ℕ) → Reads l
  unfolding Laid
  laid-alike zero w a f s t = axes-read zero w a f s t
  laid-alike (suc l) w (inl a) f s t = axes-read (suc l) w a f s t
  laid-alike (suc l) w (inr b) f s t =
      let from = bins-from xs w b.kind in
      node-read l (laid-alike l) w b (alike-within nan (reals_from xs w) R (get_or xs (w + 5) 0) R reals reals' (omega (arith, from.0)) (omega arith) s)
      (alike-within 0 (counts_from xs w) C (get_or xs (w + 6) 0) C counts counts' (omega (arith, from.1)) (omega arith) t) f

  pub child-alike : (l w : ℕ) (b : BinsLaid (Laid l xs R C) xs R C w) (i : ℕ) → i < get_or xs (w + 2) 0 → formed_child (child_in (grid_at l xs reals counts) (get_or xs (w + 7 + i) 0)) ≡ true
      → Alike nan (get_or xs (w + 5) 0 + 14 + 15 * get_or xs (w + 2) 0) R reals reals' → Alike 0 (get_or xs (w + 6) 0 + 7 + 7 * get_or xs (w + 2) 0) C counts counts'
      → child_in (grid_at l xs reals counts) (get_or xs (w + 7 + i) 0) ≡ child_in (grid_at l xs reals' counts') (get_or xs (w + 7 + i) 0)
  child-alike l = child-read l (laid-alike l)

-- the same of what stands in a table: it lies there within what it takes
pub grid-alike : (xs : List ℕ) (reals reals' : List Float) (counts counts' : List ℕ) (l : ℕ) (t : Tree) (y : Tally) → (t ≡ nothing → ⊥) → Stands xs l t y
    → formed_grid (grid_at l xs reals counts y.words) ≡ true → Alike nan y.reals (after t y).reals reals reals' → Alike 0 y.counts (after t y).counts counts counts'
    → grid_at l xs reals counts y.words ≡ grid_at l xs reals' counts' y.words
grid-alike xs reals reals' counts counts' l t y g st f s u =
    let R = (after t y).reals in
    let C = (after t y).counts in
    let from = stands_from xs l t y g st in
    laid-alike xs reals reals' counts counts' R C l y.words (stands-laid xs R C l t y g st (omega arith) (omega arith)) f
    (alike-within nan y.reals R (reals_from xs y.words) R reals reals' (omega (arith, from.0)) (omega arith) s)
    (alike-within 0 y.counts C (counts_from xs y.words) C counts counts' (omega (arith, from.1)) (omega arith) u)
