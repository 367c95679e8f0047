-- A fresh grid is well formed, and nothing is counted on its axes.
use mathlib.Core.Path.{◌≡◌, refl, ap, subst}
use mathlib.Core.Bool.{true, ◌&&◌}
use mathlib.Core.List.{List, [], ◌∷◌}
use mathlib.Core.Option.{some}
use Prim.Native.Nat.{ℕ, zero, suc, ◌≤◌}
use native.Mathlib.Omega.{arith}
use borrow.Author.Tests.{leb-true}
use lib.Dec.{leb}
use lib.ListN.{length, replicate}
use Rattle.doubles.proofs.Truth.{both}
use Rattle.doubles.proofs.Steps.{inv-above, inv-finite}
use Rattle.accumulator.proofs.Laws.{fresh-sound}
use Rattle.axis.specs.Edges.{even_edges}
use Rattle.recut.specs.Gather.{sum_of}
use Rattle.recut.specs.Chances.{chance}
use Rattle.model.specs.Axes.{Axis, AxesPlan, fresh_axis, fresh_axes}
use Rattle.model.specs.Grid.{fresh_bin, fresh_bins, fresh_head, fresh_grid}
use Rattle.model.specs.Sound.{sound, formed_grid, formed_bins, formed_child, kept_grid, kept_bins, kept_child}
use Rattle.model.proofs.Counts.{waiting_in, counts_of, empty-counts}
use Rattle.lent.proofs.Reformed.{all_two}
use Rattle.lent.proofs.FreshState.{axes-fresh}
use Rattle.grid.specs.Address.{Spot, spot, nth, axis_at, axis_in, axis_under}
use Rattle.grid.specs.Fresh.{Plan, Plans, flat, tree, stop, bare, under, many, bins_fit, sized, sized_all, fresh, children}
use Rattle.grid.proofs.Places.{never, same_spot}

-- ---- well formed

length-children : (ps : Plans) → length (children ps) ≡ many ps
unfolding children many
length-children stop = refl
length-children (bare ps) = ap suc (length-children ps)
length-children (under p ps) = ap suc (length-children ps)

-- the bounds of a number that fits
within : (n m : ℕ) → (leb 1 n && leb n m) ≡ true → (1 ≤ n) × (n ≤ m)
within n m e = let b = both (leb 1 n) (leb n m) e in (leb-true 1 n b.0, leb-true n m b.1)

mutual
  unfolding sized sized_all bins_fit fresh children formed_grid formed_bins formed_child kept_grid kept_bins kept_child fresh_axes fresh_grid fresh_head fresh_bins fresh_bin chance

  fresh-both : (p : Plan) → sized p ≡ true → (formed_grid (fresh p) ≡ true) × (kept_grid (fresh p) ≡ true)
  fresh-both (flat d plan) s =
      let b = within plan.bins 1024 (both (leb 1 plan.bins && leb plan.bins 1024) _ s).0 in
      let all = axes-fresh plan d b.0 b.1 in
      (all.0, all_two fresh-sound all.1)
  fresh-both (tree ratio averages ps) s =
      let q = both (leb 1 (many ps) && leb (many ps) 256) (sized_all ps) s in
      let b = within (many ps) 256 q.0 in
      let l = length-children ps in
      let all = children-both ps (length (children ps)) (omega (arith, b.0, l)) (omega (arith, b.1, l)) q.1 in
      (all.0, all_two fresh-sound all.1)

  children-both : (ps : Plans) (n : ℕ) → 1 ≤ n → n ≤ 1024 → sized_all ps ≡ true → (formed_bins (fresh_bins n (children ps)) ≡ true) × (kept_bins (fresh_bins n (children ps)) ≡ true)
  children-both stop n h m s = (refl, refl)
  children-both (bare ps) n h m s =
      let rest = children-both ps n h m s in
      (all_two (all_two (inv-finite n h m) (inv-above n h m)) rest.0, all_two fresh-sound rest.1)
  children-both (under p ps) n h m s =
      let q = both (sized p) (sized_all ps) s in
      let one = fresh-both p q.0 in
      let rest = children-both ps n h m q.1 in
      (all_two (all_two (inv-finite n h m) (inv-above n h m)) (all_two one.0 rest.0), all_two fresh-sound (all_two one.1 rest.1))

pub sound-fresh : (p : Plan) → sized p ≡ true → sound (fresh p) ≡ true
unfolding sound
sound-fresh p s = let b = fresh-both p s in all_two b.0 b.1

-- ---- unused

pub record Unused (s : Spot) : Type 0 where
  pub numbers : bins_fit (s.plan.bins ∷ s.plan.evolution) ≡ true
  pub waits : waiting_in s.axis.bins ≡ 0
  pub gathered : sum_of s.axis.counters ≡ 0

unused : (plan : AxesPlan) → bins_fit (plan.bins ∷ plan.evolution) ≡ true → Unused (spot plan (fresh_axis plan.bins))
unfolding fresh_axis counts_of
unused plan e =
    let n = plan.bins in
    let c = empty-counts (even_edges n) n 0 in
    record { numbers = e; waits = omega (arith, c); gathered = omega (arith, c) }

unused-nth : (plan : AxesPlan) (d k : ℕ) (ax : Axis) (s : Spot) → Unused (spot plan ax) → nth plan (replicate d ax) k ≡ some s → Unused s
unfolding nth
unused-nth plan zero k ax s u e = absurd (never e)
unused-nth plan (suc d) zero ax s u e = subst Unused (same_spot e) u
unused-nth plan (suc d) (suc k) ax s u e = unused-nth plan d k ax s u e

mutual
  unfolding sized sized_all fresh children fresh_axes fresh_grid fresh_bins axis_at axis_in axis_under

  pub fresh_at : (q : Plan) (p : List ℕ) (k : ℕ) (s : Spot) → sized q ≡ true → axis_at (fresh q) p k ≡ some s → Unused s
  fresh_at (flat d plan) [] k s z e = unused-nth plan d k (fresh_axis plan.bins) s (unused plan z) e
  fresh_at (flat d plan) (i ∷ p) k s z e = absurd (never e)
  fresh_at (tree ratio averages ps) [] k s z e = absurd (never e)
  fresh_at (tree ratio averages ps) (i ∷ p) k s z e = fresh_in ps (length (children ps)) i p k s (both (leb 1 (many ps) && leb (many ps) 256) (sized_all ps) z).1 e

  fresh_in : (ps : Plans) (n i : ℕ) (p : List ℕ) (k : ℕ) (s : Spot) → sized_all ps ≡ true → axis_in (fresh_bins n (children ps)) i p k ≡ some s → Unused s
  fresh_in stop n i p k s z e = absurd (never e)
  fresh_in (bare ps) n zero p k s z e = absurd (never e)
  fresh_in (bare ps) n (suc i) p k s z e = fresh_in ps n i p k s z e
  fresh_in (under q ps) n zero p k s z e = fresh_at q p k s (both (sized q) (sized_all ps) z).0 e
  fresh_in (under q ps) n (suc i) p k s z e = fresh_in ps n i p k s (both (sized q) (sized_all ps) z).1 e
