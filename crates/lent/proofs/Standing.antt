-- Axes that stand in lent memory: the next one lies within it, and so do those after it.
use mathlib.Core.Path.{◌≡◌, subst}
use mathlib.Core.Bool.{true}
use mathlib.Core.List.{List, ◌∷◌}
use Prim.Native.Nat.{ℕ, zero, suc, ◌+◌, ◌-◌, ◌*◌, ◌≤◌, ◌<◌}
use native.Mathlib.Omega.{arith}
use lib.ListN.{length, get_or}
use lib.Ieee.{Float}
use Rattle.axis.specs.Edges.{well_formed}
use Rattle.lent.specs.Layout.{stretch, axis_reals, axis_counts, axis_at, axes_from}
use Rattle.lent.specs.Drawn.{Standing}

module _ (m : ℕ) (reals : List Float) (counts : List ℕ) where
  -- the axes that are left, the first of them apart
  pub left-on : (k d r c : ℕ) → d < k
      → axes_from m reals counts (k - d) r c ≡ axis_at m reals counts r c ∷ axes_from m reals counts (k - (d + 1)) (r + (6 * m + 1)) (c + (3 * m + 2))
  unfolding axes_from axis_reals axis_counts
  left-on k d r c h = let e : k - d ≡ suc (k - (d + 1)) = omega arith in rw e

  -- where they begin is within memory
  pub begins : (k r c : ℕ) → Standing m reals counts k r c → (r ≤ length reals) × (c ≤ length counts)
  unfolding Standing axis_reals axis_counts
  begins zero r c s = s
  begins (suc k) r c s = let b = begins k (r + (6 * m + 1)) (c + (3 * m + 2)) s.2 in (omega arith, omega arith)

  pub record Next (k d r c : ℕ) : Type 0 where
    pub held : get_or counts c 0 ≤ m
    pub edges : well_formed (stretch r (get_or counts c 0 + 1) reals) ≡ true
    pub room : r + (6 * m + 1) ≤ length reals
    pub places : c + (3 * m + 2) ≤ length counts
    pub rest : Standing m reals counts (k - (d + 1)) (r + (6 * m + 1)) (c + (3 * m + 2))

  pub next : (k d r c : ℕ) → d < k → Standing m reals counts (k - d) r c → Next k d r c
  unfolding Standing axis_reals axis_counts
  next k d r c h s =
      let e : k - d ≡ suc (k - (d + 1)) = omega arith in
      let t = subst (λ (n : ℕ). Standing m reals counts n r c) e s in
      let b = begins (k - (d + 1)) (r + (6 * m + 1)) (c + (3 * m + 2)) t.2 in
      record { held = t.0; edges = t.1; room = b.0; places = b.1; rest = t.2 }
