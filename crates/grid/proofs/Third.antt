-- Demand 3 on the model: from a fresh grid, after any sequence of calls, refused ones included, every axis has edges strictly rising from
-- exactly 0 to exactly 1, every bin probability is finite and above 0, a coordinate has a bin exactly when it is a number in [0, 1]
-- (p[i] < x ≤ p[i+1], zero in bin 0), and an axis's bin counts total the samples it accepted, merged ones included, since its last reset.
use mathlib.Core.Path.{◌≡◌, refl, sym, ap, ◌∙◌}
use mathlib.Core.Logic.{◌⊎◌, inl, inr}
use mathlib.Core.Bool.{true}
use mathlib.Core.List.{List}
use mathlib.Core.Option.{Option, some}
use mathlib.Core.Option as option
use Prim.Native.Nat.{ℕ}
use Rattle.axis.proofs.Bins.{bin-rule}
use Rattle.model.specs.Grid.{Grid}
use Rattle.model.specs.Sound.{sound}
use Rattle.grid.specs.Address.{Spot, axis_at}
use Rattle.grid.specs.Fresh.{Plan, sized, fresh}
use Rattle.grid.specs.History.{Call, run, log, count, total_of, since_reset}
use Rattle.grid.specs.Demand3.{Demand3}
use Rattle.grid.proofs.Places.{never}
use Rattle.grid.proofs.Kept.{parts_at, chance-at, sound-run}
use Rattle.grid.proofs.Counted.{counted-run, none-run, holds-total}
use Rattle.grid.proofs.FreshGrids.{sound-fresh, fresh_at}

which : (o : Option Spot) → (o ≡ option.none) ⊎ ((s : Spot) × (o ≡ some s))
which option.none = inl refl
which (some s) = inr (s, refl)

module _ (q : Plan) (z : sized q ≡ true) (cs : List Call) where
  abbrev end : Grid
  end = run (fresh q) cs

  well : sound end ≡ true
  well = sound-run (fresh q) cs (sound-fresh q z)

  counts : (p : List ℕ) (k : ℕ) (s : Spot) → axis_at end p k ≡ some s → (axis_at (fresh q) p k ≡ option.none) ⊎ ((b : Spot) × (axis_at (fresh q) p k ≡ some b))
      → total_of s.axis ≡ since_reset s.plan.least p k (log (fresh q) cs)
  unfolding since_reset
  counts p k s e (inl n) = absurd (never (sym (none-run p k (fresh q) cs n) ∙ e))
  counts p k s e (inr (b, f)) =
      let u = fresh_at q p k b z f in
      let h = counted-run p k b.plan.least (count 0 0) (fresh q) cs (sound-fresh q z) (record { at = b; here = f; least = refl; numbers = u.numbers; news = u.waits; olds = u.gathered }) in
      let r = holds-total b.plan.least _ _ s (parts_at end p k s well e) h e in
      r.1 ∙ ap (λ (m : ℕ). since_reset m p k (log (fresh q) cs)) (sym r.0)

  pub demand-3 : Demand3 (run (fresh q) cs) (log (fresh q) cs)
  demand-3 = record {
    axis = λ p k s e. record { edges = (parts_at end p k s well e).rising; bin = λ x i. bin-rule s.axis.edges x i (parts_at end p k s well e).rising; counts = counts p k s e (which (axis_at (fresh q) p k)) };
    probability = λ p i c e. chance-at end p i c well e;
  }
