-- What the judging walk over the bytes meets, in the form in which its code meets it.
use mathlib.Core.Path.{◌≡◌, sym, ◌∙◌}
use mathlib.Core.Logic.{◌⊎◌, inl, inr}
use Prim.Native.Nat.{ℕ, ◌-◌, ◌<◌}
use Rattle.plan.specs.declared.Place.{Place}
use Rattle.plan.specs.declared.AxesPlan.{AxesPlan}
use Rattle.plan.specs.declared.BinsPlan.{BinsPlan}
use Rattle.plan.specs.declared.BinPlan.{BinPlan}
use Rattle.plan.specs.declared.Child.TheVariants as child
use Rattle.plan.specs.Judged.{Step, Stop, Found}
use Rattle.plan.specs.Reading.{Reader, trees_of, tree_of, step_of, steps_of}
use Rattle.plan.proofs.Here.{as-found}
use Rattle.plan.proofs.Readings.{tree-stop, tree-nothing, tree-axes, tree-bins}
use Rattle.plan.proofs.Steps.{step-bins}

module _ (R : Reader) (l : ℕ) (p : Place) where
  pub measure-stop : {n at : ℕ} → Stop n at ≡ R.field l p → Stop n at ≡ step_of (tree_of R l p)
  measure-stop e = rw (tree-stop R l p (sym e))

  module _ {x : BinPlan} (e : Found x ≡ R.field l p) where
    pub measure-leaf : (x.child ≡ child.Nothing) ⊎ ((a : AxesPlan) × (x.child ≡ child.Axes a)) → Found x.past ≡ step_of (tree_of R l p)
    measure-leaf (inl h) = rw (tree-nothing R l p (as-found e h))
    measure-leaf (inr h) = rw (tree-axes R l p (as-found e h.1))

    pub measure-bins : {b : BinsPlan} {s : Step} → 0 < l → x.child ≡ child.Bins b
        → s ≡ steps_of (trees_of (λ i q. R.child (tree_of R (l - 1)) i q) (x.past.tally.words - b.bins) b.bins x.past) → s ≡ step_of (tree_of R l p)
    measure-bins {b} d h g = rw (tree-bins R l p d (as-found e h)) (g ∙ sym (step-bins b (trees_of (λ i q. R.child (tree_of R (l - 1)) i q) (x.past.tally.words - b.bins) b.bins x.past)))
