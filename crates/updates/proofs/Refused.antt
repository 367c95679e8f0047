-- What refuses an update before it is worked out: each test as the definitions have it.
use mathlib.Core.Path.{◌≡◌, refl, sym, ap, ap₂, ◌∙◌}
use mathlib.Core.Bool.{Bool, true, false, not, ◌&&◌, cond}
use mathlib.Core.List.{List}
use Prim.Native.Nat.{ℕ}
use native.Mathlib.Omega.{arith}
use borrow.Author.Tests.{eqb-true, eq-eqb, ne_eqb}
use lib.Dec.{eqb}
use lib.ListN.{length}
use lib.Ieee.{Float}
use Rattle.doubles.proofs.Truth.{failed, passed}
use Rattle.plan.specs.declared.Needs.{Needs}
use Rattle.plan.specs.Paper as plan
use Rattle.plan.specs.Calls.{sizes_of}
use Rattle.model.specs.Update.{rate_fits}
use Rattle.lent.specs.Memory.{Memory}
use Rattle.lent.specs.State.{judged_to, fault_to}
use Rattle.lent.specs.Calls.{StateEnd, state_end, renewed_over, front_of, in_front, updated_by}
use Rattle.lent.proofs.States.{fault-to-known}
use Rattle.lent.proofs.Clones.{Ready, ready}
use Rattle.updates.specs.Refused.{refused_for}

module _ (known : ℕ) (bins_rate axes_rate : Float) where
  pub fault-refuses : (fault : ℕ) → fault ≡ known → (fault ≡ 0 → ⊥) → fault ≡ refused_for known bins_rate axes_rate
  unfolding refused_for
  fault-refuses fault d z = rw (sym d, ne_eqb fault 0 z)

  module _ (z : known ≡ 0) (a b : Bool) (e : a ≡ rate_fits bins_rate) (f : b ≡ rate_fits axes_rate) where
    pub rate-refuses : (a && b) ≡ false → 3 ≡ refused_for known bins_rate axes_rate
    unfolding refused_for
    rate-refuses h = rw (eq-eqb known 0 z, failed (ap₂ ◌&&◌ e f) h)

    pub none-refuses : (a && b) ≡ true → 0 ≡ refused_for known bins_rate axes_rate
    unfolding refused_for
    none-refuses h = rw (eq-eqb known 0 z, passed (ap₂ ◌&&◌ e f) h)

module _ (table : List ℕ) (bins_rate axes_rate : Float) (R C : ℕ) (s : Memory) (needs : Needs) (n : ℕ) where
  ladder : (x y : Bool) (fault : ℕ) (e : StateEnd) → n ≡ cond (not x) fault (cond (not y) 3 0) → (n ≡ 0 → ⊥) → state_end n s ≡ cond (not x) (state_end fault s) (cond (not y) (state_end 3 s) e)
  ladder false y fault e d z = ap (λ (k : ℕ). state_end k s) d
  ladder true false fault e d z = ap (λ (k : ℕ). state_end k s) d
  ladder true true fault e d z = absurd (z d)

  pub update-refused : n ≡ refused_for (judged_to table s.reals s.counts R C needs) bins_rate axes_rate → (n ≡ 0 → ⊥) → state_end n s ≡ updated_by table bins_rate axes_rate R C s needs
  unfolding refused_for updated_by
  update-refused d z =
      let fault = judged_to table s.reals s.counts R C needs in
      let o = renewed_over table bins_rate axes_rate (front_of needs s) in
      ladder (eqb fault 0) (rate_fits bins_rate && rate_fits axes_rate) fault (state_end o.answer (in_front needs o.state s)) d z

none : (x y : Bool) (fault : ℕ) → eqb fault 0 ≡ x → 0 ≡ cond (not x) fault (cond (not y) 3 0) → (fault ≡ 0) × (y ≡ true)
none false y fault e d = absurd (told (sym e ∙ eq-eqb fault 0 (sym d)))
  where
    told : false ≡ true → ⊥
    told q = let a : ◌≡◌ {A = ℕ} 0 1 = cc in omega arith
none true false fault e d = absurd (omega (arith, d))
none true true fault e d = (eqb-true fault 0 e, refl)

pub nothing-refuses : (fault : ℕ) (bins_rate axes_rate : Float) → 0 ≡ refused_for fault bins_rate axes_rate → (fault ≡ 0) × ((rate_fits bins_rate && rate_fits axes_rate) ≡ true)
unfolding refused_for
nothing-refuses fault bins_rate axes_rate d = none (eqb fault 0) (rate_fits bins_rate && rate_fits axes_rate) fault refl d

-- where nothing refuses: the room of the plan's part in the state and in its spare, and rates that fit
pub record Allowed (table : List ℕ) (bins_rate axes_rate : Float) (s to : Memory) (needs : Needs) : Type 0 where
  pub fault : judged_to table s.reals s.counts (length to.reals) (length to.counts) needs ≡ 0
  pub rates : (rate_fits bins_rate && rate_fits axes_rate) ≡ true
  pub room : Ready table s to needs

pub told-refusal : (table : List ℕ) (bins_rate axes_rate : Float) (s to : Memory) (needs : Needs) → sizes_of table ≡ plan.gives needs → (n : ℕ)
    → n ≡ refused_for (fault_to table s.reals s.counts (length to.reals) (length to.counts)) bins_rate axes_rate
    → n ≡ refused_for (judged_to table s.reals s.counts (length to.reals) (length to.counts) needs) bins_rate axes_rate
told-refusal table bins_rate axes_rate s to needs e n d =
    d ∙ ap (λ (k : ℕ). refused_for k bins_rate axes_rate) (fault-to-known table s.reals s.counts (length to.reals) (length to.counts) needs e)

pub allowed-by : (table : List ℕ) (bins_rate axes_rate : Float) (s to : Memory) (needs : Needs) → sizes_of table ≡ plan.gives needs
    → 0 ≡ refused_for (fault_to table s.reals s.counts (length to.reals) (length to.counts)) bins_rate axes_rate → Allowed table bins_rate axes_rate s to needs
allowed-by table bins_rate axes_rate s to needs e d =
    let h = nothing-refuses (judged_to table s.reals s.counts (length to.reals) (length to.counts) needs) bins_rate axes_rate (told-refusal table bins_rate axes_rate s to needs e 0 d) in
    record { fault = h.0; rates = h.1; room = ready table s to needs h.0 }
