-- What an update leaves: refused, the memory as it was; else a state that nothing stands against, whose summary is given.
use Rattle.std.proofs.Common.{◌≡◌, ℕ, Bool, true, false, eqb, List, length, replicate, refl, ap, ◌∙◌, subst, ap₂, arith, le-ltb, eqb-true}
use borrow.Author.Tests.{eqb-false}
use lib.ListN.{length-replicate}
use lib.Ieee.{Float}
use Rattle.doubles.specs.Numbers.{zero64}
use Rattle.doubles.specs.Paper.{Paper, gives, refuses}
use Rattle.plan.specs.declared.Needs.{Needs}
use Rattle.plan.specs.Paper as plan
use Rattle.plan.specs.Calls.{sizes_of}
use Rattle.plan.proofs.Tables.{Words}
use Rattle.accumulator.specs.Calls as account
use Rattle.model.specs.Grid.{Grid}
use Rattle.model.specs.Sound.{sound}
use Rattle.model.specs.Update as model
use Rattle.lent.specs.Memory.{Memory, memory}
use Rattle.lent.specs.State.{root_of, own_of, judged_by, judged_to, fault_by, state_fault}
use Rattle.lent.specs.Calls.{StateEnd, updated_by, update_of, summary_of}
use Rattle.lent.proofs.States.{clear}
use Rattle.lent.proofs.Clones.{ready}
use Rattle.lent.proofs.Batches.{clear-again}
use Rattle.lent.proofs.UpdatedState.{Called, update-updates}
use Rattle.lent.proofs.Formed.{own-kept}

pub record Renewed (table : List ℕ) (m : Memory) (e : StateEnd) : Type 0 where
  pub stays : (e.answer ≡ 0 → ⊥) → e.state ≡ m
  pub clear : e.answer ≡ 0 → state_fault table e.state.reals e.state.counts ≡ 0

module _ (table : List ℕ) (large : Words table) (m : Memory) (bins_rate axes_rate : Float) where
  -- the model's answer
  called-renews : (e : StateEnd) (p : Paper Grid) → state_fault table m.reals m.counts ≡ 0 → Called table m e p → Renewed table m e
  unfolding Called
  called-renews e (gives g) f (a, r, w, x, y) = record { stays = λ z. absurd (z a); clear = λ z. clear-again table m e.state large f x y (ap sound r ∙ w) }
  called-renews e (refuses k) f h =
      let s : e.state ≡ m = ap (λ (o : StateEnd). o.state) h in
      record { stays = λ z. s; clear = λ z. ap (λ (x : Memory). state_fault table x.reals x.counts) s ∙ f }

  module _ (n : Needs) (planned : sizes_of table ≡ plan.gives n) where
    -- nothing stands against a state that an update takes
    free : (to : Memory) → judged_to table m.reals m.counts (length to.reals) (length to.counts) n ≡ 0 → state_fault table m.reals m.counts ≡ 0
    unfolding state_fault fault_by judged_by
    free to z = let r = ready table m to n z in rw (planned, le-ltb _ _ r.reals, le-ltb _ _ r.counts, r.well)

    fits : (R C : ℕ) → judged_to table m.reals m.counts R C n ≡ 0 → Renewed table m (update_of table bins_rate axes_rate R C m)
    fits R C h =
        let to = memory (replicate R zero64) (replicate C 0) in
        let x : length to.reals ≡ R = length-replicate R zero64 in
        let y : length to.counts ≡ C = length-replicate {A = ℕ} C 0 in
        let z : judged_to table m.reals m.counts (length to.reals) (length to.counts) n ≡ 0 = rw (x, y) h in
        let same : update_of table bins_rate axes_rate (length to.reals) (length to.counts) m ≡ update_of table bins_rate axes_rate R C m = ap₂ (λ (i j : ℕ). update_of table bins_rate axes_rate i j m) x y in
        subst (Renewed table m) same (called-renews _ (model.update_of bins_rate axes_rate (root_of table m.reals m.counts)) (free to z) (update-updates table bins_rate axes_rate m to n large planned z))

    lacks : (R C : ℕ) → eqb (judged_to table m.reals m.counts R C n) 0 ≡ false → Renewed table m (update_of table bins_rate axes_rate R C m)
    unfolding update_of updated_by
    lacks R C h = rw (planned, h) record { stays = λ z. refl; clear = λ z. absurd (eqb-false _ 0 h z) }

    by-room : (R C : ℕ) (b : Bool) → eqb (judged_to table m.reals m.counts R C n) 0 ≡ b → Renewed table m (update_of table bins_rate axes_rate R C m)
    by-room R C true h = fits R C (eqb-true _ 0 h)
    by-room R C false h = lacks R C h

  by-table : (R C : ℕ) (p : plan.Paper Needs) → sizes_of table ≡ p → Renewed table m (update_of table bins_rate axes_rate R C m)
  unfolding update_of
  by-table R C (plan.gives n) e = by-room n e R C (eqb (judged_to table m.reals m.counts R C n) 0) refl
  by-table R C (plan.refuses k) e = rw e record { stays = λ z. refl; clear = λ z. absurd (omega arith) }
  by-table R C (plan.refuses_at k at) e = rw e record { stays = λ z. refl; clear = λ z. absurd (omega arith) }

  pub update-renews : (R C : ℕ) → Renewed table m (update_of table bins_rate axes_rate R C m)
  update-renews R C = by-table R C (sizes_of table) refl

-- ---- the summary

pub clear-sums : (table : List ℕ) → Words table → (m : Memory) → state_fault table m.reals m.counts ≡ 0 → summary_of table m.reals m.counts ≡ gives (account.summary_of (own_of (root_of table m.reals m.counts)))
unfolding summary_of account.summarize_of
clear-sums table large m f = let c = clear table m.reals m.counts large f in rw (f, own-kept (root_of table m.reals m.counts) c.well)
