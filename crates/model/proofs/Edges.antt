-- Edges: every call but an update leaves them alone, and an accepted update leaves edges that rise strictly from 0 to 1.
use mathlib.Core.Path.{◌≡◌, refl, sym, subst}
use mathlib.Core.Bool.{true, false, not, ◌&&◌}
use Prim.Native.Nat.{ℕ, ◌+◌, ◌≤◌}
use native.Mathlib.Omega.{arith}
use mathlib.Core.Logic.{inl, inr}
use mathlib.Core.List.{List}
use lib.ListN.{length}
use lib.Ieee.{Float, eq}
use Rattle.doubles.specs.Numbers.{zero64}
use Rattle.doubles.specs.Total.{all_finite}
use Rattle.doubles.specs.Paper.{Paper, gives, refuses}
use borrow.Author.Tests.{not-true}
use Rattle.doubles.proofs.Ladder.{passes, given, branch}
use Rattle.accumulator.specs.Record.{bounded}
use Rattle.axis.specs.Edges.{well_formed}
use Rattle.axis.specs.Scans.{all_bounded}
use Rattle.axis.proofs.Fresh.{fresh-formed}
use Rattle.recut.specs.Gather.{reaches_of}
use Rattle.recut.specs.Renew.{renew_of}
use Rattle.recut.proofs.Laws.{renew-sound}
use Rattle.model.specs.Axes.{Axis, AxesPlan, empty_axis, fresh_axis, cleared_axis}
use Rattle.model.specs.Train.{train_axis}
use Rattle.model.specs.Merge.{merge_axis}
use Rattle.model.specs.Update.{gathered_axis, bins_after, recut_to, adapted_axis, update_axis}

pub trained-edges : (ax : Axis) (x v : Float) → (train_axis ax x v).edges ≡ ax.edges
unfolding train_axis
trained-edges ax x v = refl

pub merged-edges : (a b : Axis) → (merge_axis a b).edges ≡ a.edges
unfolding merge_axis
merged-edges a b = refl

pub cleared-edges : (ax : Axis) → (cleared_axis ax).edges ≡ ax.edges
unfolding cleared_axis
cleared-edges ax = refl

pub fresh-edges : (n : ℕ) → 1 ≤ n → n ≤ 1024 → well_formed (fresh_axis n).edges ≡ true
unfolding fresh_axis empty_axis
fresh-edges n N M = fresh-formed n N M

-- what an accepted update comes to: the gathered axis alone, a reset, or a re-cut
pub data Updated (plan : AxesPlan) (rate : Float) (ax after : Axis) : Type 0 where
  gathers : reaches_of plan.least (gathered_axis plan.averages ax).counters ≡ false → gathered_axis plan.averages ax ≡ after → Updated plan rate ax after
  resets : empty_axis ax.edges (length (gathered_axis plan.averages ax).bins) ax.recuts ≡ after → Updated plan rate ax after
  recuts : (es : List Float)
      → renew_of ax.edges (gathered_axis plan.averages ax).importances (gathered_axis plan.averages ax).counters rate (bins_after plan ax.recuts + 1) ≡ gives es
      → empty_axis es (bins_after plan ax.recuts) (ax.recuts + 1) ≡ after → Updated plan rate ax after

recut-is : (plan : AxesPlan) (rate : Float) (ax after : Axis) (p : Paper (List Float))
    → p ≡ renew_of ax.edges (gathered_axis plan.averages ax).importances (gathered_axis plan.averages ax).counters rate (bins_after plan ax.recuts + 1)
    → recut_to (bins_after plan ax.recuts) ax.recuts p ≡ gives after → Updated plan rate ax after
recut-is plan rate ax after (gives es) h e = recuts es (sym h) (given (empty_axis es (bins_after plan ax.recuts) (ax.recuts + 1)) after e)
recut-is plan rate ax after (refuses k) h e = let z : ◌≡◌ {A = ℕ} 0 1 = cc in absurd (omega arith)

pub update-is : (plan : AxesPlan) (rate : Float) (ax after : Axis) → update_axis plan rate ax ≡ gives after → Updated plan rate ax after
unfolding update_axis adapted_axis gathered_axis
update-is plan rate ax after e =
    let g = gathered_axis plan.averages ax in
    let p = (passes (not (all_finite g.importances && all_bounded g.counters)) 8 _ after e).1 in
    elim (branch (not (reaches_of plan.least g.counters)) (gives g) _ after p) [
      | inl h ↦ gathers (not-true (reaches_of plan.least g.counters) h.0) (given g after h.1)
      | inr h ↦ elim (branch (eq rate zero64) (gives (empty_axis g.edges (length g.bins) g.recuts)) _ after h.1) [
        | inl k ↦ resets (given (empty_axis g.edges (length g.bins) g.recuts) after k.1)
        | inr k ↦ recut-is plan rate ax after _ refl (passes (not (bounded (g.recuts + 1))) 8 _ after k.1).1
      ]
    ]

pub update-formed : (plan : AxesPlan) (rate : Float) (ax after : Axis) → well_formed ax.edges ≡ true → update_axis plan rate ax ≡ gives after
    → well_formed after.edges ≡ true
unfolding gathered_axis empty_axis
update-formed plan rate ax after w e = from (update-is plan rate ax after e)
  where
    from : Updated plan rate ax after → well_formed after.edges ≡ true
    from (gathers h same) = subst (λ (a : Axis). well_formed a.edges ≡ true) same w
    from (resets same) = subst (λ (a : Axis). well_formed a.edges ≡ true) same w
    from (recuts es h same) = subst (λ (a : Axis). well_formed a.edges ≡ true) same (renew-sound _ _ _ rate _ es h).0
