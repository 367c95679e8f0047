-- Nothing stands against both states, so both grids lie there well formed; 8 is no answer here.
use mathlib.Core.Path.{sym, ◌∙◌}
use native.Mathlib.Omega.{arith}
use borrow.Author.Tests.{eqb-true, eqb-false}
use Rattle.std.proofs.lemmas.Result.{err_from_is_err_and}
use Rattle.doubles.proofs.Refusals.{nonzero}
use Rattle.lent.specs.Calls.{mergeable_of}
use Rattle.lent.proofs.States.{pair-clear, stopped, went_on}
use Rattle.lent.proofs.Matches.{mergeable-kept, mergeable-else}
use Rattle.doubles.specs.declared.refusal.Refusal.TheVariants as refusal
use Rattle.merges.proofs.Findings.{found-as}
use Rattle.merges.proofs.is_mergeable.Goals as goal

pub returns-in_err-pair_fault : goal.returns-in_err-pair_fault
unfolding mergeable_of
returns-in_err-pair_fault c = let p = err_from_is_err_and c.from_residual.result c.from_residual.ensures.1 in
    rw (p.1, p.2) (c.in_err-pair_fault.ensures ∙ sym (stopped _ _ _ (nonzero _ _ c.in_err-pair_fault.ensures)))

pub grid_obstacle-found-requires : goal.grid_obstacle-found-requires
grid_obstacle-found-requires c = let k = pair-clear _ _ _ _ _ _ (λ i. omega (arith, c.type_inv.table i)) (λ i. omega (arith, c.type_inv.other i)) (sym c.in_ok-pair_fault.ensures) in (k.0.laid, k.1.laid, k.0.well, k.1.well)

pub returns-then-eq : goal.returns-then-eq
unfolding mergeable_of
returns-then-eq c = mergeable-kept _ _ _ c.grid_obstacle-found.ensures (eqb-true _ 8 (found-as refusal.Overflow c.grid_obstacle-found.result _ _ c.eq.ensures c.if-eq.true)) ∙ sym (went_on _ _ _ (sym c.in_ok-pair_fault.ensures))

pub returns : goal.returns
unfolding mergeable_of
returns c = mergeable-else _ _ _ c.grid_obstacle-found.ensures (eqb-false _ 8 (found-as refusal.Overflow c.grid_obstacle-found.result _ _ c.eq.ensures c.if-eq.false)) ∙ sym (went_on _ _ _ (sym c.in_ok-pair_fault.ensures))
