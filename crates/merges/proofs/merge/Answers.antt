-- Nothing stands against both states, then nothing against the merge, and the model gives it.
use mathlib.Core.Path.{sym}
use native.Mathlib.Omega.{arith}
use Rattle.std.proofs.lemmas.Result.{err_from_is_err_and}
use Rattle.doubles.proofs.Refusals.{nonzero, number_ne0}
use Rattle.lent.proofs.States.{Clear, pair-clear}
use Rattle.merges.proofs.Ends.{end-stopped, end-met, end-merged}
use Rattle.merges.proofs.merge.Goals as goal
use Rattle.merges.proofs.merge.Goals.{In_ok-pair_fault}

-- both grids lie there
both : (c : In_ok-pair_fault) → Clear c.args.table.now c.args.reals.now c.args.counts.now × Clear c.args.other.now c.args.theirs.now c.args.tallies.now
both c = pair-clear _ _ _ _ _ _ (λ i. omega (arith, c.type_inv.table i)) (λ i. omega (arith, c.type_inv.other i)) (sym c.in_ok-pair_fault.ensures)

pub returns-in_err-pair_fault : goal.returns-in_err-pair_fault
returns-in_err-pair_fault c = let p = err_from_is_err_and c.from_residual.result c.from_residual.ensures.1 in
    rw (p.1, p.2) (end-stopped _ _ _ _ _ c.in_err-pair_fault.ensures (nonzero _ _ c.in_err-pair_fault.ensures))

pub grid_obstacle-requires : goal.grid_obstacle-requires
grid_obstacle-requires c = let k = both (goal.at.grid_obstacle-requires c).In_ok-pair_fault in (k.0.laid, k.1.laid, k.0.well, k.1.well)

pub returns-in_err-grid_obstacle : goal.returns-in_err-grid_obstacle
returns-in_err-grid_obstacle c = let p = err_from_is_err_and c.from_residual-in_err-grid_obstacle.result c.from_residual-in_err-grid_obstacle.ensures.1 in
    rw (p.1, p.2) (end-met _ _ _ _ _ (sym c.in_ok-pair_fault.ensures) c.in_err-grid_obstacle.ensures (number_ne0 _))

pub merge_grid-requires : goal.merge_grid-requires
merge_grid-requires c = let k = both (goal.at.merge_grid-requires c).In_ok-pair_fault in (k.0.laid, k.1.laid)

pub returns : goal.returns
returns c = end-merged _ _ _ _ _ (sym c.in_ok-pair_fault.ensures) (sym c.in_ok-grid_obstacle.ensures) c.merge_grid.ensures
