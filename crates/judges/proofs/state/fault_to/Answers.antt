-- A plan's own answer is what its needs come to; any other table is refused.
use mathlib.Core.Path.{refl}
use native.Mathlib.Omega.{arith}
use Rattle.std.proofs.lemmas.Result.{err_from_is_err_and}
use Rattle.lent.proofs.States.{sizes-planned, fault-to-planned, fault-to-strayed}
use Rattle.judges.proofs.state.fault_to.Goals as goal

pub returns-in_err-needs : goal.returns-in_err-needs
returns-in_err-needs c = let p = err_from_is_err_and c.from_residual.result c.from_residual.ensures.1 in
    rw (p.1, p.2, c.in_err-needs.ensures.refused) (fault-to-strayed c.args.table.now c.args.reals.now c.args.counts.now c.args.places c.args.tallies _ _ c.in_err-needs.ensures.sized refl)

pub judged_to-requires : goal.judged_to-requires
judged_to-requires c = (sizes-planned c.args.table.now _ c.in_ok-needs.needs c.in_ok-needs.ensures.sized refl, λ i. omega (arith, c.type_inv.table i))

pub returns : goal.returns
returns c = fault-to-planned c.args.table.now c.args.reals.now c.args.counts.now c.args.places c.args.tallies _ c.in_ok-needs.needs _ c.in_ok-needs.ensures.sized refl c.judged_to.ensures
