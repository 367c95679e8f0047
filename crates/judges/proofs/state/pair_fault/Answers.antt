-- The first table decides, then the other's: 12 where one is no plan's, else what both come to with their needs known.
use mathlib.Core.Path.{refl}
use native.Mathlib.Omega.{arith}
use Rattle.std.proofs.lemmas.Result.{err_from_is_err_and}
use Rattle.lent.proofs.States.{sizes-planned, first-planned, first-strayed, second-planned, second-strayed}
use Rattle.judges.proofs.state.pair_fault.Goals as goal

pub returns-in_err-needs : goal.returns-in_err-needs
returns-in_err-needs c = let p = err_from_is_err_and c.from_residual.result c.from_residual.ensures.1 in
    rw (p.1, p.2, c.in_err-needs.ensures.refused) (first-strayed c.args.table.now c.args.reals.now c.args.counts.now c.args.other.now c.args.theirs.now c.args.tallies.now _ _ c.in_err-needs.ensures.sized refl)

pub returns-in_err-asked : goal.returns-in_err-asked
returns-in_err-asked c = let p = err_from_is_err_and c.from_residual-in_err-asked.result c.from_residual-in_err-asked.ensures.1 in
    rw (p.1, p.2, c.in_err-asked.ensures.refused) (first-planned c.args.table.now c.args.reals.now c.args.counts.now c.args.other.now c.args.theirs.now c.args.tallies.now _ c.in_ok-needs.needs _ c.in_ok-needs.ensures.sized refl
    (second-strayed c.args.table.now c.args.reals.now c.args.counts.now c.args.other.now c.args.theirs.now c.args.tallies.now c.in_ok-needs.needs _ _ c.in_err-asked.ensures.sized refl))

pub both_judged-requires : goal.both_judged-requires
both_judged-requires c = (sizes-planned c.args.table.now _ c.in_ok-needs.needs c.in_ok-needs.ensures.sized refl, λ i. omega (arith, c.type_inv.table i), sizes-planned c.args.other.now _ c.in_ok-asked.asked c.in_ok-asked.ensures.sized refl, λ i. omega (arith, c.type_inv.other i))

pub returns : goal.returns
returns c = first-planned c.args.table.now c.args.reals.now c.args.counts.now c.args.other.now c.args.theirs.now c.args.tallies.now _ c.in_ok-needs.needs _ c.in_ok-needs.ensures.sized refl
    (second-planned c.args.table.now c.args.reals.now c.args.counts.now c.args.other.now c.args.theirs.now c.args.tallies.now c.in_ok-needs.needs _ c.in_ok-asked.asked _ c.in_ok-asked.ensures.sized refl c.both_judged.ensures)
