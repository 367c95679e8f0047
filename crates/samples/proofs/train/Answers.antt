-- Nothing stands against the state nor against the sample, so the grid takes it; else nothing is written.
use mathlib.Core.Path.{refl, sym}
use native.Mathlib.Omega.{arith}
use Rattle.std.proofs.lemmas.Result.{err_from_is_err_and}
use Rattle.doubles.proofs.Refusals.{number_ne0}
use Rattle.lent.specs.Memory.{memory}
use Rattle.lent.proofs.States.{clear}
use Rattle.lent.proofs.Objections.{train-state, train-admits}
use Rattle.samples.proofs.train.Goals as goal

pub returns-in_err-fault : goal.returns-in_err-fault
returns-in_err-fault c = let p = err_from_is_err_and c.from_residual.result c.from_residual.ensures.1 in
    rw (p.1, p.2) (train-state c.args.table.now (memory c.args.reals.now c.args.counts.now) c.args.s c.args.evaluation c.args.number _ c.in_err-fault.ensures (number_ne0 c.in_err-fault.field-0.0))

pub fault_of-form-requires : goal.fault_of-form-requires
fault_of-form-requires c = (clear c.args.table.now c.args.reals.now c.args.counts.now (λ i. omega (arith, c.type_inv.table i)) (sym c.in_ok-fault.ensures)).laid

pub admit-requires : goal.admit-requires
admit-requires c = let state = clear c.args.table.now c.args.reals.now c.args.counts.now (λ i. omega (arith, c.type_inv.table i)) (sym c.in_ok-fault.ensures) in (state.laid, state.well, c.fault_of-form.ensures, refl)

pub returns : goal.returns
returns c = train-admits c.args.table.now (memory c.args.reals.now c.args.counts.now) c.args.s c.args.evaluation c.args.number _ (memory c.admit.new.reals c.admit.new.counts) (sym c.in_ok-fault.ensures) c.admit.ensures.0 c.admit.ensures.1
