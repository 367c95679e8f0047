-- `updating::refusal` meets its contract: each return by the law of its case.
use mathlib.Core.Path.{sym}
use Rattle.std.proofs.lemmas.Result.{err_from_is_err_and}
use Rattle.doubles.proofs.Refusals.{number_ne0}
use Rattle.lent.specs.State.{fault_to}
use Rattle.updates.proofs.Refused.{fault-refuses, rate-refuses, none-refuses}
use Rattle.updates.proofs.updating.refusal.Goals as goal

pub returns-in_err-fault_to : goal.returns-in_err-fault_to
returns-in_err-fault_to c = let p = err_from_is_err_and c.from_residual.result c.from_residual.ensures.1 in
    rw (p.1, p.2) (fault-refuses (fault_to c.args.table.now c.args.reals.now c.args.counts.now c.args.places c.args.tallies) c.args.bins_rate c.args.axes_rate _ c.in_err-fault_to.ensures (number_ne0 c.in_err-fault_to.field-0.0))

pub returns-then-not-is_rate : goal.returns-then-not-is_rate
returns-then-not-is_rate c = rate-refuses (fault_to c.args.table.now c.args.reals.now c.args.counts.now c.args.places c.args.tallies) c.args.bins_rate c.args.axes_rate (sym c.in_ok-fault_to.ensures) c.is_rate.result c.is_rate-2.result c.is_rate.ensures c.is_rate-2.ensures c.if-not-is_rate.true

pub returns : goal.returns
returns c = none-refuses (fault_to c.args.table.now c.args.reals.now c.args.counts.now c.args.places c.args.tallies) c.args.bins_rate c.args.axes_rate (sym c.in_ok-fault_to.ensures) c.is_rate.result c.is_rate-2.result c.is_rate.ensures c.is_rate-2.ensures c.if-not-is_rate.false
