-- Form, then faults; what passes both can be taken.
use mathlib.Core.Path.{sym, ◌∙◌}
use Rattle.std.proofs.Common.{rules}
use Rattle.std.proofs.lemmas.Result.{err_from_is_err_and}
use Rattle.plan.specs.Fields.{bins_field}
use Rattle.doubles.proofs.Truth.{failed, passed}
use Rattle.plan.proofs.Faults.{bins-fit, faulted, faultless}
use Rattle.plan.proofs.fields.bins_field.Goals as goal

pub returns-then-not-is_formed : goal.returns-then-not-is_formed
unfolding bins_field
returns-then-not-is_formed c = rw (failed c.is_formed.ensures c.if-not-is_formed.true)

pub returns-in_err-map_err : goal.returns-in_err-map_err
unfolding bins_field
returns-in_err-map_err c =
    let p = err_from_is_err_and c.from_residual.result c.from_residual.ensures.1 in
    rw (p.1, p.2, passed c.is_formed.ensures c.if-not-is_formed.false, ← c.bins_at-b.ensures, ← c.bins_fault.ensures)
    (faulted _ c.bins_fault.result c.args.p.at c.map_err.ensures.cases c.in_err-map_err.was (λ e k. search rules) _)

pub take_bins-requires : goal.take_bins-requires
take_bins-requires c = bins-fit c.requires.roomy _ _ (sym c.bins_fault.ensures ∙ faultless _ c.bins_fault.result c.map_err.ensures.cases c.in_ok-map_err.was)

pub returns : goal.returns
unfolding bins_field
returns c = rw (passed c.is_formed.ensures c.if-not-is_formed.false, ← c.bins_at-b.ensures, sym c.bins_fault.ensures ∙ faultless _ c.bins_fault.result c.map_err.ensures.cases c.in_ok-map_err.was, c.take_bins.ensures)
