-- Form, then faults, then the 02; what passes all three can be taken.
use mathlib.Core.Path.{sym, ◌∙◌}
use Prim.Native.Nat.{◌+◌, ◌≤◌}
use native.Mathlib.Omega.{arith}
use lib.ListN.{length}
use Rattle.std.proofs.Common.{rules}
use Rattle.std.proofs.lemmas.Result.{err_from_is_err_and}
use Rattle.plan.specs.Fields.{axes_field, span_of}
use Rattle.doubles.proofs.Truth.{failed, passed}
use Rattle.plan.proofs.Faults.{faulted, faultless}
use Rattle.plan.proofs.Here.{whole, read_here, here-reach, here-fit}
use Rattle.plan.proofs.fields.axes_field.Goals as goal

pub returns-then-not-is_formed : goal.returns-then-not-is_formed
unfolding axes_field
returns-then-not-is_formed c = rw (failed c.is_formed.ensures c.if-not-is_formed.true)

pub returns-in_err-map_err : goal.returns-in_err-map_err
unfolding axes_field
returns-in_err-map_err c =
    let p = err_from_is_err_and c.from_residual.result c.from_residual.ensures.1 in
    rw (p.1, p.2, passed c.is_formed.ensures c.if-not-is_formed.false, ← c.axes_at-a.ensures.0, ← c.axes_fault.ensures)
    (faulted _ c.axes_fault.result c.args.p.at c.map_err.ensures.cases c.in_err-map_err.was (λ e k. search rules) _)

pub evolution_fault-requires : goal.evolution_fault-requires
evolution_fault-requires c = omega (arith, whole _ _ 16 (passed c.is_formed.ensures c.if-not-is_formed.false))

pub returns-in_err-map_err-2 : goal.returns-in_err-map_err-2
unfolding axes_field
returns-in_err-map_err-2 c =
    let p = err_from_is_err_and c.from_residual-in_err-map_err-2.result c.from_residual-in_err-map_err-2.ensures.1 in
    rw (p.1, p.2, passed c.is_formed.ensures c.if-not-is_formed.false, ← c.axes_at-a.ensures.0, sym c.axes_fault.ensures ∙ faultless _ c.axes_fault.result c.map_err.ensures.cases c.in_ok-map_err.was, ← c.evolution_fault.ensures)
    (faulted _ c.evolution_fault.result (c.args.p.at + 19) c.map_err-2.ensures.cases c.in_err-map_err-2.was (λ e k. search rules) _)

pub overflow_add-result : goal.overflow_add-result
overflow_add-result c =
    let f = faultless _ c.axes_fault.result c.map_err.ensures.cases c.in_ok-map_err.was in
    let g = faultless _ c.evolution_fault.result c.map_err-2.ensures.cases c.in_ok-map_err-2.was in
    let h = read_here {p = c.args.p} (passed c.is_formed.ensures c.if-not-is_formed.false) c.axes_at-a.ensures.0 c.axes_fault.ensures f c.evolution_fault.ensures g in
    let w : c.args.p.at + span_of c.axes_at-a.result.values ≤ length c.args.bytes.now = rw c.axes_at-a.ensures.0 (here-reach h) in
    omega (arith, c.span.ensures)

pub take_axes-requires : goal.take_axes-requires
take_axes-requires c =
    let f = faultless _ c.axes_fault.result c.map_err.ensures.cases c.in_ok-map_err.was in
    let g = faultless _ c.evolution_fault.result c.map_err-2.ensures.cases c.in_ok-map_err-2.was in
    let h = read_here {p = c.args.p} (passed c.is_formed.ensures c.if-not-is_formed.false) c.axes_at-a.ensures.0 c.axes_fault.ensures f c.evolution_fault.ensures g in
    rw c.axes_at-a.ensures.0 (here-fit c.requires.roomy h)

pub returns : goal.returns
unfolding axes_field
returns c =
    let f = faultless _ c.axes_fault.result c.map_err.ensures.cases c.in_ok-map_err.was in
    let g = faultless _ c.evolution_fault.result c.map_err-2.ensures.cases c.in_ok-map_err-2.was in
    rw (passed c.is_formed.ensures c.if-not-is_formed.false, ← c.axes_at-a.ensures.0, sym c.axes_fault.ensures ∙ f, sym c.evolution_fault.ensures ∙ g, c.span.ensures, c.take_axes.ensures)
