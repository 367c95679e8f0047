-- The walk's answer; a table that ends before its plan does is cut.
use mathlib.Core.Path.{refl}
use Rattle.std.proofs.lemmas.Result.{err_from_is_err_and}
use Rattle.plan.proofs.Calls.{not_there, is_there, sizes-stray, sizes-cut, sizes-whole}
use Rattle.plan.proofs.sizes.Goals as goal

pub returns-in_err-past : goal.returns-in_err-past
returns-in_err-past c =
    let p = err_from_is_err_and c.from_residual.result c.from_residual.ensures.1 in
    let n = not_there _ c.in_err-past.ensures.value in
    rw (p.1, p.2, n.0) (record { sized = sizes-stray _ c.start.ensures _ c.known.ensures n.1; refused = refl })

pub returns-then-table-past : goal.returns-then-table-past
returns-then-table-past c = record { sized = sizes-cut _ c.start.ensures _ c.known.ensures (is_there _ c.in_ok-past.ensures.value) c.if-table-past.true; refused = refl }

pub returns : goal.returns
returns c = record { sized = sizes-whole _ c.start.ensures _ c.known.ensures (is_there _ c.in_ok-past.ensures.value) c.needs_of.ensures c.if-table-past.false; refused = tt }
