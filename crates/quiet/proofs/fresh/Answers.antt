use mathlib.Core.Path.{refl}
use Rattle.std.proofs.lemmas.Result.{err_from_is_err_and}
use Rattle.lent.specs.Memory.{memory}
use Rattle.lent.specs.Calls.{fresh_end}
use Rattle.plan.specs.Paper.{paper_read}
use Rattle.lent.proofs.Plans.{fresh-refused, fresh-measured, measured-by}
use Rattle.quiet.proofs.fresh.Goals as goal

pub returns-in_err-measure_plan : goal.returns-in_err-measure_plan
returns-in_err-measure_plan c = let p = err_from_is_err_and c.from_residual.result c.from_residual.ensures.1 in
    rw (p.1, p.2) (fresh-refused c.args.bytes.now c.args.table.now (memory c.args.reals.now c.args.counts.now) _ c.in_err-measure_plan.field-0.0 c.in_err-measure_plan.ensures refl)

pub found-requires : goal.found-requires
found-requires c = measured-by c.args.bytes.now _ c.in_ok-measure_plan.field-0 c.in_ok-measure_plan.ensures refl

pub returns : goal.returns
returns c = fresh-measured c.args.bytes.now c.args.table.now (memory c.args.reals.now c.args.counts.now) _ c.in_ok-measure_plan.field-0 (fresh_end (paper_read c.found.result) c.found.new.table (memory c.found.new.reals c.found.new.counts)) c.in_ok-measure_plan.ensures refl c.found.ensures
