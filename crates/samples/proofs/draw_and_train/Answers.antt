-- The state is judged once; then the loop answers for the calls one by one.
use mathlib.Core.Path.{sym}
use Rattle.doubles.proofs.Refusals.{number_ne0}
use Rattle.lent.specs.Memory.{memory}
use Rattle.lent.proofs.Batches.{batch-refused, batch-runs}
use Rattle.samples.proofs.draw_and_train.Goals as goal

pub returns-in-Err : goal.returns-in-Err
returns-in-Err c = batch-refused c.args.table.now (memory c.args.reals.now c.args.counts.now) c.args.start c.args.evaluations.now c.args.first _ c.in-Err.ensures (number_ne0 c.in-Err.why)

pub returns-in-Ok : goal.returns-in-Ok
returns-in-Ok c = batch-runs c.args.table.now (memory c.args.reals.now c.args.counts.now) c.args.start c.args.evaluations.now c.args.first _ (sym c.in-Ok.ensures) c.steps.ensures
