-- The batch decides, and trains no more than its evaluations.
use Rattle.std.proofs.Common.{ap, arith}
use Rattle.lent.specs.Batched.{BatchEnd}
use Rattle.lent.specs.Memory.{memory}
use Rattle.feed.proofs.Batches.{batch-done}
use Rattle.feed.proofs.training.train.Goals as goal

pub trained-requires : goal.trained-requires
trained-requires c = omega (arith, c.requires, batch-done c.args.table.now (memory c.args.reals.now c.args.counts.now) c.args.run.stream c.args.evaluations.now c.args.run.number, ap (λ (e : BatchEnd). e.answer.done) c.draw_and_train-batched.ensures)
