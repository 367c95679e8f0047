-- What was gathered is the row.
use Rattle.std.proofs.Common.{List, sym, ap, ◌∙◌, arith, length-take-le}
use lib.Ieee.{Float}
use Rattle.lent.specs.Memory.{memory}
use Rattle.feed.specs.Fields.{row_from}
use Rattle.feed.specs.Turns.{train_of}
use Rattle.feed.proofs.training.train_row.Goals as goal

pub slice_bounds-train-end-2 : goal.slice_bounds-train-end-2
slice_bounds-train-end-2 c = sym (length-take-le c.gather-many.result c.gather-many.new.evaluations (omega (arith, c.gather-many.ensures.1, c.gather-many.auto.evaluations)))

pub train-requires : goal.train-requires
train-requires c = omega (arith, length-take-le c.gather-many.result c.gather-many.new.evaluations (omega (arith, c.gather-many.ensures.1, c.gather-many.auto.evaluations)), c.gather-many.ensures.1, c.requires)

pub returns : goal.returns
returns c = c.train.ensures ∙ ap (λ (row : List Float). train_of c.args.run c.args.table.now row (memory c.args.reals.now c.args.counts.now)) (c.gather-many.ensures.0 ∙ ap (row_from c.args.bytes.now 0) c.requires)
