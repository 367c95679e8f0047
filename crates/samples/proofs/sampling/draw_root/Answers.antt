-- What is traced over a sample is the model's, once the numbers of its entries are set.
use Rattle.model.specs.Draw.{draw_grid}
use Rattle.lent.specs.Tree.{grid_at}
use native.Mathlib.Omega.{arith}
use Rattle.lent.proofs.Samples.{written-there}
use Rattle.lent.proofs.Drawable.{drawn-back}
use Rattle.samples.proofs.sampling.draw_root.Goals as goal

pub returns : goal.returns
returns c = let w = written-there (draw_grid (grid_at 4 c.args.m.table.now c.args.m.reals.now c.args.m.counts.now 0) c.args.start) c.draw_grid-traced.result c.args.s.now c.draw_grid-traced.new.s c.draw_grid-traced.ensures.0 in
    (w.0, w.1, drawn-back _ c.args.s.now _ (omega arith) (omega arith) (omega arith) w.1, c.draw_grid-traced.ensures.1)
