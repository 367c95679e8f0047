-- The axes of a sound grid stand at the place read, so that `draw_axes` makes the model's draw; its weight is laid at `depth`.
use Rattle.lent.proofs.Samples.{sound-stands, axes-made}
use mathlib.Core.Path.{refl, sym, subst}
use Rattle.lent.specs.declared.AxesAt.{AxesAt}
use Rattle.lent.specs.Drawn.{Stands}
use native.Mathlib.Omega.{arith}
use Rattle.samples.proofs.sampling.draw_from_axes.Goals as goal

pub draw_axes-walked-requires : goal.draw_axes-walked-requires
draw_axes-walked-requires c = (subst (λ (g : AxesAt). Stands c.args.m.reals.now c.args.m.counts.now g) (sym c.place_at-g.ensures) (sound-stands c.args.m.table.now c.args.m.reals.now c.args.m.counts.now c.args.w c.requires.0 c.requires.1), omega arith)

pub returns : goal.returns
returns c = let s = subst (λ (g : AxesAt). Stands c.args.m.reals.now c.args.m.counts.now g) (sym c.place_at-g.ensures) (sound-stands c.args.m.table.now c.args.m.reals.now c.args.m.counts.now c.args.w c.requires.0 c.requires.1) in
    (axes-made c.args.m.table.now c.args.m.reals.now c.args.m.counts.now c.args.w c.args.depth c.args.start c.draw_axes-walked.result c.place_at-g.result c.args.s.now.weights c.args.s.now.coordinates c.draw_axes-walked.new.coordinates c.place_at-g.ensures s.0 c.draw_axes-walked.ensures.0, c.draw_axes-walked.ensures.1, refl)
