-- Of well-formed axes only the bins that the sample joins may fail, and the grid's own accumulator.
use mathlib.Core.Path.{ap₂, ◌∙◌}
use mathlib.Core.Bool.{◌&&◌}
use native.Mathlib.Omega.{arith}
use lib.ListN.{get_or}
use lib.Ieee.{nan, binary64, mul}
use Rattle.lent.proofs.Accepts.{fit-there, cells_of, own-sound, axes-told}
use Rattle.lent.proofs.Finds.{axes-found}
use Rattle.samples.proofs.acceptance.axes_accept.Goals as goal

pub axes_fit-fit-requires : goal.axes_fit-fit-requires
axes_fit-fit-requires c = let s = c.args.s.now in
    (cells_of c.args.m.table.now c.args.m.reals.now c.args.m.counts.now c.args.w s c.args.depth c.args.number c.requires.0 c.requires.2 c.place_at-g.result c.place_at-g.ensures, c.requires.3)

pub fits_with-own-requires : goal.fits_with-own-requires
fits_with-own-requires c = let s = c.args.s.now in
    (omega (arith, c.requires.0), omega (arith, c.requires.0), own-sound c.args.m.table.now c.args.m.reals.now c.args.m.counts.now c.args.w s c.args.depth c.requires.2.well, c.requires.2.number)

pub returns : goal.returns
returns c = let s = c.args.s.now in (
  ap₂ ◌&&◌ c.fits_with-own.ensures (c.axes_fit-fit.ensures.0 ∙ fit-there c.args.m.table.now c.args.m.reals.now c.args.m.counts.now c.args.w s c.args.depth c.args.number c.requires.0 c.requires.2 c.place_at-g.result c.place_at-g.ensures (mul binary64 (get_or c.args.s.now.weights c.args.depth nan) c.args.evaluation))
      ∙ axes-told c.args.m.table.now c.args.m.reals.now c.args.m.counts.now c.args.w s c.args.depth c.args.number c.requires.0 c.requires.2 c.args.evaluation,
  axes-found c.args.m.table.now c.args.m.reals.now c.args.m.counts.now c.args.w s c.args.depth c.args.number c.requires.0 c.requires.2 c.place_at-g.result c.place_at-g.ensures c.axes_fit-fit.new.spots c.axes_fit-fit.ensures.1,
)
