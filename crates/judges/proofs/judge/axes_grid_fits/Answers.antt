-- The run's head gives the place of the axes and their bin numbers, so both answers are the halves of the definition.
use mathlib.Core.Path.{◌∙◌}
use Prim.Native.Nat.{◌+◌}
use native.Mathlib.Omega.{arith}
use lib.ListN.{length, get_or}
use Rattle.lent.specs.Tree.{axes_place}
use Rattle.lent.proofs.Judges.{part}
use Rattle.lent.proofs.Places.{placed}
use Rattle.lent.proofs.Sounds.{words-stretch, numbers-upto, sound-axes}
use borrow.Author.Rules.{rules}
use Rattle.judges.proofs.judge.axes_grid_fits.Goals as goal

pub axes_fit_there-fit-requires : goal.axes_fit_there-fit-requires
unfolding axes_place
axes_fit_there-fit-requires c = rw (placed c.args.m.table.now c.args.w c.axes_place-g.ensures (search rules), (part (c.args.w + 11) (get_or c.args.m.table.now (c.args.w + 8) 0) c.args.m.table.now ∙ words-stretch c.args.m.table.now (c.args.w + 11) (get_or c.args.m.table.now (c.args.w + 8) 0) (omega (arith, c.requires.head)))) (c.requires.most, numbers-upto c.args.m.table.now (length c.args.m.reals.now) (length c.args.m.counts.now) c.args.w c.requires, c.requires.room, c.requires.places)

pub returns : goal.returns
unfolding axes_place
returns c = rw (c.axes_fit_there-fit.ensures, c.is_sound-own.ensures, placed c.args.m.table.now c.args.w c.axes_place-g.ensures (search rules), (part (c.args.w + 11) (get_or c.args.m.table.now (c.args.w + 8) 0) c.args.m.table.now ∙ words-stretch c.args.m.table.now (c.args.w + 11) (get_or c.args.m.table.now (c.args.w + 8) 0) (omega (arith, c.requires.head)))) (sound-axes c.args.m.table.now c.args.m.reals.now c.args.m.counts.now c.args.w c.requires)
