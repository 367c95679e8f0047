-- A bin number that is listed is from 1 to `most`, so that the axis has room for what both scans read.
use mathlib.Core.List.{◌∷◌}
use lib.ListN.{get_or}
use Rattle.lent.specs.Judged.{axis_fits}
use Rattle.lent.proofs.Judges.{listed-upto}
use mathlib.Core.Path.{sym, ◌∙◌}
use Rattle.judges.proofs.judging.axis_fits.Goals as goal

pub returns-then-not-is_listed : goal.returns-then-not-is_listed
unfolding axis_fits
returns-then-not-is_listed c = rw (sym c.is_listed.ensures ∙ c.if-not-is_listed.true)

pub reals_fit-doubles-requires : goal.reals_fit-doubles-requires
reals_fit-doubles-requires c = ((listed-upto c.args.most (get_or c.args.counts.now c.args.c 0) (c.args.bins ∷ c.args.values.now) c.requires.1 (sym c.is_listed.ensures ∙ c.if-not-is_listed.false)).1, c.requires.0, c.requires.2)

pub counts_fit-whole-requires : goal.counts_fit-whole-requires
counts_fit-whole-requires c = ((listed-upto c.args.most (get_or c.args.counts.now c.args.c 0) (c.args.bins ∷ c.args.values.now) c.requires.1 (sym c.is_listed.ensures ∙ c.if-not-is_listed.false)).1, c.requires.0, c.requires.3)

pub returns : goal.returns
unfolding axis_fits
returns c = rw ((sym c.is_listed.ensures ∙ c.if-not-is_listed.false), c.reals_fit-doubles.ensures, c.counts_fit-whole.ensures)
