-- Each test is the code's branch; the plans are known, so their grids lie in the room that passed.
use mathlib.Core.Path.{sym, ◌∙◌}
use borrow.Author.Tests.{lt-ltb, le-ltb}
use lib.ListN.{length}
use Rattle.lent.specs.State.{both_judged}
use Rattle.lent.proofs.Laid.{root-laid}
use Rattle.judges.proofs.state.both_judged.Goals as goal

pub returns-then-mine-needs : goal.returns-then-mine-needs
unfolding both_judged
returns-then-mine-needs c = rw (lt-ltb _ _ c.if-mine-needs.true)

pub returns-then-mine-needs-2 : goal.returns-then-mine-needs-2
unfolding both_judged
returns-then-mine-needs-2 c = rw (le-ltb _ _ c.if-mine-needs.false, lt-ltb _ _ c.if-mine-needs-2.true)

pub returns-then-theirs-asked : goal.returns-then-theirs-asked
unfolding both_judged
returns-then-theirs-asked c = rw (le-ltb _ _ c.if-mine-needs.false, le-ltb _ _ c.if-mine-needs-2.false, lt-ltb _ _ c.if-theirs-asked.true)

pub returns-then-theirs-asked-2 : goal.returns-then-theirs-asked-2
unfolding both_judged
returns-then-theirs-asked-2 c = rw (le-ltb _ _ c.if-mine-needs.false, le-ltb _ _ c.if-mine-needs-2.false, le-ltb _ _ c.if-theirs-asked.false, lt-ltb _ _ c.if-theirs-asked-2.true)

pub grid_fits-requires : goal.grid_fits-requires
grid_fits-requires c = root-laid c.args.mine.table.now c.args.needs (length c.args.mine.reals.now) (length c.args.mine.counts.now) c.requires.1 c.requires.0 c.if-mine-needs.false c.if-mine-needs-2.false

pub returns-then-not-grid_fits : goal.returns-then-not-grid_fits
unfolding both_judged
returns-then-not-grid_fits c = rw (le-ltb _ _ c.if-mine-needs.false, le-ltb _ _ c.if-mine-needs-2.false, le-ltb _ _ c.if-theirs-asked.false, le-ltb _ _ c.if-theirs-asked-2.false, sym c.grid_fits.ensures ∙ c.if-not-grid_fits.true)

pub grid_fits-requires-2 : goal.grid_fits-requires-2
grid_fits-requires-2 c = root-laid c.args.theirs.table.now c.args.asked (length c.args.theirs.reals.now) (length c.args.theirs.counts.now) c.requires.3 c.requires.2 c.if-theirs-asked.false c.if-theirs-asked-2.false

pub returns-then-not-grid_fits-2 : goal.returns-then-not-grid_fits-2
unfolding both_judged
returns-then-not-grid_fits-2 c = rw (le-ltb _ _ c.if-mine-needs.false, le-ltb _ _ c.if-mine-needs-2.false, le-ltb _ _ c.if-theirs-asked.false, le-ltb _ _ c.if-theirs-asked-2.false, sym c.grid_fits.ensures ∙ c.if-not-grid_fits.false, sym c.grid_fits-2.ensures ∙ c.if-not-grid_fits-2.true)

pub returns : goal.returns
unfolding both_judged
returns c = rw (le-ltb _ _ c.if-mine-needs.false, le-ltb _ _ c.if-mine-needs-2.false, le-ltb _ _ c.if-theirs-asked.false, le-ltb _ _ c.if-theirs-asked-2.false, sym c.grid_fits.ensures ∙ c.if-not-grid_fits.false, sym c.grid_fits-2.ensures ∙ c.if-not-grid_fits-2.false)
