-- Four tests for room in the definition's order; the first two put the source's grid within its slices, so it can be judged.
use mathlib.Core.Path.{sym, ◌∙◌}
use borrow.Author.Tests.{lt-ltb, le-ltb}
use lib.ListN.{length}
use Rattle.lent.specs.State.{judged_to}
use Rattle.lent.proofs.Laid.{root-laid}
use Rattle.judges.proofs.state.judged_to.Goals as goal

pub returns-then-m-needs : goal.returns-then-m-needs
unfolding judged_to
returns-then-m-needs c = rw (lt-ltb _ _ c.if-m-needs.true)

pub returns-then-m-needs-2 : goal.returns-then-m-needs-2
unfolding judged_to
returns-then-m-needs-2 c = rw (le-ltb _ _ c.if-m-needs.false, lt-ltb _ _ c.if-m-needs-2.true)

pub returns-then-places-needs : goal.returns-then-places-needs
unfolding judged_to
returns-then-places-needs c = rw (le-ltb _ _ c.if-m-needs.false, le-ltb _ _ c.if-m-needs-2.false, lt-ltb _ _ c.if-places-needs.true)

pub returns-then-tallies-needs : goal.returns-then-tallies-needs
unfolding judged_to
returns-then-tallies-needs c = rw (le-ltb _ _ c.if-m-needs.false, le-ltb _ _ c.if-m-needs-2.false, le-ltb _ _ c.if-places-needs.false, lt-ltb _ _ c.if-tallies-needs.true)

pub grid_fits-requires : goal.grid_fits-requires
grid_fits-requires c = root-laid c.args.m.table.now c.args.needs (length c.args.m.reals.now) (length c.args.m.counts.now) c.requires.1 c.requires.0 c.if-m-needs.false c.if-m-needs-2.false

pub returns-then-not-grid_fits : goal.returns-then-not-grid_fits
unfolding judged_to
returns-then-not-grid_fits c = rw (le-ltb _ _ c.if-m-needs.false, le-ltb _ _ c.if-m-needs-2.false, le-ltb _ _ c.if-places-needs.false, le-ltb _ _ c.if-tallies-needs.false, sym c.grid_fits.ensures ∙ c.if-not-grid_fits.true)

pub returns : goal.returns
unfolding judged_to
returns c = rw (le-ltb _ _ c.if-m-needs.false, le-ltb _ _ c.if-m-needs-2.false, le-ltb _ _ c.if-places-needs.false, le-ltb _ _ c.if-tallies-needs.false, sym c.grid_fits.ensures ∙ c.if-not-grid_fits.false)
