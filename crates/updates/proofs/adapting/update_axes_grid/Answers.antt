-- `adapting::update_axes_grid` meets its contract: what its run says is what the table says, and the list of values stands behind its head.
use mathlib.Core.Path.{◌∙◌}
use lib.ListN.{length}
use Rattle.lent.specs.Memory.{memory}
use Rattle.lent.proofs.Places.{placed}
use Rattle.updates.proofs.Own.{axes-fit, axes-told}
use borrow.Author.Rules.{rules}
use Rattle.updates.proofs.adapting.update_axes_grid.Goals as goal

pub update_standing-requires : goal.update_standing-requires
update_standing-requires c = axes-fit c.args.table.now c.args.w c.axes_place-g.result c.rule_at-rule.result (placed c.args.table.now c.args.w c.axes_place-g.ensures (search rules)) c.rule_at-rule.ensures (length c.args.reals.now) (length c.args.counts.now) c.requires

pub returns : goal.returns
returns c = c.update_standing.ensures ∙ axes-told c.args.table.now c.args.w c.axes_place-g.result c.rule_at-rule.result (placed c.args.table.now c.args.w c.axes_place-g.ensures (search rules)) c.rule_at-rule.ensures (length c.args.reals.now) (length c.args.counts.now) c.requires c.args.rate (memory c.args.reals.now c.args.counts.now)
