-- `adapting::update_standing` meets its contract: each return by the law of its case.
use Rattle.lent.specs.Memory.{memory}
use Rattle.updates.proofs.Own.{axes-unfit, axes-ready, axes-done}
use Rattle.updates.proofs.adapting.update_standing.Goals as goal

pub returns-then-not-axes_fit : goal.returns-then-not-axes_fit
returns-then-not-axes_fit c = axes-unfit c.args.g c.args.rule c.args.values.now c.args.rate (memory c.args.reals.now c.args.counts.now) c.requires c.axes_fit.result c.axes_fit.ensures c.if-not-axes_fit.true

pub update_axes-axes-requires : goal.update_axes-axes-requires
update_axes-axes-requires c = axes-ready c.args.g c.args.rule c.args.values.now c.args.rate (memory c.args.reals.now c.args.counts.now) c.requires c.axes_fit.result c.axes_fit.ensures c.if-not-axes_fit.false

pub returns : goal.returns
returns c = axes-done c.args.g c.args.rule c.args.values.now c.args.rate (memory c.args.reals.now c.args.counts.now) c.requires c.axes_fit.result c.axes_fit.ensures c.update_axes-axes.result c.update_account-own.result c.bitor.result (memory c.update_axes-axes.new.reals c.update_axes-axes.new.counts) (memory c.update_account-own.new.reals c.update_account-own.new.counts) c.if-not-axes_fit.false c.update_axes-axes.ensures c.update_account-own.ensures c.bitor.ensures
