-- A table that is no plan's is 12 and changes nothing; a plan's sizes are what `update_state` asks for, and it answers.
use mathlib.Core.Path.{refl}
use lib.ListN.{length}
use Rattle.std.proofs.lemmas.Result.{err_from_is_err_and}
use Rattle.lent.specs.Memory.{memory}
use Rattle.lent.proofs.Spares.{update-planned, update-strayed}
use Rattle.updates.proofs.update.Goals as goal

pub returns-in_err-needs : goal.returns-in_err-needs
returns-in_err-needs c = let p = err_from_is_err_and c.from_residual.result c.from_residual.ensures.1 in
    rw (p.1, p.2, c.in_err-needs.ensures.refused) (update-strayed c.args.table.now c.args.bins_rate c.args.axes_rate (length c.args.spare_reals.now) (length c.args.spare_counts.now) (memory c.args.reals.now c.args.counts.now) _ _ c.in_err-needs.ensures.sized refl)

pub returns : goal.returns
returns c = update-planned c.args.table.now c.args.bins_rate c.args.axes_rate (length c.args.spare_reals.now) (length c.args.spare_counts.now) (memory c.args.reals.now c.args.counts.now) _ c.in_ok-needs.needs _ c.in_ok-needs.ensures.sized refl c.update_state.ensures
