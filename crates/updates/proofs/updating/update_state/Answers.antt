-- `updating::update_state` meets its contract: what is not refused finds room, and the update of the front parts is the state's.
use mathlib.Core.Path.{refl}
use native.Mathlib.Omega.{arith}
use lib.ListN.{length}
use Rattle.std.proofs.lemmas.Result.{err_from_is_err_and}
use Rattle.doubles.proofs.Refusals.{number_ne0}
use Rattle.model.specs.Update.{rate_fits}
use Rattle.lent.specs.Memory.{memory}
use Rattle.lent.specs.State.{judged_to}
use Rattle.lent.proofs.Spares.{update-made, front-ready}
use Rattle.updates.proofs.Refused.{Allowed, allowed-by, told-refusal, update-refused}
use Rattle.updates.proofs.updating.update_state.Goals as goal
use Rattle.updates.proofs.updating.update_state.Goals.{In_ok-refusal}

-- what the test tells where nothing refuses: nothing stands against the state and its spare, and both rates fit
allowed : (c : In_ok-refusal) → Allowed c.args.table.now c.args.bins_rate c.args.axes_rate (memory c.args.reals.now c.args.counts.now) (memory c.args.spare_reals.now c.args.spare_counts.now) c.args.needs
allowed c = allowed-by c.args.table.now c.args.bins_rate c.args.axes_rate (memory c.args.reals.now c.args.counts.now) (memory c.args.spare_reals.now c.args.spare_counts.now) c.args.needs c.requires c.in_ok-refusal.ensures

pub returns-in_err-refusal : goal.returns-in_err-refusal
returns-in_err-refusal c = let p = err_from_is_err_and c.from_residual.result c.from_residual.ensures.1 in
    rw (p.1, p.2) (update-refused c.args.table.now c.args.bins_rate c.args.axes_rate (length c.args.spare_reals.now) (length c.args.spare_counts.now) (memory c.args.reals.now c.args.counts.now) c.args.needs _ (told-refusal c.args.table.now c.args.bins_rate c.args.axes_rate (memory c.args.reals.now c.args.counts.now) (memory c.args.spare_reals.now c.args.spare_counts.now) c.args.needs c.requires _ c.in_err-refusal.ensures) (number_ne0 c.in_err-refusal.field-0.0))

pub update_over-requires : goal.update_over-requires
update_over-requires c = front-ready c.args.table.now (memory c.args.reals.now c.args.counts.now) (memory c.args.spare_reals.now c.args.spare_counts.now) c.args.needs (λ i. omega (arith, c.type_inv.table i)) c.requires (allowed (goal.at.update_over-requires c).In_ok-refusal).room

pub returns : goal.returns
returns c = let a = allowed (goal.at.returns c).In_ok-refusal in
    update-made c.args.table.now c.args.bins_rate c.args.axes_rate (memory c.args.reals.now c.args.counts.now) (memory c.args.spare_reals.now c.args.spare_counts.now) c.args.needs (judged_to c.args.table.now c.args.reals.now c.args.counts.now (length c.args.spare_reals.now) (length c.args.spare_counts.now) c.args.needs) refl a.fault (rate_fits c.args.bins_rate) (rate_fits c.args.axes_rate) refl refl _ c.update_over.new.reals c.update_over.new.counts a.rates c.update_over.ensures

pub slice_bounds-update_over-end-4 : goal.slice_bounds-update_over-end-4
slice_bounds-update_over-end-4 c = (allowed (goal.at.slice_bounds-update_over-end-4 c).In_ok-refusal).room.tallies

pub slice_bounds-update_over-end : goal.slice_bounds-update_over-end
slice_bounds-update_over-end c = (allowed (goal.at.slice_bounds-update_over-end c).In_ok-refusal).room.reals

pub slice_bounds-update_over-end-3 : goal.slice_bounds-update_over-end-3
slice_bounds-update_over-end-3 c = (allowed (goal.at.slice_bounds-update_over-end-3 c).In_ok-refusal).room.places

pub slice_bounds-update_over-end-2 : goal.slice_bounds-update_over-end-2
slice_bounds-update_over-end-2 c = (allowed (goal.at.slice_bounds-update_over-end-2 c).In_ok-refusal).room.counts
