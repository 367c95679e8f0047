-- Nothing stands against the copy, so what is put in front of the destination reads as the source, and there the root is cleared.
use mathlib.Core.Path.{◌≡◌, refl, sym, ◌∙◌}
use Rattle.std.proofs.lemmas.Result.{err_from_is_err_and}
use Rattle.doubles.proofs.Refusals.{number_ne0}
use native.Mathlib.Omega.{arith}
use lib.ListN.{length}
use Rattle.lent.specs.Memory.{memory}
use Rattle.lent.specs.State.{judged_to, fault_to}
use Rattle.lent.proofs.States.{fault-to-known}
use Rattle.lent.proofs.Runs.{sets-put}
use Rattle.lent.proofs.Clones.{front_fits, Ready, ready, copy-sound, copy-laid, copy-put, clone-refused, clone-made}
use Rattle.quiet.proofs.copying.copy_grid.Goals as goal
use Rattle.quiet.proofs.copying.copy_grid.Goals.{In_ok-fault_to}

-- the caller has read the plan's needs already
known : (c : In_ok-fault_to) → fault_to c.args.table.now c.args.reals.now c.args.counts.now (length c.args.to_reals.now) (length c.args.to_counts.now) ≡ judged_to c.args.table.now c.args.reals.now c.args.counts.now (length c.args.to_reals.now) (length c.args.to_counts.now) c.args.needs
known c = fault-to-known c.args.table.now c.args.reals.now c.args.counts.now (length c.args.to_reals.now) (length c.args.to_counts.now) c.args.needs c.requires

planned : (c : In_ok-fault_to) → 0 ≡ judged_to c.args.table.now c.args.reals.now c.args.counts.now (length c.args.to_reals.now) (length c.args.to_counts.now) c.args.needs
planned c = c.in_ok-fault_to.ensures ∙ known c

-- both memories and the destination have room for what the plan needs
room : (c : In_ok-fault_to) → Ready c.args.table.now (memory c.args.reals.now c.args.counts.now) (memory c.args.to_reals.now c.args.to_counts.now) c.args.needs
room c = ready c.args.table.now (memory c.args.reals.now c.args.counts.now) (memory c.args.to_reals.now c.args.to_counts.now) c.args.needs (sym (planned c))

pub returns-in_err-fault_to : goal.returns-in_err-fault_to
returns-in_err-fault_to c = let p = err_from_is_err_and c.from_residual.result c.from_residual.ensures.1 in
    rw (p.1, p.2) (clone-refused c.args.table.now (memory c.args.reals.now c.args.counts.now) (memory c.args.to_reals.now c.args.to_counts.now) c.args.needs _
    (c.in_err-fault_to.ensures ∙ fault-to-known c.args.table.now c.args.reals.now c.args.counts.now (length c.args.to_reals.now) (length c.args.to_counts.now) c.args.needs c.requires) (number_ne0 c.in_err-fault_to.field-0.0))

pub clear_root-requires : goal.clear_root-requires
clear_root-requires c =
    let r = room (goal.at.clear_root-requires c).In_ok-fault_to in
    (copy-laid c.args.table.now (memory c.args.reals.now c.args.counts.now) (memory c.args.to_reals.now c.args.to_counts.now) c.args.needs (λ i. omega (arith, c.type_inv.table i)) c.requires r (length c.set.new.entries) (length c.set-2.new.entries) c.set.auto.entries c.set-2.auto.entries, copy-sound c.args.table.now (memory c.args.reals.now c.args.counts.now) (memory c.args.to_reals.now c.args.to_counts.now) c.args.needs (λ i. omega (arith, c.type_inv.table i)) c.requires r (memory c.set.new.entries c.set-2.new.entries) (copy-put c.args.needs (memory c.args.reals.now c.args.counts.now) (memory c.args.to_reals.now c.args.to_counts.now) c.set.new.entries c.set-2.new.entries r.reals r.counts (c.set.ensures ∙ sets-put 0 _ _ (front_fits _ c.args.reals.now _ r.reals r.places)) (c.set-2.ensures ∙ sets-put 0 _ _ (front_fits _ c.args.counts.now _ r.counts r.tallies))))

pub returns : goal.returns
returns c =
    let r = room (goal.at.returns c).In_ok-fault_to in
    clone-made c.args.table.now (memory c.args.reals.now c.args.counts.now) (memory c.args.to_reals.now c.args.to_counts.now) c.args.needs 0 (planned (goal.at.returns c).In_ok-fault_to) (memory c.set.new.entries c.set-2.new.entries) (memory c.clear_root.new.reals c.clear_root.new.counts) refl (copy-put c.args.needs (memory c.args.reals.now c.args.counts.now) (memory c.args.to_reals.now c.args.to_counts.now) c.set.new.entries c.set-2.new.entries r.reals r.counts (c.set.ensures ∙ sets-put 0 _ _ (front_fits _ c.args.reals.now _ r.reals r.places)) (c.set-2.ensures ∙ sets-put 0 _ _ (front_fits _ c.args.counts.now _ r.counts r.tallies))) c.clear_root.ensures

pub slice_bounds-set-end : goal.slice_bounds-set-end
slice_bounds-set-end c = omega (arith, (room (goal.at.slice_bounds-set-end c).In_ok-fault_to).reals)

pub slice_bounds-set-end-2 : goal.slice_bounds-set-end-2
slice_bounds-set-end-2 c = omega (arith, (room (goal.at.slice_bounds-set-end-2 c).In_ok-fault_to).counts)
