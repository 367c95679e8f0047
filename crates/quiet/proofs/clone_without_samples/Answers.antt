use mathlib.Core.Path.{refl}
use Rattle.std.proofs.lemmas.Result.{err_from_is_err_and}
use Rattle.doubles.specs.Refusal.{fault_of}
use Rattle.lent.specs.Memory.{memory}
use Rattle.lent.specs.Calls.{clone_end}
use Rattle.lent.proofs.States.{sizes-planned}
use Rattle.lent.proofs.Clones.{clone-planned, clone-strayed}
use Rattle.quiet.proofs.clone_without_samples.Goals as goal

pub returns-in_err-needs : goal.returns-in_err-needs
returns-in_err-needs c = let p = err_from_is_err_and c.from_residual.result c.from_residual.ensures.1 in
    rw (p.1, p.2, c.in_err-needs.ensures.refused) (clone-strayed c.args.table.now (memory c.args.reals.now c.args.counts.now) (memory c.args.to_reals.now c.args.to_counts.now) _ _ c.in_err-needs.ensures.sized refl)

pub copy_grid-requires : goal.copy_grid-requires
copy_grid-requires c = sizes-planned c.args.table.now _ c.in_ok-needs.needs c.in_ok-needs.ensures.sized refl

pub returns : goal.returns
returns c = clone-planned c.args.table.now (memory c.args.reals.now c.args.counts.now) (memory c.args.to_reals.now c.args.to_counts.now) _ c.in_ok-needs.needs (clone_end (fault_of c.copy_grid.result) (memory c.copy_grid.new.to_reals c.copy_grid.new.to_counts)) c.in_ok-needs.ensures.sized refl c.copy_grid.ensures
