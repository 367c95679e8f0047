-- Nothing stands against the state, so the grid lies there well formed, and the descent answers as the model.
use mathlib.Core.Path.{sym, ap, ◌∙◌}
use native.Mathlib.Omega.{arith}
use Rattle.std.proofs.lemmas.Result.{err_from_is_err_and}
use Rattle.doubles.proofs.Refusals.{nonzero}
use Rattle.doubles.specs.Paper.{refuses}
use Rattle.model.specs.Probe.{probe_grid}
use Rattle.lent.specs.State.{root_of, state_fault}
use Rattle.lent.specs.Probed.{coordinates_of, path_from}
use Rattle.lent.specs.Calls.{probe_of}
use Rattle.lent.proofs.States.{clear, refused-first, answered-last}
use Rattle.quiet.proofs.probe.Goals as goal

pub returns-in_err-fault : goal.returns-in_err-fault
unfolding probe_of
returns-in_err-fault c = let p = err_from_is_err_and c.from_residual.result c.from_residual.ensures.1 in
    rw (p.1, p.2) (ap refuses c.in_err-fault.ensures ∙ sym (refused-first (state_fault c.args.table.now c.args.reals.now c.args.counts.now) (probe_grid (root_of c.args.table.now c.args.reals.now c.args.counts.now) (path_from c.args.p 0) (coordinates_of c.args.p.coordinates)) (nonzero _ _ c.in_err-fault.ensures)))

pub probe_grid-requires : goal.probe_grid-requires
probe_grid-requires c = ((clear c.args.table.now c.args.reals.now c.args.counts.now (λ i. omega (arith, c.type_inv.table i)) (sym c.in_ok-fault.ensures)).laid, omega arith, (clear c.args.table.now c.args.reals.now c.args.counts.now (λ i. omega (arith, c.type_inv.table i)) (sym c.in_ok-fault.ensures)).well)

pub returns : goal.returns
unfolding probe_of
returns c = c.probe_grid.ensures ∙ sym (answered-last (state_fault c.args.table.now c.args.reals.now c.args.counts.now) (probe_grid (root_of c.args.table.now c.args.reals.now c.args.counts.now) (path_from c.args.p 0) (coordinates_of c.args.p.coordinates)) (sym c.in_ok-fault.ensures))
