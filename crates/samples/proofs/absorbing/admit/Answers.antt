-- Nothing stands against the sample, so the grid takes it; else nothing is written.
use mathlib.Core.Path.{refl, sym, ◌∙◌}
use native.Mathlib.Omega.{arith}
use Rattle.std.proofs.lemmas.Result.{err_from_is_err_and}
use Rattle.doubles.proofs.Refusals.{number_ne0}
use Rattle.lent.specs.Memory.{memory}
use Rattle.lent.specs.State.{root_of}
use Rattle.lent.proofs.Objections.{takes-root}
use Rattle.lent.proofs.Absorbs.{admitted-all, admitted-none}
use Rattle.samples.proofs.absorbing.admit.Goals as goal

pub objection-requires : goal.objection-requires
objection-requires c = (c.requires.0, c.requires.1, c.requires.2, c.requires.3)

pub returns-in_err-objection : goal.returns-in_err-objection
returns-in_err-objection c = let p = err_from_is_err_and c.from_residual.result c.from_residual.ensures.1 in
    rw (p.1, p.2) (c.in_err-objection.ensures.0, sym (admitted-none _ c.args.table.now c.args.s.now c.args.evaluation c.args.number (memory c.args.reals.now c.args.counts.now) (number_ne0 c.in_err-objection.field-0.0)))

pub absorb_grid-requires : goal.absorb_grid-requires
absorb_grid-requires c = let takes = takes-root (root_of c.args.table.now c.args.reals.now c.args.counts.now) c.args.s.now c.args.evaluation c.args.number c.requires.1 (sym c.in_ok-objection.ensures.0) in
    (c.requires.0, omega arith, record { takes = takes; found = c.in_ok-objection.ensures.1 refl })

pub returns : goal.returns
returns c = (c.in_ok-objection.ensures.0, c.absorb_grid.ensures ∙ sym (admitted-all 0 c.args.table.now c.args.s.now c.args.evaluation c.args.number (memory c.args.reals.now c.args.counts.now) refl))
