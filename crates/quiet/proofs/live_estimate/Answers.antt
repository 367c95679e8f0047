-- A fault is the answer first; without one the root lies there, and its own record gives the estimate.
use mathlib.Core.Path.{sym, ap, ◌∙◌}
use Prim.Native.Nat.{ℕ}
use native.Mathlib.Omega.{arith}
use Rattle.std.proofs.lemmas.Result.{err_from_is_err_and}
use Rattle.doubles.proofs.Refusals.{nonzero}
use Rattle.doubles.specs.Paper.{refuses}
use Rattle.accumulator.specs.Calls.{live_estimate_of}
use Rattle.lent.specs.State.{root_of, own_of, state_fault}
use Rattle.lent.specs.Calls.{live_of}
use Rattle.lent.proofs.States.{clear, refused-first, answered-last}
use Rattle.quiet.proofs.live_estimate.Goals as goal

pub returns-in_err-fault : goal.returns-in_err-fault
unfolding live_of
returns-in_err-fault c = let p = err_from_is_err_and c.from_residual.result c.from_residual.ensures.1 in
    rw (p.1, p.2) (ap (λ (n : ℕ). refuses n) c.in_err-fault.ensures ∙ sym (refused-first (state_fault c.args.table.now c.args.reals.now c.args.counts.now) (live_estimate_of (own_of (root_of c.args.table.now c.args.reals.now c.args.counts.now))) (nonzero _ _ c.in_err-fault.ensures)))

pub own-requires : goal.own-requires
own-requires c = (clear c.args.table.now c.args.reals.now c.args.counts.now (λ i. omega (arith, c.type_inv.table i)) (sym c.in_ok-fault.ensures)).laid

pub returns : goal.returns
unfolding live_of
returns c = c.get_live_estimate.ensures ∙ ap live_estimate_of c.own.ensures ∙ sym (answered-last (state_fault c.args.table.now c.args.reals.now c.args.counts.now) (live_estimate_of (own_of (root_of c.args.table.now c.args.reals.now c.args.counts.now))) (sym c.in_ok-fault.ensures))
