-- Nothing stands against the state, so the grid lies there, and the walk answers as the definition.
use mathlib.Core.Path.{◌≡◌, sym, ap, ◌∙◌}
use Prim.Native.Nat.{ℕ, ◌-◌}
use native.Mathlib.Omega.{arith}
use Rattle.std.proofs.lemmas.Result.{err_from_is_err_and}
use Rattle.doubles.proofs.Refusals.{nonzero}
use Rattle.doubles.specs.Paper.{refuses}
use Rattle.lent.specs.State.{root_of, state_fault}
use Rattle.lent.specs.Sampled.{entries}
use Rattle.lent.specs.Bins.{estimate_along}
use Rattle.lent.specs.Calls.{live_of_bin}
use Rattle.lent.proofs.States.{clear, refused-first, answered-last}
use Rattle.quiet.proofs.live_estimate_of_bin.Goals as goal

pub returns-in_err-fault : goal.returns-in_err-fault
unfolding live_of_bin
returns-in_err-fault c = let p = err_from_is_err_and c.from_residual.result c.from_residual.ensures.1 in
    rw (p.1, p.2) (ap (λ (n : ℕ). refuses n) c.in_err-fault.ensures ∙ sym (refused-first (state_fault c.args.table.now c.args.reals.now c.args.counts.now) (estimate_along (root_of c.args.table.now c.args.reals.now c.args.counts.now) (entries 0 c.args.path 0 c.args.levels)) (nonzero _ _ c.in_err-fault.ensures)))

pub estimate_along-requires : goal.estimate_along-requires
estimate_along-requires c = ((clear c.args.table.now c.args.reals.now c.args.counts.now (λ i. omega (arith, c.type_inv.table i)) (sym c.in_ok-fault.ensures)).laid, omega arith)

pub returns : goal.returns
unfolding live_of_bin
returns c = let e : c.args.levels - 0 ≡ c.args.levels = omega arith in c.estimate_along.ensures ∙ ap (λ (n : ℕ). estimate_along (root_of c.args.table.now c.args.reals.now c.args.counts.now) (entries 0 c.args.path 0 n)) e ∙ sym (answered-last (state_fault c.args.table.now c.args.reals.now c.args.counts.now) (estimate_along (root_of c.args.table.now c.args.reals.now c.args.counts.now) (entries 0 c.args.path 0 c.args.levels)) (sym c.in_ok-fault.ensures))
