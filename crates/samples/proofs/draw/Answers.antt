-- A fault refuses the draw; without one the grid lies there well formed, and the draw from its root is the model's.
use mathlib.Core.Path.{sym, ap, ap₂, ◌∙◌}
use native.Mathlib.Omega.{arith}
use Rattle.std.proofs.lemmas.Result.{err_from_is_err_and}
use Rattle.doubles.specs.Paper.{Paper, gives, refuses}
use Rattle.doubles.proofs.Refusals.{nonzero}
use Rattle.stream.specs.declared.MonteCarloRng.{MonteCarloRng}
use Rattle.model.specs.Draw.{draw_grid}
use Rattle.lent.specs.declared.Sample as given
use Rattle.lent.specs.declared.Drawing as drawn
use Rattle.lent.specs.Sampled.{laid_drawing}
use Rattle.lent.specs.State.{root_of, state_fault}
use Rattle.lent.specs.Calls.{laid_paper, draw_of}
use Rattle.lent.proofs.States.{clear, refused-first, answered-last}
use Rattle.lent.proofs.Samples.{written-laid}
use Rattle.samples.proofs.draw.Goals as goal

abbrev made : drawn.Drawing → Paper drawn.Drawing
made d = gives d

pub returns-in_err-fault : goal.returns-in_err-fault
unfolding draw_of
returns-in_err-fault c = let p = err_from_is_err_and c.from_residual.result c.from_residual.ensures.1 in
    rw (p.1, p.2) (ap (λ (n : _). refuses n) c.in_err-fault.ensures ∙ sym (ap laid_paper (refused-first (state_fault c.args.table.now c.args.reals.now c.args.counts.now) (gives (draw_grid (root_of c.args.table.now c.args.reals.now c.args.counts.now) c.args.start)) (nonzero _ _ c.in_err-fault.ensures))))

pub draw_root-stream-requires : goal.draw_root-stream-requires
draw_root-stream-requires c = let state = clear c.args.table.now c.args.reals.now c.args.counts.now (λ i. omega (arith, c.type_inv.table i)) (sym c.in_ok-fault.ensures) in (state.laid, state.well)

pub returns : goal.returns
unfolding draw_of laid_drawing
returns c = let e = c.draw_root-stream.ensures in
    ap₂ (λ (t : given.Sample) (s : MonteCarloRng). made (record { sample = t; stream = s })) (written-laid _ _ _ c.empty_sample-sample.ensures e.1) e.0 ∙ sym (ap laid_paper (answered-last (state_fault c.args.table.now c.args.reals.now c.args.counts.now) (gives (draw_grid (root_of c.args.table.now c.args.reals.now c.args.counts.now) c.args.start)) (sym c.in_ok-fault.ensures)))
