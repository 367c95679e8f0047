-- The state is clear, so the draw is not refused, and the training is refused only by what stands against the sample. Assumes nothing.
use mathlib.Core.Path.{refl, sym, ap, ◌∙◌}
use native.Mathlib.Omega.{arith}
use Rattle.std.proofs.lemmas.Result.{err_from_is_err_and}
use Rattle.doubles.specs.Refusal.{number_of}
use lib.ListN.{length}
use Rattle.doubles.proofs.Refusals.{number_ne0}
use Rattle.lent.specs.Memory.{memory}
use Rattle.lent.specs.Batched.{step_end}
use Rattle.lent.proofs.States.{clear}
use Rattle.lent.proofs.Drawable.{form-drawn}
use Rattle.lent.proofs.Absorbs.{admitted-all, admitted-none}
use Rattle.lent.proofs.Batches.{step-objected, step-done}
use Rattle.samples.proofs.batching.step.Goals as goal

pub draw_root-stream-requires : goal.draw_root-stream-requires
draw_root-stream-requires c = let s = clear c.args.table.now c.args.reals.now c.args.counts.now (λ i. omega (arith, c.type_inv.table i)) c.requires in (s.laid, s.well)

pub admit-requires : goal.admit-requires
admit-requires c = let s = clear c.args.table.now c.args.reals.now c.args.counts.now (λ i. omega (arith, c.type_inv.table i)) c.requires in
    let form = form-drawn c.args.table.now c.args.reals.now c.args.counts.now (length c.args.reals.now) (length c.args.counts.now) c.args.start c.draw_root-stream.new.s s.laid s.well c.draw_root-stream.ensures.2 in
    (s.laid, s.well, sym form, c.draw_root-stream.ensures.3)

pub returns-in_err-admit : goal.returns-in_err-admit
returns-in_err-admit c = let p = err_from_is_err_and c.from_residual.result c.from_residual.ensures.1 in
    let m = memory c.args.reals.now c.args.counts.now in
    let z = number_ne0 c.in_err-admit.field-0.0 in
    rw (p.1, p.2) (ap (step_end (number_of c.in_err-admit.field-0.0) c.args.start) (c.in_err-admit.ensures.1 ∙ admitted-none _ c.args.table.now c.draw_root-stream.new.s c.args.evaluation c.args.number m z)
    ∙ step-objected c.args.table.now m c.args.start c.args.evaluation c.args.number c.requires c.draw_root-stream.new.s _ c.draw_root-stream.ensures.2 c.draw_root-stream.ensures.1.short c.in_err-admit.ensures.0 z)

pub returns : goal.returns
returns c = let m = memory c.args.reals.now c.args.counts.now in
    let s = clear c.args.table.now c.args.reals.now c.args.counts.now (λ i. omega (arith, c.type_inv.table i)) c.requires in
    step-done c.args.table.now m c.args.start c.args.evaluation c.args.number c.requires c.draw_root-stream.new.s 0 c.draw_root-stream.ensures.2 c.draw_root-stream.ensures.1.short c.in_ok-admit.ensures.0
    c.draw_root-stream.result (memory c.admit.new.reals c.admit.new.counts) s.well c.draw_root-stream.ensures.0 refl (c.in_ok-admit.ensures.1 ∙ admitted-all 0 c.args.table.now c.draw_root-stream.new.s c.args.evaluation c.args.number m refl)
