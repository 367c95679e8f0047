-- `renewal::recut_into` meets its contract: a refusal leaves memory alone; else the cut edges are put, and the axis is emptied.
use native.Mathlib.Omega.{arith}
use Rattle.lent.specs.Layout.{axis_reals, axis_counts}
use mathlib.Core.Path.{◌∙◌}
use Rattle.doubles.proofs.Refusals.{same-number}
use Rattle.doubles.specs.declared.refusal.Refusal.TheVariants as refusal
use Rattle.lent.proofs.Runs.{sets-put}
use Rattle.lent.proofs.Rooms.{empty-known}
use Rattle.lent.proofs.Renewals.{into-refused, into-done}
use borrow.Author.Rules.{rules}
use Rattle.updates.proofs.renewal.recut_into.Goals as goal

pub returns-in-Err : goal.returns-in-Err
returns-in-Err c = rw (same-number c.in-Err.refusal refusal.Overflow c.eq.result c.eq.ensures, same-number c.in-Err.refusal refusal.Edges c.eq-in-Err.result c.eq-in-Err.ensures) (into-refused c.args.most c.args.r c.args.c c.args.n c.args.recuts c.args.importances.now c.args.counters.now c.args.rate c.args.reals.now c.args.counts.now c.renew.result _ _ c.requires.2 c.renew.ensures _ c.in-Err.is)

pub returns-in-Ok : goal.returns-in-Ok
unfolding axis_reals axis_counts
returns-in-Ok c = into-done c.args.most c.args.r c.args.c c.args.n c.args.recuts c.args.importances.now c.args.counters.now c.args.rate c.args.reals.now c.args.counts.now c.renew.result _ _ c.requires.2 c.renew.ensures _ _ c.in-Ok.is c.renew.auto.room (c.set.ensures ∙ sets-put _ _ _ (omega (arith, c.renew.auto.room, c.requires))) (c.empty_axis.ensures ∙ empty-known c.args.most c.args.n c.args.r c.args.c c.args.recuts _ (search rules))

pub slice_bounds-renew-end : goal.slice_bounds-renew-end
unfolding axis_reals axis_counts
slice_bounds-renew-end c = omega arith
