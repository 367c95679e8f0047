-- `renewal::keep` meets its contract: both columns put back, then nothing waits.
use native.Mathlib.Omega.{arith}
use Rattle.lent.specs.Layout.{axis_reals, axis_counts}
use mathlib.Core.Path.{ap, ap₂, ◌∙◌}
use lib.ListN.{length}
use Rattle.lent.specs.Memory.{memory}
use Rattle.lent.specs.Laid.{waitless_at}
use Rattle.lent.specs.Renewed.{kept_at}
use Rattle.lent.proofs.Runs.{sets-put}
use Rattle.lent.proofs.Rooms.{waitless-known}
use borrow.Author.Rules.{rules}
use Rattle.updates.proofs.renewal.keep.Goals as goal

pub returns : goal.returns
unfolding kept_at axis_reals axis_counts
returns c = c.clear_waiting.ensures ∙ waitless-known c.args.most (length c.args.importances.now) c.args.r c.args.c _ (search rules) ∙ ap (waitless_at c.args.most c.args.r c.args.c (length c.args.importances.now)) (ap₂ memory (c.set.ensures ∙ sets-put _ _ _ (omega (arith, c.requires))) (c.set-2.ensures ∙ sets-put _ _ _ (omega (arith, c.requires))))
