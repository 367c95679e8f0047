-- Two zeros set at r and two at c are the four cells that the definition clears (`cleared-run`).
use mathlib.Core.Path.{ap₂, ◌∙◌}
use Rattle.lent.specs.Memory.{memory}
use Rattle.lent.proofs.Runs.{cleared-run}
use Rattle.ground.proofs.accounts.clear.Goals as goal

pub returns : goal.returns
returns c = ap₂ memory c.set.ensures c.set-2.ensures ∙ cleared-run c.args.r c.args.c (memory c.args.reals.now c.args.counts.now)
