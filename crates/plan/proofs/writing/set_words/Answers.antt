-- `writing::set_words` meets its contract: what is written and what is still to come are the whole run.
use mathlib.Core.Path.{sym, ◌∙◌}
use mathlib.Core.Logic.{inr}
use native.Mathlib.Omega.{arith}
use Rattle.doubles.proofs.Runs.{sets-done}
use Rattle.plan.proofs.writing.set_words.Goals as goal

pub returns-then-table-i : goal.returns-then-table-i
returns-then-table-i c = sym (sets-done c.args.part.now c.loop-i.table c.args.at c.loop-i.i (inr (omega (arith, c.loop-i.invariant.0, c.if-table-i.true)))) ∙ c.loop-i.invariant.2
