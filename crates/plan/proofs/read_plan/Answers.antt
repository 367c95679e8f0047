-- What stops the judge is the refusal; else what `put` answers.
use mathlib.Core.Path.{◌∙◌}
use Rattle.std.proofs.lemmas.Result.{err_from_is_err_and}
use Rattle.plan.proofs.Calls.{whole-found, plan-refused, plan-whole}
use Rattle.plan.proofs.read_plan.Goals as goal

pub returns-in_err-judge_whole : goal.returns-in_err-judge_whole
returns-in_err-judge_whole c =
    let p = err_from_is_err_and c.from_residual.result c.from_residual.ensures.1 in
    rw (p.1, p.2) (plan-refused _ _ c.in_err-judge_whole.ensures)

pub returns : goal.returns
returns c = let k = whole-found _ c.in_ok-judge_whole.ensures in c.put.ensures ∙ plan-whole _ _ k.0 k.1
