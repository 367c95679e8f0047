-- What stops the judge is the refusal; else what `put` answers.
use Rattle.std.proofs.lemmas.Result.{err_from_is_err_and}
use Rattle.plan.proofs.Calls.{prefix-refused}
use Rattle.plan.proofs.read_prefix.Goals as goal

pub returns-in_err-judge : goal.returns-in_err-judge
returns-in_err-judge c =
    let p = err_from_is_err_and c.from_residual.result c.from_residual.ensures.1 in
    rw (p.1, p.2) (prefix-refused _ _ c.in_err-judge.ensures)
