-- The judge's answer, as it stands.
use mathlib.Core.Path.{ap, ◌∙◌}
use Rattle.std.proofs.lemmas.Result.{err_from_is_err_and}
use Rattle.plan.proofs.Calls.{paper_step, measured-whole}
use Rattle.plan.proofs.measure_plan.Goals as goal

pub returns-in_err-judge_whole : goal.returns-in_err-judge_whole
returns-in_err-judge_whole c =
    let p = err_from_is_err_and c.from_residual.result c.from_residual.ensures.1 in
    rw (p.1, p.2) (ap paper_step c.in_err-judge_whole.ensures ∙ measured-whole _)

pub returns : goal.returns
returns c = rw (c.read_to.ensures.0, c.read_to.ensures.1) (ap paper_step c.in_ok-judge_whole.ensures ∙ measured-whole _)
