-- The levels left fall; the answer for all children is the answer for those that are left.
use Rattle.plan.proofs.Accepts.{step-inside}
use Rattle.std.proofs.lemmas.Result.{err_from_is_err_and}
use native.Mathlib.Omega.{arith}
use Rattle.plan.proofs.Here.{past-inside, deep}
use Rattle.plan.proofs.Steps.{walked_all, walked_next, walked_stop}
use Rattle.plan.proofs.Measures.{measure-stop, measure-leaf, measure-bins}
use Rattle.plan.proofs.measuring.+measure_measure_all.Goals as goal

pub measure-overflow_sub-level : goal.measure-overflow_sub-level
measure-overflow_sub-level t c = deep _ _ _ c.in_ok-bin.ensures c.in-Bins.is

pub measure-measure_all-requires : goal.measure-measure_all-requires
measure-measure_all-requires t c = let e = c.in_ok-bin.ensures in
    (omega (arith, deep _ _ _ e c.in-Bins.is, c.decreases), past-inside _ c.requires _ e)

pub measure-returns-in-Nothing : goal.measure-returns-in-Nothing
measure-returns-in-Nothing t c = measure-leaf _ _ _ c.in_ok-bin.ensures c.in-Nothing.is

pub measure-returns-in-Bins : goal.measure-returns-in-Bins
measure-returns-in-Bins t c = let e = c.in_ok-bin.ensures in
    measure-bins _ _ _ e (deep _ _ _ e c.in-Bins.is) c.in-Bins.is c.measure_all.ensures

pub measure-returns-in_err-bin : goal.measure-returns-in_err-bin
measure-returns-in_err-bin t c =
    let p = err_from_is_err_and c.from_residual.result c.from_residual.ensures.1 in
    rw (p.1, p.2) (measure-stop _ _ _ c.in_err-bin.ensures)

pub measure_all-returns-in_err-here : goal.measure_all-returns-in_err-here
measure_all-returns-in_err-here t c =
    let p = err_from_is_err_and c.from_residual.result c.from_residual.ensures.1 in
    rw (p.1, p.2) (walked_stop c.loop-i.invariant.0 c.loop-i-test.true _ _ c.in_err-here.ensures)

pub measure_all-loop-i-preserved : goal.measure_all-loop-i-preserved
measure_all-loop-i-preserved t c = let e = c.in_ok-here.ensures in
    (walked_next c.loop-i.invariant.0 c.loop-i-test.true _ e, step-inside _ _ _ _ c.loop-i.invariant.1 e)

pub measure_all-returns : goal.measure_all-returns
measure_all-returns t c = walked_all c.loop-i.invariant.0 c.loop-i-test.false
