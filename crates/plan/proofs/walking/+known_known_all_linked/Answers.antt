-- The levels left fall; the answer for all children is the answer for those that are left.
use mathlib.Core.Path.{sym, ◌∙◌}
use native.Mathlib.Omega.{arith}
use Rattle.plan.proofs.Steps.{walked_all, walked_next, walked_stop}
use Rattle.plan.proofs.Measures.{measure-stop, measure-leaf, measure-bins}
use Rattle.plan.proofs.Rows.{past-roomy, deep-row, links-before, child-none, child-astray, child-there, known-roomy}
use Rattle.plan.proofs.walking.+known_known_all_linked.Goals as goal

pub known-overflow_sub-level : goal.known-overflow_sub-level
known-overflow_sub-level t c = deep-row _ _ _ c.in_ok-bin.ensures c.in-Bins.is

pub known-known_all-requires : goal.known-known_all-requires
known-known_all-requires t c = let e = c.in_ok-bin.ensures in
    (omega (arith, deep-row _ _ _ e c.in-Bins.is, c.decreases), (past-roomy _ _ _ c.requires _ e, links-before _ _ _ e c.in-Bins.is))

pub known-returns-in_err-bin : goal.known-returns-in_err-bin
known-returns-in_err-bin t c = rw c.from_residual.ensures (measure-stop _ _ _ c.in_err-bin.ensures)

pub known-returns-in-Nothing : goal.known-returns-in-Nothing
known-returns-in-Nothing t c = measure-leaf _ _ _ c.in_ok-bin.ensures c.in-Nothing.is

pub known-returns-in-Bins : goal.known-returns-in-Bins
known-returns-in-Bins t c = let e = c.in_ok-bin.ensures in
    measure-bins _ _ _ e (deep-row _ _ _ e c.in-Bins.is) c.in-Bins.is c.known_all.ensures

pub known_all-returns-in_err-here : goal.known_all-returns-in_err-here
known_all-returns-in_err-here t c = rw c.from_residual.ensures (walked_stop c.loop-i.invariant.0 c.loop-i-test.true _ _ c.in_err-here.ensures)

pub known_all-loop-i-preserved : goal.known_all-loop-i-preserved
known_all-loop-i-preserved t c = let e = c.in_ok-here.ensures in
    (walked_next c.loop-i.invariant.0 c.loop-i-test.true _ e, (known-roomy _ _ _ _ _ c.loop-i.invariant.1.0 e, c.loop-i.invariant.1.1))

pub known_all-returns : goal.known_all-returns
known_all-returns t c = walked_all c.loop-i.invariant.0 c.loop-i-test.false

pub linked-returns-then-link-eq0 : goal.linked-returns-then-link-eq0
linked-returns-then-link-eq0 t c = child-none _ _ _ _ (sym c.word_at-link.ensures ∙ c.if-link-eq0.true)

pub linked-returns-then-link-p : goal.linked-returns-then-link-p
linked-returns-then-link-p t c = child-astray _ _ _ _ (λ y. c.if-link-eq0.false (c.word_at-link.ensures ∙ y)) (λ y. c.if-link-p.true (c.word_at-link.ensures ∙ y))

pub linked-returns : goal.linked-returns
linked-returns t c = child-there _ _ _ _ (λ y. c.if-link-eq0.false (c.word_at-link.ensures ∙ y)) (sym c.word_at-link.ensures ∙ c.if-link-p.false) c.known.ensures
