-- Each branch is a test of the definition; what passes all can be taken.
use mathlib.Core.Path.{sym, ◌∙◌}
use Rattle.plan.specs.Walk.{axes_at_word}
use Rattle.doubles.proofs.Truth.{failed, passed}
use Rattle.plan.proofs.Faults.{some-fault, no-fault}
use Rattle.plan.proofs.Rows.{evolved-fit}
use Rattle.plan.proofs.walking.axes_at_word.Goals as goal

pub returns-then-not-is_placed : goal.returns-then-not-is_placed
unfolding axes_at_word
returns-then-not-is_placed c = rw (failed c.is_placed.ensures c.if-not-is_placed.true)

pub returns-in_err-ok : goal.returns-in_err-ok
unfolding axes_at_word
returns-in_err-ok c = rw (c.from_residual.ensures, passed c.is_placed.ensures c.if-not-is_placed.false, ← c.axes_row-a.ensures, ← c.axes_fault.ensures, some-fault c.axes_fault.result c.in_err-ok.ensures.value)

pub returns-then-not-is_evolved : goal.returns-then-not-is_evolved
unfolding axes_at_word
returns-then-not-is_evolved c = rw (passed c.is_placed.ensures c.if-not-is_placed.false, ← c.axes_row-a.ensures, sym c.axes_fault.ensures ∙ no-fault c.axes_fault.result c.in_ok-ok.ensures.value, failed c.is_evolved.ensures c.if-not-is_evolved.true)

pub take_axes-requires : goal.take_axes-requires
take_axes-requires c = evolved-fit _ c.requires (sym c.axes_fault.ensures ∙ no-fault c.axes_fault.result c.in_ok-ok.ensures.value) (passed c.is_evolved.ensures c.if-not-is_evolved.false)

pub returns : goal.returns
unfolding axes_at_word
returns c = rw (passed c.is_placed.ensures c.if-not-is_placed.false, ← c.axes_row-a.ensures, sym c.axes_fault.ensures ∙ no-fault c.axes_fault.result c.in_ok-ok.ensures.value, passed c.is_evolved.ensures c.if-not-is_evolved.false, c.take_axes.ensures)
