-- Each branch is a test of the definition; what passes all can be taken.
use mathlib.Core.Path.{sym, ◌∙◌}
use Rattle.plan.specs.Walk.{bins_at_word}
use Rattle.doubles.proofs.Truth.{failed, passed}
use Rattle.plan.proofs.Faults.{bins-fit, some-fault, no-fault}
use Rattle.plan.proofs.walking.bins_at_word.Goals as goal

pub returns-then-not-is_placed : goal.returns-then-not-is_placed
unfolding bins_at_word
returns-then-not-is_placed c = rw (failed c.is_placed.ensures c.if-not-is_placed.true)

pub returns-in_err-ok : goal.returns-in_err-ok
unfolding bins_at_word
returns-in_err-ok c = rw (c.from_residual.ensures, passed c.is_placed.ensures c.if-not-is_placed.false, ← c.bins_row-b.ensures, ← c.bins_fault.ensures, some-fault c.bins_fault.result c.in_err-ok.ensures.value)

pub take_bins-requires : goal.take_bins-requires
take_bins-requires c = bins-fit c.requires _ _ (sym c.bins_fault.ensures ∙ no-fault c.bins_fault.result c.in_ok-ok.ensures.value)

pub returns : goal.returns
unfolding bins_at_word
returns c = rw (passed c.is_placed.ensures c.if-not-is_placed.false, ← c.bins_row-b.ensures, sym c.bins_fault.ensures ∙ no-fault c.bins_fault.result c.in_ok-ok.ensures.value, c.take_bins.ensures)
