-- What is found so far, with the test of the words that are left, is the test of all.
use Rattle.std.proofs.Common.{◌≡◌, ◌+◌, sym, ◌∙◌, arith}
use Rattle.answers.proofs.Rows.{word-near, holds-on, holds-done}
use Rattle.answers.proofs.holds.Goals as goal

pub loop-i-init : goal.loop-i-init
loop-i-init c = let e : c.args.at + 0 ≡ c.args.at = omega arith in rw e

pub loop-i-preserved : goal.loop-i-preserved
loop-i-preserved c =
    holds-on _ _ _ _ _ _ c.loop-i-test.true (c.word.ensures ∙ word-near _ (omega arith) _ _ c.saturating_add.ensures) ∙ c.loop-i.invariant

pub returns : goal.returns
returns c = sym (holds-done _ _ _ _ _ c.loop-i-test.false) ∙ c.loop-i.invariant
