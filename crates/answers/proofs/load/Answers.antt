-- The bytes put so far, with those that are left behind them, are all.
use Rattle.std.proofs.Common.{◌≡◌, ◌-◌, length, sym, ◌∙◌, arith}
use Rattle.answers.proofs.Rows.{load-on, load-done}
use Rattle.answers.proofs.load.Goals as goal

pub loop-i-init : goal.loop-i-init
loop-i-init c = let e : length c.args.room.now - 0 ≡ length c.args.room.now = omega arith in rw e

pub loop-i-preserved : goal.loop-i-preserved
loop-i-preserved c = load-on _ _ _ _ _ _ (omega arith) c.loop-i-test.true c.byte_of.ensures ∙ c.loop-i.invariant

pub returns : goal.returns
returns c = sym (load-done _ _ _ _ _ c.loop-i.auto.room c.loop-i-test.false) ∙ c.loop-i.invariant
