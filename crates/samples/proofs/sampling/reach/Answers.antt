-- The bins counted stay those below the draw; at an early end one was reached before, at the last there is no other left.
use mathlib.Core.Path.{◌≡◌, refl, ◌∙◌}
use mathlib.Core.Bool.{Bool, true, false, not, cond}
use mir.Val.{bool_byte}
use Prim.Native.Nat.{◌+◌}
use native.Mathlib.Omega.{arith}
use lib.Dec.{ltb, leb}
use lib.Ieee.{nan, binary64, add, le}
use lib.ListN.{length, get_or}
use borrow.Author.Tests.{leb-true}
use Rattle.doubles.proofs.Truth.{both}
use Rattle.lent.proofs.Samples.{Counting, counting-first, counting-next, counted-before, counted-last, counted-most}
use Rattle.samples.proofs.sampling.reach.Goals as goal
use Rattle.samples.proofs.sampling.reach.Goals.{After-from-bin}

-- a test as a number
as_number : (b : Bool) → bool_byte b ≡ cond b 1 0
as_number true = refl
as_number false = refl

-- one bin on
on : (c : After-from-bin)
    → Counting c.args.r (add binary64 c.loop-i.sum (get_or c.args.chances.now c.loop-i.i nan)) c.args.chances.now (c.loop-i.i + 1) (c.loop-i.bin + c.from-bin.result)
on c = counting-next c.args.r c.loop-i.sum c.args.chances.now c.loop-i.i c.loop-i.bin c.from-bin.result c.requires.1 (omega (arith, c.loop-i-test.true)) (c.from-bin.ensures ∙ as_number (not (le c.args.r (add binary64 c.loop-i.sum (get_or c.args.chances.now c.loop-i.i nan))))) c.loop-i.invariant

pub loop-i-init : goal.loop-i-init
loop-i-init c = counting-first c.args.r c.args.chances.now

pub returns-then-chances-bin : goal.returns-then-chances-bin
returns-then-chances-bin c = let h = leb-true _ _ (both (ltb 16 (length c.args.chances.now)) (leb (c.loop-i.bin + c.from-bin.result) c.loop-i.i) c.if-chances-bin.true).1 in (
  counted-before c.args.r (add binary64 c.loop-i.sum (get_or c.args.chances.now c.loop-i.i nan)) c.args.chances.now (c.loop-i.i + 1) (c.loop-i.bin + c.from-bin.result) (omega (arith, h)) (on (goal.at.returns-then-chances-bin c).After-from-bin),
  omega (arith, h, c.loop-i-test.true),
)

pub loop-i-preserved : goal.loop-i-preserved
loop-i-preserved c = on (goal.at.loop-i-preserved c).After-from-bin

pub returns : goal.returns
returns c = let e : c.loop-i.i + 1 ≡ length c.args.chances.now = omega (arith, c.loop-i-test.false, c.requires.0) in
    let most = counted-most c.args.r c.loop-i.sum c.args.chances.now c.loop-i.i c.loop-i.bin c.loop-i.invariant in
    (counted-last c.args.r c.loop-i.sum c.args.chances.now c.loop-i.i c.loop-i.bin e c.loop-i.invariant, omega (arith, e, most))
