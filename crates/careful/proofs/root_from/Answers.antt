-- `root_from`: what is not finite and above 0 is a zero or infinity, its own root, or has none. Assumes nothing.
use mathlib.Core.Path.{◌≡◌, refl, sym, ◌∙◌}
use Prim.Native.Nat.{zero, suc, ◌+◌, ◌*◌, ◌≤◌}
use native.Mathlib.Nat.{zero-lt-suc}
use native.Mathlib.Omega.{arith}
use mathlib.Core.Bool.{true, false, true≢false, false≢true}
use lib.IntN.{pos}
use lib.Ieee.{Float, nan, inf, fin, binary64, up, down, of_bits, le, div}
use lib.Ieee.Positive.{positive}
use borrow.Author.Tests.{lt-ltb}
use Rattle.doubles.specs.Numbers.{zero64}
use Rattle.careful.specs.Root.{root_of}
use Rattle.doubles.proofs.Truth.{was}
use Rattle.doubles.proofs.Order.{le-under, under-le}
use Rattle.doubles.proofs.Above.{none}
use Rattle.careful.proofs.root_from.Goals as goal

stays : (x : Float) → positive x ≡ false → le zero64 x ≡ true → x ≡ root_of x
unfolding le of_bits root_of
stays nan p h = refl
stays (inf true) p h = absurd (false≢true h)
stays (inf false) p h = refl
stays (fin s zero e) p h = refl
stays (fin true (suc m) e) p h =
    let l : 0 * down e + suc m * up e * 1 ≤ 0 = le-under false 0 (pos 0) true (suc m) e h in
    let n : suc m ≤ 0 = none (suc m) e (omega arith) in
    absurd (omega arith)
stays (fin false (suc m) e) p h = absurd (true≢false (sym (lt-ltb 0 (suc m) (zero-lt-suc m)) ∙ p))

no-root : (x : Float) → le zero64 x ≡ false → div binary64 zero64 zero64 ≡ root_of x
unfolding le of_bits div root_of
no-root nan h = refl
no-root (inf true) h = refl
no-root (inf false) h = absurd (true≢false h)
no-root (fin true zero e) h = absurd (true≢false (sym (under-le false 0 (pos 0) true 0 e (omega arith)) ∙ h))
no-root (fin true (suc m) e) h = refl
no-root (fin false m e) h = absurd (true≢false (sym (under-le false 0 (pos 0) false m e (omega arith)) ∙ h))

pub careful_root-requires : goal.careful_root-requires
careful_root-requires c = was (sym c.above_zero.ensures ∙ c.if-above_zero.true)

pub returns-then-x : goal.returns-then-x
returns-then-x c = stays c.args.x (sym c.above_zero.ensures ∙ c.if-above_zero.false) c.if-x.true

pub returns : goal.returns
returns c = no-root c.args.x c.if-x.false
