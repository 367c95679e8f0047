-- Nothing is said of a sum that would overflow: what is left of the length is compared.
use mathlib.Core.Path.{◌≡◌, refl, sym}
use mathlib.Core.Bool.{Bool, true, false}
use Prim.Native.Nat.{ℕ, ◌+◌, ◌-◌, ◌≤◌, ◌<◌}
use native.Mathlib.Omega.{arith}
use borrow.Author.Tests.{leb-true, leb-false, le-leb, lt-leb}
use lib.Dec.{leb}
use Rattle.lent.proofs.room.is_within.Goals as goal

what-is-left : (a s n : ℕ) (o : Bool) → leb a (n - s) ≡ o → s ≤ n → o ≡ leb (a + s) n
what-is-left a s n true e h = let k = leb-true a (n - s) e in let i : a + s ≤ n = omega arith in sym (le-leb (a + s) n i)
what-is-left a s n false e h = let k = leb-false a (n - s) e in let i : n < a + s = omega arith in sym (lt-leb (a + s) n i)

pub returns-then-all-size : goal.returns-then-all-size
returns-then-all-size c = let h : c.args.all < c.args.start + c.args.size = omega arith in rw (lt-leb _ _ h)

pub returns : goal.returns
returns c = what-is-left c.args.start c.args.size c.args.all _ refl c.if-all-size.false
