-- From a decider that passes to what it says of its numbers, and from a ladder of deciders to its rungs.
use mathlib.Core.Path.{◌≡◌, refl, sym}
use mathlib.Core.Bool.{Bool, true, false, ◌&&◌, cond}
use Prim.Native.Nat.{ℕ, ◌≤◌, ◌<◌}
use native.Mathlib.Omega.{arith}
use lib.Dec.{leb, eqb}
use borrow.Author.Tests.{leb-true, eqb-false}
use Rattle.plan.specs.Ranges.{within}

pub never : {P : Type 0} → true ≡ false → P
never e = let z : ◌≡◌ {A = ℕ} 0 1 = cc in absurd (omega arith)

pub and_left : (a b : Bool) → (a && b) ≡ true → a ≡ true
and_left true b e = refl
and_left false b e = e

pub and_right : (a b : Bool) → (a && b) ≡ true → b ≡ true
and_right true b e = e
and_right false b e = never (sym e)

pub at_least : (lo hi n : ℕ) → within lo hi n ≡ true → lo ≤ n
unfolding within
at_least lo hi n e = leb-true lo n (and_left (leb lo n) (leb n hi) e)

pub at_most : (lo hi n : ℕ) → within lo hi n ≡ true → n ≤ hi
unfolding within
at_most lo hi n e = leb-true n hi (and_right (leb lo n) (leb n hi) e)

pub present : {n : ℕ} → eqb n 0 ≡ false → 0 < n
present {n} e = let z : n ≡ 0 → ⊥ = eqb-false n 0 e in omega arith

-- a rung of a ladder of faults that was passed, and the rungs below
pub record Passed (b : Bool) (y : ℕ) : Type 0 where
  pub rung : b ≡ false
  pub rest : y ≡ 0

pub pass : (b : Bool) (x y : ℕ) → 0 < x → cond b x y ≡ 0 → Passed b y
pass true x y h e = absurd (omega arith)
pass false x y h e = record { rung = refl; rest = e }

-- the last one
pub last : (b : Bool) (x : ℕ) → 0 < x → cond b 0 x ≡ 0 → b ≡ true
last true x h e = refl
last false x h e = absurd (omega arith)
