-- A ladder of refusals: one that gives an answer has passed each of its tests.
use mathlib.Core.Path.{◌≡◌, refl}
use mathlib.Core.Bool.{Bool, true, false, cond}
use mathlib.Core.Logic.{◌⊎◌, inl, inr}
use Prim.Native.Nat.{ℕ}
use native.Mathlib.Omega.{arith}
use Rattle.doubles.specs.Paper.{Paper, gives, refuses}

pub passes : {A : Type 0} (c : Bool) (n : ℕ) (p : Paper A) (x : A) → cond c (refuses n) p ≡ gives x → (c ≡ false) × (p ≡ gives x)
passes true n p x e = let z : ◌≡◌ {A = ℕ} 0 1 = cc in absurd (omega arith)
passes false n p x e = (refl, e)

-- the answer given is the one
pub given : {A : Type 0} (x y : A) → ◌≡◌ {A = Paper A} (gives x) (gives y) → x ≡ y
given x y e = cc

-- a test whose two ways may both give
pub branch : {A : Type 0} (c : Bool) (p q : Paper A) (x : A) → cond c p q ≡ gives x → ((c ≡ true) × (p ≡ gives x)) ⊎ ((c ≡ false) × (q ≡ gives x))
branch true p q x e = inl (refl, e)
branch false p q x e = inr (refl, e)
