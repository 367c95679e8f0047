-- Truth values: from a test to its equation and back, and from a call's result and the branch on it to the decider that its contract
-- names. Assumes nothing.
use mathlib.Core.Path.{◌≡◌, refl, sym, ◌∙◌, subst}
use mathlib.Core.Logic.{◌⊎◌, inl, inr}
use mathlib.Core.Bool.{Bool, true, false, ◌&&◌, false≢true}
use lib.Dec.{T}

pub is : {b : Bool} → T b → b ≡ true
is {b = true} t = refl
is {b = false} t = absurd t

pub was : {b : Bool} → b ≡ true → T b
was e = subst T (sym e) tt

-- a test is true or it is false
pub either : (b : Bool) → (b ≡ true) ⊎ (b ≡ false)
either true = inl refl
either false = inr refl

pub both : (a b : Bool) → (a && b) ≡ true → (a ≡ true) × (b ≡ true)
both true b e = (refl, e)
both false b e = absurd (false≢true e)

-- `if !f(..) { return .. }`: the branch was taken, and the decider fails; it was not, and the decider passes
pub failed : {r b : Bool} → r ≡ b → r ≡ false → b ≡ false
failed e t = sym e ∙ t

pub passed : {r b : Bool} → r ≡ b → r ≡ true → b ≡ true
passed e t = sym e ∙ t
