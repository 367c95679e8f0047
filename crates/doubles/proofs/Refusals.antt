-- A refusal and its number: no two have the same, none has 0; so the document's words tell the answers of code apart.
use Rattle.std.proofs.Common.{Bool, true, false, eq-eqb, ne_eqb, ◌≡◌, ℕ, ◌<◌, sym, refl, ap, ◌∙◌, arith, cond}
use Rattle.std.specs.Prelude.{Result, Ok, Err, eqb}
use denote.Enum.Bare.{sameb, same_true, same_false}
use Rattle.doubles.specs.contracts.refusal.Refusal.{the_type}
use Rattle.doubles.specs.Refusal.{number_of, paper, fault_of}
use Rattle.doubles.specs.declared.refusal.Refusal.{Refusal}
use Rattle.doubles.specs.declared.refusal.Refusal.TheVariants as refusal

-- the refusal of a number
numbered : ℕ → Refusal
numbered n =
    cond (eqb n 1) refusal.Malformed
    (cond (eqb n 2) refusal.Size
    (cond (eqb n 3) refusal.Range
    (cond (eqb n 4) refusal.Form
    (cond (eqb n 5) refusal.Coordinate
    (cond (eqb n 6) refusal.Bin
    (cond (eqb n 7) refusal.Infinite
    (cond (eqb n 8) refusal.Overflow
    (cond (eqb n 9) refusal.Edges
    (cond (eqb n 10) refusal.Room
    (cond (eqb n 11) refusal.Unequal refusal.State))))))))))

found : (r : Refusal) → numbered (number_of r) ≡ r
unfolding numbered
found refusal.Malformed = refl
found refusal.Size = refl
found refusal.Range = refl
found refusal.Form = refl
found refusal.Coordinate = refl
found refusal.Bin = refl
found refusal.Infinite = refl
found refusal.Overflow = refl
found refusal.Edges = refl
found refusal.Room = refl
found refusal.Unequal = refl
found refusal.State = refl

pub number-one : (r q : Refusal) → number_of r ≡ number_of q → r ≡ q
number-one r q e = sym (found r) ∙ ap numbered e ∙ found q

pub number-above : (r : Refusal) → 0 < number_of r
number-above refusal.Malformed = omega arith
number-above refusal.Size = omega arith
number-above refusal.Range = omega arith
number-above refusal.Form = omega arith
number-above refusal.Coordinate = omega arith
number-above refusal.Bin = omega arith
number-above refusal.Infinite = omega arith
number-above refusal.Overflow = omega arith
number-above refusal.Edges = omega arith
number-above refusal.Room = omega arith
number-above refusal.Unequal = omega arith
number-above refusal.State = omega arith

pub number_ne0 : (r : Refusal) → number_of r ≡ 0 → ⊥
number_ne0 r z = let h = number-above r in omega (arith, z, h)

-- what a refusal's number is said to be is not 0
pub nonzero : (r : Refusal) (n : ℕ) → number_of r ≡ n → n ≡ 0 → ⊥
nonzero r n e z = let h = number-above r in omega (arith, e, z, h)

pub paper-one : {A : Type 0} (x y : Result A Refusal) → paper x ≡ paper y → x ≡ y
paper-one (Ok x) (Ok y) e = cc
paper-one (Ok x) (Err q) e = cc
paper-one (Err r) (Ok y) e = cc
paper-one (Err r) (Err q) e = let n : number_of r ≡ number_of q = cc in ap Err (number-one r q n)

pub fault-one : (x y : Result (Unit {0}) Refusal) → fault_of x ≡ fault_of y → x ≡ y
fault-one (Ok x) (Ok y) e = refl
fault-one (Ok x) (Err q) e = let h = number-above q in absurd (omega (arith, e, h))
fault-one (Err r) (Ok y) e = let h = number-above r in absurd (omega (arith, e, h))
fault-one (Err r) (Err q) e = ap Err (number-one r q e)

-- `==` of two refusals compares their numbers
pub same-number : (r q : Refusal) (b : Bool) → b ≡ sameb the_type r q → b ≡ eqb (number_of r) (number_of q)
same-number r q true e = sym (eq-eqb _ _ (ap number_of (same_true the_type tt r q (sym e))))
same-number r q false e = sym (ne_eqb _ _ (λ z. same_false the_type r q (sym e) (number-one r q z)))
