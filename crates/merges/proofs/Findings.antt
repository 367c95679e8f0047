-- A finding compared with a refusal: `==` compares their numbers.
use mathlib.Core.Path.{◌≡◌, refl, sym, ◌∙◌}
use mathlib.Core.Bool.{Bool}
use borrow.Author.Tests.{ne_eqb}
use Rattle.std.specs.Prelude.{Result, Ok, Err, eqb}
use Rattle.std.specs.Result.{result_eq}
use Rattle.std.specs.contracts.prelude.UnitPartialEq.TheImpl as units
use Rattle.doubles.specs.contracts.refusal.RefusalPartialEq.TheImpl as refusals
use Rattle.doubles.specs.Refusal.{number_of, fault_of}
use Rattle.doubles.specs.declared.refusal.Refusal.{Refusal}
use Rattle.doubles.proofs.Refusals.{number_ne0, same-number}

abbrev same : Result (Unit {0}) Refusal → Result (Unit {0}) Refusal → Bool
same = result_eq units.eq-value.it refusals.eq-value.it

told : (r : Result (Unit {0}) Refusal) (q : Refusal) → same r (Err q) ≡ eqb (fault_of r) (number_of q)
told (Ok u) q = sym (ne_eqb 0 (number_of q) (λ z. number_ne0 q (sym z)))
told (Err r) q = same-number r q _ refl

-- as the answer of `==` says
pub found-as : (q : Refusal) (r : Result (Unit {0}) Refusal) (b t : Bool) → b ≡ same r (Err q) → b ≡ t → eqb (fault_of r) (number_of q) ≡ t
found-as q r b t e f = sym (told r q) ∙ sym e ∙ f
