-- A bin more is tried: what is left of the sums stays 0 or NaN, and all fit where they did and the bin fits.
use mathlib.Core.Path.{◌≡◌, refl, sym, ap, ◌∙◌}
use mathlib.Core.Bool.{Bool, true, false, ◌&&◌, cond}
use Prim.Native.Nat.{ℕ, max}
use native.Mathlib.Omega.{arith}
use Rattle.std.proofs.Math.Dec.{leb}
use Rattle.std.proofs.lemmas.Bool.Decides.{nat_tests}
use lib.Ieee.{Float, nan, binary64, of_bits, add, sub, eq}
use Rattle.doubles.specs.Numbers.{zero64}
use Rattle.doubles.specs.Finite.{finite_of}
use Rattle.doubles.proofs.Finites.{less-itself}
use Rattle.samples.specs.Tried.{all_fit, Rests}

-- three of them together, each 0 or NaN
three : (p q r : Bool) → add binary64 (cond p zero64 nan) (add binary64 (cond q zero64 nan) (cond r zero64 nan)) ≡ cond (p && (q && r)) zero64 nan
unfolding add of_bits
three false false r = refl
three false true false = refl
three false true true = refl
three true false r = refl
three true true false = refl
three true true true = refl

is-zero : (p : Bool) → eq (cond p zero64 nan) zero64 ≡ p
unfolding eq of_bits
is-zero false = refl
is-zero true = refl

shuffled : (p q t w z : Bool) → ((p && q) && ((t && w) && z)) ≡ ((p && t) && ((q && w) && z))
shuffled false q t w z = refl
shuffled true false false w z = refl
shuffled true false true w z = refl
shuffled true true false w z = refl
shuffled true true true w z = refl

leb-max : (m n k : ℕ) → leb (max m n) k ≡ (leb m k && leb n k)
leb-max m n k = grind (arith, nat_tests)

module _ (rest a b : Float) (zeroed : rest ≡ cond (eq rest zero64) zero64 nan) where
  abbrev next : Float
  next = add binary64 rest (add binary64 (sub binary64 a a) (sub binary64 b b))

  found : next ≡ cond (eq rest zero64 && (finite_of a && finite_of b)) zero64 nan
  found = ap (λ (x : Float). add binary64 x (add binary64 (sub binary64 a a) (sub binary64 b b))) zeroed
      ∙ rw (less-itself a, less-itself b) (three (eq rest zero64) (finite_of a) (finite_of b))

  pub rest-next : eq next zero64 ≡ (eq rest zero64 && (finite_of a && finite_of b))
  rest-next = rw found (is-zero (eq rest zero64 && (finite_of a && finite_of b)))

  pub rests-on : next ≡ cond (eq next zero64) zero64 nan
  rests-on = rw rest-next found

  pub tried-next : (t w z k : ℕ) → (eq next zero64 && leb (max (max t w) z) k) ≡ ((eq rest zero64 && leb t k) && (((finite_of a && finite_of b) && leb w k) && leb z k))
  tried-next t w z k = rw (rest-next, leb-max (max t w) z k, leb-max t w k) (shuffled (eq rest zero64) (finite_of a && finite_of b) (leb t k) (leb w k) (leb z k))

-- before the first bin
pub none-tried : (b : Bool) → (all_fit (record { rest = zero64; top = 0 }) && b) ≡ b
unfolding all_fit eq of_bits
none-tried b = refl

pub none-rest : Rests (record { rest = zero64; top = 0 })
unfolding eq of_bits
none-rest = refl
