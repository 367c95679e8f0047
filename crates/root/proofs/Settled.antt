-- A guess whose bits pass the quick test is the root. Assumes nothing.
use Rattle.std.proofs.Common.{◌≡◌, ℕ, ◌+◌, ◌-◌, ◌*◌, ◌/◌, ◌%◌, ◌^◌, ◌<◌, ◌≤◌, Bool, true, false, not, T, ℤ, sym, refl, ap, ◌∙◌, subst, arith, lit<}
use mathlib.Core.Bool.{false≢true}
use lib.Ieee.{Float, nan, inf, fin, binary64, fits, is_nan, lt, of_bits, to_bits}
use lib.Ieee.Positive.{positive}
use lib.Ieee.Bits.{of_bits-to_bits}
use Rattle.doubles.specs.Numbers.{zero64}
use Rattle.doubles.specs.Finite.{finite_of}
use Rattle.doubles.specs.Split.{Split}
use Rattle.careful.specs.Digits.{NearRoot}
use Rattle.careful.specs.Root.{root_of}
use Rattle.root.specs.Digits.{Right}
use Rattle.doubles.proofs.Truth.{was}
use Rattle.doubles.proofs.Order.{lt-le, le_right}
use Rattle.doubles.proofs.Above.{above-finite}
use Rattle.doubles.proofs.Bits.{bits-value, high-split}
use Rattle.careful.proofs.Roots.{root-bits}

-- what is above 0 is no NaN
pub above_no_nan : (x : Float) → lt zero64 x ≡ true → T (not (is_nan x))
above_no_nan x h = was (ap not (le_right zero64 x (lt-le zero64 x h)))

-- where x is above 0, the sign of its bits is plus, and they tell whether it is finite
finite-above : (s : Bool) (m : ℕ) (e : ℤ) → lt zero64 (fin s m e) ≡ true → T (positive (fin s m e))
unfolding finite_of
finite-above s m e h = was (sym (above-finite (fin s m e) h))

pub plus : (x : Float) → T (fits binary64 x) → lt zero64 x ≡ true → to_bits binary64 x < 2 ^ 63
unfolding lt of_bits to_bits
plus nan f h = absurd (false≢true h)
plus (inf true) f h = absurd (false≢true h)
plus (inf false) f h = lit< tt
plus (fin s m e) f h = let l = (bits-value (fin s m e) f (finite-above s m e h)).0 in omega arith

pub finite-bits : (x : Float) → lt zero64 x ≡ true → to_bits binary64 x < 2047 * 2 ^ 52 → T (positive x)
unfolding lt of_bits to_bits
finite-bits nan h l = absurd (false≢true h)
finite-bits (inf true) h l = absurd (false≢true h)
finite-bits (inf false) h l = absurd (omega arith)
finite-bits (fin s m e) h l = finite-above s m e h

-- the bits of a guess that passed the test are the root's
module _ (x : Float) (b e : ℕ) (f : T (fits binary64 x)) (p : T (positive x)) (is : b ≡ to_bits binary64 x) (r : Right b e) where
  digits : NearRoot ((b % 2 ^ 52 + 2 ^ 52) * (1 + (b / 2 ^ 52 + 51) % 2) * 2 ^ 52) (e % 2 ^ 52 + 2 ^ 52)
  digits =
      let i : 2 - b / 2 ^ 52 % 2 ≡ 1 + (b / 2 ^ 52 + 51) % 2 = omega arith in
      subst (λ (z : ℕ). NearRoot ((b % 2 ^ 52 + 2 ^ 52) * z * 2 ^ 52) (e % 2 ^ 52 + 2 ^ 52)) i r.near

  root-there : of_bits binary64 e ≡ root_of x
  root-there =
      let j = r.exponent in
      let l = subst (λ (z : ℕ). 2 ^ 52 ≤ z) is r.normal in
      let split : Split x (b % 2 ^ 52 + 2 ^ 52) (b / 2 ^ 52 + 51) = subst (λ (z : ℕ). Split x (z % 2 ^ 52 + 2 ^ 52) (z / 2 ^ 52 + 51)) (sym is) (high-split x f p l) in
      let i : e ≡ ((b / 2 ^ 52 + 51) / 2 + 485) * 2 ^ 52 + (e % 2 ^ 52 + 2 ^ 52) = omega arith in
      ap (λ (z : ℕ). of_bits binary64 z) i ∙ root-bits x (b % 2 ^ 52 + 2 ^ 52) (b / 2 ^ 52 + 51) (e % 2 ^ 52 + 2 ^ 52) p split digits (omega arith)

pub settles : (x g : Float) → T (fits binary64 x) → T (fits binary64 g) → lt zero64 x ≡ true → Right (to_bits binary64 x) (to_bits binary64 g) → g ≡ root_of x
settles x g fx fg h r =
    sym (of_bits-to_bits binary64 g fg) ∙ root-there x (to_bits binary64 x) (to_bits binary64 g) fx (finite-bits x h r.finite) refl r
