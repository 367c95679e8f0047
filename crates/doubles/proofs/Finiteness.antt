-- What has a value is finite, and so is what lies between finite values. What is not finite stays so under sums, differences, products and as a numerator; so a finite
-- total says that every term was finite. Assumes nothing.
use mathlib.Core.Path.{◌≡◌, refl}
use mathlib.Core.List.{List, [], ◌∷◌}
use mathlib.Core.Bool.{Bool, true, false, cond, false≢true}
use Prim.Native.Nat.{ℕ}
use lib.Dec.{eqb}
use lib.Ieee.{Float, nan, inf, fin, Format, binary64, neg, add, sub, mul, div, le, unlike}
use lib.Ieee.Exact.{HasValue}
use Rattle.doubles.specs.Finite.{finite_of}
use Rattle.doubles.specs.Total.{total_of, all_finite}

pub value-finite : (x : Float) (s : Bool) (a c : ℕ) → HasValue x s a c → finite_of x ≡ true
unfolding finite_of
value-finite nan s a c v = absurd v
value-finite (inf t) s a c v = absurd v
value-finite (fin t m e) s a c v = refl

pub between-finite : (a x b : Float) → finite_of a ≡ true → finite_of b ≡ true → le a x ≡ true → le x b ≡ true → finite_of x ≡ true
unfolding le finite_of
between-finite nan x b p q h k = absurd (false≢true p)
between-finite (inf s) x b p q h k = absurd (false≢true p)
between-finite (fin s m e) nan b p q h k = absurd (false≢true h)
between-finite (fin s m e) (inf true) b p q h k = absurd (false≢true h)
between-finite (fin s m e) (inf false) nan p q h k = absurd (false≢true q)
between-finite (fin s m e) (inf false) (inf u) p q h k = absurd (false≢true q)
between-finite (fin s m e) (inf false) (fin u l g) p q h k = absurd (false≢true k)
between-finite (fin s m e) (fin t n d) b p q h k = refl

pub add-finite : (f : Format) (x y : Float) → finite_of (add f x y) ≡ true → (finite_of x ≡ true) × (finite_of y ≡ true)
unfolding add finite_of
add-finite f nan y h = absurd (false≢true h)
add-finite f (inf s) nan h = absurd (false≢true h)
add-finite f (inf true) (inf true) h = absurd (false≢true h)
add-finite f (inf true) (inf false) h = absurd (false≢true h)
add-finite f (inf false) (inf true) h = absurd (false≢true h)
add-finite f (inf false) (inf false) h = absurd (false≢true h)
add-finite f (inf s) (fin t n d) h = absurd (false≢true h)
add-finite f (fin s m e) nan h = absurd (false≢true h)
add-finite f (fin s m e) (inf t) h = absurd (false≢true h)
add-finite f (fin s m e) (fin t n d) h = (refl, refl)

neg-finite : (x : Float) → finite_of (neg x) ≡ true → finite_of x ≡ true
unfolding neg finite_of
neg-finite nan h = h
neg-finite (inf s) h = h
neg-finite (fin s m e) h = refl

pub sub-finite : (f : Format) (x y : Float) → finite_of (sub f x y) ≡ true → (finite_of x ≡ true) × (finite_of y ≡ true)
unfolding sub
sub-finite f x y h = let p = add-finite f x (neg y) h in (p.0, neg-finite y p.1)

neither : (b s : Bool) → finite_of (cond b nan (inf s)) ≡ true → ⊥
unfolding finite_of
neither true s h = false≢true h
neither false s h = false≢true h

pub mul-finite : (f : Format) (x y : Float) → finite_of (mul f x y) ≡ true → (finite_of x ≡ true) × (finite_of y ≡ true)
unfolding mul finite_of
mul-finite f nan y h = absurd (false≢true h)
mul-finite f (inf s) nan h = absurd (false≢true h)
mul-finite f (inf s) (inf t) h = absurd (false≢true h)
mul-finite f (inf s) (fin t n d) h = absurd (neither (eqb n 0) (unlike s t) h)
mul-finite f (fin s m e) nan h = absurd (false≢true h)
mul-finite f (fin s m e) (inf t) h = absurd (neither (eqb m 0) (unlike s t) h)
mul-finite f (fin s m e) (fin t n d) h = (refl, refl)

-- of a quotient: the numerator
pub div-finite : (f : Format) (x y : Float) → finite_of (div f x y) ≡ true → finite_of x ≡ true
unfolding div finite_of
div-finite f nan y h = absurd (false≢true h)
div-finite f (inf s) nan h = absurd (false≢true h)
div-finite f (inf s) (inf t) h = absurd (false≢true h)
div-finite f (inf s) (fin t n d) h = absurd (false≢true h)
div-finite f (fin s m e) y h = refl

pub total-finite : (xs : List Float) (t : Float) → finite_of (total_of t xs) ≡ true → (finite_of t ≡ true) × (all_finite xs ≡ true)
unfolding total_of all_finite
total-finite [] t h = (h, refl)
total-finite (x ∷ xs) t h =
    let p = total-finite xs (add binary64 t x) h in
    let q = add-finite binary64 t x p.0 in
    (q.0, rw q.1 p.1)
