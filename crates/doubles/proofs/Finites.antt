-- Finite doubles: what a finite sum is made of, and a number less itself, which is zero where it is finite and a NaN where it is not.
-- Assumes nothing.
use mathlib.Core.Path.{◌≡◌, refl, ap, ◌∙◌}
use mathlib.Core.Bool.{Bool, true, false, not, cond, ◌&&◌, false≢true}
use Prim.Native.Nat.{ℕ, ◌-◌, ◌*◌, ◌<◌}
use native.Mathlib.Nat.{le_refl, mul-pos}
use native.Mathlib.Omega.{arith}
use borrow.Author.Tests.{le-ltb}
use lib.IntN.{pos}
use lib.Dec.{T}
use lib.Ieee.{Float, nan, inf, fin, binary64, up, down, round, sum, add, sub, le, fits, of_bits}
use lib.Ieee.Fits.{down_pos}
use Rattle.doubles.specs.Numbers.{zero64}
use Rattle.doubles.specs.Finite.{finite_of}
use Rattle.doubles.proofs.Exact.{round-self}

-- a finite sum has finite parts
pub add-finite : (x y : Float) → finite_of (add binary64 x y) ≡ true → (finite_of x ≡ true) × (finite_of y ≡ true)
unfolding finite_of add
add-finite nan y h = absurd (false≢true h)
add-finite (inf s) nan h = absurd (false≢true h)
add-finite (inf true) (inf true) h = absurd (false≢true h)
add-finite (inf true) (inf false) h = absurd (false≢true h)
add-finite (inf false) (inf true) h = absurd (false≢true h)
add-finite (inf false) (inf false) h = absurd (false≢true h)
add-finite (inf s) (fin t n d) h = absurd (false≢true h)
add-finite (fin s m e) nan h = absurd (false≢true h)
add-finite (fin s m e) (inf t) h = absurd (false≢true h)
add-finite (fin s m e) (fin t n d) h = (refl, refl)

-- ---- a number less itself

zero-fits : T (fits binary64 (fin false 0 (pos 0)))
unfolding fits
zero-fits = tt

nothing : (a c : ℕ) → 0 < c → round binary64 false (a - a) c ≡ fin false 0 (pos 0)
nothing a c h =
    let e : a - a ≡ 0 = omega arith in
    ap (λ (n : ℕ). round binary64 false n c) e ∙ round-self binary64 false (fin false 0 (pos 0)) 0 c h zero-fits (refl, omega arith)

cancelled : (s : Bool) (a c : ℕ) → 0 < c → sum binary64 s a (not s) a c ≡ fin false 0 (pos 0)
unfolding sum
cancelled true a c h =
    ap (λ (b : Bool). cond b (round binary64 false (a - a) c) (round binary64 b (a - a) c)) (le-ltb a a (le_refl a)) ∙ nothing a c h
cancelled false a c h =
    ap (λ (b : Bool). cond b (round binary64 true (a - a) c) (round binary64 false (a - a) c)) (le-ltb a a (le_refl a)) ∙ nothing a c h

pub less-itself : (x : Float) → sub binary64 x x ≡ cond (finite_of x) zero64 nan
unfolding sub finite_of of_bits
less-itself nan = refl
less-itself (inf true) = refl
less-itself (inf false) = refl
less-itself (fin s m e) = cancelled s (m * up e * down e) (down e * down e) (mul-pos (down_pos e) (down_pos e))

all-zero : (p q r s : Bool)
    → le (add binary64 (add binary64 (cond p zero64 nan) (cond q zero64 nan)) (add binary64 (cond r zero64 nan) (cond s zero64 nan))) zero64
    ≡ (((p && q) && r) && s)
unfolding le add of_bits
all-zero false q r s = refl
all-zero true false r s = refl
all-zero true true false s = refl
all-zero true true true false = refl
all-zero true true true true = refl

-- four numbers, each less itself, add up to zero exactly where all four are finite, and else to a NaN, which is not at most zero
pub all-finite : (a b c d : Float)
    → le (add binary64 (add binary64 (sub binary64 a a) (sub binary64 b b)) (add binary64 (sub binary64 c c) (sub binary64 d d))) zero64
    ≡ (((finite_of a && finite_of b) && finite_of c) && finite_of d)
all-finite a b c d =
    rw (less-itself a, less-itself b, less-itself c, less-itself d) (all-zero (finite_of a) (finite_of b) (finite_of c) (finite_of d))
