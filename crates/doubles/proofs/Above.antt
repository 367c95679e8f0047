-- Which doubles are finite and above 0, by the code's tests. Assumes nothing.
use mathlib.Core.Path.{◌≡◌, refl, sym}
use Prim.Native.Nat.{ℕ, zero, suc, ◌*◌, ◌≤◌, ◌<◌}
use native.Mathlib.Nat.{zero-lt-suc, mul-pos}
use native.Mathlib.Omega.{arith}
use mathlib.Core.Bool.{true, false, false≢true}
use lib.IntN.{ℤ}
use lib.Ieee.{Float, nan, inf, fin, up, down, of_bits, lt}
use lib.Ieee.Fits.{up_pos}
use lib.Ieee.Positive.{positive, first_pos}
use borrow.Author.Tests.{ltb-true, ltb-false, lt-ltb, le-ltb}
use Rattle.doubles.specs.Numbers.{zero64}
use Rattle.doubles.specs.Finite.{finite_of}

-- 0 < m / 1, as `lt` compares it
pub some : (m : ℕ) (e : ℤ) → 0 * down e < m * up e * 1 → 0 < m
some m e h = let z : 0 < m * up e = omega arith in first_pos m (up e) z

pub none : (m : ℕ) (e : ℤ) → m * up e * 1 ≤ 0 * down e → m ≤ 0
none zero e h = omega arith
none (suc m) e h =
    let p : 0 < suc m * up e = mul-pos (zero-lt-suc m) (up_pos e) in
    absurd (omega arith)

-- where `0.0 < x` holds, finiteness decides
pub above-finite : (x : Float) → lt zero64 x ≡ true → finite_of x ≡ positive x
unfolding lt of_bits finite_of
above-finite nan h = refl
above-finite (inf s) h = refl
above-finite (fin true m e) h = absurd (false≢true h)
above-finite (fin false m e) h = sym (lt-ltb 0 m (some m e (ltb-true (0 * down e) (m * up e * 1) h)))

pub not-above : (x : Float) → lt zero64 x ≡ false → false ≡ positive x
unfolding lt of_bits
not-above nan h = refl
not-above (inf s) h = refl
not-above (fin true m e) h = refl
not-above (fin false m e) h = sym (le-ltb 0 m (none m e (ltb-false (0 * down e) (m * up e * 1) h)))
