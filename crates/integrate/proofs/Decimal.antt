-- The digits that `io` counts are as many as the definition does.
use Prim.Native.Nat.{ℕ, zero, suc, ◌+◌, ◌-◌, ◌^◌, ◌≤◌, ◌<◌}
use mathlib.Core.Path.{◌≡◌, refl, sym, ap}
use mathlib.Core.Bool.{Bool, true, false, cond}
use native.Mathlib.Nat.{le_trans, pow-le-pow_right}
use native.Mathlib.Omega.{arith}
use lib.Dec.{ltb}
use borrow.Author.Tests.{ltb-true, ltb-false, lt-ltb, le-ltb}
use Rattle.io.specs.Digits.{last_digits, IsDigitCount}
use Rattle.integrate.specs.Lines.{places_of, decimal_of}

-- k digits, or the count from k + 1 on
step : (k n r p : ℕ) (s : Bool) → ltb k r ≡ s → k ≤ r → n < 10 ^ r → (k < r → 10 ^ k ≤ n) → (k < r → p ≡ r) → cond (ltb n (10 ^ k)) k p ≡ r
step k n r p true e h i low next = let l = ltb-true k r e in rw (le-ltb n (10 ^ k) (low l)) (next l)
step k n r p false e h i low next =
    let l = ltb-false k r e in
    let q : k ≡ r = omega arith in
    rw (lt-ltb n (10 ^ k) (rw q i)) q

places-are : (f k n r : ℕ) → k ≤ r → r ≤ k + f → n < 10 ^ r → ((j : ℕ) → j < r → k ≤ j → 10 ^ j ≤ n) → places_of f k n ≡ r
unfolding places_of
places-are zero k n r h l i low = omega arith
places-are (suc f) k n r h l i low =
    step k n r (places_of f (k + 1) n) (ltb k r) refl h i (λ a. low k a (omega arith))
    (λ a. places-are f (k + 1) n r (omega arith) (omega arith) i (λ j b d. low j b (omega arith)))

-- a word has 20 digits at most
pub decimal-few : (n r : ℕ) → n < 2 ^ 64 → IsDigitCount 10 1 n r → r ≤ 20
decimal-few n r h f = few (ltb 20 r) refl
  where
    few : (s : Bool) → ltb 20 r ≡ s → r ≤ 20
    few true e =
        let l = ltb-true 20 r e in
        let p : 10 ^ 20 ≤ 10 ^ (r - 1) = pow-le-pow_right {n = 10} (omega arith) {i = 20} {j = r - 1} (omega arith) in
        omega (arith, f.2 (omega arith))
    few false e = ltb-false 20 r e

pub decimal-is : (n r : ℕ) → r ≤ 20 → IsDigitCount 10 1 n r → last_digits 10 r n ≡ decimal_of n
unfolding decimal_of
decimal-is n r h f =
    ap (λ (k : ℕ). last_digits 10 k n) (sym (places-are 19 1 n r f.0 (omega arith) f.1
    (λ j a b. le_trans (pow-le-pow_right {n = 10} (omega arith) {i = j} {j = r - 1} (omega arith)) (f.2 (omega arith)))))

-- and 16 in hex, none left out
pub hex-many : (n r : ℕ) → n < 2 ^ 64 → IsDigitCount 16 16 n r → r ≡ 16
hex-many n r h f = many (ltb 16 r) refl
  where
    many : (s : Bool) → ltb 16 r ≡ s → r ≡ 16
    many true e =
        let l = ltb-true 16 r e in
        let p : 16 ^ 16 ≤ 16 ^ (r - 1) = pow-le-pow_right {n = 16} (omega arith) {i = 16} {j = r - 1} (omega arith) in
        omega (arith, f.2 (omega arith))
    many false e = let l = ltb-false 16 r e in let m = f.0 in omega arith
