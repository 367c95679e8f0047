-- The even steps i / n rise strictly from exactly 0 to exactly 1 after rounding: between two neighbours lie two multiples of 2 ^ -12, which
-- are doubles. Assumes nothing.
use mathlib.Core.Path.{◌≡◌, refl, ◌∙◌}
use Prim.Native.Nat.{ℕ, suc, ◌+◌, ◌*◌, ◌/◌, ◌≤◌, ◌<◌}
use native.Mathlib.Nat.{le_trans, lt-div-mul-add, div-mul-le_self, le_of_mul-le-mul_right}
use native.Mathlib.Omega.{arith}
use mathlib.Core.Bool.{true, false}
use lib.Dec.{lit<, lit≤}
use lib.Ieee.{Float, binary64, round, div, lt, le, of_bits, of_int}
use lib.Ieee.Order.{round_mono}
use lib.Ieee.Scale.{round_same}
use Rattle.doubles.specs.Numbers.{zero64, one64}
use Rattle.doubles.specs.Finite.{finite_of}
use Rattle.doubles.specs.Count.{count_of}
use Rattle.doubles.specs.Inverse.{inv_of}
use Rattle.doubles.proofs.Truth.{is}
use Rattle.doubles.proofs.Order.{lt-le, lt-le-trans, le_lt_trans}
use Rattle.doubles.proofs.Finiteness.{between-finite}
use Rattle.doubles.proofs.Exact.{dyadic}
use Rattle.doubles.proofs.Fractions.{values-lt}
use Rattle.doubles.proofs.Wholes.{count-div}

-- i / n, rounded once
abbrev pub step : ℕ → ℕ → Float
step i n = div binary64 (count_of i) (count_of n)

step_is : (i n : ℕ) → 1 ≤ n → n ≤ 1024 → i ≤ 1024 → step i n ≡ round binary64 false i n
step_is i n N M I = count-div i n (le_trans I (lit≤ tt)) (le_trans M (lit≤ tt)) N

squeezed : (i n : ℕ) → n ≤ 1024 → i < n → lt (round binary64 false i n) (round binary64 false (suc i) n) ≡ true
squeezed i n M h =
    let q = i * 4096 / n in
    let N : 0 < n = omega arith in
    let K : 0 < 4096 = lit< tt in
    let u : i * 4096 < q * n + n = lt-div-mul-add N in
    let l : q * n ≤ i * 4096 = div-mul-le_self (i * 4096) n in
    let left : i * 4096 ≤ suc q * n = omega arith in
    let right : suc (suc q) * n ≤ suc i * 4096 = omega arith in
    let small : suc (suc q) ≤ 4096 = le_of_mul-le-mul_right (le_trans right (omega arith)) N in
    let rise : lt (round binary64 false (suc q) 4096) (round binary64 false (suc (suc q)) 4096) ≡ true = values-lt (round binary64 false (suc q) 4096) (round binary64 false (suc (suc q)) 4096) (suc q) 4096 (suc (suc q)) 4096 (dyadic (suc q) 12 (omega arith) (lit≤ tt)) (dyadic (suc (suc q)) 12 (omega arith) (lit≤ tt)) (omega arith) in
    le_lt_trans (round binary64 false i n) (round binary64 false (suc q) 4096) (round binary64 false (suc i) n) (is (round_mono binary64 i n (suc q) 4096 N K left))
    (lt-le-trans (round binary64 false (suc q) 4096) (round binary64 false (suc (suc q)) 4096) (round binary64 false (suc i) n) rise (is (round_mono binary64 (suc (suc q)) 4096 (suc i) n K N right)))

pub step-rises : (i n : ℕ) → n ≤ 1024 → i < n → lt (step i n) (step (suc i) n) ≡ true
step-rises i n M h = rw (step_is i n (omega arith) M (omega arith), step_is (suc i) n (omega arith) M (omega arith)) (squeezed i n M h)

pub step-first : (n : ℕ) → 1 ≤ n → n ≤ 1024 → step 0 n ≡ zero64
unfolding round of_bits
step-first n N M = step_is 0 n N M (lit≤ tt) ∙ round_same binary64 false 0 n 0 1 N (lit< tt) (omega arith)

pub step-last : (n : ℕ) → 1 ≤ n → n ≤ 1024 → step n n ≡ one64
unfolding round of_bits
step-last n N M = step_is n n N M M ∙ round_same binary64 false n n 1 1 N (lit< tt) (omega arith)

-- 1 / n is finite and above 0
one-is : one64 ≡ count_of 1
unfolding of_bits count_of of_int round
one-is = refl

pub inv-above : (n : ℕ) → 1 ≤ n → n ≤ 1024 → lt zero64 (inv_of (count_of n)) ≡ true
unfolding inv_of lt round of_bits
inv-above n N M =
    rw (one-is, step_is 1 n N M (lit≤ tt))
    (lt-le-trans zero64 (round binary64 false 1 1024) (round binary64 false 1 n) refl (is (round_mono binary64 1 1024 1 n (lit< tt) N (omega arith))))

pub inv-at-most : (n : ℕ) → 1 ≤ n → n ≤ 1024 → le (inv_of (count_of n)) one64 ≡ true
unfolding inv_of count_of of_int
inv-at-most n N M = rw (one-is, step_is 1 n N M (lit≤ tt)) (is (round_mono binary64 1 n 1 1 N (lit< tt) (omega arith)))

pub inv-finite : (n : ℕ) → 1 ≤ n → n ≤ 1024 → finite_of (inv_of (count_of n)) ≡ true
unfolding finite_of of_bits
inv-finite n N M = between-finite zero64 (inv_of (count_of n)) one64 refl refl (lt-le zero64 (inv_of (count_of n)) (inv-above n N M)) (inv-at-most n N M)
