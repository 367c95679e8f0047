-- Reading a word digit by digit: the next digit, and that 16 of them fit.
use Rattle.std.proofs.Common.{◌≡◌, ℕ, ◌+◌, ◌-◌, ◌*◌, ◌/◌, ◌^◌, ◌<◌, ◌≤◌, List, length, take, drop, get_or, arith, add-one, drop-cons, drop_of_length-le, length-drop, length-take-le, lt_of_lt_of_le, pow-add, pow_mono}
use Rattle.answers.specs.List.{digit_of, value_of}

-- one digit more
pub value_on : (l : List ℕ) (v k : ℕ) → k < length l → value_of v (drop k l) ≡ value_of (v * 16 + digit_of (get_or l k 0)) (drop (k + 1) l)
unfolding value_of
value_on l v k h = rw (add-one, drop-cons l k 0)

-- k digits are below 16 ^ k
pub digits-below : (v d k : ℕ) → v < 2 ^ (4 * k) → d < 16 → v * 16 + d < 2 ^ (4 * (k + 1))
digits-below v d k h i =
    let e : 4 * (k + 1) ≡ 4 * k + 4 = omega arith in
    rw (e, pow-add) (omega arith)

-- so up to 16 of them fit a word
pub digits-fit : (v d k : ℕ) → k < 16 → v < 2 ^ (4 * k) → d < 16 → v * 16 + d < 2 ^ 64
digits-fit v d k h i j = lt_of_lt_of_le (digits-below v d k i j) (pow_mono {i = 4 * (k + 1)} {j = 64} (omega arith))

-- the digits of a word of the list are 16
pub sixteen : (l : List ℕ) (i : ℕ) → i < length l / 17 → length (take (i * 17 + 16 - i * 17) (drop (i * 17) l)) ≡ 16
sixteen l i h =
    let e : i * 17 + 16 - i * 17 ≡ 16 = omega arith in
    rw e (length-take-le 16 (drop (i * 17) l) (omega (arith, length-drop (i * 17) l)))

-- all digits read, they spell the word
pub value-done : (l : List ℕ) (v i k : ℕ) → i < length l / 17 → length (take (i * 17 + 16 - i * 17) (drop (i * 17) l)) ≤ k
    → value_of v (drop k (take (i * 17 + 16 - i * 17) (drop (i * 17) l))) ≡ value_of 0 (take (i * 17 + 16 - i * 17) (drop (i * 17) l))
    → v ≡ value_of 0 (take 16 (drop (i * 17) l))
unfolding value_of
value-done l v i k h m q =
    let e : i * 17 + 16 - i * 17 ≡ 16 = omega arith in
    rw e at (rw (drop_of_length-le _ m) at q)
