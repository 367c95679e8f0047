-- The square root of a double, over whole numbers. Definitions only.
use Rattle.std.specs.Prelude.{ℕ, zero, suc, ◌+◌, ◌*◌, ◌/◌, ◌^◌, ◌<◌, true, false, cond, leb, Float}
use Rattle.std.specs.Float.{nan, inf, fin, binary64}
use Rattle.std.specs.Float.Ieee.{up, down, round}
use Rattle.std.specs.Float.Ieee.Positive.{num, den}

-- The whole part of the root of n, for an n below 4 ^ k: the root of n / 4 has one binary digit less.
unfoldable pub isqrt : ℕ → ℕ → ℕ
isqrt zero n = 0
isqrt (suc k) n = let r = 2 * isqrt k (n / 4) in cond (leb ((r + 1) * (r + 1)) n) (r + 1) r

-- x in units of 2 ^ -2148, the square of the smallest double: a whole number below 4 ^ 1586 for every double that is not negative
unfoldable pub squares : Float → ℕ
squares nan = 0
squares (inf s) = 0
squares (fin s m e) = m * up e * 2 ^ 2148 / down e

-- The double nearest the true root, ties to even; NaN for a negative or a NaN, infinity for infinity; a zero keeps its sign.
-- In units of 2 ^ -1074 the root lies from R = isqrt .. up to below R + 1. It has more than 500 digits before the point, so a double
-- or the middle of two doubles is a whole number of units there, and R + 1/2 rounds as the root does.
unfoldable pub root_of : Float → Float
root_of nan = nan
root_of (inf false) = inf false
root_of (inf true) = nan
root_of (fin s zero e) = fin s zero e
root_of (fin true (suc m) e) = nan
root_of (fin false (suc m) e) = round binary64 false (2 * isqrt 1586 (squares (fin false (suc m) e)) + 1) (2 ^ 1075)

-- ((r + y) / 2) ^ 2 < x, and x < ((r + y) / 2) ^ 2, for r, x and y that are finite and not negative, with the denominators multiplied out
abbrev pub MiddleBelow : Float → Float → Float → Type 0
MiddleBelow r y x =
    let two = num r * den y + num y * den r in
    let d = den r * den y in
    two * two * den x < 4 * num x * (d * d)

abbrev pub MiddleAbove : Float → Float → Float → Type 0
MiddleAbove r y x =
    let two = num r * den y + num y * den r in
    let d = den r * den y in
    4 * num x * (d * d) < two * two * den x
