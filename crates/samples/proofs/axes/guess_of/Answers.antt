-- `guess_of`: the upper half of a word, at most 1024 times, is a word.
use Prim.Native.Nat.{ℕ, ◌*◌, ◌/◌, ◌^◌, ◌≤◌, ◌<◌}
use native.Mathlib.Nat.{lt_of_le_of_lt, mul-le-mul}
use native.Mathlib.Omega.{arith}
use lib.Dec.{lit<}
use borrow.Author.Rules.{rules}
use Rattle.samples.proofs.axes.guess_of.Goals as goal

fits_in : (w n : ℕ) → w < 2 ^ 64 → n ≤ 1024 → w / 2 ^ 32 * n < 2 ^ 64
fits_in w n h k = let l : w / 2 ^ 32 ≤ 2 ^ 32 = omega arith in lt_of_le_of_lt (mul-le-mul l k) (lit< tt)

pub overflow_mul-result : goal.overflow_mul-result
overflow_mul-result c = search (fits_in, rules)

pub returns : goal.returns
returns c = omega arith
