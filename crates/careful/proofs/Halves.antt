-- The products of the halves of a root's 53 digits: each is far below a word. Assumes nothing.
use Prim.Native.Nat.{ℕ, ◌*◌, ◌/◌, ◌%◌, ◌^◌, ◌≤◌, ◌<◌}
use native.Mathlib.Nat.{mul-le-mul}
use native.Mathlib.Omega.{arith}

pub record Halves (a b : ℕ) : Type 0 where
  pub upper : a * a ≤ 2 ^ 54
  pub cross : a * b ≤ 2 ^ 53
  pub lower : b * b ≤ 2 ^ 52

pub halves : (q : ℕ) → q < 2 ^ 53 → Halves (q / 2 ^ 26) (q % 2 ^ 26)
halves q h =
    let A : q / 2 ^ 26 ≤ 2 ^ 27 = omega arith in
    let B : q % 2 ^ 26 ≤ 2 ^ 26 = omega arith in
    record { upper = mul-le-mul A A; cross = mul-le-mul A B; lower = mul-le-mul B B }
