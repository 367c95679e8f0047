-- What the quick test says of a guess. Definitions only.
use Rattle.std.specs.Prelude.{◌≡◌, ℕ, ◌+◌, ◌-◌, ◌*◌, ◌/◌, ◌%◌, ◌^◌, ◌<◌, ◌≤◌}
use Rattle.careful.specs.Digits.{NearRoot}

-- `bits` are those of a normal double, and e has the exponent and the digits of its root
pub record Right (bits e : ℕ) : Type 0 where
  pub normal : 2 ^ 52 ≤ bits
  pub finite : bits < 2047 * 2 ^ 52
  pub exponent : e / 2 ^ 52 ≡ (bits / 2 ^ 52 + 1023) / 2
  pub near : NearRoot ((bits % 2 ^ 52 + 2 ^ 52) * (2 - bits / 2 ^ 52 % 2) * 2 ^ 52) (e % 2 ^ 52 + 2 ^ 52)
