-- What the inner functions say of a rounded root's digits. Definitions only.
use Rattle.std.specs.Prelude.{◌≡◌, ℕ, ◌+◌, ◌-◌, ◌*◌, ◌^◌, ◌≤◌, ◌<◌, Bool, true, false}

-- n in two words of 52 binary digits
pub record Words (n high low : ℕ) : Type 0 where
  pub sum : high * 2 ^ 52 + low ≡ n
  pub short : low < 2 ^ 52
  pub small : high < 2 ^ 54

-- digits d such that the root of d * 2 ^ 52 has 53 digits, also when it is rounded
pub record Radicand (d : ℕ) : Type 0 where
  pub long : 2 ^ 52 ≤ d
  pub short : d + 2 ≤ 2 ^ 54

-- q is the whole number nearest to the root of n: n lies between (q - 1/2) ^ 2 and (q + 1/2) ^ 2
pub record NearRoot (n q : ℕ) : Type 0 where
  pub high : n ≤ q * q + q
  pub low : q * q < n + q

-- b is true exactly where P holds
pub record Tells (b : Bool) (P : Type 0) : Type 0 where
  pub yes : b ≡ true → P
  pub no : b ≡ false → P → ⊥

-- q is not the nearest to the root of d * 2 ^ 52
pub record Wrong (d q : ℕ) : Type 0 where
  pub some : 1 ≤ q
  pub short : q < 2 ^ 53
  pub digits : Radicand d
  pub far : NearRoot (d * 2 ^ 52) q → ⊥

-- r is closer than q to whatever is nearest to it
pub record Closer (d q r : ℕ) : Type 0 where
  pub some : 1 ≤ r
  pub short : r < 2 ^ 53
  pub nearer : (t : ℕ) → NearRoot (d * 2 ^ 52) t → r - t + (t - r) < q - t + (t - q)
