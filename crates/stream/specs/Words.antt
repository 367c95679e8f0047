-- Arithmetic on words of 64 bits, as the publications' C has it on `uint64_t`.
use Rattle.std.specs.Prelude.{ℕ, ◌+◌, ◌-◌, ◌*◌, ◌/◌, ◌%◌, ◌^◌, bit_or}

-- a + b, modulo 2^64
unfoldable pub plus : ℕ → ℕ → ℕ
plus a b = (a + b) % 2 ^ 64

-- a * b, modulo 2^64
unfoldable pub times : ℕ → ℕ → ℕ
times a b = a * b % 2 ^ 64

-- x << k: the bits past the word fall away
unfoldable pub shifted_up : ℕ → ℕ → ℕ
shifted_up x k = x * 2 ^ k % 2 ^ 64

-- x >> k
unfoldable pub shifted_down : ℕ → ℕ → ℕ
shifted_down x k = x / 2 ^ k

-- rotl(x, k) = (x << k) | (x >> (64 - k))
unfoldable pub rotated : ℕ → ℕ → ℕ
rotated x k = bit_or (shifted_up x k) (shifted_down x (64 - k))
