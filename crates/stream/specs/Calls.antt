-- What each call of the stream answers.
use Rattle.std.specs.Prelude.{ℕ, ◌+◌, ◌/◌, ◌^◌, false, cond, List, ◌++◌, take, drop, nat_lt, Float}
use Rattle.std.specs.Float.{binary64}
use Rattle.std.specs.Float.Ieee.{round}
use Rattle.stream.specs.declared.MonteCarloRng.{MonteCarloRng}
use Rattle.stream.specs.declared.Next.{Next}
use Rattle.stream.specs.SplitMix.{seeded_of}
use Rattle.stream.specs.Xoshiro.{word_of, step_of, steps_of}
use Rattle.stream.specs.Jumps.{jumps_of}
use Rattle.stream.specs.Bytes.{bytes_of, word_in, all_zero, stream_bytes}
use Rattle.doubles.specs.Paper.{Paper, gives, refuses}

-- next_u64: the word, and the stream one step on
unfoldable pub drawn_of : MonteCarloRng → Next ℕ
drawn_of s = record { value = word_of s; stream = step_of s }

-- next_u32: the upper 32 bits of one word
unfoldable pub upper_of : MonteCarloRng → Next ℕ
upper_of s = record { value = word_of s / 2 ^ 32; stream = step_of s }

-- the top 53 bits of a word times 2^-53
unfoldable pub unit_of : ℕ → Float
unit_of w = round binary64 false (w / 2 ^ 11) (2 ^ 53)

-- the unit draw, one word spent
unfoldable pub unit_drawn_of : MonteCarloRng → Next Float
unit_drawn_of s = record { value = unit_of (word_of s); stream = step_of s }

-- fill_bytes of n bytes spends a whole word on each eight and on a short tail
unfoldable pub words_for : ℕ → ℕ
words_for n = (n + 7) / 8

-- what fill_bytes leaves: the stream after it, and the bytes
pub record Filled : Type 0 where
  pub stream : MonteCarloRng
  pub bytes : List ℕ

abbrev pub filled : MonteCarloRng → List ℕ → Filled
filled s l = record { stream = s; bytes = l }

unfoldable pub filled_of : ℕ → MonteCarloRng → Filled
filled_of n s = filled (steps_of (words_for n) s) (take n (stream_bytes (words_for n) s))

-- export: the four words' bytes in order
unfoldable pub export_of : MonteCarloRng → List ℕ
export_of s = bytes_of 8 s.s0 ++ (bytes_of 8 s.s1 ++ (bytes_of 8 s.s2 ++ bytes_of 8 s.s3))

-- four words from the first 32 bytes
unfoldable pub state_in : List ℕ → MonteCarloRng
state_in l = record { s0 = word_in l; s1 = word_in (drop 8 l); s2 = word_in (drop 16 l); s3 = word_in (drop 24 l) }

-- import: the state in 32 bytes; of zero bytes alone, new(0, 0)
unfoldable pub import_of : List ℕ → MonteCarloRng
import_of l = cond (all_zero l) (seeded_of 0) (state_in l)

-- new(seed, k): four words from the seed, then k jumps; 3 for a stream number above 4,095
unfoldable pub new_of : ℕ → ℕ → Paper MonteCarloRng
new_of seed k = cond (nat_lt 4095 k) (refuses 3) (gives (jumps_of k (seeded_of seed)))
