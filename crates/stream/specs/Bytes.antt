-- Words as bytes, little-endian.
use Rattle.std.specs.Prelude.{ℕ, zero, suc, ◌+◌, ◌*◌, ◌/◌, ◌%◌, ◌^◌, Bool, true, ◌&&◌, List, [], ◌∷◌, ◌++◌, ◌==◌, slice_index}
use Rattle.stream.specs.declared.MonteCarloRng.{MonteCarloRng}
use Rattle.stream.specs.Xoshiro.{word_of, step_of}

-- the lowest n bytes of a word, lowest first
unfoldable pub bytes_of : ℕ → ℕ → List ℕ
bytes_of zero w = []
bytes_of (suc n) w = w % 256 ∷ bytes_of n (w / 256)

-- the word whose bytes stand first in a list
unfoldable pub word_in : List ℕ → ℕ
word_in l =
    slice_index l 0 + slice_index l 1 * 2 ^ 8 + slice_index l 2 * 2 ^ 16 + slice_index l 3 * 2 ^ 24 + slice_index l 4 * 2 ^ 32 + slice_index l 5 * 2 ^ 40 + slice_index l 6 * 2 ^ 48 + slice_index l 7 * 2 ^ 56

-- every byte is zero
unfoldable pub all_zero : List ℕ → Bool
all_zero [] = true
all_zero (b ∷ bs) = b == 0 && all_zero bs

-- the bytes of the next k words
unfoldable pub stream_bytes : ℕ → MonteCarloRng → List ℕ
stream_bytes zero s = []
stream_bytes (suc k) s = bytes_of 8 (word_of s) ++ stream_bytes k (step_of s)
