-- xoshiro256** 1.0 as published (Blackman and Vigna, "Scrambled linear pseudorandom number generators", 2018;
-- xoshiro256starstar.c). Any four words are a state here, four zeros too.
use Rattle.std.specs.Prelude.{ℕ, zero, suc, bit_xor}
use Rattle.stream.specs.declared.MonteCarloRng.{MonteCarloRng}
use Rattle.stream.specs.Words.{times, shifted_up, rotated}

-- result = rotl(s[1] * 5, 7) * 9
unfoldable pub word_of : MonteCarloRng → ℕ
word_of s = times (rotated (times s.s1 5) 7) 9

-- t = s[1] << 17; s[2] ^= s[0]; s[3] ^= s[1]; s[1] ^= s[2]; s[0] ^= s[3]; s[2] ^= t; s[3] = rotl(s[3], 45)
unfoldable pub step_of : MonteCarloRng → MonteCarloRng
step_of s =
    let t = shifted_up s.s1 17 in
    let s2 = bit_xor s.s2 s.s0 in
    let s3 = bit_xor s.s3 s.s1 in
    record { s0 = bit_xor s.s0 s3; s1 = bit_xor s.s1 s2; s2 = bit_xor s2 t; s3 = rotated s3 45 }

-- the state after k words
unfoldable pub steps_of : ℕ → MonteCarloRng → MonteCarloRng
steps_of zero s = s
steps_of (suc k) s = steps_of k (step_of s)
