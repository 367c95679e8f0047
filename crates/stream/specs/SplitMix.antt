-- SplitMix64 as published (Steele, Lea and Flood, "Fast splittable pseudorandom number generators", 2014; Vigna's splitmix64.c).
use Rattle.std.specs.Prelude.{ℕ, bit_xor}
use Rattle.stream.specs.declared.MonteCarloRng.{MonteCarloRng}
use Rattle.stream.specs.Words.{plus, times, shifted_down}

-- the increment
abbrev pub gamma : ℕ
gamma = 0x9e37_79b9_7f4a_7c15

-- the k-th state after a seed: x += gamma, k times
unfoldable pub advanced : ℕ → ℕ
advanced x = plus x gamma

-- z = (z ^ (z >> 30)) * 0xbf58476d1ce4e5b9
unfoldable pub first_mix : ℕ → ℕ
first_mix z = times (bit_xor z (shifted_down z 30)) 0xbf58_476d_1ce4_e5b9

-- z = (z ^ (z >> 27)) * 0x94d049bb133111eb
unfoldable pub second_mix : ℕ → ℕ
second_mix z = times (bit_xor z (shifted_down z 27)) 0x94d0_49bb_1331_11eb

-- the word that a state gives: both mixes, then z ^ (z >> 31)
unfoldable pub mix_of : ℕ → ℕ
mix_of x = let z = second_mix (first_mix x) in bit_xor z (shifted_down z 31)

-- four words from a seed, in order
unfoldable pub seeded_of : ℕ → MonteCarloRng
seeded_of seed =
    let x0 = advanced seed in
    let x1 = advanced x0 in
    let x2 = advanced x1 in
    let x3 = advanced x2 in
    record { s0 = mix_of x0; s1 = mix_of x1; s2 = mix_of x2; s3 = mix_of x3 }
