-- The two jumps, as xoshiro256starstar.c walks them: over a table of four words, bit 0 of word 0 first, the states at the set bits
-- are added up (by exclusive or), and one step follows each bit.
use Rattle.std.specs.Prelude.{ℕ, zero, suc, ◌+◌, ◌/◌, ◌%◌, ◌^◌, cond, List, [], ◌∷◌, ◌==◌, bit_xor}
use Rattle.stream.specs.declared.MonteCarloRng.{MonteCarloRng}
use Rattle.stream.specs.declared.Walk.{Walk}
use Rattle.stream.specs.Xoshiro.{step_of}

-- JUMP, for 2^128 steps
abbrev pub jump_table : List ℕ
jump_table = 0x180e_c6d3_3cfd_0aba ∷ 0xd5a6_1266_f0c9_392c ∷ 0xa958_2618_e03f_c9aa ∷ 0x39ab_dc45_29b1_661c ∷ []

-- LONG_JUMP, for 2^192 steps
abbrev pub long_jump_table : List ℕ
long_jump_table = 0x76e1_5d3e_fefd_cbbf ∷ 0xc500_4e44_1c52_2fb3 ∷ 0x7771_0069_854e_e241 ∷ 0x3910_9bb0_2acb_e635 ∷ []

-- four zeros
abbrev pub none : MonteCarloRng
none = record { s0 = 0; s1 = 0; s2 = 0; s3 = 0 }

-- two states, word by word
unfoldable pub joined : MonteCarloRng → MonteCarloRng → MonteCarloRng
joined a b = record { s0 = bit_xor a.s0 b.s0; s1 = bit_xor a.s1 b.s1; s2 = bit_xor a.s2 b.s2; s3 = bit_xor a.s3 b.s3 }

-- one bit: the state is added where bit b of the word is set; then a step
unfoldable pub walk_bit : ℕ → ℕ → Walk → Walk
walk_bit word b w = record { sum = cond (word / 2 ^ b % 2 == 1) (joined w.sum w.state) w.sum; state = step_of w.state }

-- n bits of a word, from bit b on
unfoldable pub walk_bits : ℕ → ℕ → ℕ → Walk → Walk
walk_bits word zero b w = w
walk_bits word (suc n) b w = walk_bits word n (b + 1) (walk_bit word b w)

-- the words of a table in order
unfoldable pub walk_words : List ℕ → Walk → Walk
walk_words [] w = w
walk_words (word ∷ words) w = walk_words words (walk_bits word 64 0 w)

-- the sum is the state after the jump
unfoldable pub jump_of : List ℕ → MonteCarloRng → MonteCarloRng
jump_of table s = (walk_words table (record { sum = none; state = s })).sum

-- k jumps
unfoldable pub jumps_of : ℕ → MonteCarloRng → MonteCarloRng
jumps_of zero s = s
jumps_of (suc k) s = jumps_of k (jump_of jump_table s)
