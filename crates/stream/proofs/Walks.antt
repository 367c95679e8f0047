-- A jump's walk, bit by bit and word by word, in the steps in which the code takes it.
use Rattle.std.proofs.Common.{◌≡◌, ℕ, suc, ◌+◌, ◌-◌, ◌<◌, List, length, get_or, drop, add-one, arith, drop-cons}
use Rattle.stream.specs.declared.Walk.{Walk}
use Rattle.stream.specs.declared.MonteCarloRng.{MonteCarloRng}
use Rattle.stream.specs.Jumps.{walk_bit, walk_bits, walk_words, jump_of, jumps_of, jump_table}

-- one bit more
pub walk-on : (word bit : ℕ) (w : Walk) → bit < 64 → walk_bits word (64 - bit) bit w ≡ walk_bits word (64 - (bit + 1)) (bit + 1) (walk_bit word bit w)
unfolding walk_bits
walk-on word bit w h = let e : 64 - bit ≡ suc (64 - (bit + 1)) = omega arith in rw e

-- one word of the table more
pub table_on : (t : List ℕ) (i : ℕ) (w : Walk) → i < length t → walk_words (drop i t) w ≡ walk_words (drop (i + 1) t) (walk_bits (get_or t i 0) 64 0 w)
unfolding walk_words
table_on t i w h = rw (add-one, drop-cons t i 0)

-- one jump more
pub jump-on : (n k : ℕ) (s : MonteCarloRng) → k < n → jumps_of (n - k) s ≡ jumps_of (n - (k + 1)) (jump_of jump_table s)
unfolding jumps_of
jump-on n k s h = let e : n - k ≡ suc (n - (k + 1)) = omega arith in rw e
