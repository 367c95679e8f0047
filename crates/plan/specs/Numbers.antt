-- Numbers in bytes, little-endian, and runs of numbers. What is read past the end is 0.
use Rattle.std.specs.Prelude.{ℕ, zero, suc, ◌+◌, ◌*◌, ◌/◌, ◌%◌, List, [], ◌∷◌, get_or}

-- the number that n bytes spell from a place on
unfoldable pub number_at : List ℕ → ℕ → ℕ → ℕ
number_at bs at zero = 0
number_at bs at (suc n) = get_or bs at 0 + 256 * number_at bs (at + 1) n

-- the lowest n bytes of a number, lowest first
unfoldable pub bytes_of : ℕ → ℕ → List ℕ
bytes_of zero v = []
bytes_of (suc n) v = v % 256 ∷ bytes_of n (v / 256)

-- k numbers, g giving the one at a place, from a place on, each so many places behind the last
unfoldable pub run_of : (ℕ → ℕ) → ℕ → ℕ → ℕ → List ℕ
run_of g apart at zero = []
run_of g apart at (suc k) = g at ∷ run_of g apart (at + apart) k

-- k values of two bytes each
unfoldable pub values_at : List ℕ → ℕ → ℕ → List ℕ
values_at bs at k = run_of (λ i. number_at bs i 2) 2 at k

-- k words of a table
unfoldable pub words_at : List ℕ → ℕ → ℕ → List ℕ
words_at xs w k = run_of (λ i. get_or xs i 0) 1 w k
