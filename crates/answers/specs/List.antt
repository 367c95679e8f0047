-- What a list of answers says: its words by number.
use Rattle.std.specs.Prelude.{ℕ, zero, suc, ◌+◌, ◌-◌, ◌*◌, ◌/◌, ◌%◌, ◌^◌, Bool, true, ◌&&◌, cond, List, [], ◌∷◌, ◌==◌, leb, ltb, length, take, drop}

-- a digit 0 to 9 or a to f; any other byte counts as 0
unfoldable pub digit_of : ℕ → ℕ
digit_of b = cond (ltb b 48) 0 (cond (ltb b 58) (b - 48) (cond (ltb b 97) 0 (cond (ltb b 103) (b - 87) 0)))

-- the number that digits spell behind those of v
unfoldable pub value_of : ℕ → List ℕ → ℕ
value_of v [] = v
value_of v (b ∷ bs) = value_of (v * 16 + digit_of b) bs

-- how many words of 16 digits and one byte more
unfoldable pub words_of : List ℕ → ℕ
words_of l = length l / 17

-- the word at i, and 0 past the last
unfoldable pub word_of : List ℕ → ℕ → ℕ
word_of l i = cond (leb (words_of l) i) 0 (value_of 0 (take 16 (drop (i * 17) l)))

-- the word at i where it is below b, else 0
unfoldable pub below_of : List ℕ → ℕ → ℕ → ℕ
below_of l i b = cond (ltb (word_of l i) b) (word_of l i) 0

-- the words from `at` on are these
unfoldable pub holds_of : List ℕ → ℕ → List ℕ → Bool
holds_of l at [] = true
holds_of l at (v ∷ vs) = word_of l at == v && holds_of l (at + 1) vs

-- byte i of the bytes packed from word `at` on, lowest first
unfoldable pub byte_in : List ℕ → ℕ → ℕ → ℕ
byte_in l at i = word_of l (at + i / 8) / 2 ^ (i % 8 * 8) % 256

-- n of them from byte i on
unfoldable pub bytes_from : List ℕ → ℕ → ℕ → ℕ → List ℕ
bytes_from l at i zero = []
bytes_from l at i (suc n) = byte_in l at i ∷ bytes_from l at (i + 1) n
