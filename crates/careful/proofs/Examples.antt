-- Worked examples as one computed table, by bit patterns. Assumes nothing.
use mathlib.Core.Path.{◌≡◌, refl}
use mathlib.Core.List.{List, [], ◌∷◌}
use mathlib.Core.Bool.{Bool, true, ◌&&◌}
use Prim.Native.Nat.{ℕ}
use lib.Dec.{eqb}
use lib.Count.{count_trailing_zeros}
use lib.Ieee.{binary64, of_bits, to_bits, odd, size, span, climb, units, round, of_fields}
use Rattle.careful.specs.Root.{root_of, isqrt, squares}

data Row : Type 0 where
  root : ℕ → ℕ → Row

unfoldable all : List Row → Bool
all [] = true
all (root x r ∷ rows) = eqb (to_bits binary64 (root_of (of_bits binary64 x))) r && all rows

unfoldable table : List Row
table =
    root 0x4000000000000000 0x3ff6a09e667f3bcd
    ∷ root 0x3ff0000000000000 0x3ff0000000000000
    ∷ root 0x1 0x1e60000000000000
    ∷ root 0x7fefffffffffffff 0x5fefffffffffffff
    ∷ root 0x3739a252b281 0x1fcdb9b6d15869b2
    -- these roots lie just below the middle of two doubles
    ∷ root 0x3ff0000000000001 0x3ff0000000000000
    ∷ root 0x3fefffffffffffff 0x3fefffffffffffff
    ∷ root 0x8000000000000000 0x8000000000000000
    ∷ root 0xbff0000000000000 0x7ff8000000000000
    ∷ root 0x7ff0000000000000 0x7ff0000000000000
    ∷ []

examples : all table ≡ true
unfolding all table count_trailing_zeros of_bits to_bits odd size span climb units round of_fields root_of isqrt squares
examples = refl
