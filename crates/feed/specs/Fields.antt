-- The fields behind a plan, as they stand in some bytes.
use Rattle.std.specs.Prelude.{ℕ, zero, suc, ◌+◌, Bool, cond, not, ◌&&◌, List, [], ◌∷◌, length, ◌==◌, from_bits, nat_le, nat_lt, slice_index, Float}
use Rattle.std.specs.Float.{binary64}
use Rattle.plan.specs.Numbers.{number_at}
use Rattle.feed.specs.declared.fields.Standing.{Standing}
use Rattle.feed.specs.declared.fields.Standing.TheVariants as standing

-- a double of eight bytes
unfoldable pub double_at : List ℕ → ℕ → Float
double_at bs at = from_bits binary64 (number_at bs at 8)

-- bytes are missing: they may come, unless these are the last
unfoldable pub missing_of : Bool → Standing
missing_of last = cond last standing.Wrong standing.Waiting

-- how the field of a tag and a length stands at the front
unfoldable pub standing_of : List ℕ → ℕ → ℕ → Bool → Standing
standing_of bs tag size last =
    cond (nat_lt (length bs) 3) (missing_of last)
    (cond (not (slice_index bs 0 == tag)) standing.Wrong
    (cond (not (number_at bs 1 2 == size)) standing.Wrong
    (cond (nat_lt (length bs) (3 + size)) (missing_of last) standing.Whole)))

-- whether a whole 11 stands at a place
unfoldable pub is_sample : List ℕ → ℕ → Bool
is_sample bs at = nat_le (at + 11) (length bs) && (slice_index bs at == 0x11 && number_at bs (at + 1) 2 == 8)

-- the evaluations of the 11s that stand one behind the other from a place on, at most n
unfoldable pub row_from : List ℕ → ℕ → ℕ → List Float
row_from bs at zero = []
row_from bs at (suc n) = cond (is_sample bs at) (double_at bs (at + 3) ∷ row_from bs (at + 11) n) []
