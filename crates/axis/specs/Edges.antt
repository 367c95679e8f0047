-- The edges of an axis, and the rule that gives a coordinate its bin.
use Rattle.std.specs.Prelude.{◌≡◌, ℕ, zero, suc, ◌+◌, ◌-◌, ◌<◌, Bool, true, ◌&&◌, ◌||◌, cond, List, [], ◌∷◌, leb, eqb, length, get_or, Float}
use Rattle.std.specs.Float.{nan, binary64}
use Rattle.std.specs.Float.Ieee.{sub, mul, div, lt, le, eq}
use Rattle.doubles.specs.Numbers.{zero64, one64}
use Rattle.doubles.specs.Count.{count_of}

-- strictly rising
unfoldable pub rising : List Float → Bool
rising [] = true
rising (a ∷ []) = true
rising (a ∷ (b ∷ es)) = lt a b && rising (b ∷ es)

-- how many bins edges bound
unfoldable pub bins_of : List Float → ℕ
bins_of es = length es - 1

-- well formed, else 12: at least one bin, from 0 to 1, strictly rising. Minus zero counts as zero
unfoldable pub well_formed : List Float → Bool
well_formed es = leb 2 (length es) && (eq (get_or es 0 nan) zero64 && (eq (get_or es (bins_of es) nan) one64 && rising es))

-- a number in [0, 1], else 5
unfoldable pub in_unit : Float → Bool
in_unit x = le zero64 x && le x one64

-- the bin rule: x is in bin i where p[i] < x ≤ p[i+1]; zero, and minus zero, in bin 0
pub record InBin (es : List Float) (x : Float) (i : ℕ) : Type 0 where
  pub there : suc i < length es
  pub above : (lt (get_or es i nan) x || (eqb i 0 && eq x zero64)) ≡ true
  pub upto : le x (get_or es (suc i) nan) ≡ true

-- the bin of x: the first i with x ≤ p[i+1], looked for from the left
unfoldable pub first_upto : Float → List Float → ℕ
first_upto x [] = 0
first_upto x (b ∷ es) = cond (le x b) 0 (suc (first_upto x es))

unfoldable pub bin_of : List Float → Float → ℕ
bin_of [] x = 0
bin_of (a ∷ es) x = first_upto x es

-- the width of bin i, and its weight: the number of bins times the width
unfoldable pub width_of : List Float → ℕ → Float
width_of es i = sub binary64 (get_or es (i + 1) nan) (get_or es i nan)

unfoldable pub weight_of : List Float → ℕ → Float
weight_of es i = mul binary64 (count_of (bins_of es)) (width_of es i)

-- the edge i of n even bins, and all of them from i on
unfoldable pub even_from : ℕ → ℕ → ℕ → List Float
even_from zero i n = []
even_from (suc k) i n = div binary64 (count_of i) (count_of n) ∷ even_from k (i + 1) n

-- fresh edges: i / n, rounded, for i from 0 to n
unfoldable pub even_edges : ℕ → List Float
even_edges n = even_from (n + 1) 0 n
