-- The bytes of a plan, and which trees are plans.
use Rattle.std.specs.Prelude.{ℕ, ◌-◌, ◌*◌, Bool, true, ◌&&◌, List, [], ◌∷◌, ◌++◌, length, leb, ltb, eqb}
use Rattle.plan.specs.declared.Tally.{Tally}
use Rattle.plan.specs.declared.AxesPlan.{AxesPlan}
use Rattle.plan.specs.declared.BinsPlan.{BinsPlan}
use Rattle.plan.specs.Numbers.{bytes_of}
use Rattle.plan.specs.Ranges.{bounded, most_of}
use Rattle.plan.specs.Plan.{Tree, Trees, nothing, axes, bins, none, more, count}
use Rattle.plan.specs.Needs.{bins_taken, after}
use Rattle.plan.specs.Fields.{axes_fault, bins_fault}

-- 01: tag, length, and 16 bytes
unfoldable pub axes_bytes : AxesPlan → List ℕ
axes_bytes a = 1 ∷ (16 ∷ (0 ∷ (a.axes ∷ (bytes_of 2 a.bins ++ (bytes_of 4 a.least ++ (a.flag ∷ bytes_of 8 a.floor))))))

unfoldable pub pairs : List ℕ → List ℕ
pairs [] = []
pairs (v ∷ vs) = bytes_of 2 v ++ pairs vs

-- 02, where there are values
unfoldable pub evolution_bytes : List ℕ → List ℕ
evolution_bytes [] = []
evolution_bytes (v ∷ vs) = 2 ∷ (bytes_of 2 (2 * length (v ∷ vs)) ++ pairs (v ∷ vs))

-- 03: tag, length, and 11 bytes
unfoldable pub bins_bytes : BinsPlan → List ℕ
bins_bytes b = 3 ∷ (11 ∷ (0 ∷ (bytes_of 2 b.bins ++ (bytes_of 8 b.ratio ++ (b.flag ∷ [])))))

unfoldable mutual
  pub encode : Tree → List ℕ
  encode nothing = 4 ∷ (0 ∷ (0 ∷ []))
  encode (axes a es) = axes_bytes a ++ evolution_bytes es
  encode (bins b ts) = bins_bytes b ++ encode_all ts

  pub encode_all : Trees → List ℕ
  encode_all none = []
  encode_all (more t ts) = encode t ++ encode_all ts

-- a bin evolution goes with its 01: at most 16 values, each in its bounds, the largest bin number theirs and 01's;
-- the numbers fit their bytes
unfoldable pub axes_planned : AxesPlan → List ℕ → Bool
axes_planned a es =
    eqb (length es) a.values && (leb a.values 16 && (bounded es && (eqb a.most (most_of a.bins es) && (ltb a.least 0x1_0000_0000 && ltb a.floor 0x1_0000_0000_0000_0000))))

unfoldable pub bins_planned : BinsPlan → Bool
bins_planned b = ltb b.ratio 0x1_0000_0000_0000_0000

-- all numbers in their ranges, as many children as bins, at most so many levels, no grid too many
unfoldable mutual
  pub valid : ℕ → Tree → Tally → Bool
  valid l nothing y = true
  valid l (axes a es) y = eqb (axes_fault a y.left) 0 && axes_planned a es
  valid l (bins b ts) y = eqb (bins_fault b y.left l) 0 && (bins_planned b && (eqb (count ts) b.bins && valid_all (l - 1) ts (bins_taken b y)))

  pub valid_all : ℕ → Trees → Tally → Bool
  valid_all l none y = true
  valid_all l (more t ts) y = valid l t y && valid_all l ts (after t y)
