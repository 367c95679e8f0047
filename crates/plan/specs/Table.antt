-- The table that a plan is written to. Grids stand in plan order, a parent before its children; a grid is one run.
use Rattle.std.specs.Prelude.{ℕ, ◌-◌, cond, List, [], ◌∷◌, ◌++◌, get_or, eqb}
use Rattle.plan.specs.declared.Place.{Place}
use Rattle.plan.specs.declared.Tally.{Tally}
use Rattle.plan.specs.declared.AxesPlan.{AxesPlan}
use Rattle.plan.specs.declared.BinsPlan.{BinsPlan}
use Rattle.plan.specs.Plan.{Tree, Trees, nothing, axes, bins, none, more}
use Rattle.plan.specs.Needs.{bins_taken, after}

-- an axes grid's record, its bin evolution behind it: kind, levels left, the numbers of its plan, the largest bin number,
-- the number of values, where its reals and its counts begin
unfoldable pub head_axes : ℕ → AxesPlan → Tally → List ℕ
head_axes l a y =
    1 ∷ (l ∷ (a.axes ∷ (a.bins ∷ (a.least ∷ (a.flag ∷ (a.floor ∷ (a.most ∷ (a.values ∷ (y.reals ∷ (y.counts ∷ []))))))))))

-- a bins grid's record, its links behind it
unfoldable pub head_bins : ℕ → BinsPlan → Tally → List ℕ
head_bins l b y = 2 ∷ (l ∷ (b.bins ∷ (b.ratio ∷ (b.flag ∷ (y.reals ∷ (y.counts ∷ []))))))

-- a child's link is the word where its record begins, 0 for no child
unfoldable pub link : Tree → Tally → ℕ
link nothing y = 0
link (axes a es) y = y.words
link (bins b ts) y = y.words

unfoldable pub links : Trees → Tally → List ℕ
links none y = []
links (more t ts) y = link t y ∷ links ts (after t y)

-- the words of what hangs at a place, with so many levels left
unfoldable mutual
  pub rows : ℕ → Tree → Tally → List ℕ
  rows l nothing y = []
  rows l (axes a es) y = head_axes l a y ++ es
  rows l (bins b ts) y = head_bins l b y ++ (links ts (bins_taken b y) ++ rows_all (l - 1) ts (bins_taken b y))

  pub rows_all : ℕ → Trees → Tally → List ℕ
  rows_all l none y = []
  rows_all l (more t ts) y = rows l t y ++ rows_all l ts (after t y)

-- the link as the bytes show it
unfoldable pub link_at : List ℕ → Place → ℕ
link_at bs p = cond (eqb (get_or bs p.at 0) 4) 0 p.tally.words
