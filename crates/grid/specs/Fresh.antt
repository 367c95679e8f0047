-- Plans whose sizes are within their bounds, and the fresh grid of each.
use Rattle.std.specs.Prelude.{ℕ, suc, Bool, true, ◌&&◌, List, [], ◌∷◌, leb, Float}
use Rattle.model.specs.Axes.{AxesPlan, fresh_axes}
use Rattle.model.specs.Grid.{Grid, Child, axes, nothing, grid, fresh_grid}

mutual
  -- so many axes of one axes grid; or a bins grid's ratio, whether it trains on averages, and what hangs at each bin
  pub data Plan : Type 0 where
    flat : ℕ → AxesPlan → Plan
    tree : Float → Bool → Plans → Plan

  pub data Plans : Type 0 where
    stop : Plans
    bare : Plans → Plans
    under : Plan → Plans → Plans

unfoldable pub many : Plans → ℕ
many stop = 0
many (bare ps) = suc (many ps)
many (under p ps) = suc (many ps)

-- 1 to 1,024 bins an axis, in 01 and in each value of 02
unfoldable pub bins_fit : List ℕ → Bool
bins_fit [] = true
bins_fit (n ∷ ns) = (leb 1 n && leb n 1024) && bins_fit ns

-- 1 to 256 bins in a bins grid
unfoldable mutual
  pub sized : Plan → Bool
  sized (flat d plan) = bins_fit (plan.bins ∷ plan.evolution)
  sized (tree ratio averages ps) = (leb 1 (many ps) && leb (many ps) 256) && sized_all ps

  pub sized_all : Plans → Bool
  sized_all stop = true
  sized_all (bare ps) = sized_all ps
  sized_all (under p ps) = sized p && sized_all ps

unfoldable mutual
  pub fresh : Plan → Grid
  fresh (flat d plan) = axes (fresh_axes d plan)
  fresh (tree ratio averages ps) = fresh_grid ratio averages (children ps)

  pub children : Plans → List Child
  children stop = []
  children (bare ps) = nothing ∷ children ps
  children (under p ps) = grid (fresh p) ∷ children ps
