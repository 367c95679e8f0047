-- A plan: one grid, in which each bin carries nothing, an axes grid or another bins grid.
use Rattle.std.specs.Prelude.{ℕ, suc, List}
use Rattle.plan.specs.declared.AxesPlan.{AxesPlan}
use Rattle.plan.specs.declared.BinsPlan.{BinsPlan}

mutual
  -- what hangs at a bin: nothing; an axes grid with its bin evolution; a bins grid with its children in order
  pub data Tree : Type 0 where
    nothing : Tree
    axes : AxesPlan → List ℕ → Tree
    bins : BinsPlan → Trees → Tree

  pub data Trees : Type 0 where
    none : Trees
    more : Tree → Trees → Trees

unfoldable pub count : Trees → ℕ
count none = 0
count (more t ts) = suc (count ts)
