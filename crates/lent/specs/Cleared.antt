-- Grids in lent memory without what waits: an accumulator's samples, those in the bins of axes, and a root's own.
use Rattle.std.specs.Prelude.{ℕ, zero, suc, ◌+◌, ◌*◌, cond, List, eqb, get_or, set, replicate}
use Rattle.doubles.specs.Numbers.{zero64}
use Rattle.lent.specs.declared.AxesAt.{AxesAt}
use Rattle.lent.specs.Memory.{Memory, memory, over_axes}
use Rattle.lent.specs.Laid.{waitless_at}
use Rattle.lent.specs.Tree.{axes_place}

-- nothing waits in the bins that the axis at r and c now holds; the room past them stays
unfoldable pub clear_at : ℕ → ℕ → ℕ → Unit {0} → Memory → Memory
clear_at m r c u s = waitless_at m r c (get_or s.counts c 0) s

unfoldable pub cleared_memory : AxesAt → Memory → Memory
cleared_memory g s = over_axes (clear_at g.most) g.most (replicate g.axes tt) g.reals g.counts s

-- nothing waits in the accumulator at r and c: its sum, its squares, its samples and zeros are 0
unfoldable pub cleared_at : ℕ → ℕ → Memory → Memory
cleared_at r c s = memory (set (set s.reals r zero64) (r + 1) zero64) (set (set s.counts c 0) (c + 1) 0)

-- in an axes grid's axes, nor in its own accumulator
unfoldable pub cleared_axes : List ℕ → ℕ → Memory → Memory
cleared_axes table w s = cleared_at (get_or table (w + 9) 0) (get_or table (w + 10) 0) (cleared_memory (axes_place table w) s)

-- in n bins of a bins grid from bin i on; what hangs there stays
unfoldable pub cleared_from : List ℕ → ℕ → ℕ → ℕ → Memory → Memory
cleared_from table w i zero s = s
cleared_from table w i (suc n) s =
    cleared_from table w (i + 1) n (cleared_at (get_or table (w + 5) 0 + 14 + get_or table (w + 2) 0 + 14 * i) (get_or table (w + 6) 0 + 7 + 7 * i) s)

-- in all of them, nor in its own
unfoldable pub cleared_own : List ℕ → ℕ → Memory → Memory
cleared_own table w s = cleared_at (get_or table (w + 5) 0) (get_or table (w + 6) 0) (cleared_from table w 0 (get_or table (w + 2) 0) s)

unfoldable pub cleared_root : List ℕ → Memory → Memory
cleared_root table s = cond (eqb (get_or table 0 0) 1) (cleared_axes table 0 s) (cleared_own table 0 s)
