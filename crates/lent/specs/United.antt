-- Merging a tree into another in lent memory: what a grid keeps of its own takes the other's waiting samples, then what hangs below it.
-- Two that have not the same form stay as they are; so does a record whose merge the accumulator refuses.
use Rattle.std.specs.Prelude.{ℕ, zero, suc, ◌+◌, ◌*◌, ◌≤◌, cond, List, eqb, length, get_or}
use Rattle.doubles.specs.Paper.{Paper, gives, refuses}
use Rattle.accumulator.specs.declared.StatisticsAccumulator.{StatisticsAccumulator}
use Rattle.accumulator.specs.Calls.{merge_of}
use Rattle.lent.specs.Memory.{Memory, record_at, stored}
use Rattle.lent.specs.Merged.{merged_memory}
use Rattle.lent.specs.Tree.{axes_place}

-- an accumulator's answer laid at r and c
unfoldable pub stored_by : ℕ → ℕ → Paper StatisticsAccumulator → Memory → Memory
stored_by r c (gives a) s = stored r c a s
stored_by r c (refuses n) s = s

-- the record at r and c takes the waiting samples of the other's at q and d
unfoldable pub joined_record : ℕ → ℕ → ℕ → ℕ → Memory → Memory → Memory
joined_record r c q d others s = stored_by r c (merge_of (record_at s.reals s.counts r c) (record_at others.reals others.counts q d)) s

module _ (table other : List ℕ) (others : Memory) where
  -- two axes grids
  unfoldable pub united_axes : ℕ → ℕ → Memory → Memory
  united_axes w v s =
      cond (eqb (axes_place table w).axes (axes_place other v).axes)
      (merged_memory (axes_place table w) (axes_place other v) others (joined_record (get_or table (w + 9) 0) (get_or table (w + 10) 0) (get_or other (v + 9) 0) (get_or other (v + 10) 0) others s)) s

  -- bin i of two bins grids
  unfoldable pub united_bin : ℕ → ℕ → ℕ → Memory → Memory
  united_bin w v i s =
      joined_record (get_or table (w + 5) 0 + 14 + get_or table (w + 2) 0 + 14 * i) (get_or table (w + 6) 0 + 7 + 7 * i) (get_or other (v + 5) 0 + 14 + get_or other (v + 2) 0 + 14 * i)
      (get_or other (v + 6) 0 + 7 + 7 * i) others s

  -- n bins from bin i on
  unfoldable pub united_bins : ℕ → ℕ → ℕ → ℕ → Memory → Memory
  united_bins w v i zero s = s
  united_bins w v i (suc n) s = united_bins w v (i + 1) n (united_bin w v i s)

  -- two bins grids' own: their accumulators and their bins', not what hangs there
  unfoldable pub united_own : ℕ → ℕ → Memory → Memory
  united_own w v s = united_bins w v 0 (get_or table (w + 2) 0) (joined_record (get_or table (w + 5) 0) (get_or table (w + 6) 0) (get_or other (v + 5) 0) (get_or other (v + 6) 0) others s)

  -- what hangs at two links
  unfoldable pub united_child : (ℕ → ℕ → Memory → Memory) → ℕ → ℕ → Memory → Memory
  united_child f link far s = cond (eqb link 0) s (cond (eqb far 0) s (f link far s))

  -- at n links from link i on
  unfoldable pub united_children : (ℕ → ℕ → Memory → Memory) → ℕ → ℕ → ℕ → ℕ → Memory → Memory
  united_children f w v i zero s = s
  united_children f w v i (suc n) s = united_children f w v (i + 1) n (united_child f (get_or table (w + 7 + i) 0) (get_or other (v + 7 + i) 0) s)

  unfoldable pub united_node : (ℕ → ℕ → Memory → Memory) → ℕ → ℕ → Memory → Memory
  united_node f w v s =
      cond (eqb (get_or table w 0) 1) (cond (eqb (get_or other v 0) 1) (united_axes w v s) s)
      (cond (eqb (get_or other v 0) 1) s
      (cond (eqb (get_or table (w + 2) 0) (get_or other (v + 2) 0)) (united_children f w v 0 (get_or table (w + 2) 0) (united_own w v s)) s))

  -- the grids whose runs begin at words w and v, with so many levels left
  unfoldable pub united_grid : ℕ → ℕ → ℕ → Memory → Memory
  united_grid zero w v s = united_axes w v s
  united_grid (suc l) w v s = united_node (united_grid l) w v s

-- a bins grid's own lies within R reals and C counts
pub record OwnRoom (table : List ℕ) (R C w : ℕ) : Type 0 where
  pub head : w + 7 ≤ length table
  pub room : get_or table (w + 5) 0 + 14 + 15 * get_or table (w + 2) 0 ≤ R
  pub places : get_or table (w + 6) 0 + 7 + 7 * get_or table (w + 2) 0 ≤ C
