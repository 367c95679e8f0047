-- Where a bin of a bins grid stands in lent memory: its probability, and the reals and counts of its accumulator.
use Rattle.std.specs.Prelude.{ℕ, ◌+◌, ◌*◌, ◌^◌, ◌≤◌, ◌<◌, List, length, get_or}
use Rattle.merges.specs.declared.bins.BinAt.{BinAt}

unfoldable pub bin_place : List ℕ → ℕ → ℕ → BinAt
bin_place table w i =
    record {
      chance = get_or table (w + 5) 0 + 14 + i;
      reals = get_or table (w + 5) 0 + 14 + get_or table (w + 2) 0 + 14 * i;
      counts = get_or table (w + 6) 0 + 7 + 7 * i;
    }

-- the grid's run lies in the table, i is one of its bins, and its places are none past 2^63
abbrev pub Placed : List ℕ → ℕ → ℕ → Type 0
Placed table w i =
    (w + 7 ≤ length table) × (i < get_or table (w + 2) 0) × (get_or table (w + 5) 0 + 14 + 15 * get_or table (w + 2) 0 ≤ 2 ^ 63) × (get_or table (w + 6) 0 + 7 + 7 * get_or table (w + 2) 0 ≤ 2 ^ 63)
