-- A grid in lent memory, as the struct says: what stands where, and what is read there.
use Rattle.std.specs.Prelude.{ℕ, ◌+◌, ◌^◌, ◌<◌, length, get_or}
use Rattle.model.specs.Grid.{Grid, Head, Bin, Bins, Child}
use Rattle.model.specs.Axes.{AxesGrid}
use Rattle.lent.specs.declared.Lent.{Lent}
use Rattle.lent.specs.Tree.{axes_grid_at, head_at, bin_in, child_in, bins_in, grid_at, AxesLaid, BinsLaid, Laid}
use Rattle.lent.specs.Sampled.{ChildLaid}
use Rattle.lent.specs.State.{root_of}

-- the run of a grid lies at word w, with all below it, and so many levels left
abbrev pub LaidAt : Lent → ℕ → ℕ → Type 0
LaidAt m level w = Laid level m.table.now (length m.reals.now) (length m.counts.now) w

-- the run of a bins grid, whose children have so many levels left
abbrev pub BinsLaidAt : Lent → ℕ → ℕ → Type 0
BinsLaidAt m level w = BinsLaid (Laid level m.table.now (length m.reals.now) (length m.counts.now)) m.table.now (length m.reals.now) (length m.counts.now) w

-- the run of an axes grid
abbrev pub AxesLaidAt : Lent → ℕ → Type 0
AxesLaidAt m w = AxesLaid m.table.now (length m.reals.now) (length m.counts.now) w

-- a word of the table
abbrev pub word_at : Lent → ℕ → ℕ
word_at m i = get_or m.table.now i 0

-- the grid whose run begins at word w
abbrev pub grid_in : Lent → ℕ → ℕ → Grid
grid_in m level w = grid_at level m.table.now m.reals.now m.counts.now w

-- what hangs at a link
abbrev pub hung_at : Lent → ℕ → ℕ → Child
hung_at m level link = child_in (grid_at level m.table.now m.reals.now m.counts.now) link

-- the bins of the bins grid at word w
abbrev pub bins_at : Lent → ℕ → ℕ → Bins
bins_at m level w = bins_in (grid_at level m.table.now m.reals.now m.counts.now) m.table.now m.reals.now m.counts.now w 0 (get_or m.table.now (w + 2) 0)

-- what a bins grid keeps of its own, a bin of it, and an axes grid
abbrev pub head_in : Lent → ℕ → Head
head_in m w = head_at m.table.now m.reals.now m.counts.now w

abbrev pub bin_of : Lent → ℕ → ℕ → Bin
bin_of m w i = bin_in m.table.now m.reals.now m.counts.now w i

abbrev pub axes_in : Lent → ℕ → AxesGrid
axes_in m w = axes_grid_at m.table.now m.reals.now m.counts.now w

-- the whole grid
abbrev pub root_in : Lent → Grid
root_in m = root_of m.table.now m.reals.now m.counts.now

-- what hangs at a link lies there: nothing at 0
abbrev pub ChildLaidAt : Lent → ℕ → ℕ → Type 0
ChildLaidAt m level link = ChildLaid level m.table.now (length m.reals.now) (length m.counts.now) link

-- its table is one of words, as every slice of them is
abbrev pub Worded : Lent → Type 0
Worded m = (i : ℕ) → get_or m.table.now i 0 < 2 ^ 64
