-- What a plan needs of each lent slice: the words of its table, reals and counts, each axis at its largest bin number.
use Rattle.std.specs.Prelude.{ℕ, zero, suc, ◌+◌, ◌-◌, ◌*◌}
use Rattle.plan.specs.declared.AxesPlan.{AxesPlan}
use Rattle.plan.specs.declared.BinsPlan.{BinsPlan}
use Rattle.plan.specs.declared.Tally.{Tally}
use Rattle.plan.specs.declared.Needs.{Needs}
use Rattle.plan.specs.Plan.{Tree, Trees, nothing, axes, bins, none, more}

-- an axes grid: its own accumulator; for each axis edges, importances, sums, squares and two extremes
unfoldable pub axes_reals : AxesPlan → ℕ
axes_reals a = 14 + a.axes * (6 * a.most + 1)

-- its own accumulator; for each axis bins now held, re-cuts, waiting samples, waiting zeros and counters
unfoldable pub axes_counts : AxesPlan → ℕ
axes_counts a = 7 + a.axes * (3 * a.most + 2)

-- a bins grid: its own accumulator; for each bin a probability and an accumulator
unfoldable pub bins_reals : BinsPlan → ℕ
bins_reals b = 14 + 15 * b.bins

unfoldable pub bins_counts : BinsPlan → ℕ
bins_counts b = 7 + 7 * b.bins

-- what is taken once a grid is there: one grid fewer may come, its record and stretches are taken
unfoldable pub axes_taken : AxesPlan → Tally → Tally
axes_taken a y = record {
  left = y.left - 1;
  words = y.words + (11 + a.values);
  reals = y.reals + axes_reals a;
  counts = y.counts + axes_counts a;
  bins = y.bins + a.axes * a.most;
}

unfoldable pub bins_taken : BinsPlan → Tally → Tally
bins_taken b y = record {
  left = y.left - 1;
  words = y.words + (7 + b.bins);
  reals = y.reals + bins_reals b;
  counts = y.counts + bins_counts b;
  bins = y.bins + b.bins;
}

-- the same for what hangs below a place
unfoldable mutual
  pub after : Tree → Tally → Tally
  after nothing y = y
  after (axes a es) y = axes_taken a y
  after (bins b ts) y = after_all ts (bins_taken b y)

  pub after_all : Trees → Tally → Tally
  after_all none y = y
  after_all (more t ts) y = after_all ts (after t y)

-- the i-th child, nothing past the last; and what is taken where it begins
unfoldable pub child_at : Trees → ℕ → Tree
child_at none i = nothing
child_at (more t ts) zero = t
child_at (more t ts) (suc i) = child_at ts i

unfoldable pub before : Trees → ℕ → Tally → Tally
before none i y = y
before (more t ts) zero y = y
before (more t ts) (suc i) y = before ts i (after t y)

-- 64 grids may come
abbrev pub untaken : Tally
untaken = record { left = 64; words = 0; reals = 0; counts = 0; bins = 0 }

-- the needs of all that is taken
unfoldable pub needs_of : Tally → Needs
needs_of y = record { words = y.words; reals = y.reals; counts = y.counts; bins = y.bins }
