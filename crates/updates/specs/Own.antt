-- What an update does to a grid whose run is read already: its numbers and places in place of the table.
use Rattle.std.specs.Prelude.{ℕ, zero, suc, ◌+◌, ◌-◌, ◌*◌, ◌≤◌, Bool, true, false, not, ◌&&◌, ◌||◌, cond, List, [], ◌∷◌, eqb, length, get_or, Float}
use Rattle.std.specs.Float.{binary64}
use Rattle.std.specs.Float.Ieee.{of_bits, eq}
use Rattle.doubles.specs.Numbers.{zero64}
use Rattle.recut.specs.Chances.{all_chances, adapted_to}
use Rattle.accumulator.specs.declared.StatisticsAccumulator.{StatisticsAccumulator}
use Rattle.model.specs.Update.{Outcome, idle, raw_of}
use Rattle.lent.specs.declared.AxesAt.{AxesAt}
use Rattle.lent.specs.declared.Rule.{Rule}
use Rattle.lent.specs.Memory.{Memory, memory, put, record_at}
use Rattle.lent.specs.Judged.{AllUpto, axes_fit}
use Rattle.lent.specs.Renewed.{finding, update_all_at}
use Rattle.lent.specs.Adapted.{followed, account_updated}
use Rattle.updates.specs.declared.adapting.BinsAt.{BinsAt}

-- ---- a bins grid

unfoldable pub bins_place : List ℕ → ℕ → BinsAt
bins_place table w =
    record {
      bins = get_or table (w + 2) 0;
      ratio = of_bits binary64 (get_or table (w + 3) 0);
      averages = eqb (get_or table (w + 4) 0) 1;
      reals = get_or table (w + 5) 0;
      counts = get_or table (w + 6) 0;
    }

-- its accumulators and probabilities lie within R reals and C counts
pub record BinsFit (b : BinsAt) (R C : ℕ) : Type 0 where
  pub most : b.bins ≤ 256
  pub room : b.reals + 14 + 15 * b.bins ≤ R
  pub places : b.counts + 7 + 7 * b.bins ≤ C

-- the accumulator of bin i
unfoldable pub bin_own : BinsAt → Memory → ℕ → StatisticsAccumulator
bin_own b s i = record_at s.reals s.counts (b.reals + 14 + b.bins + 14 * i) (b.counts + 7 + 7 * i)

-- the accumulators of n bins from bin i on, those of all bins beginning at r and c
unfoldable pub bins_updated : ℕ → ℕ → ℕ → ℕ → Memory → Outcome Memory
bins_updated r c i zero s = finding false false s
bins_updated r c i (suc n) s = followed (account_updated (r + 14 * i) (c + 7 * i) s) (bins_updated r c (i + 1) n)

-- of n bins from bin i on: whether they leave nothing to adapt to, and their raw probabilities
unfoldable pub bins_idle : BinsAt → Memory → ℕ → ℕ → Bool
bins_idle b s i zero = true
bins_idle b s i (suc n) = idle b.averages (bin_own b s i) && bins_idle b s (i + 1) n

unfoldable pub bins_raws : BinsAt → Memory → ℕ → ℕ → List Float
bins_raws b s i zero = []
bins_raws b s i (suc n) = raw_of b.averages (bin_own b s i) ∷ bins_raws b s (i + 1) n

-- its probabilities, 9 where one is not finite and above 0
unfoldable pub chances_left : BinsAt → List Float → Memory → Outcome Memory
chances_left b ps s = finding false (not (all_chances ps)) (memory (put (b.reals + 14) (length ps) ps s.reals) s.counts)

unfoldable pub chances_of : BinsAt → Memory → Outcome Memory
chances_of b s = chances_left b (adapted_to b.ratio (bins_raws b s 0 b.bins)) s

-- its probabilities and its own accumulator, but for an early return
unfoldable pub own_adapted : BinsAt → Float → Memory → Outcome Memory
own_adapted b rate s =
    cond (eq rate zero64 || bins_idle b s 0 b.bins) (finding false false s)
    (followed (chances_of b s) (account_updated b.reals b.counts))

-- ---- an axes grid

-- its numbers are within their bounds, and its axes and its own accumulator before them lie within R reals and C counts
pub record AxesFit (g : AxesAt) (rule : Rule) (values : List ℕ) (R C : ℕ) : Type 0 where
  pub axes : g.axes ≤ 8
  pub most : g.most ≤ 1024
  pub upto : AllUpto g.most (rule.bins ∷ values)
  pub own : 14 ≤ g.reals
  pub tallies : 7 ≤ g.counts
  pub room : g.reals + g.axes * (6 * g.most + 1) ≤ R
  pub places : g.counts + g.axes * (3 * g.most + 2) ≤ C

-- its axes, where they are well formed, then its own accumulator
unfoldable pub axes_own : AxesAt → Rule → List ℕ → Float → Memory → Outcome Memory
axes_own g rule values rate s =
    cond (axes_fit (rule.bins ∷ values) g.most s.reals s.counts g.axes g.reals g.counts)
    (followed (update_all_at rule values rate g.most g.axes g.reals g.counts s) (account_updated (g.reals - 14) (g.counts - 7)))
    (finding true false s)
