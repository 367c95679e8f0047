-- A sample taken into a tree in lent memory: which grids take it, and what it leaves, run by run along its path.
use Rattle.std.specs.Prelude.{◌≡◌, true, cond, List, ℕ, zero, suc, ◌+◌, ◌-◌, ◌*◌, eqb, get_or, set, Float}
use Rattle.std.specs.Float.{nan, binary64}
use Rattle.std.specs.Float.Ieee.{mul}
use Rattle.doubles.specs.Paper.{Paper, gives, refuses}
use Rattle.accumulator.specs.declared.StatisticsAccumulator.{StatisticsAccumulator}
use Rattle.accumulator.specs.Steps.{added_of}
use Rattle.model.specs.Grid.{Grid, Child}
use Rattle.model.specs.Sound.{sound}
use Rattle.model.specs.Train.{fault_of, fault_of_child, numbered}
use Rattle.lent.specs.declared.Sample.{Sample}
use Rattle.lent.specs.declared.Gain.{Gain}
use Rattle.lent.specs.Memory.{Memory, memory, record_at}
use Rattle.lent.specs.Drawn.{axes_at}
use Rattle.lent.specs.Tree.{axes_place}
use Rattle.lent.specs.Sampled.{entries, sound_child}
use Rattle.lent.specs.Trained.{bins_on, trained_over}

-- ---- what is left of a sample below d bins grids

abbrev pub path_left : Sample → ℕ → List ℕ
path_left s d = entries 0 s.path d (s.levels - d)

abbrev pub weights_left : Sample → ℕ → List Float
weights_left s d = entries nan s.weights d (s.given - d)

abbrev pub places_in : Sample → List Float
places_in s = entries nan s.coordinates 0 s.axes

-- the fault of its form at the root: 0 where it has the grid's
abbrev pub form_of : Grid → Sample → ℕ
form_of g s = fault_of g (path_left s 0) (weights_left s 0) (places_in s)

-- ---- a grid takes a sample: it is well formed, the sample has its form, and the sample's number is one

pub record Takes (g : Grid) (s : Sample) (d n : ℕ) : Type 0 where
  pub well : sound g ≡ true
  pub form : fault_of g (path_left s d) (weights_left s d) (places_in s) ≡ 0
  pub number : numbered n ≡ true

pub record TakesChild (c : Child) (s : Sample) (d n : ℕ) : Type 0 where
  pub well : sound_child c ≡ true
  pub form : fault_of_child c (path_left s d) (weights_left s d) (places_in s) ≡ 0
  pub number : numbered n ≡ true

-- ---- what it leaves

-- the values of an accumulator that a sample changes
unfoldable pub gain_of : StatisticsAccumulator → Gain
gain_of a =
    record {
      sum = a.sum;
      sum_sq = a.sum_sq;
      new_samples = a.new_samples;
      new_zero_evaluations = a.new_zero_evaluations;
      max_eval_positive = a.max_eval_positive;
      max_eval_positive_number = a.max_eval_positive_number;
      max_eval_negative = a.max_eval_negative;
      max_eval_negative_number = a.max_eval_negative_number;
    }

-- what a value leaves in the record at r and c, as that stands in a memory
unfoldable pub gain_at : ℕ → ℕ → Float → ℕ → Memory → Gain
gain_at r c v number m = gain_of (added_of (record_at m.reals m.counts r c) v number)

-- these values put there; the rest of the record stays
unfoldable pub gained : ℕ → ℕ → Gain → Memory → Memory
gained r c g s =
    memory
    (set (set (set (set s.reals r g.sum) (r + 1) g.sum_sq) (r + 12) g.max_eval_positive) (r + 13) g.max_eval_negative)
    (set (set (set (set s.counts c g.new_samples) (c + 1) g.new_zero_evaluations) (c + 4) g.max_eval_positive_number) (c + 5) g.max_eval_negative_number)

-- an axes grid: weight · evaluation in a bin of each axis, evaluation · weight in its own accumulator
unfoldable pub absorbed_axes : List ℕ → Sample → Float → ℕ → ℕ → ℕ → Memory → Memory
absorbed_axes table s e number w d m =
    gained (get_or table (w + 9) 0) (get_or table (w + 10) 0) (gain_at (get_or table (w + 9) 0) (get_or table (w + 10) 0) (mul binary64 e (get_or s.weights d nan)) number m)
    (trained_over (axes_place table w) (mul binary64 (get_or s.weights d nan) e) (bins_on (axes_at m.reals m.counts (axes_place table w)) (places_in s)) m)

-- what hangs at a link
unfoldable pub absorbed_child : (ℕ → ℕ → Memory → Memory) → ℕ → ℕ → Memory → Memory
absorbed_child f link d m = cond (eqb link 0) m (f link d m)

-- a bins grid: (weight · probability) · evaluation in the bin's accumulator, evaluation · weight in its own; then what hangs at the bin
unfoldable pub absorbed_bin : (ℕ → ℕ → Memory → Memory) → List ℕ → Float → Float → ℕ → ℕ → ℕ → ℕ → Memory → Memory
absorbed_bin f table weight e number w d i m =
    absorbed_child f (get_or table (w + 7 + i) 0) (d + 1)
    (gained (get_or table (w + 5) 0) (get_or table (w + 6) 0) (gain_at (get_or table (w + 5) 0) (get_or table (w + 6) 0) (mul binary64 e weight) number m)
    (gained (get_or table (w + 5) 0 + 14 + get_or table (w + 2) 0 + 14 * i) (get_or table (w + 6) 0 + 7 + 7 * i)
    (gain_at (get_or table (w + 5) 0 + 14 + get_or table (w + 2) 0 + 14 * i) (get_or table (w + 6) 0 + 7 + 7 * i)
    (mul binary64 (mul binary64 weight (get_or m.reals (get_or table (w + 5) 0 + 14 + i) nan)) e) number m) m))

unfoldable pub absorbed_bins : (ℕ → ℕ → Memory → Memory) → List ℕ → Sample → Float → ℕ → ℕ → ℕ → Memory → Memory
absorbed_bins f table s e number w d m = absorbed_bin f table (get_or s.weights d nan) e number w d (get_or s.path d 0) m

unfoldable pub absorbed_node : (ℕ → ℕ → Memory → Memory) → List ℕ → Sample → Float → ℕ → ℕ → ℕ → Memory → Memory
absorbed_node f table s e number w d m = cond (eqb (get_or table w 0) 1) (absorbed_axes table s e number w d m) (absorbed_bins f table s e number w d m)

-- the grid whose run begins at word w, with so many levels left, below d bins grids
unfoldable pub absorbed : ℕ → List ℕ → Sample → Float → ℕ → ℕ → ℕ → Memory → Memory
absorbed zero table s e number w d m = absorbed_axes table s e number w d m
absorbed (suc l) table s e number w d m = absorbed_node (absorbed l table s e number) table s e number w d m

-- ---- what stands against a sample: 0 where nothing does
unfoldable pub objection_of : Paper Grid → ℕ
objection_of (gives g) = 0
objection_of (refuses n) = n

-- a memory whose root takes a sample where nothing stands against it
unfoldable pub admitted : ℕ → List ℕ → Sample → Float → ℕ → Memory → Memory
admitted n table s e number m = cond (eqb n 0) (absorbed 4 table s e number 0 0 m) m
