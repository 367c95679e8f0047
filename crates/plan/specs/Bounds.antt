-- What is known of a place: every grid still to come has its room below a bound, so that no sum wraps.
use Rattle.std.specs.Prelude.{ℕ, ◌+◌, ◌*◌, ◌≤◌, ◌<◌, List, length, get_or}
use Rattle.plan.specs.declared.Place.{Place}
use Rattle.plan.specs.declared.Tally.{Tally}
use Rattle.plan.specs.declared.AxesPlan.{AxesPlan}
use Rattle.plan.specs.declared.BinsPlan.{BinsPlan}

-- a grid takes at most 263 words, 49,174 reals, 24,599 counts and 8,192 bins
pub record Roomy (y : Tally) : Type 0 where
  pub words : y.words + 263 * y.left ≤ 16832
  pub reals : y.reals + 49174 * y.left ≤ 3147136
  pub counts : y.counts + 24599 * y.left ≤ 1574336
  pub bins : y.bins + 8192 * y.left ≤ 524288

-- every element of a list is a byte
abbrev pub Bytes : List ℕ → Type 0
Bytes bs = (i : ℕ) → get_or bs i 0 < 256

-- a place within the bytes
pub record Inside (bs : List ℕ) (p : Place) : Type 0 where
  pub small : Bytes bs
  pub reach : p.at ≤ length bs
  pub roomy : Roomy p.tally

-- a judged grid that is to be taken
pub record AxesFit (a : AxesPlan) (y : Tally) : Type 0 where
  pub some : 0 < y.left
  pub room : Roomy y
  pub axes : a.axes ≤ 8
  pub most : a.most ≤ 1024
  pub values : a.values ≤ 16

pub record BinsFit (b : BinsPlan) (y : Tally) : Type 0 where
  pub some : 0 < y.left
  pub room : Roomy y
  pub bins : b.bins ≤ 256
