-- A value that joins an accumulator: which of the record after it may fail.
use mathlib.Core.Path.{◌≡◌, refl}
use mathlib.Core.Bool.{Bool, true, false, ◌&&◌}
use Prim.Native.Nat.{ℕ, ◌+◌, ◌^◌}
use borrow.Author.Tests.{le-leb}
use lib.Dec.{leb}
use lib.Ieee.{Float, binary64, add, mul}
use Rattle.doubles.specs.Finite.{finite_of}
use Rattle.doubles.proofs.Truth.{both}
use Rattle.accumulator.specs.declared.StatisticsAccumulator.{StatisticsAccumulator}
use Rattle.accumulator.specs.Record.{finite_sums, bounded, bounded_counts, well_formed, with_waiting, with_extremes}
use Rattle.accumulator.specs.Steps.{zero_count, added_of}
use Rattle.accumulator.proofs.Counts.{within, counts_of_lem}

regroup : (x p q : Bool) → ((x && true && true) && ((((p && q) && true) && true) && true)) ≡ ((x && p) && q)
regroup true true true = refl
regroup true true false = refl
regroup true false q = refl
regroup false p q = refl

-- a well-formed record with v added is well formed exactly where what changes may be kept
pub added-fits : (a : StatisticsAccumulator) (v : Float) (k : ℕ) → well_formed a ≡ true
    → well_formed (added_of a v k) ≡ (((finite_of (add binary64 a.sum v) && finite_of (add binary64 a.sum_sq (mul binary64 v v))) && leb (a.new_samples + 1) (2 ^ 53)) && leb (a.new_zero_evaluations + zero_count v) (2 ^ 53))
unfolding well_formed finite_sums bounded_counts bounded added_of with_waiting with_extremes
added-fits a v k well =
    let b = within a (counts_of_lem a well) in
    let f = both ((finite_of a.sum && finite_of a.sum_sq) && finite_of a.total_sum) (finite_of a.total_sum_sq) (both (finite_sums a) (bounded_counts a) well).0 in
    let g = both (finite_of a.sum && finite_of a.sum_sq) (finite_of a.total_sum) f.0 in
    rw (f.1, g.1, le-leb _ _ b.zeros, le-leb _ _ b.processed, le-leb _ _ b.iterations)
    (regroup (finite_of (add binary64 a.sum v) && finite_of (add binary64 a.sum_sq (mul binary64 v v))) (leb (a.new_samples + 1) (2 ^ 53)) (leb (a.new_zero_evaluations + zero_count v) (2 ^ 53)))
