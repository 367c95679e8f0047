-- Histories worked out: after each call what an axis's bin counts total, and what its history has counted, as numbers.
use mathlib.Core.Path.{◌≡◌, refl}
use mathlib.Core.Bool.{false, cond}
use mathlib.Core.List.{List, [], ◌∷◌}
use mathlib.Core.Option.{Option, some}
use mathlib.Core.Option as option
use Prim.Native.Nat.{ℕ, ◌+◌}
use lib.Ieee.{Float, nan, binary64, of_bits, to_bits, of_int, add, sub, mul, div, lt, le, eq}
use Rattle.doubles.specs.Numbers.{zero64, one64}
use Rattle.doubles.specs.Count.{count_of}
use Rattle.doubles.specs.Inverse.{inv_of}
use Rattle.careful.specs.Root.{isqrt, squares, root_of}
use Rattle.doubles.specs.Finite.{finite_of}
use Rattle.doubles.specs.Total.{all_finite}
use Rattle.accumulator.specs.Record as account
use Rattle.accumulator.specs.Steps.{zero_count, replaced, added_of, merged_of, cleared_of}
use Rattle.accumulator.specs.Update as iterate
use Rattle.accumulator.specs.Update.{variance_of, processed_of, enough, updated_of}
use Rattle.axis.specs.Edges.{rising, bins_of, well_formed, in_unit, first_upto, bin_of, even_from, even_edges}
use Rattle.axis.specs.Scans.{all_bounded}
use Rattle.recut.specs.Pairs.{pairwise}
use Rattle.recut.specs.Gather.{gathered_of, joined_count, joined_counts, sum_of, reaches_of}
use Rattle.model.specs.Axes.{empty_axis, fresh_axis, fresh_axes, cleared_axis, copy_axes}
use Rattle.model.specs.Grid.{Grid, many, fresh_bin, fresh_bins, fresh_head, fresh_grid, with_head, with_bin, cleared_bins, copy_grid}
use Rattle.model.specs.Sound.{sound, all_sound, kept_axis, kept_axis_list, kept_grid, kept_bins, kept_child, listed, formed_axis, formed_axis_list, formed_grid}
use Rattle.model.specs.Draw.{weight_at}
use Rattle.model.specs.Train.{fault_of_all, fault_of_axes, fault_of, fault_of_bin, fault_of_child, train_axis, train_all, train_axes, train_grid, train_bin, train_child, numbered, train_of}
use Rattle.model.specs.Merge.{same_lengths, same_shape, equal_all, equal_edges, equal_grid, merge_bin_records, merge_axis, merge_all, merge_grid, merge_of}
use Rattle.model.specs.Update.{gathered_axis, last_or, bins_after, adapted_axis, update_axis, update_all, update_axes, update_grid, rate_fits, update_of}
use Rattle.model.specs.Update as update
use Rattle.grid.specs.Address.{Spot, nth, axis_at, axis_in, axis_under}
use Rattle.grid.specs.Fresh.{Plan, flat, tree, stop, bare, under, fresh, children}
use Rattle.grid.specs.History.{Call, trains, updates, merges, copies, lacks, told, leaving, onward, after, given, Count, count, is, same, waiting, waits, bin_counts, total_of, counted}

-- what the axis at a path's end holds
pub held : Option Spot → ℕ
held option.none = 0
held (some s) = total_of s.axis

-- after each call: what it holds, and what the history has counted
pub story : Grid → List ℕ → Count → List Call → List (List ℕ)
story g p c [] = []
story g p c (x ∷ xs) =
    let d = cond (given (told g x)) (counted 3 p 0 x c) c in
    let h = after g x in
    (held (axis_at h p 0) ∷ ((d.old + d.new) ∷ [])) ∷ story h p d xs

-- two bins, at least three samples
abbrev plan : Plan
plan = flat 1 (record { bins = 2; least = 3; averages = false; evolution = []; floor = zero64 })

abbrev quarter : Float
quarter = of_bits binary64 0x3fd0_0000_0000_0000

-- a sample of weight 1 at x; its evaluation is 1
abbrev flatly : Float → Call
flatly x = trains (record { path = []; weights = one64 ∷ []; coordinates = x ∷ [] }) one64 1

-- in bin i of a bins grid
abbrev below : ℕ → Float → Call
below i x = trains (record { path = i ∷ []; weights = one64 ∷ (one64 ∷ []); coordinates = x ∷ [] }) one64 1

-- accepted; refused, a NaN; a call that lacks its spare; below the least samples; two more, and one that waits merged in; a copy; two more;
-- a reset; one more
abbrev calls : List Call
calls =
    flatly quarter
    ∷ flatly nan
    ∷ lacks 10
    ∷ updates zero64 zero64
    ∷ flatly one64
    ∷ merges (after (fresh plan) (flatly quarter))
    ∷ copies
    ∷ flatly quarter
    ∷ flatly quarter
    ∷ updates zero64 zero64
    ∷ flatly quarter
    ∷ []

abbrev two : ℕ → List ℕ
two n = n ∷ (n ∷ [])

pub flat-story : story (fresh plan) [] (count 0 0) calls ≡ (two 1 ∷ two 1 ∷ two 1 ∷ two 1 ∷ two 2 ∷ two 3 ∷ two 1 ∷ two 2 ∷ two 3 ∷ two 0 ∷ two 1 ∷ [])
unfolding
    story held axis_at axis_in axis_under nth given told leaving onward after is same waiting waits bin_counts total_of counted sum_of
    fresh children fresh_axes fresh_axis empty_axis even_edges even_from count_of account.fresh inv_of
    train_of numbered fault_of fault_of_axes fault_of_all in_unit finite_of all_finite train_grid train_axes train_all train_axis bin_of first_upto weight_at
    added_of zero_count replaced merged_of cleared_of account.with_waiting account.with_extremes account.raised
    kept_grid kept_axis_list kept_axis all_sound all_bounded account.bounded account.well_formed account.finite_sums account.bounded_counts
    sound formed_grid formed_axis_list formed_axis listed well_formed rising bins_of
    merge_of same_shape same_lengths equal_grid equal_edges equal_all merge_grid merge_all merge_axis merge_bin_records
    copy_grid copy_axes cleared_axis
    rate_fits update_of update_grid update_axes update_all update_axis adapted_axis gathered_axis gathered_of pairwise joined_count joined_counts reaches_of update.trained last_or bins_after
    updated_of enough processed_of variance_of iterate.weight_of root_of isqrt squares
    of_bits to_bits of_int add sub mul div lt le eq
flat-story = refl

-- a bins grid with such an axes grid in its first two bins and nothing in the third
abbrev nested : Plan
nested = tree one64 false (under plan (under plan (bare stop)))

-- a path counts where it leads, and a copy keeps what waits in nested grids
abbrev nestedly : List Call
nestedly = below 0 quarter ∷ below 1 quarter ∷ below 1 one64 ∷ below 3 one64 ∷ copies ∷ below 1 quarter ∷ []

pub nested-story : story (fresh nested) (1 ∷ []) (count 0 0) nestedly ≡ (two 0 ∷ two 1 ∷ two 2 ∷ two 2 ∷ two 2 ∷ two 3 ∷ [])
unfolding
    story held axis_at axis_in axis_under nth given told leaving onward after is same waiting waits bin_counts total_of counted sum_of
    fresh children fresh_axes fresh_axis empty_axis even_edges even_from count_of account.fresh inv_of fresh_grid fresh_head fresh_bins fresh_bin many
    train_of numbered fault_of fault_of_bin fault_of_child fault_of_axes fault_of_all in_unit finite_of all_finite train_grid train_bin train_child train_axes train_all train_axis bin_of first_upto weight_at
    added_of zero_count replaced cleared_of account.with_waiting account.with_extremes with_head with_bin
    kept_grid kept_bins kept_child kept_axis_list kept_axis all_sound all_bounded account.bounded account.well_formed account.finite_sums account.bounded_counts
    copy_grid cleared_bins
    of_bits of_int add mul div lt le eq
nested-story = refl
