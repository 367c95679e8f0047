-- The wrong programs that the document names, each against the demand that shuts it out, on small computed grids.
use mathlib.Core.Path.{◌≡◌, refl, sym, ap, ◌∙◌, subst}
use mathlib.Core.Bool.{Bool, true, false, true≢false, false≢true}
use mathlib.Core.List.{List, [], ◌∷◌}
use Prim.Native.Nat.{ℕ}
use native.Mathlib.Omega.{arith}
use lib.Ieee.{Float, binary64, of_bits, to_bits, of_int, add, sub, mul, div, lt, le, eq}
use Rattle.doubles.specs.Numbers.{zero64, one64}
use Rattle.doubles.specs.Count.{count_of}
use Rattle.doubles.specs.Inverse.{inv_of}
use Rattle.careful.specs.Root.{isqrt, squares, root_of}
use Rattle.axis.specs.Edges.{rising, bins_of, well_formed, in_unit, first_upto, bin_of, even_from, even_edges}
use Rattle.axis.proofs.Fresh.{fresh-formed}
use Rattle.axis.proofs.Bins.{bin-rule}
use mathlib.Core.Option.{Option, some}
use mathlib.Core.Option as option
use Rattle.doubles.specs.Finite.{finite_of}
use Rattle.doubles.specs.Total.{all_finite}
use Rattle.doubles.specs.Paper.{Paper, gives, refuses}
use Rattle.accumulator.specs.Record as account
use Rattle.accumulator.specs.Update as iterate
use Rattle.accumulator.specs.Update.{variance_of, processed_of, enough, updated_of}
use Rattle.accumulator.specs.Calls as calls
use Rattle.accumulator.specs.Steps.{zero_count, replaced, added_of, merged_of}
use Rattle.axis.specs.Scans.{all_bounded}
use Rattle.recut.specs.Pairs.{pairwise}
use Rattle.recut.specs.Gather.{joined_count, joined_counts, sum_of}
use Rattle.model.specs.Axes.{Axis, AxesPlan, empty_axis, fresh_axis, fresh_axes}
use Rattle.model.specs.Grid.{Grid, axes}
use Rattle.model.specs.Sound.{sound, all_sound, kept_axis, kept_axis_list, kept_grid, listed, formed_axis, formed_axis_list, formed_grid}
use Rattle.model.specs.Merge.{same_lengths, same_shape, equal_all, equal_edges, equal_grid, merge_bin_records, merge_axis, merge_all, merge_grid, merge_of}
use Rattle.model.specs.Draw.{Sample, weight_at}
use Rattle.model.specs.Train.{fault_of_all, fault_of_axes, fault_of, train_axis, train_all, train_axes, train_grid, numbered, train_of}
use Rattle.lent.specs.State.{own_of}
use Rattle.grid.specs.Address.{Spot, spot, nth, axis_at}
use Rattle.grid.specs.Fresh.{Plan, flat, bins_fit, sized, fresh}
use Rattle.grid.specs.History.{Call, trains, merges, sums, estimates, copies, Word, done, drawing, weight, summary, estimate, reading, waiting, waits, told, leaving, after, onward, run, Entry, entry, same, bin_counts, total_of, counted, tally, since_reset}
use Rattle.grid.specs.Lent.{granted, worded, words}
use Rattle.grid.specs.Demand3.{BinRule, AxisHolds, Demand3}
use Rattle.grid.specs.Order.{NoneHolds}
use Rattle.grid.specs.Programs.{right, built, training, merging, summing, estimating, end_of, words_of, log_of, tests_of, Meets1, Meets2, Meets3, refusing, constant_bin, forgetting, sated, one_more, boasting, first_below, right_bin, level, level_formed, joined_all, joined_grid, joining, clamped_error, clamping, written_upto, written_grid, hasty}
use Rattle.grid.proofs.Kept.{refused_none}
use Rattle.grid.proofs.FreshGrids.{sound-fresh}

abbrev half : Float
half = of_bits binary64 0x3fe0_0000_0000_0000

-- ---- one constant bin: the bin rule puts 1 in the last of two bins

two_formed : well_formed (even_edges 2) ≡ true
two_formed = fresh-formed 2 (omega arith) (omega arith)

-- where the rule's bin is another, a function does not give it
other-bin : (f : List Float → Float → ℕ) (es : List Float) (x : Float) (n m : ℕ) → well_formed es ≡ true → in_unit x ≡ true → bin_of es x ≡ n → f es x ≡ m → (n ≡ m → ⊥) → BinRule f es → ⊥
other-bin f es x n m w u e q z r = z (sym e ∙ ((r x (bin_of es x)).0 ((bin-rule es x (bin_of es x) w).1 (u, refl))).1 ∙ q)

pub one-bin-breaks-3 : BinRule constant_bin (even_edges 2) → ⊥
unfolding constant_bin even_edges even_from count_of bin_of first_upto in_unit of_bits of_int div lt le eq
one-bin-breaks-3 = other-bin constant_bin (even_edges 2) one64 1 0 two_formed refl refl refl (λ z. omega (arith, z))

-- ---- an interior edge counted in the bin to its right

pub right-bin-breaks-3 : BinRule right_bin (even_edges 2) → ⊥
unfolding right_bin first_below even_edges even_from count_of bin_of first_upto in_unit of_bits of_int div lt le eq
right-bin-breaks-3 = other-bin right_bin (even_edges 2) half 0 1 two_formed refl refl refl (λ z. omega (arith, z))

-- ---- edges only checked as non-falling: 0, ½, ½, 1 pass that check, and are no axis's edges

abbrev level-edges : List Float
level-edges = zero64 ∷ (half ∷ (half ∷ (one64 ∷ [])))

pub level-passes : level_formed level-edges ≡ true
unfolding level_formed level bins_of of_bits lt le eq
level-passes = refl

pub level-breaks-3 : (ax : Axis) (n : ℕ) → ax.edges ≡ level-edges → AxisHolds ax n → ⊥
unfolding well_formed rising bins_of of_bits lt le eq
level-breaks-3 ax n e h = let z : well_formed level-edges ≡ false = refl in true≢false (sym h.edges ∙ ap well_formed e ∙ z)

-- ---- a grid of one axis with two bins, and of three; samples of weight 1 at ¼

abbrev flat-plan : AxesPlan
flat-plan = record { bins = 2; least = 100; averages = false; evolution = []; floor = zero64 }

abbrev one-axis : Plan
one-axis = flat 1 flat-plan

abbrev start : Grid
start = fresh one-axis

abbrev quarter : Float
quarter = of_bits binary64 0x3fd0_0000_0000_0000

abbrev sample : Sample
sample = record { path = []; weights = one64 ∷ []; coordinates = quarter ∷ [] }

-- a training with an evaluation of 1, by its number
abbrev train : ℕ → Call
train k = trains sample one64 k

one-axis-sized : sized one-axis ≡ true
unfolding sized bins_fit
one-axis-sized = refl

-- the axis after a history counts what the history says
total-at : (g : Grid) (es : List Entry) (s : Spot) → Demand3 g es → axis_at g [] 0 ≡ some s → total_of s.axis ≡ since_reset s.plan.least [] 0 es
total-at g es s d e = (d.axis [] 0 s e).counts

-- what these calls come to
abbrev once : Grid
once = after start (train 1)

abbrev hit-axis : Axis
hit-axis = train_axis (fresh_axis 2) quarter (mul binary64 one64 one64)

trained : (granted (worded (told start (train 1))) ≡ true) × (granted (worded (told once (train 2))) ≡ true) × ((own_of once).new_samples ≡ 1)
    × (axis_at once [] 0 ≡ some (spot flat-plan hit-axis)) × (total_of hit-axis ≡ 1)
unfolding
    after onward granted worded told leaving own_of axis_at nth total_of bin_counts sum_of
    fresh fresh_axes fresh_axis empty_axis even_edges even_from count_of account.fresh
    train_of numbered fault_of fault_of_axes fault_of_all in_unit finite_of all_finite train_grid train_axes train_all train_axis bin_of first_upto weight_at
    added_of zero_count replaced account.with_waiting account.with_extremes
    kept_grid kept_axis_list kept_axis all_sound all_bounded account.bounded account.well_formed account.finite_sums account.bounded_counts
    of_bits of_int add mul div lt le eq
trained = (refl, refl, refl, refl, refl)

fresh-total : (axis_at start [] 0 ≡ some (spot flat-plan (fresh_axis 2))) × (total_of (fresh_axis 2) ≡ 0)
unfolding fresh fresh_axes fresh_axis empty_axis axis_at nth total_of bin_counts sum_of account.fresh
fresh-total = (refl, refl)

-- ---- refusing everything: there is a call that passes every test, and the model answers it

start-sound : sound start ≡ true
start-sound = sound-fresh one-axis one-axis-sized

pub refusing-breaks-1 : Meets1 refusing → ⊥
unfolding refusing tests_of NoneHolds
refusing-breaks-1 m = let a = (m.ordered start copies start-sound).answered tt in refused_none 12 a.0 a.1

first-granted : List (Paper Word) → Bool
first-granted [] = false
first-granted (p ∷ ps) = granted p

pub refusing-breaks-2 : Meets2 refusing → ⊥
unfolding refusing words_of words told worded granted first-granted
refusing-breaks-2 m = false≢true (ap first-granted (m.answers one-axis (copies ∷ []) one-axis-sized))

-- ---- training that stores nothing: an accepted sample is not counted, and the model's grid has it

pub forgetting-breaks-3 : Meets3 (training forgetting) → ⊥
unfolding built forgetting end_of log_of since_reset tally counted same
forgetting-breaks-3 m =
    let d = m one-axis (train 1 ∷ []) one-axis-sized in
    let e : total_of (fresh_axis 2) ≡ 1 = total-at start _ (spot flat-plan (fresh_axis 2)) d fresh-total.0 ∙ rw trained.0 in
    omega (arith, fresh-total.1, e)

start-waits : (own_of start).new_samples ≡ 0
unfolding own_of fresh fresh_axes account.fresh
start-waits = refl

pub forgetting-breaks-2 : Meets2 (training forgetting) → ⊥
unfolding built forgetting end_of run
forgetting-breaks-2 m = let e : start ≡ once = m.leaves one-axis (train 1 ∷ []) one-axis-sized in omega (arith, ap (λ (g : Grid). (own_of g).new_samples) e, start-waits, trained.2)

-- ---- training only the first sample: two are accepted, and one is counted

sated-once : (sated start sample one64 1).grid ≡ once
unfolding sated
sated-once = rw start-waits

sated-still : (sated once sample one64 2).grid ≡ once
unfolding sated
sated-still = rw trained.2

-- its two trainings, written out
abbrev sated-log : Grid → List Entry
sated-log g = entry (train 1) (granted (worded (told start (train 1)))) ∷ (entry (train 2) (granted (worded (told g (train 2)))) ∷ [])

sated-two : Demand3 (end_of (training sated) start (train 1 ∷ (train 2 ∷ []))) (log_of (training sated) start (train 1 ∷ (train 2 ∷ []))) → Demand3 once (sated-log once)
unfolding built end_of log_of sated
sated-two d =
    let f : (g h : Grid) → g ≡ once → (sated g sample one64 2).grid ≡ h → h ≡ once → Demand3 h (sated-log g) → Demand3 once (sated-log once) =
    λ g h e q z x. subst (λ (y : Grid). Demand3 once (sated-log y)) e (subst (λ (y : Grid). Demand3 y (sated-log g)) z x) in
    f (sated start sample one64 1).grid _ sated-once refl (ap (λ (g : Grid). (sated g sample one64 2).grid) sated-once ∙ sated-still) d

pub sated-breaks-3 : Meets3 (training sated) → ⊥
unfolding since_reset tally counted same
sated-breaks-3 m =
    let d = sated-two (m one-axis (train 1 ∷ (train 2 ∷ [])) one-axis-sized) in
    let e : total_of hit-axis ≡ 2 = total-at once (sated-log once) (spot flat-plan hit-axis) d trained.3 ∙ rw (trained.0, trained.1) in
    omega (arith, trained.4, e)

-- ---- an invented `processed_samples`: the summary of a fresh grid tells of one

word-samples : Word → ℕ
word-samples done = 0
word-samples (drawing d) = 0
word-samples (weight x) = 0
word-samples (summary s) = s.samples
word-samples (estimate e) = 0

told-samples : Paper Word → ℕ
told-samples (gives w) = word-samples w
told-samples (refuses n) = 0

first-samples : List (Paper Word) → ℕ
first-samples [] = 0
first-samples (p ∷ ps) = told-samples p

pub boasting-breaks-2 : Meets2 (summing boasting) → ⊥
unfolding
    first-samples told-samples word-samples built boasting one_more words_of words worded told reading calls.summarize_of calls.summary_of own_of fresh fresh_axes account.fresh
    account.well_formed account.finite_sums account.bounded_counts account.bounded finite_of of_bits lt eq
boasting-breaks-2 m = let e : ◌≡◌ {A = ℕ} 1 0 = ap first-samples (m.answers one-axis (sums ∷ []) one-axis-sized) in omega (arith, e)

-- ---- bin counters merged: the other holds two gathered samples and none waits

abbrev gathered : Axis
gathered = record { edges = even_edges 2; bins = account.fresh ∷ (account.fresh ∷ []); importances = zero64 ∷ (zero64 ∷ []); counters = 1 ∷ (1 ∷ []); recuts = 0 }

abbrev other : Grid
other = axes (record { plan = flat-plan; axes = gathered ∷ []; own = account.fresh })

abbrev joined : Grid
joined = (joining start other).grid

axis-or : Option Spot → Axis
axis-or option.none = gathered
axis-or (some s) = s.axis

merged : (granted (worded (told start (merges other))) ≡ true) × (axis_at joined [] 0 ≡ some (spot flat-plan (axis-or (axis_at joined [] 0)))) × (total_of (axis-or (axis_at joined [] 0)) ≡ 2) × (waits (axis_at other [] 0) ≡ 0)
unfolding
    joining joined_grid joined_all joined_counts pairwise joined_count axis-or waits waiting
    after onward granted worded told leaving own_of axis_at nth total_of bin_counts sum_of
    fresh fresh_axes fresh_axis empty_axis even_edges even_from count_of account.fresh
    merge_of same_shape same_lengths equal_grid equal_edges equal_all merge_grid merge_all merge_axis merge_bin_records merged_of account.with_waiting account.with_extremes
    sound formed_grid formed_axis_list formed_axis listed well_formed rising bins_of finite_of all_finite
    kept_grid kept_axis_list kept_axis all_sound all_bounded account.bounded account.well_formed account.finite_sums account.bounded_counts
    of_bits of_int add mul div lt le eq
merged = (refl, refl, refl, refl)

pub joining-breaks-3 : Meets3 (merging joining) → ⊥
unfolding built end_of log_of joining since_reset tally counted
joining-breaks-3 m =
    let d = m one-axis (merges other ∷ []) one-axis-sized in
    let e : total_of (axis-or (axis_at joined [] 0)) ≡ 0 = total-at joined _ (spot flat-plan (axis-or (axis_at joined [] 0))) d merged.1 ∙ rw (merged.0, merged.3) in
    omega (arith, merged.2, e)

-- ---- a refusal found on axis 3 after axes 1 and 2 were written

abbrev three-axes : Plan
three-axes = flat 3 flat-plan

abbrev wide : Grid
wide = fresh three-axes

-- the third coordinate is 2
abbrev far : Sample
far = record { path = []; weights = one64 ∷ []; coordinates = quarter ∷ (quarter ∷ (of_bits binary64 0x4000_0000_0000_0000 ∷ [])) }

three-sized : sized three-axes ≡ true
unfolding sized bins_fit
three-sized = refl

refused-late : (worded (told wide (trains far one64 1)) ≡ refuses 5) × (total_of (axis-or (axis_at (hasty wide far one64 1).grid [] 0)) ≡ 1) × (total_of (axis-or (axis_at wide [] 0)) ≡ 0)
unfolding
    hasty written_grid written_upto axis-or
    granted worded told leaving axis_at nth total_of bin_counts sum_of
    fresh fresh_axes fresh_axis empty_axis even_edges even_from count_of account.fresh
    train_of numbered fault_of fault_of_axes fault_of_all in_unit finite_of all_finite train_grid train_axes train_all train_axis bin_of first_upto weight_at
    added_of zero_count replaced account.with_waiting account.with_extremes
    of_bits of_int add mul div lt le eq
refused-late = (refl, refl, refl)

pub hasty-breaks-1 : Meets1 (training hasty) → ⊥
unfolding built hasty
hasty-breaks-1 m =
    let e : (hasty wide far one64 1).grid ≡ wide = m.stays wide (trains far one64 1) 5 (sound-fresh three-axes three-sized) refused-late.0 in
    omega (arith, ap (λ (g : Grid). total_of (axis-or (axis_at g [] 0))) e, refused-late.1, refused-late.2)

-- ---- the variance clamped at zero: three samples of 0.1 have a NaN for their error, as rounding takes the variance below zero

abbrev tenth : ℕ → Call
tenth k = trains sample (of_bits binary64 0x3fb9_9999_9999_999a) k

abbrev tenths : List Call
tenths = tenth 1 ∷ (tenth 2 ∷ (tenth 3 ∷ (estimates ∷ [])))

word_flat : Word → Bool
word_flat done = false
word_flat (drawing d) = false
word_flat (weight x) = false
word_flat (summary s) = false
word_flat (estimate e) = eq e.err zero64

told-flat : Paper Word → Bool
told-flat (gives w) = word_flat w
told-flat (refuses n) = false

-- whether the last answer tells of no error
last_flat : List (Paper Word) → Bool
last_flat [] = false
last_flat (p ∷ []) = told-flat p
last_flat (p ∷ (q ∷ ps)) = last_flat (q ∷ ps)

clamped : (last_flat (words start tenths) ≡ false) × (last_flat (words_of (estimating clamping) start tenths) ≡ true)
unfolding
    last_flat told-flat word_flat words words_of built right clamping clamped_error calls.estimates_of calls.live_estimate_of variance_of iterate.weight_of processed_of enough updated_of account.raised
    root_of isqrt squares inv_of after onward granted worded told reading leaving own_of
    fresh fresh_axes fresh_axis empty_axis even_edges even_from count_of account.fresh
    train_of numbered fault_of fault_of_axes fault_of_all in_unit finite_of all_finite train_grid train_axes train_all train_axis bin_of first_upto weight_at
    added_of zero_count replaced account.with_waiting account.with_extremes
    kept_grid kept_axis_list kept_axis all_sound all_bounded account.bounded account.well_formed account.finite_sums account.bounded_counts
    of_bits to_bits of_int add sub mul div lt le eq
clamped = (refl, refl)

pub clamping-breaks-2 : Meets2 (estimating clamping) → ⊥
clamping-breaks-2 m = true≢false (sym clamped.1 ∙ ap last_flat (m.answers one-axis tenths one-axis-sized) ∙ clamped.0)
