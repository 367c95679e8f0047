-- Calls on two places that hold a grid each, told call after call in the words of the oracle's list `tree`: the refusal's number, 0 for none,
-- and after a 0 the answer; after a call that changes a grid its whole state. Doubles are their bits.
use Rattle.std.specs.Prelude.{ℕ, zero, suc, Bool, true, false, not, ◌&&◌, cond, List, [], ◌∷◌, ◌++◌, eqb, length, Float}
use Rattle.std.specs.Float.Ieee as Ieee
use Rattle.std.specs.Float.{binary64}
use Rattle.std.specs.Float.Ieee.{of_bits, to_bits}
use Rattle.doubles.specs.Numbers.{zero64}
use Rattle.plain.specs.Norm as Norm
use Rattle.doubles.specs.Whole as Whole
use Rattle.doubles.specs.Total as Total
use Rattle.doubles.specs.Finite as Finite
use Rattle.doubles.specs.Inverse as Inverse
use Rattle.doubles.specs.Count as Count
use Rattle.careful.specs.Root as Root
use Rattle.real.specs.Ln as Ln
use Rattle.real.specs.Power as Power
use Rattle.doubles.specs.Paper.{Paper, gives, refuses}
use Rattle.stream.specs.declared.MonteCarloRng.{MonteCarloRng}
use Rattle.stream.specs.Words as Words
use Rattle.stream.specs.Xoshiro as Xoshiro
use Rattle.stream.specs.Calls as Stream
use Rattle.accumulator.specs.declared.StatisticsAccumulator.{StatisticsAccumulator}
use Rattle.accumulator.specs.declared.Estimate.{Estimate}
use Rattle.accumulator.specs.declared.Summary.{Summary}
use Rattle.accumulator.specs.Record as Record
use Rattle.accumulator.specs.Steps as Steps
use Rattle.accumulator.specs.Update as Iteration
use Rattle.accumulator.specs.Calls as Accumulator
use Rattle.axis.specs.Edges as Edges
use Rattle.axis.specs.Scans as Scans
use Rattle.axis.specs.Calls as Axis
use Rattle.recut.specs.Pairs as Pairs
use Rattle.recut.specs.Gather as Gather
use Rattle.recut.specs.Weights as Weights
use Rattle.recut.specs.Cut as Cut
use Rattle.recut.specs.Renew as Renew
use Rattle.model.specs.Axes as Axes
use Rattle.model.specs.Grid as Grids
use Rattle.model.specs.Grid.{Grid, Child, axes, bins, none}
use Rattle.model.specs.Sound as Sound
use Rattle.model.specs.Draw as Draw
use Rattle.model.specs.Draw.{Drawing}
use Rattle.model.specs.Probe as Probe
use Rattle.model.specs.Probe.{Coordinate, given}
use Rattle.model.specs.Train as Train
use Rattle.model.specs.Merge as Merge
use Rattle.recut.specs.Chances as Chances
use Rattle.model.specs.Update as Update
use Rattle.stories.specs.Dump as Dump
use Rattle.stories.specs.Dump.{bits_of, doubles_of, grid_words, grid_of}

-- ---- plans

abbrev pub axes_grid : ℕ → ℕ → ℕ → Bool → List ℕ → ℕ → Grid
axes_grid dimensions n least averages evolution floor =
    axes (Axes.fresh_axes dimensions (record { bins = n; least = least; averages = averages; evolution = evolution; floor = of_bits binary64 floor }))

abbrev pub bins_grid : ℕ → Bool → List Child → Grid
bins_grid ratio averages cs = Grids.fresh_grid (of_bits binary64 ratio) averages cs

abbrev pub stream : ℕ → ℕ → ℕ → ℕ → MonteCarloRng
stream a b c d = record { s0 = a; s1 = b; s2 = c; s3 = d }

abbrev pub at : ℕ → Coordinate
at x = given (of_bits binary64 x)

-- ---- calls

pub data Call : Type 0 where
  -- a fresh grid
  plan : Grid → Call
  -- a state lent in words, well formed or not
  load : List ℕ → Call
  draw : MonteCarloRng → Call
  probe : List ℕ → List Coordinate → Call
  -- path, weights, coordinates; evaluation, number
  train : List ℕ → List ℕ → List ℕ → ℕ → ℕ → Call
  -- bins rate, axes rate
  update : ℕ → ℕ → Call
  -- with the other place's grid
  mergeable : Call
  merge : Call
  -- clone_without_samples to the other place
  copy : Call
  summary : Call
  live : Call

-- a call at place 0 or 1, and what the oracle answers
pub record Row : Type 0 where
  pub place : ℕ
  pub call : Call
  pub is : List ℕ

abbrev pub row : ℕ → Call → List ℕ → Row
row p c ws = record { place = p; call = c; is = ws }

-- ---- what the definitions answer

pub record Places : Type 0 where
  pub first : Grid
  pub second : Grid

unfoldable pub held : ℕ → Places → Grid
held zero ps = ps.first
held (suc p) ps = ps.second

unfoldable pub other : ℕ → ℕ
other zero = 1
other (suc p) = 0

unfoldable pub put : ℕ → Grid → Places → Places
put zero g ps = record { first = g; second = ps.second }
put (suc p) g ps = record { first = ps.first; second = g }

unfoldable pub keep : ℕ → Paper Grid → Places → Places
keep p (gives g) ps = put p g ps
keep p (refuses n) ps = ps

unfoldable pub tell : {A : Type 0} → (A → List ℕ) → Paper A → List ℕ
tell words (gives a) = 0 ∷ words a
tell words (refuses n) = n ∷ []

-- 12 before all others
unfoldable pub judged : {A : Type 0} → Grid → Paper A → Paper A
judged g p = cond (not (Sound.sound g)) (refuses 12) p

unfoldable pub counted : List ℕ → List ℕ
counted ws = length ws ∷ ws

unfoldable pub dump : Grid → List ℕ
dump g = counted (grid_words g)

unfoldable pub stream_words : MonteCarloRng → List ℕ
stream_words s = s.s0 ∷ s.s1 ∷ s.s2 ∷ s.s3 ∷ []

unfoldable pub drawing_words : Drawing → List ℕ
drawing_words d =
    counted d.sample.path ++ (counted (bits_of d.sample.weights) ++ (counted (bits_of d.sample.coordinates) ++ stream_words d.stream))

unfoldable pub own_of : Grid → StatisticsAccumulator
own_of (axes g) = g.own
own_of (bins h bs) = h.own

unfoldable pub estimate_words : Estimate → List ℕ
estimate_words e = to_bits binary64 e.avg ∷ to_bits binary64 e.err ∷ to_bits binary64 e.chi_sq ∷ []

unfoldable pub summary_words : Summary → List ℕ
summary_words s =
    s.iterations ∷ s.samples ∷ to_bits binary64 s.average ∷ to_bits binary64 s.error ∷ to_bits binary64 s.chi_squared ∷ cond s.flat 1 0 ∷ []

unfoldable pub fault : ℕ → Paper (List ℕ)
fault zero = gives []
fault (suc n) = refuses (suc n)

-- the words of an answer, and the places after it
pub record Told : Type 0 where
  pub words : List ℕ
  pub after : Places

abbrev pub only : List ℕ → Places → Told
only ws ps = record { words = ws; after = ps }

-- a call that changes the grid at a place
unfoldable pub changing : ℕ → Places → Paper Grid → Told
changing p ps a = record { words = tell dump a; after = keep p a ps }

unfoldable pub told : ℕ → Call → Places → Told
told p (plan g) ps = changing p ps (gives g)
told p (load ws) ps = record { words = 0 ∷ []; after = put p (grid_of (held p ps) ws).it ps }
told p (draw s) ps = only (tell drawing_words (judged (held p ps) (gives (Draw.draw_grid (held p ps) s)))) ps
told p (probe path xs) ps =
    only (tell (λ (w : Float). to_bits binary64 w ∷ []) (judged (held p ps) (Probe.probe_grid (held p ps) path xs))) ps
told p (train path weights xs e number) ps =
    changing p ps
    (judged (held p ps)
    (Train.train_of (held p ps) (record { path = path; weights = doubles_of weights; coordinates = doubles_of xs }) (of_bits binary64 e) number))
told p (update bins_rate axes_rate) ps =
    changing p ps (judged (held p ps) (Update.update_of (of_bits binary64 bins_rate) (of_bits binary64 axes_rate) (held p ps)))
told p mergeable ps =
    only
    (tell (λ (ws : List ℕ). ws)
    (judged (held p ps) (judged (held (other p) ps) (fault (Merge.merge_fault (held p ps) (held (other p) ps)))))) ps
told p merge ps = changing p ps (judged (held p ps) (judged (held (other p) ps) (Merge.merge_of (held p ps) (held (other p) ps))))
told p copy ps = changing (other p) ps (judged (held p ps) (gives (Grids.copy_grid (held p ps))))
told p summary ps = only (tell summary_words (judged (held p ps) (Accumulator.summarize_of (own_of (held p ps))))) ps
told p live ps = only (tell estimate_words (judged (held p ps) (Accumulator.live_estimate_of (own_of (held p ps))))) ps

-- ---- a story is right where every answer is the oracle's

unfoldable pub same : List ℕ → List ℕ → Bool
same [] [] = true
same [] (y ∷ ys) = false
same (x ∷ xs) [] = false
same (x ∷ xs) (y ∷ ys) = eqb x y && same xs ys

unfoldable pub right_from : Places → List Row → Bool
right_from ps [] = true
right_from ps (r ∷ rs) = let t = told r.place r.call ps in same t.words r.is && right_from t.after rs

-- both places hold no bins until a plan is read there. Where this computes, every definition on the way does
unfoldable pub right : List Row → Bool
unfolding
    Ieee.size Ieee.round Ieee.add Ieee.sub Ieee.mul Ieee.div Ieee.lt Ieee.eq Ieee.le Ieee.of_int Ieee.to_unsigned Ieee.of_bits Ieee.to_bits
    Norm.norm_of
    Whole.whole_of
    Total.total_of Total.all_finite
    Finite.finite_of
    Inverse.inv_of
    Count.count_of
    Root.isqrt Root.squares Root.root_of
    Ln.units_of Ln.exponent_of Ln.mantissa_of Ln.tail_of Ln.log_of Ln.turned_of Ln.ln_of
    Power.ceil_of Power.floor_of Power.exp_of Power.in_domain Power.k_of Power.scaled_of Power.power_of
    Words.times Words.shifted_up Words.shifted_down Words.rotated
    Xoshiro.word_of Xoshiro.step_of
    Stream.unit_of
    Record.fresh Record.finite_sums Record.bounded Record.bounded_counts Record.well_formed Record.with_waiting Record.with_extremes Record.raised
    Steps.zero_count Steps.replaced Steps.added_of Steps.merged_of Steps.cleared_of
    Iteration.variance_of Iteration.weight_of Iteration.processed_of Iteration.enough Iteration.updated_of
    Accumulator.estimates_of Accumulator.live_estimate_of Accumulator.summary_of Accumulator.summarize_of
    Edges.rising Edges.bins_of Edges.well_formed Edges.in_unit Edges.first_upto Edges.bin_of Edges.width_of Edges.weight_of Edges.even_from
    Edges.even_edges
    Scans.all_bounded
    Axis.point_of
    Pairs.pairwise
    Gather.gathered_of Gather.joined_count Gather.joined_counts Gather.sum_of Gather.reaches_of
    Weights.per_count Weights.normalised Weights.first_of Weights.inner_of Weights.last_of Weights.smoothed_from Weights.smoothed Weights.damp_share
    Weights.damp_one Weights.damped
    Cut.walk Cut.walk_to Cut.edge_at Cut.edges_from Cut.cuts_of
    Renew.lengths_fit Renew.edges_of Renew.step_of Renew.from_damped Renew.from_smoothed Renew.from_divided Renew.renew_of
    Axes.empty_axis Axes.fresh_axis Axes.fresh_axes Axes.cleared_axis Axes.copy_axes
    Grids.many Grids.probabilities Grids.fresh_bin Grids.fresh_bins Grids.fresh_head Grids.fresh_grid Grids.with_head Grids.with_bin Grids.cleared_bins
    Grids.copy_grid
    Sound.all_sound Sound.kept_axis Sound.kept_axis_list Sound.kept_grid Sound.kept_bins Sound.kept_child Sound.chance Sound.listed Sound.formed_axis
    Sound.formed_axis_list Sound.formed_grid Sound.formed_bins Sound.formed_child Sound.sound
    Draw.weight_at Draw.unit_at Draw.floored_of Draw.place_on Draw.walked Draw.placed_from Draw.placed_of Draw.draw_axes Draw.reached Draw.draw_nothing Draw.draw_grid
    Draw.draw_bin Draw.draw_child
    Probe.probe_all Probe.probe_axes Probe.probe_grid Probe.probe_bin Probe.probe_child
    Train.fault_of_all Train.fault_of_axes Train.fault_of Train.fault_of_bin Train.fault_of_child Train.train_axis Train.train_all Train.train_axes
    Train.train_grid Train.train_bin Train.train_child Train.numbered Train.train_of
    Merge.same_lengths Merge.same_shape Merge.same_bins Merge.same_child Merge.equal_all Merge.equal_edges Merge.equal_grid Merge.equal_bins
    Merge.equal_child Merge.merge_bin_records Merge.merge_axis Merge.merge_all Merge.merge_grid Merge.merge_bins Merge.merge_child Merge.merge_fault
    Merge.merge_of
    Update.trained Update.gathered_axis Update.last_or Update.bins_after Update.adapted_axis Update.update_axis Update.update_all Update.update_axes
    Update.idle Update.all_idle Update.raw_of Update.raws Chances.higher Chances.highest Chances.raised_to Chances.share_of Chances.adapted_to Chances.all_chances
    Update.with_probabilities Update.adapted_bins Update.update_grid Update.update_bins Update.update_child Update.rate_fits Update.update_of
    Dump.bits_of Dump.doubles_of Dump.record_words Dump.bin_words Dump.axis_words Dump.all_axis_words Dump.bin_record_words Dump.grid_words
    Dump.children_words Dump.child_words Dump.double_at Dump.record_of Dump.bin_record Dump.bin_records Dump.axis_of Dump.axes_of Dump.grid_of Dump.bins_of
    Dump.child_of
    held other put keep tell judged counted dump stream_words drawing_words own_of estimate_words summary_words fault changing told same right_from
right rs =
    let g = bins (record { ratio = zero64; averages = false; own = Record.fresh }) none in
    right_from (record { first = g; second = g }) rs
