-- Demand 1 of the calls below the grid that refuse: the stream's, the accumulator's, an axis's, the re-cut's, and the readings of a plan.
use Rattle.std.specs.Prelude.{◌≡◌, Bool, not, true, false, List, [], ◌∷◌, ℕ, leb, ltb, length, Float}
use Rattle.doubles.specs.Numbers.{zero64}
use Rattle.doubles.specs.Finite.{finite_of}
use Rattle.doubles.specs.Total.{total_of, all_finite}
use Rattle.doubles.specs.Paper.{refuses}
use Rattle.stream.specs.Calls.{new_of}
use Rattle.accumulator.specs.declared.StatisticsAccumulator.{StatisticsAccumulator}
use Rattle.accumulator.specs.Record.{well_formed}
use Rattle.accumulator.specs.Steps.{added_of, merged_of}
use Rattle.accumulator.specs.Update.{updated_of}
use Rattle.accumulator.specs.Calls.{numbered, add_sample_of, merge_of, merge_clearing_of, clear_of, copy_of, update_of, live_estimate_of, summarize_of}
use Rattle.axis.specs.Edges as edges
use Rattle.axis.specs.Calls.{probe_of, draw_of}
use Rattle.recut.specs.Weights.{normalised, smoothed, damped}
use Rattle.recut.specs.Cut.{cuts_of}
use Rattle.recut.specs.Renew.{lengths_fit, step_of, renew_of}
use Rattle.plan.specs.declared.Place.{Place}
use Rattle.plan.specs.Reading.{Out, tree_of}
use Rattle.plan.specs.Walk.{from_table}
use Rattle.plan.specs.Calls.{begin, read_plan_of, read_prefix_of, measure_of, measure_prefix_of, sizes_of}
use Rattle.grid.specs.Order.{Test, test, Ordered}
use Rattle.grid.specs.Fields.{grid_tests}
use Rattle.grid.specs.Demand1.{at_field}

-- 12: the record lent is not well formed; 8: the record that would be kept is not
abbrev pub unsound : StatisticsAccumulator → Test
unsound a = test (not (well_formed a)) 12

abbrev pub unkept : StatisticsAccumulator → Test
unkept a = test (not (well_formed a)) 8

-- 8 for importances and for their total, at each stage of a re-cut
abbrev pub endless : List Float → Test
endless qs = test (not (all_finite qs)) 8

abbrev pub endless_total : List Float → Test
endless_total qs = test (not (finite_of (total_of zero64 qs))) 8

-- 10 for lengths that are not one axis's; 8 divided, smoothed, damped; 9 for the finished edges
unfoldable pub renew_tests : List Float → List Float → List ℕ → Float → ℕ → List Test
renew_tests es qs ns rate places =
    let ms = normalised qs ns in
    let ss = smoothed ms in
    let ds = damped (total_of zero64 ss) rate ss in
    test (not (lengths_fit es qs ns places)) 10 ∷ (endless ms ∷ (endless ss ∷ (endless_total ss ∷ (endless ds ∷ (endless_total ds
    ∷ (test (not (edges.well_formed (cuts_of es ds (step_of ds places) places))) 9 ∷ []))))))

-- behind a plan: surplus bytes (1), a table too short (10)
abbrev pub surplus : List ℕ → Place → Test
surplus bs q = test (ltb q.at (length bs)) 1

abbrev pub short_table : List ℕ → Place → Test
short_table xs q = test (ltb (length xs) q.tally.words) 10

-- a table that is not what reading some plan writes: the walk over it stops, or it is cut
unfoldable pub unplanned : List ℕ → Out → Bool
unplanned xs (Out.stops n at) = true
unplanned xs (Out.reads t q) = not (leb q.tally.words (length xs))

pub record Leaves1 : Type 0 where
  pub new : (seed k : ℕ) → Ordered (test (ltb 4095 k) 3 ∷ []) (new_of seed k)
  pub shallow-copy : (a : StatisticsAccumulator) → Ordered (unsound a ∷ []) (copy_of a)
  pub add-sample : (a : StatisticsAccumulator) (e : Float) (k : ℕ)
      → Ordered (unsound a ∷ (test (not (numbered k)) 3 ∷ (test (not (finite_of e)) 7 ∷ (unkept (added_of a e k) ∷ [])))) (add_sample_of a e k)
  pub merge-samples-no-reset : (a b : StatisticsAccumulator) → Ordered (unsound a ∷ (unsound b ∷ (unkept (merged_of a b) ∷ []))) (merge_of a b)
  pub merge-samples : (a b : StatisticsAccumulator) → Ordered (unsound a ∷ (unsound b ∷ (unkept (merged_of a b) ∷ []))) (merge_clearing_of a b)
  pub clear-samples : (a : StatisticsAccumulator) → Ordered (unsound a ∷ []) (clear_of a)
  pub update-iter : (weighted : Bool) (a : StatisticsAccumulator) → Ordered (unsound a ∷ (unkept (updated_of weighted a) ∷ [])) (update_of weighted a)
  pub get-live-estimate : (a : StatisticsAccumulator) → Ordered (unsound a ∷ (unkept (updated_of false a) ∷ [])) (live_estimate_of a)
  pub summary : (a : StatisticsAccumulator) → Ordered (unsound a ∷ []) (summarize_of a)
  pub probe : (es : List Float) (x : Float) → Ordered (test (not (edges.well_formed es)) 12 ∷ (test (not (edges.in_unit x)) 5 ∷ [])) (probe_of es x)
  pub draw : (es : List Float) (r : Float) → Ordered (test (not (edges.well_formed es)) 12 ∷ []) (draw_of es r)
  pub renew : (es qs : List Float) (ns : List ℕ) (rate : Float) (places : ℕ) → Ordered (renew_tests es qs ns rate places) (renew_of es qs ns rate places)
  pub measure-plan : (bs : List ℕ) → Ordered (grid_tests bs (λ q. surplus bs q ∷ [])) (at_field (measure_of bs))
  pub measure-prefix : (bs : List ℕ) → Ordered (grid_tests bs (λ q. [])) (at_field (measure_prefix_of bs))
  pub sizes : (xs : List ℕ) → Ordered (test (unplanned xs (tree_of (from_table xs) 4 begin)) 12 ∷ []) (at_field (sizes_of xs))
  pub read-plan : (bs xs : List ℕ) → Ordered (grid_tests bs (λ q. surplus bs q ∷ (short_table xs q ∷ []))) (at_field (read_plan_of bs xs).answer)
  pub read-plan-stays : (bs xs : List ℕ) (n : ℕ) → at_field (read_plan_of bs xs).answer ≡ refuses n → (read_plan_of bs xs).table ≡ xs
  pub read-prefix : (bs xs : List ℕ) → Ordered (grid_tests bs (λ q. short_table xs q ∷ [])) (at_field (read_prefix_of bs xs).answer)
  pub read-prefix-stays : (bs xs : List ℕ) (n : ℕ) → at_field (read_prefix_of bs xs).answer ≡ refuses n → (read_prefix_of bs xs).table ≡ xs
