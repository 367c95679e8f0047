-- Demand 1 of the calls below the grid: each is refused with N exactly when N is the first test in its order that holds, a table that is lent
-- is unchanged then, and it is answered otherwise.
use mathlib.Core.Path.{◌≡◌, refl, sym, ap, subst}
use mathlib.Core.Bool.{Bool, true, false, not, cond}
use mathlib.Core.List.{List, [], ◌∷◌}
use Prim.Native.Nat.{ℕ}
use lib.Dec.{leb, ltb}
use lib.ListN.{length}
use lib.Seq.{sets}
use lib.Ieee.{Float}
use Rattle.doubles.specs.Numbers.{zero64}
use Rattle.doubles.specs.Finite.{finite_of}
use Rattle.doubles.specs.Total.{total_of, all_finite}
use Rattle.doubles.specs.Paper.{Paper, gives, refuses}
use Rattle.stream.specs.Calls.{new_of}
use Rattle.accumulator.specs.declared.StatisticsAccumulator.{StatisticsAccumulator}
use Rattle.accumulator.specs.Record.{well_formed}
use Rattle.accumulator.specs.Steps.{added_of, merged_of}
use Rattle.accumulator.specs.Update.{updated_of}
use Rattle.accumulator.specs.Calls.{kept_of, numbered, add_sample_of, merge_of, merge_clearing_of, clear_of, copy_of, update_of, live_estimate_of, summarize_of}
use Rattle.axis.specs.Edges as edges
use Rattle.axis.specs.Calls.{probe_of, draw_of}
use Rattle.recut.specs.Weights.{normalised, smoothed, damped}
use Rattle.recut.specs.Cut.{cuts_of}
use Rattle.recut.specs.Renew.{lengths_fit, edges_of, step_of, from_damped, from_smoothed, from_divided, renew_of}
use Rattle.plan.specs.declared.Place.{Place}
use Rattle.plan.specs.Paper as plan
use Rattle.plan.specs.Paper.{PlanRead, plan_read}
use Rattle.plan.specs.Plan.{Tree, nothing}
use Rattle.plan.specs.Needs.{untaken, needs_of}
use Rattle.plan.specs.Table.{rows}
use Rattle.plan.specs.declared.Needs.{Needs}
use Rattle.plan.specs.Reading.{Out, tree_of}
use Rattle.plan.specs.Walk.{from_table}
use Rattle.plan.specs.Calls.{begin, End, end, grid_of, written_of, prefix_end, read_prefix_of, plan_end, read_plan_of, measured_end, measure_of, measured_prefix, measure_prefix_of, sized_end, sizes_of}
use Rattle.grid.specs.Order.{Test, test, Ordered}
use Rattle.grid.specs.Fields.{out_paper, grid_tests}
use Rattle.grid.specs.Demand1.{at_field}
use Rattle.grid.specs.Leaves.{surplus, short_table, unplanned, renew_tests, Leaves1}
use Rattle.grid.proofs.Kept.{refused_none}
use Rattle.grid.proofs.Orders.{given-last, held, passed, step}
use Rattle.grid.proofs.Fielded.{then_paper, grid-ordered}

-- ---- one test, and two, before an answer

one-test : {A : Type 0} (b : Bool) (n : ℕ) (x : A) → Ordered (test b n ∷ []) (cond b (refuses n) (gives x))
one-test b n x = step b n [] (gives x) (λ z. given-last x)

two-tests : {A : Type 0} (b : Bool) (n : ℕ) (c : Bool) (k : ℕ) (x : A) → Ordered (test b n ∷ (test c k ∷ [])) (cond b (refuses n) (cond c (refuses k) (gives x)))
two-tests b n c k x = step b n _ _ (λ z. one-test c k x)

add-ordered : (a : StatisticsAccumulator) (e : Float) (k : ℕ)
    → Ordered (test (not (well_formed a)) 12 ∷ (test (not (numbered k)) 3 ∷ (test (not (finite_of e)) 7 ∷ (test (not (well_formed (added_of a e k))) 8 ∷ [])))) (add_sample_of a e k)
unfolding add_sample_of kept_of
add-ordered a e k = step (not (well_formed a)) 12 _ _ (λ z. step (not (numbered k)) 3 _ _ (λ y. two-tests (not (finite_of e)) 7 (not (well_formed (added_of a e k))) 8 (added_of a e k)))

renew-ordered : (es qs : List Float) (ns : List ℕ) (rate : Float) (places : ℕ) → Ordered (renew_tests es qs ns rate places) (renew_of es qs ns rate places)
unfolding renew_tests renew_of from_divided from_smoothed from_damped edges_of
renew-ordered es qs ns rate places =
    let ms = normalised qs ns in
    let ss = smoothed ms in
    let ds = damped (total_of zero64 ss) rate ss in
    let new = cuts_of es ds (step_of ds places) places in
    step (not (lengths_fit es qs ns places)) 10 _ _ (λ u. step (not (all_finite ms)) 8 _ _ (λ v. step (not (all_finite ss)) 8 _ _ (λ w. step (not (finite_of (total_of zero64 ss))) 8 _ _ (λ x. step (not (all_finite ds)) 8 _ _
    (λ y. two-tests (not (finite_of (total_of zero64 ds))) 8 (not (edges.well_formed new)) 9 new)))))

-- ---- readings of a plan

-- the plan's answer, from what was read and what stands behind it
from-grid : {B : Type 0} (bs : List ℕ) (us : Place → List Test) (final : Out → Paper B) → ((n at : ℕ) → final (Out.stops n at) ≡ refuses n) → ((t : Tree) (q : Place) → final (Out.reads t q) ≡ final (Out.reads nothing q))
    → ((q : Place) → Ordered (us q) (final (Out.reads nothing q))) → Ordered (grid_tests bs us) (final (grid_of bs))
unfolding then_paper out_paper
from-grid {B} bs us final stops same o = subst (λ (p : Paper B). Ordered (grid_tests bs us) p) (told (grid_of bs)) (grid-ordered bs us (λ (q : Place). final (Out.reads nothing q)) o)
  where
    told : (x : Out) → then_paper (out_paper x) (λ (q : Place). final (Out.reads nothing q)) ≡ final x
    told (Out.stops n at) = sym (stops n at)
    told (Out.reads t q) = sym (same t q)

-- a table's room, and surplus bytes before it: the answer, whatever the tree
written-ordered : (xs : List ℕ) (t : Tree) (q : Place) → Ordered (short_table xs q ∷ []) (at_field (written_of xs t q).answer)
unfolding written_of at_field
written-ordered xs t q = pick (ltb (length xs) q.tally.words)
  where
    r : PlanRead
    r = plan_read q.at (needs_of q.tally)

    pick : (b : Bool) → Ordered (test b 10 ∷ []) (at_field (cond b (end (plan.refuses_at 10 0) xs) (end (plan.gives r) (sets xs 0 (rows 4 t untaken)))).answer)
    pick true = held 10 []
    pick false = passed 10 [] (gives r) (given-last r)

written_same : (xs : List ℕ) (t u : Tree) (q : Place) → (written_of xs t q).answer ≡ (written_of xs u q).answer
unfolding written_of
written_same xs t u q = pick (ltb (length xs) q.tally.words)
  where
    r : PlanRead
    r = plan_read q.at (needs_of q.tally)

    pick : (b : Bool) → (cond b (end (plan.refuses_at 10 0) xs) (end (plan.gives r) (sets xs 0 (rows 4 t untaken)))).answer ≡ (cond b (end (plan.refuses_at 10 0) xs) (end (plan.gives r) (sets xs 0 (rows 4 u untaken)))).answer
    pick true = refl
    pick false = refl

-- a refusal leaves the table
Left : List ℕ → End → Type 0
Left xs e = (n : ℕ) → at_field e.answer ≡ refuses n → e.table ≡ xs

written-left : (xs : List ℕ) (t : Tree) (q : Place) → Left xs (written_of xs t q)
unfolding written_of at_field Left
written-left xs t q = pick (ltb (length xs) q.tally.words)
  where
    r : PlanRead
    r = plan_read q.at (needs_of q.tally)

    pick : (b : Bool) → Left xs (cond b (end (plan.refuses_at 10 0) xs) (end (plan.gives r) (sets xs 0 (rows 4 t untaken))))
    pick true n e = refl
    pick false n e = absurd (refused_none n r (sym e))

surplus-ordered : (b : Bool) (at : ℕ) (xs : List ℕ) (us : List Test) (e : End) → Ordered us (at_field e.answer) → Ordered (test b 1 ∷ us) (at_field (cond b (end (plan.refuses_at 1 at) xs) e).answer)
unfolding at_field
surplus-ordered true at xs us e o = held 1 us
surplus-ordered false at xs us e o = passed 1 us _ o

surplus-same : (b : Bool) (at : ℕ) (xs : List ℕ) (e f : End) → e.answer ≡ f.answer → (cond b (end (plan.refuses_at 1 at) xs) e).answer ≡ (cond b (end (plan.refuses_at 1 at) xs) f).answer
surplus-same true at xs e f h = refl
surplus-same false at xs e f h = h

surplus-left : (b : Bool) (at : ℕ) (xs : List ℕ) (e : End) → Left xs e → Left xs (cond b (end (plan.refuses_at 1 at) xs) e)
unfolding Left
surplus-left true at xs e h = λ n q. refl
surplus-left false at xs e h = h

measure-ordered : (bs : List ℕ) → Ordered (grid_tests bs (λ (q : Place). surplus bs q ∷ [])) (at_field (measure_of bs))
unfolding measure_of at_field
measure-ordered bs = from-grid bs (λ (q : Place). surplus bs q ∷ []) (λ (x : Out). at_field (measured_end bs x)) (λ n at. refl) (λ t q. refl) (λ q. pick q (ltb q.at (length bs)))
  where
    pick : (q : Place) (b : Bool) → Ordered (test b 1 ∷ []) (at_field (cond b (plan.refuses_at 1 q.at) (plan.gives (plan_read q.at (needs_of q.tally)))))
    pick q true = held 1 []
    pick q false = passed 1 [] _ (given-last (plan_read q.at (needs_of q.tally)))

measured-ordered : (bs : List ℕ) → Ordered (grid_tests bs (λ (q : Place). [])) (at_field (measure_prefix_of bs))
unfolding measure_prefix_of at_field
measured-ordered bs =
    from-grid bs (λ (q : Place). []) (λ (x : Out). at_field (measured_prefix x)) (λ n at. refl) (λ t q. refl) (λ q. given-last (plan_read q.at (needs_of q.tally)))

sizes-ordered : (xs : List ℕ) → Ordered (test (unplanned xs (tree_of (from_table xs) 4 begin)) 12 ∷ []) (at_field (sizes_of xs))
unfolding sizes_of at_field unplanned
sizes-ordered xs = by_out (tree_of (from_table xs) 4 begin)
  where
    pick : (n : Needs) (b : Bool) → Ordered (test (not b) 12 ∷ []) (at_field (cond b (plan.gives n) (plan.refuses 12)))
    pick n true = passed 12 [] _ (given-last n)
    pick n false = held 12 []

    by_out : (o : Out) → Ordered (test (unplanned xs o) 12 ∷ []) (at_field (sized_end xs o))
    by_out (Out.stops n at) = held 12 []
    by_out (Out.reads t q) = pick (needs_of q.tally) (leb q.tally.words (length xs))

read-ordered : (bs xs : List ℕ) → Ordered (grid_tests bs (λ (q : Place). surplus bs q ∷ (short_table xs q ∷ []))) (at_field (read_plan_of bs xs).answer)
unfolding read_plan_of at_field
read-ordered bs xs =
    from-grid bs (λ (q : Place). surplus bs q ∷ (short_table xs q ∷ [])) (λ (x : Out). at_field (plan_end bs xs x).answer) (λ n at. refl)
    (λ t q. ap at_field (surplus-same (ltb q.at (length bs)) q.at xs (written_of xs t q) (written_of xs nothing q) (written_same xs t nothing q)))
    (λ q. surplus-ordered (ltb q.at (length bs)) q.at xs (short_table xs q ∷ []) (written_of xs nothing q) (written-ordered xs nothing q))

prefix-ordered : (bs xs : List ℕ) → Ordered (grid_tests bs (λ (q : Place). short_table xs q ∷ [])) (at_field (read_prefix_of bs xs).answer)
unfolding read_prefix_of at_field
prefix-ordered bs xs =
    from-grid bs (λ (q : Place). short_table xs q ∷ []) (λ (x : Out). at_field (prefix_end xs x).answer) (λ n at. refl) (λ t q. ap at_field (written_same xs t nothing q)) (λ q. written-ordered xs nothing q)

read_left : (bs xs : List ℕ) (x : Out) → Left xs (plan_end bs xs x)
unfolding Left
read_left bs xs (Out.stops n at) = λ k e. refl
read_left bs xs (Out.reads t q) = surplus-left (ltb q.at (length bs)) q.at xs (written_of xs t q) (written-left xs t q)

prefix-left : (xs : List ℕ) (x : Out) → Left xs (prefix_end xs x)
unfolding Left
prefix-left xs (Out.stops n at) = λ k e. refl
prefix-left xs (Out.reads t q) = written-left xs t q

-- ---- all of them

pub demand-1-leaves : Leaves1
unfolding new_of copy_of merge_of merge_clearing_of kept_of clear_of update_of live_estimate_of summarize_of probe_of draw_of read_plan_of read_prefix_of Left
demand-1-leaves = record {
  new = λ seed k. one-test (ltb 4095 k) 3 _;
  shallow-copy = λ a. one-test (not (well_formed a)) 12 _;
  add-sample = add-ordered;
  merge-samples-no-reset = λ a b. step (not (well_formed a)) 12 _ _ (λ z. two-tests (not (well_formed b)) 12 (not (well_formed (merged_of a b))) 8 _);
  merge-samples = λ a b. step (not (well_formed a)) 12 _ _ (λ z. two-tests (not (well_formed b)) 12 (not (well_formed (merged_of a b))) 8 _);
  clear-samples = λ a. one-test (not (well_formed a)) 12 _;
  update-iter = λ w a. two-tests (not (well_formed a)) 12 (not (well_formed (updated_of w a))) 8 _;
  get-live-estimate = λ a. two-tests (not (well_formed a)) 12 (not (well_formed (updated_of false a))) 8 _;
  summary = λ a. one-test (not (well_formed a)) 12 _;
  probe = λ es x. two-tests (not (edges.well_formed es)) 12 (not (edges.in_unit x)) 5 _;
  draw = λ es r. one-test (not (edges.well_formed es)) 12 _;
  renew = renew-ordered;
  measure-plan = measure-ordered;
  measure-prefix = measured-ordered;
  sizes = sizes-ordered;
  read-plan = read-ordered;
  read-plan-stays = λ bs xs n e. read_left bs xs (grid_of bs) n e;
  read-prefix = prefix-ordered;
  read-prefix-stays = λ bs xs n e. prefix-left xs (grid_of bs) n e;
}
