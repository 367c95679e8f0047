-- Demand 1: each public call is refused with N exactly when N is the first test in its order that holds; all lent memory and the stream are
-- unchanged then; it is answered otherwise.
use mathlib.Core.Path.{◌≡◌, refl, sym, ap, ◌∙◌, subst}
use mathlib.Core.Bool.{Bool, true, false, not, cond}
use mathlib.Core.List.{List, [], ◌∷◌, ◌++◌}
use Prim.Native.Nat.{ℕ, suc, ◌+◌}
use native.Mathlib.Omega.{arith}
use borrow.Author.Tests.{eqb-true, eqb-false, not-false}
use lib.Dec.{eqb, ltb}
use lib.ListN.{length}
use lib.Ieee.{Float}
use Rattle.doubles.specs.Paper.{Paper, gives, refuses}
use Rattle.doubles.proofs.Truth.{both}
use Rattle.accumulator.specs.declared.Summary.{Summary}
use Rattle.accumulator.specs.Calls as account
use Rattle.accumulator.specs.Calls.{summarize_of, live_estimate_of}
use Rattle.stream.specs.declared.MonteCarloRng.{MonteCarloRng}
use Rattle.plan.specs.declared.Needs.{Needs}
use Rattle.plan.specs.Paper as plan
use Rattle.plan.specs.Paper.{PlanRead, plan_read}
use Rattle.plan.specs.declared.Place.{Place}
use Rattle.plan.specs.Plan.{nothing}
use Rattle.plan.specs.Needs.{needs_of}
use Rattle.plan.specs.Reading.{Out}
use Rattle.plan.specs.Calls.{grid_of, measured_end, measure_of, sizes_of}
use Rattle.plan.proofs.Tables.{Words}
use Rattle.model.specs.Grid.{Grid}
use Rattle.model.specs.Sound.{sound, formed_grid, kept_grid}
use Rattle.model.specs.Draw.{Drawing, draw_grid, draw_nothing}
use Rattle.model.specs.Probe.{probe_grid}
use Rattle.model.specs.Train.{train_of}
use Rattle.model.specs.Merge.{merge_fault, merge_of}
use Rattle.model.specs.Update as update
use Rattle.lent.specs.declared.Sample.{Sample}
use Rattle.lent.specs.declared.Region.{Region}
use Rattle.lent.specs.declared.Drawing as grid
use Rattle.lent.specs.Memory.{Memory}
use Rattle.lent.specs.Sampled.{entries, sample_of, laid_drawing}
use Rattle.lent.specs.Probed.{coordinates_of, path_from}
use Rattle.lent.specs.Bins.{estimate_by, bin_along, estimate_along}
use Rattle.lent.specs.Absorbed.{absorbed, objection_of}
use Rattle.lent.specs.United.{united_grid}
use Rattle.lent.specs.Cleared.{cleared_root}
use Rattle.lent.specs.State.{root_of, own_of, judged_by, judged_to, fault_by, state_fault, both_judged, second_by, first_by, pair_fault}
use Rattle.lent.specs.Calls.{on_state, StateEnd, state_end, drawn_as, draw_of, summary_of, live_of, live_of_bin, FreshEnd, fresh_end, founded_of, fresh_by, fresh_of, clone_end, copied_to, cloned_by, clone_by, clone_of, probe_of, trained_by, train_call_of, updated_by, update_by, update_of, mergeable_of, united_by, merge_into_of}
use Rattle.lent.specs.Batched.{StepEnd, BatchEnd, batch_end, batched, unless_refused, steps_of, batch_of}
use Rattle.lent.proofs.States.{passes, stopped, went_on}
use Rattle.lent.proofs.AbsorbedTree.{train-stays}
use Rattle.lent.proofs.UpdatedState.{Called}
use Rattle.lent.proofs.Objections.{train-done}
use Rattle.lent.proofs.Batches.{drawn-objected, drawn-done}
use Rattle.lent.proofs.Formed.{own-kept}
use Rattle.grid.specs.History as model
use Rattle.grid.specs.History.{Word, numbered}
use Rattle.grid.specs.Lent.{room_by, room_fault}
use Rattle.grid.specs.Order.{Test, test, First, NoneHolds, Ordered, state_tests_by, state_tests, room_tests_by, room_tests, second_tests, first_tests, pair_tests, live_tests, along_tests, probe_tests, train_tests, update_tests, match_tests, merge_tests}
use Rattle.grid.specs.Fields.{out_paper, grid_tests, whole_tests, fresh_tests}
use Rattle.grid.specs.Demand1.{at_field, Guarded, Demand1}
use Rattle.grid.proofs.Kept.{refused_none, numbered-refuses}
use Rattle.grid.proofs.Tied.{update-called}
use Rattle.grid.proofs.Orders.{given-last, held, passed, first_of, Above, by_number, changed, first_above, above-append, first-is, none_is, alone, numbered-by, numbered-ordered}
use Rattle.grid.proofs.Fielded.{then_paper, grid-ordered}
use Rattle.grid.proofs.Ladders.{train-ordered, train-above, update-ordered, update-above, merge-ordered, merge-above, match-first, match-above, probe-ordered, live-ordered, along-ordered}

no : (n : ℕ) → suc n ≡ 0 → ⊥
no n z = omega (arith, z)

-- where a fault is found, the state is left alone
end-answer : (f : ℕ) (m : Memory) (e : StateEnd) → (cond (not (eqb f 0)) (state_end f m) e).answer ≡ cond (not (eqb f 0)) f e.answer
end-answer f m e = pick (eqb f 0)
  where
    pick : (b : Bool) → (cond (not b) (state_end f m) e).answer ≡ cond (not b) f e.answer
    pick true = refl
    pick false = refl

end_stays : (f : ℕ) (m : Memory) (e : StateEnd) → ((e.answer ≡ 0 → ⊥) → e.state ≡ m) → ((cond (not (eqb f 0)) (state_end f m) e).answer ≡ 0 → ⊥) → (cond (not (eqb f 0)) (state_end f m) e).state ≡ m
end_stays f m e h = pick (eqb f 0)
  where
    pick : (b : Bool) → ((cond (not b) (state_end f m) e).answer ≡ 0 → ⊥) → (cond (not b) (state_end f m) e).state ≡ m
    pick true z = h z
    pick false z = refl

-- ---- lent state

module _ (table : List ℕ) (m : Memory) where
  abbrev root : Grid
  root = root_of table m.reals m.counts

  abbrev fault : ℕ
  fault = state_fault table m.reals m.counts

  state-by : (p : plan.Paper Needs) → fault_by table m.reals m.counts p ≡ first_of (state_tests_by table m p)
  unfolding fault_by judged_by state_tests_by first_of
  state-by (plan.gives n) = refl
  state-by (plan.refuses k) = refl
  state-by (plan.refuses_at k at) = refl

  state-first : fault ≡ first_of (state_tests table m)
  unfolding state_fault state_tests
  state-first = state-by (sizes_of table)

  state-above-by : (p : plan.Paper Needs) → Above (state_tests_by table m p)
  unfolding state_tests_by Above
  state-above-by (plan.gives n) = (no 9, (no 9, (no 11, tt)))
  state-above-by (plan.refuses k) = (no 11, tt)
  state-above-by (plan.refuses_at k at) = (no 11, tt)

  state-above : Above (state_tests table m)
  unfolding state_tests
  state-above = state-above-by (sizes_of table)

  sound-by : (p : plan.Paper Needs) → fault_by table m.reals m.counts p ≡ 0 → sound root ≡ true
  unfolding fault_by judged_by
  sound-by (plan.gives n) f =
      let a = passes (ltb (length m.reals) n.reals) 10 _ (λ z. omega (arith, z)) f in
      let b = passes (ltb (length m.counts) n.counts) 10 _ (λ z. omega (arith, z)) a.1 in
      not-false (sound root) (passes (not (sound root)) 12 0 (λ z. omega (arith, z)) b.1).0
  sound-by (plan.refuses k) f = absurd (omega (arith, f))
  sound-by (plan.refuses_at k at) f = absurd (omega (arith, f))

  fault-sound : fault ≡ 0 → sound root ≡ true
  unfolding state_fault
  fault-sound f = sound-by (sizes_of table) f

  -- a call on a state that may be refused, then its own tests
  on-state : {A : Type 0} (us : List Test) (p : Paper A) → (sound root ≡ true → Ordered us p) → Ordered (state_tests table m ++ us) (on_state fault p)
  on-state us p o = by_number (state_tests table m) us p fault state-first state-above (λ z. o (fault-sound z))

  draw-ordered : (s : MonteCarloRng) → Ordered (state_tests table m) (draw_of table m.reals m.counts s)
  unfolding draw_of
  draw-ordered s = alone (state_tests table m) _ (on-state [] (gives (draw_grid root s)) (λ w. given-last (draw_grid root s)))

  draw-unchanged : (s : MonteCarloRng) (n : ℕ) → draw_of table m.reals m.counts s ≡ refuses n
      → ((drawn_as s (draw_of table m.reals m.counts s)).refused ≡ n) × ((drawn_as s (draw_of table m.reals m.counts s)).drawing.stream ≡ s)
  unfolding drawn_as laid_drawing draw_nothing
  draw-unchanged s n e = (ap (λ (p : Paper Drawing). (drawn_as s p).refused) e, ap (λ (p : Paper Drawing). (drawn_as s p).drawing.stream) e)

  summarized : sound root ≡ true → gives (account.summary_of (own_of root)) ≡ summarize_of (own_of root)
  unfolding summarize_of
  summarized w = rw (own-kept root w)

  summary-ordered : Ordered (state_tests table m) (summary_of table m.reals m.counts)
  unfolding summary_of
  summary-ordered =
      alone (state_tests table m) _ (on-state [] (summarize_of (own_of root)) (λ w. subst (λ (p : Paper Summary). Ordered [] p) (summarized w) (given-last (account.summary_of (own_of root)))))

  estimate-ordered : Ordered (state_tests table m ++ live_tests (own_of root)) (live_of table m.reals m.counts)
  unfolding live_of
  estimate-ordered = on-state _ (live_estimate_of (own_of root)) (λ w. live-ordered (own_of root) (own-kept root w))

  bin-ordered : (path : List ℕ) (levels : ℕ) → Ordered (state_tests table m ++ along_tests root (entries 0 path 0 levels)) (live_of_bin table m.reals m.counts path levels)
  unfolding live_of_bin estimate_along sound
  bin-ordered path levels = on-state _ (estimate_by (bin_along root (entries 0 path 0 levels))) (λ w. along-ordered root (entries 0 path 0 levels) (both (formed_grid root) (kept_grid root) w).1)

  probe-on : (r : Region) → Ordered (state_tests table m ++ probe_tests root (path_from r 0) (coordinates_of r.coordinates)) (probe_of table m.reals m.counts r)
  unfolding probe_of
  probe-on r = on-state _ (probe_grid root (path_from r 0) (coordinates_of r.coordinates)) (λ w. probe-ordered root (path_from r 0) (coordinates_of r.coordinates))

  -- ---- fresh

  short : (b : Bool) (ts : List Test) (e : FreshEnd) → Ordered ts (at_field e.answer) → Ordered (test b 10 ∷ ts) (at_field (cond b (fresh_end (plan.refuses_at 10 0) table m) e).answer)
  unfolding at_field
  short true ts e o = held 10 ts
  short false ts e o = passed 10 ts _ o

  whole-ordered : (bs : List ℕ) (q : Place) → Ordered (whole_tests bs table m q) (at_field (fresh_by bs (measured_end bs (Out.reads nothing q)) table m).answer)
  unfolding whole_tests founded_of at_field
  whole-ordered bs q = pick (ltb q.at (length bs))
    where
      r : PlanRead
      r = plan_read q.at (needs_of q.tally)

      room : List Test
      room = test (ltb (length table) r.needs.words) 10 ∷ (test (ltb (length m.reals) r.needs.reals) 10 ∷ (test (ltb (length m.counts) r.needs.counts) 10 ∷ []))

      pick : (b : Bool) → Ordered (test b 1 ∷ room) (at_field (fresh_by bs (cond b (plan.refuses_at 1 q.at) (plan.gives r)) table m).answer)
      pick true = held 1 room
      pick false = passed 1 room _ (short (ltb (length table) r.needs.words) _ _ (short (ltb (length m.reals) r.needs.reals) _ _ (short (ltb (length m.counts) r.needs.counts) _ _ (given-last r))))

  fresh-paper : (bs : List ℕ) (o : Out)
      → then_paper (out_paper o) (λ (q : Place). at_field (fresh_by bs (measured_end bs (Out.reads nothing q)) table m).answer) ≡ at_field (fresh_by bs (measured_end bs o) table m).answer
  unfolding then_paper out_paper at_field
  fresh-paper bs (Out.stops n at) = refl
  fresh-paper bs (Out.reads t q) = refl

  fresh-ordered : (bs : List ℕ) → Ordered (fresh_tests bs table m) (at_field (fresh_of bs table m).answer)
  unfolding fresh_tests fresh_of measure_of
  fresh-ordered bs =
      subst (λ (p : Paper PlanRead). Ordered (grid_tests bs (whole_tests bs table m)) p) (fresh-paper bs (grid_of bs))
      (grid-ordered bs (whole_tests bs table m) (λ (q : Place). at_field (fresh_by bs (measured_end bs (Out.reads nothing q)) table m).answer) (λ q. whole-ordered bs q))

  abbrev Left : FreshEnd → Type 0
  Left e = (n : ℕ) → at_field e.answer ≡ refuses n → (e.table ≡ table) × (e.state ≡ m)

  short-left : (b : Bool) (e : FreshEnd) → Left e → Left (cond b (fresh_end (plan.refuses_at 10 0) table m) e)
  short-left true e h n q = (refl, refl)
  short-left false e h n q = h n q

  fresh-left : (bs : List ℕ) (p : plan.Paper PlanRead) → Left (fresh_by bs p table m)
  unfolding founded_of at_field
  fresh-left bs (plan.gives r) =
      short-left (ltb (length table) r.needs.words) _ (short-left (ltb (length m.reals) r.needs.reals) _ (short-left (ltb (length m.counts) r.needs.counts) _ (λ n q. absurd (refused_none n r (sym q)))))
  fresh-left bs (plan.refuses k) = λ n q. (refl, refl)
  fresh-left bs (plan.refuses_at k at) = λ n q. (refl, refl)

  fresh-stays : (bs : List ℕ) → Left (fresh_of bs table m)
  unfolding fresh_of
  fresh-stays bs = fresh-left bs (measure_of bs)

  -- ---- a number, 0 for none

  -- what a model's answer comes to as a number
  answered : (ts : List Test) (p : Paper Grid) (f : Paper Grid → ℕ) → Above ts → Ordered ts p → ((n : ℕ) → f (refuses n) ≡ n) → ((g : Grid) → f (gives g) ≡ 0) → Ordered ts (numbered (f p))
  unfolding numbered
  answered ts p f a o r g = changed ts p (numbered (f p)) o
      (λ n e. ap (λ (q : Paper Grid). numbered (f q)) e ∙ ap numbered (r n) ∙ numbered-refuses n (first_above ts n a ((o.refused n).0 e)))
      (λ x e. (model.done, ap (λ (q : Paper Grid). numbered (f q)) e ∙ ap numbered (g x)))

  -- ---- a training

  train-on : (s : Sample) (e : Float) (k : ℕ) → Ordered (state_tests table m ++ train_tests root (sample_of s) e k) (numbered (train_call_of table m s e k).answer)
  unfolding train_call_of trained_by
  train-on s e k =
      answered _ (on_state fault (train_of root (sample_of s) e k)) (λ p. (trained_by table m s e k p).answer) (above-append (state_tests table m) _ state-above (train-above root (sample_of s) e k))
      (on-state _ (train_of root (sample_of s) e k) (λ w. train-ordered root (sample_of s) e k)) (λ n. refl) (λ g. refl)

  -- ---- room beside the state

  judged-first : (n : Needs) (R C : ℕ) → judged_to table m.reals m.counts R C n ≡ first_of (room_tests_by table m R C (plan.gives n))
  unfolding judged_to room_tests_by first_of
  judged-first n R C = refl

  room-above : (R C : ℕ) (p : plan.Paper Needs) → Above (room_tests_by table m R C p)
  unfolding room_tests_by Above
  room-above R C (plan.gives n) = (no 9, (no 9, (no 9, (no 9, (no 11, tt)))))
  room-above R C (plan.refuses k) = (no 11, tt)
  room-above R C (plan.refuses_at k at) = (no 11, tt)

  -- ---- a copy

  copied : (f : ℕ) (x to : Memory) → (cond (not (eqb f 0)) (clone_end f to) (clone_end 0 x)).answer ≡ f
  copied f x to = pick (eqb f 0) refl
    where
      pick : (b : Bool) → eqb f 0 ≡ b → (cond (not b) (clone_end f to) (clone_end 0 x)).answer ≡ f
      pick true h = sym (eqb-true f 0 h)
      pick false h = refl

  clone-by : (to : Memory) (p : plan.Paper Needs) → Ordered (room_tests_by table m (length to.reals) (length to.counts) p) (numbered (clone_by table m to p).answer)
  unfolding room_tests_by cloned_by numbered
  clone-by to (plan.gives n) =
      let R = length to.reals in
      let C = length to.counts in
      let f = judged_to table m.reals m.counts R C n in
      let ts = room_tests_by table m R C (plan.gives n) in
      subst (λ (k : ℕ). Ordered ts (numbered k)) (sym (copied f (cleared_root table (copied_to n m to)) to)) (numbered-ordered ts f (judged-first n R C) (room-above R C (plan.gives n)))
  clone-by to (plan.refuses k) = held 12 []
  clone-by to (plan.refuses_at k at) = held 12 []

  clone-ordered : (to : Memory) → Ordered (room_tests table m (length to.reals) (length to.counts)) (numbered (clone_of table m to).answer)
  unfolding room_tests clone_of
  clone-ordered to = clone-by to (sizes_of table)

  clone-left : (to : Memory) (p : plan.Paper Needs) → Guarded (clone_by table m to p).answer (clone_by table m to p).copy to
  unfolding cloned_by
  clone-left to (plan.gives n) = pick (eqb f 0)
    where
      f : ℕ
      f = judged_to table m.reals m.counts (length to.reals) (length to.counts) n

      x : Memory
      x = cleared_root table (copied_to n m to)

      pick : (b : Bool) → Guarded (cond (not b) (clone_end f to) (clone_end 0 x)).answer (cond (not b) (clone_end f to) (clone_end 0 x)).copy to
      pick true z = absurd (z refl)
      pick false z = refl
  clone-left to (plan.refuses k) = λ z. refl
  clone-left to (plan.refuses_at k at) = λ z. refl

  clone-stays : (to : Memory) → Guarded (clone_of table m to).answer (clone_of table m to).copy to
  unfolding clone_of
  clone-stays to = clone-left to (sizes_of table)

  -- ---- an update

  module _ (large : Words table) (bins_rate axes_rate : Float) (R C : ℕ) where
    abbrev call : StateEnd
    call = update_of table bins_rate axes_rate R C m

    abbrev told-by : Paper Grid
    told-by = update.update_of bins_rate axes_rate root

    judged-clear : (n : Needs) → sizes_of table ≡ plan.gives n → judged_to table m.reals m.counts R C n ≡ 0 → (fault ≡ 0) × (room_fault table R C ≡ 0)
    unfolding judged_to state_fault fault_by judged_by room_fault room_by
    judged-clear n e f =
        let a = passes (ltb (length m.reals) n.reals) 10 _ (λ z. omega (arith, z)) f in
        let b = passes (ltb (length m.counts) n.counts) 10 _ (λ z. omega (arith, z)) a.1 in
        let c = passes (ltb R n.reals) 10 _ (λ z. omega (arith, z)) b.1 in
        let d = passes (ltb C n.counts) 10 _ (λ z. omega (arith, z)) c.1 in
        (rw (e, a.0, b.0) d.1, rw (e, c.0, d.0))

    stray : (n : Needs) → sizes_of table ≡ plan.gives n → (judged_to table m.reals m.counts R C n ≡ 0 → ⊥) → call ≡ state_end (judged_to table m.reals m.counts R C n) m
    unfolding update_of updated_by
    stray n e z = ap (update_by table bins_rate axes_rate R C m) e ∙ stopped (judged_to table m.reals m.counts R C n) (state_end (judged_to table m.reals m.counts R C n) m) _ z

    -- the model's answer as a number
    objection : Paper Grid → ℕ
    objection (gives g) = 0
    objection (refuses n) = n

    called-says : (e : StateEnd) (p : Paper Grid) → Called table m e p → (e.answer ≡ objection p) × Guarded e.answer e.state m
    unfolding Called objection
    called-says e (gives g) c = (c.0, λ z. absurd (z c.0))
    called-says e (refuses n) c = (ap (λ (x : StateEnd). x.answer) c, λ z. ap (λ (x : StateEnd). x.state) c)

    says : (n : Needs) → sizes_of table ≡ plan.gives n → judged_to table m.reals m.counts R C n ≡ 0 → (call.answer ≡ objection told-by) × Guarded call.answer call.state m
    says n e z = let f = judged-clear n e z in called-says call told-by (update-called table m large f.0 bins_rate axes_rate R C f.1)

    update-by : (p : plan.Paper Needs) → sizes_of table ≡ p → Ordered (room_tests_by table m R C p ++ update_tests bins_rate axes_rate root) (numbered call.answer) × Guarded call.answer call.state m
    unfolding room_tests_by update_of objection numbered
    update-by (plan.gives n) e = pick (eqb f 0) refl
      where
        f : ℕ
        f = judged_to table m.reals m.counts R C n

        ts : List Test
        ts = room_tests_by table m R C (plan.gives n)

        us : List Test
        us = update_tests bins_rate axes_rate root

        all : Ordered (ts ++ us) (cond (not (eqb f 0)) (refuses f) (numbered (objection told-by)))
        all = by_number ts us (numbered (objection told-by)) f (judged-first n R C) (room-above R C (plan.gives n))
            (λ z. answered us told-by objection (update-above bins_rate axes_rate root) (update-ordered bins_rate axes_rate root) (λ k. refl) (λ g. refl))

        pick : (b : Bool) → eqb f 0 ≡ b → Ordered (ts ++ us) (numbered call.answer) × Guarded call.answer call.state m
        pick true h =
            let q = says n e (eqb-true f 0 h) in
            let z : cond (not (eqb f 0)) (refuses f) (numbered (objection told-by)) ≡ numbered call.answer = rw h (ap numbered (sym q.0)) in
            (subst (λ (p : Paper Word). Ordered (ts ++ us) p) z all, q.1)
        pick false h =
            let y = eqb-false f 0 h in
            let q = stray n e y in
            let z : cond (not (eqb f 0)) (refuses f) (numbered (objection told-by)) ≡ numbered call.answer = rw h (sym (ap (λ (x : StateEnd). numbered x.answer) q ∙ numbered-refuses f y)) in
            (subst (λ (p : Paper Word). Ordered (ts ++ us) p) z all, λ x. ap (λ (x : StateEnd). x.state) q)
    update-by (plan.refuses k) e = rw e (held 12 _, λ z. refl)
    update-by (plan.refuses_at k at) e = rw e (held 12 _, λ z. refl)

    update-on : Ordered (room_tests table m R C ++ update_tests bins_rate axes_rate root) (numbered call.answer) × Guarded call.answer call.state m
    unfolding room_tests
    update-on = update-by (sizes_of table) refl

  -- ---- two states

  module _ (other : List ℕ) (o : Memory) where
    abbrev theirs : Grid
    theirs = root_of other o.reals o.counts

    abbrev pair : ℕ
    pair = pair_fault table m.reals m.counts other o.reals o.counts

    second-first : (n : Needs) (p : plan.Paper Needs) → (second_by table m.reals m.counts n other o.reals o.counts p ≡ first_of (second_tests table m n other o p)) × Above (second_tests table m n other o p)
    unfolding second_by both_judged second_tests first_of Above
    second-first n (plan.gives k) = (refl, (no 9, (no 9, (no 9, (no 9, (no 11, (no 11, tt)))))))
    second-first n (plan.refuses k) = (refl, (no 11, tt))
    second-first n (plan.refuses_at k at) = (refl, (no 11, tt))

    first-first : (p : plan.Paper Needs) → (first_by table m.reals m.counts p other o.reals o.counts ≡ first_of (first_tests table m p other o)) × Above (first_tests table m p other o)
    unfolding first_by first_tests first_of Above
    first-first (plan.gives n) = second-first n (sizes_of other)
    first-first (plan.refuses k) = (refl, (no 11, tt))
    first-first (plan.refuses_at k at) = (refl, (no 11, tt))

    pair-first : (pair ≡ first_of (pair_tests table m other o)) × Above (pair_tests table m other o)
    unfolding pair_fault pair_tests
    pair-first = first-first (sizes_of table)

    match-ordered : Ordered (pair_tests table m other o ++ match_tests root theirs) (numbered (mergeable_of table m.reals m.counts other o.reals o.counts))
    unfolding mergeable_of
    match-ordered =
        subst (λ (p : Paper Word). Ordered (pair_tests table m other o ++ match_tests root theirs) p) (sym (numbered-by pair (merge_fault root theirs)))
        (by_number (pair_tests table m other o) (match_tests root theirs) (numbered (merge_fault root theirs)) pair pair-first.0 pair-first.1
        (λ z. numbered-ordered (match_tests root theirs) (merge_fault root theirs) (match-first root theirs) (match-above root theirs)))

    abbrev united : Paper Grid → StateEnd
    united p = united_by p (united_grid table other o 4 0 0 m) m

    merge_on : Ordered (pair_tests table m other o ++ merge_tests root theirs) (numbered (merge_into_of table m other o).answer)
    unfolding merge_into_of united_by
    merge_on =
        subst (λ (p : Paper Word). Ordered (pair_tests table m other o ++ merge_tests root theirs) p)
        (sym (ap numbered (end-answer pair m (united (merge_of root theirs))) ∙ numbered-by pair (united (merge_of root theirs)).answer))
        (by_number (pair_tests table m other o) (merge_tests root theirs) (numbered (united (merge_of root theirs)).answer) pair pair-first.0 pair-first.1
        (λ z. answered (merge_tests root theirs) (merge_of root theirs) (λ p. (united p).answer) (merge-above root theirs) (merge-ordered root theirs) (λ n. refl) (λ g. refl)))

    united-stays : (p : Paper Grid) → Guarded (united p).answer (united p).state m
    unfolding united_by
    united-stays (gives g) = λ z. absurd (z refl)
    united-stays (refuses n) = λ z. refl

    merge-stays : Guarded (merge_into_of table m other o).answer (merge_into_of table m other o).state m
    unfolding merge_into_of
    merge-stays = end_stays pair m (united (merge_of root theirs)) (united-stays (merge_of root theirs))

  -- ---- draw_and_train

  batch-refused : (s : MonteCarloRng) (es : List Float) (k n : ℕ) → First (state_tests table m) n → batch_of table m s es k ≡ batch_end (batched n 0 s) m
  unfolding batch_of
  batch-refused s es k n f =
      let e : fault ≡ n = state-first ∙ first-is (state_tests table m) n f in
      stopped fault (batch_end (batched fault 0 s) m) _ (λ z. first_above (state_tests table m) n state-above f (sym e ∙ z)) ∙ ap (λ (j : ℕ). batch_end (batched j 0 s) m) e

  none-fault : NoneHolds (state_tests table m) → fault ≡ 0
  none-fault w = state-first ∙ none_is (state_tests table m) w

  batch-starts : (s : MonteCarloRng) (es : List Float) (k : ℕ) → NoneHolds (state_tests table m) → batch_of table m s es k ≡ steps_of table es m s k 0
  unfolding batch_of
  batch-starts s es k w = went_on fault (batch_end (batched fault 0 s) m) (steps_of table es m s k 0) (none-fault w)

  module _ (s : MonteCarloRng) (e : Float) (es : List Float) (k done : ℕ) (w : NoneHolds (state_tests table m)) where
    abbrev drawn : grid.Drawing
    drawn = laid_drawing (draw_grid root s)

    abbrev answer : Paper Grid
    answer = train_of root (sample_of drawn.sample) e k

    abbrev rest : StepEnd → BatchEnd
    rest o = unless_refused done o (steps_of table es o.state o.stream (k + 1) (done + 1))

    batch-stops : (n : ℕ) → First (train_tests root (sample_of drawn.sample) e k) n → steps_of table (e ∷ es) m s k done ≡ batch_end (batched n done s) m
    unfolding steps_of unless_refused objection_of
    batch-stops n f =
        let z = first_above (train_tests root (sample_of drawn.sample) e k) n (train-above root (sample_of drawn.sample) e k) f in
        let q = ((train-ordered root (sample_of drawn.sample) e k).refused n).1 f in
        let o = drawn-objected table m s e k (none-fault w) n (sym (ap objection_of q)) z in
        sym (ap rest o) ∙ stopped n (batch_end (batched n done s) m) _ z

    batch-goes-on : NoneHolds (train_tests root (sample_of drawn.sample) e k)
        → steps_of table (e ∷ es) m s k done ≡ steps_of table es (train_call_of table m drawn.sample e k).state (draw_grid root s).stream (k + 1) (done + 1)
    unfolding steps_of unless_refused objection_of laid_drawing
    batch-goes-on none =
        let q = (train-ordered root (sample_of drawn.sample) e k).answered none in
        let nil : objection_of answer ≡ 0 = ap objection_of q.1 in
        let taken = absorbed 4 table drawn.sample e k 0 0 m in
        let o = drawn-done table m s e k (none-fault w) 0 taken (sym nil) refl refl in
        let t = train-done table m drawn.sample e k taken (none-fault w) nil refl in
        sym (ap rest o) ∙ ap (λ (x : StateEnd). steps_of table es x.state (draw_grid root s).stream (k + 1) (done + 1)) t

  pub demand-1 : Demand1 table m
  demand-1 = record {
    draw = draw-ordered;
    draw-stays = draw-unchanged;
    summary = summary-ordered;
    live-estimate = estimate-ordered;
    live-estimate-of-bin = bin-ordered;
    fresh = fresh-ordered;
    fresh-stays = fresh-stays;
    clone = clone-ordered;
    clone-stays = clone-stays;
    probe = probe-on;
    train = train-on;
    train-stays = λ s e k. train-stays table m s e k;
    is-mergeable = match-ordered;
    merge = merge_on;
    merge-stays = merge-stays;
    update = λ large bins_rate axes_rate R C. (update-on large bins_rate axes_rate R C).0;
    update-stays = λ large bins_rate axes_rate R C. (update-on large bins_rate axes_rate R C).1;
    draw-and-train = batch-refused;
    draw-and-train-starts = batch-starts;
    draw-and-train-refuses = λ s e es k done n w f. batch-stops s e es k done w n f;
    draw-and-train-goes-on = λ s e es k done w none. batch-goes-on s e es k done w none;
  }
