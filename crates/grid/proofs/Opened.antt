-- draw_and_train in histories: a batch leaves what its draws and trainings leave one by one, so the demands hold with batches among the calls.
use mathlib.Core.Path.{◌≡◌, refl, sym, ap, ◌∙◌, subst}
use mathlib.Core.Bool.{Bool, true, false, cond}
use mathlib.Core.List.{List, [], ◌∷◌, ◌++◌}
use Prim.Native.Nat.{ℕ, ◌+◌}
use borrow.Author.Tests.{eqb-true, eqb-false}
use lib.Dec.{eqb}
use lib.Ieee.{Float}
use Rattle.doubles.specs.Paper.{Paper, gives, refuses}
use Rattle.stream.specs.declared.MonteCarloRng.{MonteCarloRng}
use Rattle.plan.specs.Bounds.{Bytes}
use Rattle.plan.specs.Paper as plan
use Rattle.plan.specs.Paper.{PlanRead}
use Rattle.plan.proofs.Tables.{Words}
use Rattle.model.specs.Grid.{Grid}
use Rattle.model.specs.Draw.{draw_grid}
use Rattle.model.specs.Train.{train_of}
use Rattle.lent.specs.declared.Drawing.{Drawing}
use Rattle.lent.specs.Memory.{Memory}
use Rattle.lent.specs.Sampled.{sample_of, laid_drawing}
use Rattle.lent.specs.Absorbed.{absorbed, objection_of}
use Rattle.lent.specs.State.{root_of, state_fault}
use Rattle.lent.specs.Calls.{StateEnd, fresh_end, fresh_of, train_call_of}
use Rattle.lent.specs.Batched.{StepEnd, BatchEnd, batch_end, batched, unless_refused, steps_of, batch_of}
use Rattle.lent.proofs.States.{stopped, went_on}
use Rattle.lent.proofs.Objections.{grants, train-objection, train-done}
use Rattle.lent.proofs.Batches.{drawn-objected, drawn-done, trained-onward}
use Rattle.lent.proofs.FreshState.{fresh-founds}
use Rattle.grid.specs.Lent.{Deed, state_of, ending, lent_log}
use Rattle.grid.specs.Batch.{batch_deeds, Act, one, batch, act_state, acted, act_deeds, opened}
use Rattle.grid.specs.Demand3.{Demand3}
use Rattle.grid.proofs.Kept.{refused_none}
use Rattle.grid.proofs.Tied.{Wordy}
use Rattle.grid.proofs.Second.{AllWordy, runs}
use Rattle.grid.proofs.ThirdLent.{demand-3-memory}

-- ---- one evaluation

module _ (table : List ℕ) (m : Memory) (s : MonteCarloRng) (e : Float) (es : List Float) (k done : ℕ) (fault : state_fault table m.reals m.counts ≡ 0) where
  abbrev root : Grid
  root = root_of table m.reals m.counts

  abbrev drawn : Drawing
  drawn = laid_drawing (draw_grid root s)

  abbrev call : StateEnd
  call = train_call_of table m drawn.sample e k

  abbrev rest : StepEnd → BatchEnd
  rest o = unless_refused done o (steps_of table es o.state o.stream (k + 1) (done + 1))

  -- what a batch's first step comes to: its state where it is refused, else the others from there
  pub record Stepped : Type 0 where
    pub stops : (call.answer ≡ 0 → ⊥) → (steps_of table (e ∷ es) m s k done ≡ batch_end (batched call.answer done s) m) × (call.state ≡ m)
    pub goes : call.answer ≡ 0 → steps_of table (e ∷ es) m s k done ≡ steps_of table es call.state drawn.stream (k + 1) (done + 1)

  stepped_by : (p : Paper Grid) → train_of root (sample_of drawn.sample) e k ≡ p → Stepped
  unfolding steps_of unless_refused objection_of
  stepped_by (gives g) h =
      let nil : objection_of (train_of root (sample_of drawn.sample) e k) ≡ 0 = ap objection_of h in
      let taken = absorbed 4 table drawn.sample e k 0 0 m in
      let o = drawn-done table m s e k fault 0 taken (sym nil) refl refl in
      let t = train-done table m drawn.sample e k taken fault nil refl in
      record {
        stops = λ z. absurd (z (sym (ap (λ (x : StateEnd). x.answer) t)));
        goes = λ z. sym (ap rest o) ∙ ap (λ (x : StateEnd). steps_of table es x.state drawn.stream (k + 1) (done + 1)) t;
      }
  stepped_by (refuses n) h =
      let z : n ≡ 0 → ⊥ = λ y. refused_none n _ (sym h ∙ (grants root drawn.sample e k (ap objection_of h ∙ y)).gave) in
      let o = drawn-objected table m s e k fault n (sym (ap objection_of h)) z in
      let t = train-objection table m drawn.sample e k n fault (sym (ap objection_of h)) z in
      record {
        stops = λ y. (sym (ap rest o) ∙ stopped n (batch_end (batched n done s) m) _ z ∙ ap (λ (x : StateEnd). batch_end (batched x.answer done s) m) t, sym (ap (λ (x : StateEnd). x.state) t));
        goes = λ y. absurd (z (ap (λ (x : StateEnd). x.answer) t ∙ y));
      }

  pub stepped : Stepped
  stepped = stepped_by (train_of root (sample_of drawn.sample) e k) refl

-- ---- a batch

pub batch-ends : (table : List ℕ) → Words table → (es : List Float) (m : Memory) (s : MonteCarloRng) (k done : ℕ) → state_fault table m.reals m.counts ≡ 0
    → (steps_of table es m s k done).state ≡ ending table m (batch_deeds table m s es k)
unfolding steps_of batch_deeds ending state_of
batch-ends table large [] m s k done f = refl
batch-ends table large (e ∷ es) m s k done f = pick (eqb t.answer 0) refl (λ z. batch-ends table large es t.state d.stream (k + 1) (done + 1) (trained-onward table m d.sample e k large f z).clear)
  where
    d : Drawing
    d = laid_drawing (draw_grid (root_of table m.reals m.counts) s)

    t : StateEnd
    t = train_call_of table m d.sample e k

    step : Stepped table m s e es k done f
    step = stepped table m s e es k done f

    pick : (b : Bool) → eqb t.answer 0 ≡ b → (t.answer ≡ 0 → (steps_of table es t.state d.stream (k + 1) (done + 1)).state ≡ ending table t.state (batch_deeds table t.state d.stream es (k + 1)))
        → (steps_of table (e ∷ es) m s k done).state ≡ ending table t.state (cond (eqb t.answer 0) (batch_deeds table t.state d.stream es (k + 1)) [])
    pick true h on =
        let z = eqb-true t.answer 0 h in
        ap (λ (x : BatchEnd). x.state) (step.goes z) ∙ on z ∙ ap (λ (b : Bool). ending table t.state (cond b (batch_deeds table t.state d.stream es (k + 1)) [])) (sym h)
    pick false h on =
        let q = step.stops (eqb-false t.answer 0 h) in
        ap (λ (x : BatchEnd). x.state) q.0 ∙ sym q.1 ∙ ap (λ (b : Bool). ending table t.state (cond b (batch_deeds table t.state d.stream es (k + 1)) [])) (sym h)

-- its calls lend no other table
batch-wordy : (table : List ℕ) (es : List Float) (m : Memory) (s : MonteCarloRng) (k : ℕ) → AllWordy (batch_deeds table m s es k)
unfolding batch_deeds AllWordy Wordy
batch-wordy table [] m s k = tt
batch-wordy table (e ∷ es) m s k = (tt, (tt, pick (eqb t.answer 0) (batch-wordy table es t.state d.stream (k + 1))))
  where
    d : Drawing
    d = laid_drawing (draw_grid (root_of table m.reals m.counts) s)

    t : StateEnd
    t = train_call_of table m d.sample e k

    pick : (b : Bool) → AllWordy (batch_deeds table t.state d.stream es (k + 1)) → AllWordy (cond b (batch_deeds table t.state d.stream es (k + 1)) [])
    pick true w = w
    pick false w = tt

-- ---- a history

unfoldable pub WordyActs : List Act → Type 0
WordyActs [] = Unit
WordyActs (one d ∷ as') = Wordy d × WordyActs as'
WordyActs (batch s es k ∷ as') = WordyActs as'

wordy-append : (ds es : List Deed) → AllWordy ds → AllWordy es → AllWordy (ds ++ es)
unfolding AllWordy
wordy-append [] es v w = w
wordy-append (d ∷ ds) es v w = (v.0, wordy-append ds es v.1 w)

ending-append : (table : List ℕ) (ds es : List Deed) (m : Memory) → ending table m (ds ++ es) ≡ ending table (ending table m ds) es
unfolding ending
ending-append table [] es m = refl
ending-append table (d ∷ ds) es m = ending-append table ds es (state_of table m d)

pub act-wordy : (table : List ℕ) (m : Memory) (a : Act) (rest : List Act) → WordyActs (a ∷ rest) → AllWordy (act_deeds table m a) × WordyActs rest
unfolding WordyActs AllWordy act_deeds
act-wordy table m (one d) rest w = ((w.0, tt), w.1)
act-wordy table m (batch s es k) rest w = (batch-wordy table es m s k, w)

act-ends : (table : List ℕ) → Words table → (a : Act) (m : Memory) → state_fault table m.reals m.counts ≡ 0 → act_state table m a ≡ ending table m (act_deeds table m a)
unfolding act_state act_deeds ending batch_of
act-ends table large (one d) m f = refl
act-ends table large (batch s es k) m f =
    let fault = state_fault table m.reals m.counts in
    ap (λ (x : BatchEnd). x.state) (went_on fault (batch_end (batched fault 0 s) m) (steps_of table es m s k 0) f) ∙ batch-ends table large es m s k 0 f

pub act-clear : (table : List ℕ) → Words table → (a : Act) (rest : List Act) (m : Memory) → state_fault table m.reals m.counts ≡ 0 → WordyActs (a ∷ rest)
    → state_fault table (act_state table m a).reals (act_state table m a).counts ≡ 0
act-clear table large a rest m f w =
    ap (λ (x : Memory). state_fault table x.reals x.counts) (act-ends table large a m f) ∙ (runs table large (act_deeds table m a) m f (act-wordy table m a rest w).0).clear

pub acts-end : (table : List ℕ) → Words table → (as' : List Act) (m : Memory) → state_fault table m.reals m.counts ≡ 0 → WordyActs as'
    → (acted table m as' ≡ ending table m (opened table m as')) × AllWordy (opened table m as')
unfolding acted opened ending AllWordy
acts-end table large [] m f w = (refl, tt)
acts-end table large (a ∷ rest) m f w =
    let v = act-wordy table m a rest w in
    let e = act-ends table large a m f in
    let r = acts-end table large rest (act_state table m a) (act-clear table large a rest m f w) v.1 in
    (r.0 ∙ ap (λ (x : Memory). ending table x (opened table (act_state table m a) rest)) e ∙ sym (ending-append table (act_deeds table m a) (opened table (act_state table m a) rest) m), wordy-append (act_deeds table m a) _ v.0 r.1)

-- demand 3 of lent memory, draw_and_train among the calls
pub demand-3-acts : (bs table ys : List ℕ) (s t : Memory) (r : PlanRead) → Bytes bs → Words ys → fresh_of bs table s ≡ fresh_end (plan.gives r) ys t → (as' : List Act) → WordyActs as'
    → Demand3 (root_of ys (acted ys t as').reals (acted ys t as').counts) (lent_log ys t (opened ys t as'))
demand-3-acts bs table ys s t r small large laid as' wordy =
    let q = acts-end ys large as' t (fresh-founds bs table ys s t r small large laid).clear wordy in
    subst (λ (x : Memory). Demand3 (root_of ys x.reals x.counts) (lent_log ys t (opened ys t as'))) (sym q.0) (demand-3-memory bs table ys s t r small large laid (opened ys t as') q.1)
