-- Demand 2 with draw_and_train among the calls: every answer, a batch's too, is the model's, and the memory at the end reads as the model's
-- grid.
use mathlib.Core.Path.{◌≡◌, refl, sym, ap, ap₂, ◌∙◌, subst}
use mathlib.Core.List.{List, [], ◌∷◌}
use Prim.Native.Nat.{ℕ, ◌+◌}
use lib.Ieee.{Float}
use Rattle.doubles.specs.Paper.{Paper, gives, refuses}
use Rattle.stream.specs.declared.MonteCarloRng.{MonteCarloRng}
use Rattle.plan.specs.Bounds.{Bytes}
use Rattle.plan.specs.Paper as plan
use Rattle.plan.specs.Paper.{PlanRead}
use Rattle.plan.proofs.Tables.{Words}
use Rattle.model.specs.Grid.{Grid}
use Rattle.model.specs.Draw.{Sample, draw_grid}
use Rattle.model.specs.Train.{train_of}
use Rattle.lent.specs.declared.Drawing.{Drawing}
use Rattle.lent.specs.Memory.{Memory}
use Rattle.lent.specs.Sampled.{sample_of, laid_drawing}
use Rattle.lent.specs.Absorbed.{objection_of}
use Rattle.lent.specs.State.{root_of, state_fault}
use Rattle.lent.specs.Calls.{StateEnd, fresh_end, fresh_of, train_call_of}
use Rattle.lent.specs.Batched.{BatchEnd, batch_end, batched, steps_of, batch_of}
use Rattle.lent.proofs.States.{went_on}
use Rattle.lent.proofs.Objections.{grants, train-objection}
use Rattle.lent.proofs.Batches.{trained-onward}
use Rattle.lent.proofs.AbsorbedTree.{train-trains}
use Rattle.lent.proofs.FreshState.{fresh-founds}
use Rattle.grid.specs.Fresh.{fresh}
use Rattle.grid.specs.Lent.{plan_of}
use Rattle.grid.specs.Batch.{Act, one, batch, act_state, acted, Reply, counted, said, act_reply, act_replies, Ended, batch_by, model_batch, model_reply, model_state, model_replies, model_run}
use Rattle.grid.proofs.Kept.{refused_none}
use Rattle.grid.proofs.Tied.{tie}
use Rattle.grid.proofs.Planned.{fresh-planned}
use Rattle.grid.proofs.Whole.{draw-whole}
use Rattle.grid.proofs.Opened.{stepped, WordyActs, act-wordy, act-clear}

-- ---- a batch

-- it ends as the model's batch
pub record Batches (table : List ℕ) (e : BatchEnd) (b : Ended) : Type 0 where
  pub answer : e.answer ≡ b.answer
  pub reads : root_of table e.state.reals e.state.counts ≡ b.grid

module _ (table : List ℕ) (large : Words table) (e : Float) (es : List Float) (m : Memory) (s : MonteCarloRng) (k done : ℕ) (f : state_fault table m.reals m.counts ≡ 0) where
  abbrev root : Grid
  root = root_of table m.reals m.counts

  abbrev drawn : Drawing
  drawn = laid_drawing (draw_grid root s)

  abbrev call : StateEnd
  call = train_call_of table m drawn.sample e k

  batch-by : (p : Paper Grid) (next : Grid → Ended) → train_of root (sample_of drawn.sample) e k ≡ p
      → (call.answer ≡ 0 → Batches table (steps_of table es call.state drawn.stream (k + 1) (done + 1)) (next (root_of table call.state.reals call.state.counts)))
      → Batches table (steps_of table (e ∷ es) m s k done) (batch_by p root s done next)
  unfolding batch_by objection_of
  batch-by (gives g) next h on =
      let t = train-trains table m drawn.sample e k g large f h in
      let q = (stepped table m s e es k done f).goes t.answer in
      subst (λ (x : BatchEnd). Batches table x (next g)) (sym q) (subst (λ (x : Grid). Batches table (steps_of table es call.state drawn.stream (k + 1) (done + 1)) (next x)) t.reads (on t.answer))
  batch-by (refuses n) next h on =
      let z : n ≡ 0 → ⊥ = λ y. refused_none n _ (sym h ∙ (grants root drawn.sample e k (ap objection_of h ∙ y)).gave) in
      let t : n ≡ call.answer = ap (λ (x : StateEnd). x.answer) (train-objection table m drawn.sample e k n f (sym (ap objection_of h)) z) in
      let q = ((stepped table m s e es k done f).stops (λ y. z (t ∙ y))).0 in
      record {
        answer = ap (λ (x : BatchEnd). x.answer) q ∙ ap (λ (j : ℕ). batched j done s) (sym t);
        reads = ap (λ (x : BatchEnd). root_of table x.state.reals x.state.counts) q;
      }

pub batch-told : (table : List ℕ) → Words table → (es : List Float) (m : Memory) (s : MonteCarloRng) (k done : ℕ) → state_fault table m.reals m.counts ≡ 0
    → Batches table (steps_of table es m s k done) (model_batch es (root_of table m.reals m.counts) s k done)
unfolding steps_of model_batch laid_drawing
batch-told table large [] m s k done f = record { answer = refl; reads = refl }
batch-told table large (e ∷ es) m s k done f =
    let g = root_of table m.reals m.counts in
    let d = laid_drawing (draw_grid g s) in
    let t = train_call_of table m d.sample e k in
    batch-by table large e es m s k done f (train_of g (draw_grid g s).sample e k) (λ h. model_batch es h (draw_grid g s).stream (k + 1) (done + 1)) (ap (λ (x : Sample). train_of g x e k) (draw-whole table m s large f))
    (λ z. batch-told table large es t.state d.stream (k + 1) (done + 1) (trained-onward table m d.sample e k large f z).clear)

-- ---- one call or batch

pub record Acts (table : List ℕ) (m : Memory) (a : Act) : Type 0 where
  pub reply : act_reply table m a ≡ model_reply table (root_of table m.reals m.counts) a
  pub reads : root_of table (act_state table m a).reals (act_state table m a).counts ≡ model_state table (root_of table m.reals m.counts) a
  pub fine : state_fault table (act_state table m a).reals (act_state table m a).counts ≡ 0

acts : (table : List ℕ) → Words table → (a : Act) (rest : List Act) (m : Memory) → state_fault table m.reals m.counts ≡ 0 → WordyActs (a ∷ rest) → Acts table m a
unfolding act_reply model_reply act_state model_state batch_of WordyActs
acts table large (one d) rest m f w = let t = tie table m large f d w.0 in record { reply = ap said t.reply; reads = t.reads; fine = t.clear }
acts table large (batch s es k) rest m f w =
    let fault = state_fault table m.reals m.counts in
    let q = went_on fault (batch_end (batched fault 0 s) m) (steps_of table es m s k 0) f in
    let b = batch-told table large es m s k 0 f in
    record {
      reply = ap counted (ap (λ (x : BatchEnd). x.answer) q ∙ b.answer);
      reads = ap (λ (x : BatchEnd). root_of table x.state.reals x.state.counts) q ∙ b.reads;
      fine = act-clear table large (batch s es k) rest m f w;
    }

-- ---- any sequence

all-acts : (table : List ℕ) → Words table → (as' : List Act) (m : Memory) → state_fault table m.reals m.counts ≡ 0 → WordyActs as'
    → (act_replies table m as' ≡ model_replies table (root_of table m.reals m.counts) as') × (root_of table (acted table m as').reals (acted table m as').counts ≡ model_run table (root_of table m.reals m.counts) as')
unfolding act_replies model_replies acted model_run
all-acts table large [] m f w = (refl, refl)
all-acts table large (a ∷ rest) m f w =
    let t = acts table large a rest m f w in
    let r = all-acts table large rest (act_state table m a) t.fine (act-wordy table m a rest w).1 in
    (ap₂ (λ (x : Reply) (xs : List Reply). x ∷ xs) t.reply (r.0 ∙ ap (λ (g : Grid). model_replies table g rest) t.reads), r.1 ∙ ap (λ (g : Grid). model_run table g rest) t.reads)

-- from what `fresh` lays
pub demand-2-acts : (bs table ys : List ℕ) (s t : Memory) (r : PlanRead) → Bytes bs → Words ys → fresh_of bs table s ≡ fresh_end (plan.gives r) ys t → (as' : List Act) → WordyActs as'
    → (act_replies ys t as' ≡ model_replies ys (fresh (plan_of ys)) as') × (root_of ys (acted ys t as').reals (acted ys t as').counts ≡ model_run ys (fresh (plan_of ys)) as')
demand-2-acts bs table ys s t r small large laid as' wordy =
    let f = fresh-founds bs table ys s t r small large laid in
    let start = f.reads ∙ fresh-planned 4 ys 0 in
    let q = all-acts ys large as' t f.clear wordy in
    (q.0 ∙ ap (λ (g : Grid). model_replies ys g as') start, q.1 ∙ ap (λ (g : Grid). model_run ys g as') start)
