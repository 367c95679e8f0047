-- Draws and trainings one by one on a state that was judged once: a trained state is clear again, so no later draw or training is refused for it.
use mathlib.Core.Path.{◌≡◌, refl, sym, ap, ◌∙◌}
use mathlib.Core.Bool.{Bool, true, false}
use mathlib.Core.List.{List}
use Prim.Native.Nat.{ℕ, suc, ◌+◌, ◌^◌, ◌≤◌, ◌<◌}
use native.Mathlib.Omega.{arith}
use native.Mathlib.Numerals.{add-one}
use borrow.Author.Tests.{ne_eqb, eqb-true, eqb-false, le-ltb, leb-true}
use lib.Dec.{eqb, leb}
use lib.ListN.{length, get_or, drop, drop_of_length-le}
use lib.Seq.{drop-cons}
use lib.Ieee.{Float, nan}
use Rattle.doubles.specs.Paper.{Paper, gives, refuses}
use Rattle.doubles.proofs.Truth.{both}
use Rattle.stream.specs.declared.MonteCarloRng.{MonteCarloRng}
use Rattle.plan.proofs.Tables.{Words}
use Rattle.model.specs.Grid.{Grid}
use Rattle.model.specs.Sound.{sound}
use Rattle.model.specs.Draw as model
use Rattle.model.specs.Draw.{draw_grid}
use Rattle.model.specs.Train.{numbered, train_of}
use Rattle.lent.specs.declared.Sample.{Sample}
use Rattle.lent.specs.declared.Drawing.{Drawing}
use Rattle.lent.specs.Memory.{Memory}
use Rattle.lent.specs.Sampled.{sample_of, laid_drawing, Short}
use Rattle.lent.specs.Absorbed.{absorbed, objection_of}
use Rattle.lent.specs.State.{root_of, judged_by, fault_by, state_fault}
use Rattle.lent.specs.Calls.{StateEnd, drawn_as, draw_of, trained_by, train_call_of}
use Rattle.lent.specs.Batched.{StepEnd, step_end, trained_from, step_by, step_of, BatchEnd, batch_end, batched, unless_refused, steps_of, batch_of}
use Rattle.lent.proofs.States.{clear, answered-last}
use Rattle.lent.proofs.Objections.{grants, takes-root, train-objection, train-done}
use Rattle.lent.proofs.Drawable.{sample-back}
use Rattle.lent.proofs.Given.{same_left}
use Rattle.lent.proofs.AbsorbedTree.{train-trains}

-- ---- a state that stays clear

-- other lists of the same lengths, with a well-formed grid in them
pub clear-again : (table : List ℕ) (m m' : Memory) → Words table → state_fault table m.reals m.counts ≡ 0 → length m'.reals ≡ length m.reals → length m'.counts ≡ length m.counts
    → sound (root_of table m'.reals m'.counts) ≡ true → state_fault table m'.reals m'.counts ≡ 0
unfolding state_fault fault_by judged_by
clear-again table m m' large f r k w =
    let c = clear table m.reals m.counts large f in
    let reals : c.needs.reals ≤ length m'.reals = omega (arith, c.reals-fit) in
    let counts : c.needs.counts ≤ length m'.counts = omega (arith, c.counts-fit) in
    rw (c.planned, le-ltb _ _ reals, le-ltb _ _ counts, w)

-- what a training that was not refused leaves, and its number
pub record Cleared (table : List ℕ) (m : Memory) (k : ℕ) : Type 0 where
  pub clear : state_fault table m.reals m.counts ≡ 0
  pub number : k ≤ 2 ^ 53

number-most : (k : ℕ) → numbered k ≡ true → k ≤ 2 ^ 53
unfolding numbered
number-most k e = leb-true k (2 ^ 53) (both (leb 1 k) (leb k (2 ^ 53)) e).1

answer-objects : (table : List ℕ) (m : Memory) (s : Sample) (e : Float) (k : ℕ) (p : Paper Grid) → (trained_by table m s e k p).answer ≡ objection_of p
unfolding trained_by objection_of
answer-objects table m s e k (gives g) = refl
answer-objects table m s e k (refuses n) = refl

pub trained-onward : (table : List ℕ) (m : Memory) (s : Sample) (e : Float) (k : ℕ) → Words table → state_fault table m.reals m.counts ≡ 0 → (train_call_of table m s e k).answer ≡ 0
    → Cleared table (train_call_of table m s e k).state k
unfolding train_call_of
trained-onward table m s e k large f z =
    let root = root_of table m.reals m.counts in
    let told = train_of root (sample_of s) e k in
    let none : objection_of told ≡ 0 = sym (answer-objects table m s e k told) ∙ sym (ap (λ (p : Paper Grid). (trained_by table m s e k p).answer) (answered-last (state_fault table m.reals m.counts) told f)) ∙ z in
    let q = grants root s e k none in
    let t = train-trains table m s e k _ large f q.gave in
    record { clear = clear-again table m (train_call_of table m s e k).state large f t.reals-long t.counts-long (ap sound t.reads ∙ t.well); number = number-most k q.number }

-- ---- one evaluation

module _ (table : List ℕ) (m : Memory) (s : MonteCarloRng) (e : Float) (k : ℕ) (clear-now : state_fault table m.reals m.counts ≡ 0) where
  abbrev root : Grid
  root = root_of table m.reals m.counts

  abbrev drawing : Drawing
  drawing = laid_drawing (draw_grid root s)

  -- the draw is not refused
  drawn : drawn_as s (draw_of table m.reals m.counts s) ≡ record { refused = 0; drawing = drawing }
  unfolding draw_of drawn_as
  drawn = ap (drawn_as s) (answered-last (state_fault table m.reals m.counts) (gives (draw_grid root s)) clear-now)

  abbrev training : StateEnd
  training = train_call_of table m drawing.sample e k

  -- so the step is the training of what was drawn
  step-trains : step_of table m s e k ≡ trained_from s drawing.stream training
  unfolding step_of step_by
  step-trains = ap (step_by table m s e k) drawn

  pub drawn-objected : (n : ℕ) → n ≡ objection_of (train_of root (sample_of drawing.sample) e k) → (n ≡ 0 → ⊥) → step_end n s m ≡ step_of table m s e k
  unfolding trained_from
  drawn-objected n o z = sym (step-trains ∙ ap (trained_from s drawing.stream) (sym (train-objection table m drawing.sample e k n clear-now o z)) ∙ rw (ne_eqb n 0 z))

  pub drawn-done : (n : ℕ) (m' : Memory) → n ≡ objection_of (train_of root (sample_of drawing.sample) e k) → n ≡ 0 → m' ≡ absorbed 4 table drawing.sample e k 0 0 m → step_end n drawing.stream m' ≡ step_of table m s e k
  unfolding trained_from
  drawn-done n m' o z h =
      ap (λ (j : ℕ). step_end j drawing.stream m') z ∙ sym (step-trains ∙ ap (trained_from s drawing.stream) (sym (train-done table m drawing.sample e k m' clear-now (sym o ∙ z) h)))

  -- the same of a struct that is the drawn sample, whatever its arrays hold past it
  module _ (c : Sample) (n : ℕ) (q : sample_of c ≡ (draw_grid root s).sample) (short : Short 4 (draw_grid root s).sample) (o : n ≡ objection_of (train_of root (sample_of c) e k)) where
    as-drawn : sample_of c ≡ sample_of drawing.sample
    unfolding laid_drawing
    as-drawn = q ∙ sym (sample-back (draw_grid root s).sample short)

    objects : n ≡ objection_of (train_of root (sample_of drawing.sample) e k)
    objects = o ∙ ap (λ (x : model.Sample). objection_of (train_of root x e k)) as-drawn

    pub step-objected : (n ≡ 0 → ⊥) → step_end n s m ≡ step_of table m s e k
    step-objected z = drawn-objected n objects z

    pub step-done : (s' : MonteCarloRng) (m' : Memory) → sound root ≡ true → s' ≡ (draw_grid root s).stream → n ≡ 0 → m' ≡ absorbed 4 table c e k 0 0 m → step_end n s' m' ≡ step_of table m s e k
    unfolding laid_drawing
    step-done s' m' well r z h =
        ap (λ (t : MonteCarloRng). step_end n t m') r ∙ drawn-done n m' objects z (h ∙ same_left table e k c drawing.sample m (takes-root root c e k well (sym o ∙ z)) as-drawn)

  -- a step that was not refused leaves a clear state, and its number was at most 2^53, so that the next one's does not overflow
  pub step-onward : (n : ℕ) (s' : MonteCarloRng) (m' : Memory) → Words table → step_end n s' m' ≡ step_of table m s e k → n ≡ 0 → Cleared table m' k
  unfolding trained_from
  step-onward n s' m' large q z = told (eqb training.answer 0) refl
    where
      told : (b : Bool) → eqb training.answer 0 ≡ b → Cleared table m' k
      told true b =
          let same : step_end n s' m' ≡ step_end 0 drawing.stream training.state = q ∙ step-trains ∙ rw b in
          rw (ap (λ (o : StepEnd). o.state) same) (trained-onward table m drawing.sample e k large clear-now (eqb-true training.answer 0 b))
      told false b =
          let same : step_end n s' m' ≡ step_end training.answer s training.state = q ∙ step-trains ∙ rw b in
          absurd (eqb-false training.answer 0 b (sym (ap (λ (o : StepEnd). o.refused) same) ∙ z))

-- ---- the evaluations in order

module _ (table : List ℕ) (es : List Float) (i : ℕ) (m : Memory) (s : MonteCarloRng) (k : ℕ) where
  pub steps-over : length es ≤ i → batch_end (batched 0 i s) m ≡ steps_of table (drop i es) m s k i
  unfolding steps_of
  steps-over h = rw (drop_of_length-le es h)

  module _ (n : ℕ) (s' : MonteCarloRng) (m' : Memory) (h : i < length es) (q : step_end n s' m' ≡ step_of table m s (get_or es i nan) k) where
    -- the step, and the rest after it
    here : steps_of table (drop i es) m s k i ≡ unless_refused i (step_end n s' m') (steps_of table (drop (suc i) es) m' s' (k + 1) (i + 1))
    unfolding steps_of
    here =
        ap (λ (l : List Float). steps_of table l m s k i) (drop-cons es i nan h)
        ∙ ap (λ (o : StepEnd). unless_refused i o (steps_of table (drop (suc i) es) o.state o.stream (k + 1) (i + 1))) (sym q)

    pub steps-stop : (n ≡ 0 → ⊥) → batch_end (batched n i s') m' ≡ steps_of table (drop i es) m s k i
    unfolding unless_refused
    steps-stop z = sym (here ∙ rw (ne_eqb n 0 z))

    pub steps_next : n ≡ 0 → steps_of table (drop (i + 1) es) m' s' (k + 1) (i + 1) ≡ steps_of table (drop i es) m s k i
    unfolding unless_refused
    steps_next z = ap (λ (j : ℕ). steps_of table (drop j es) m' s' (k + 1) (i + 1)) (add-one i) ∙ sym (here ∙ rw z)

-- ---- the call

module _ (table : List ℕ) (m : Memory) (s : MonteCarloRng) (es : List Float) (k : ℕ) where
  pub batch-refused : (n : ℕ) → n ≡ state_fault table m.reals m.counts → (n ≡ 0 → ⊥) → batch_end (batched n 0 s) m ≡ batch_of table m s es k
  unfolding batch_of
  batch-refused n q z = rw (sym q, ne_eqb n 0 z)

  pub batch-runs : (o : BatchEnd) → state_fault table m.reals m.counts ≡ 0 → o ≡ steps_of table es m s k 0 → o ≡ batch_of table m s es k
  unfolding batch_of
  batch-runs o z q = rw z q
