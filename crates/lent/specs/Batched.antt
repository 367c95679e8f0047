-- Draws and trainings in one call, by the calls one by one: each evaluation's sample is drawn by `draw` and trained by `train`.
use Rattle.std.specs.Prelude.{ℕ, ◌+◌, not, cond, List, [], ◌∷◌, eqb, Float}
use Rattle.stream.specs.declared.MonteCarloRng.{MonteCarloRng}
use Rattle.std.specs.Prelude.{Result, Ok, Err}
use Rattle.doubles.specs.Refusal.{number_of, fault_of}
use Rattle.doubles.specs.declared.refusal.Refusal.{Refusal}
use Rattle.lent.specs.declared.Batched as given
use Rattle.lent.specs.Memory.{Memory}
use Rattle.lent.specs.State.{state_fault}
use Rattle.lent.specs.Calls.{StateEnd, Drawn, drawn_as, draw_of, train_call_of}

-- ---- one evaluation

-- a refusal's number or 0, the stream and the two lists afterwards
pub record StepEnd : Type 0 where
  pub refused : ℕ
  pub stream : MonteCarloRng
  pub state : Memory

abbrev pub step_end : ℕ → MonteCarloRng → Memory → StepEnd
step_end n s m = record { refused = n; stream = s; state = m }

-- what the code answers of one: the stream afterwards, or a refusal, and the stream is the one before
abbrev pub step_said : MonteCarloRng → Result MonteCarloRng Refusal → Memory → StepEnd
step_said s (Ok s') m = step_end 0 s' m
step_said s (Err r) m = step_end (number_of r) s m

-- a training's end from the stream before the draw and the one after it: refused, it is the one before
unfoldable pub trained_from : MonteCarloRng → MonteCarloRng → StateEnd → StepEnd
trained_from s s' t = cond (not (eqb t.answer 0)) (step_end t.answer s t.state) (step_end 0 s' t.state)

-- what was drawn, trained
unfoldable pub step_by : List ℕ → Memory → MonteCarloRng → Float → ℕ → Drawn → StepEnd
step_by table m s e number d =
    cond (not (eqb d.refused 0)) (step_end d.refused s m) (trained_from s d.drawing.stream (train_call_of table m d.drawing.sample e number))

-- a draw, then the training of its sample
unfoldable pub step_of : List ℕ → Memory → MonteCarloRng → Float → ℕ → StepEnd
step_of table m s e number = step_by table m s e number (drawn_as s (draw_of table m.reals m.counts s))

-- ---- the evaluations in order

-- a refusal's number or 0, how many were trained, and the stream afterwards
pub record Batched : Type 0 where
  pub refused : ℕ
  pub done : ℕ
  pub stream : MonteCarloRng

-- what the struct says
abbrev pub said : given.Batched → Batched
said b = record { refused = fault_of b.end; done = b.done; stream = b.stream }

-- the answer, and the two lists afterwards
pub record BatchEnd : Type 0 where
  pub answer : Batched
  pub state : Memory

abbrev pub batch_end : Batched → Memory → BatchEnd
batch_end r m = record { answer = r; state = m }

abbrev pub batched : ℕ → ℕ → MonteCarloRng → Batched
batched n done s = record { refused = n; done = done; stream = s }

-- a refused step ends it, else the rest follows
unfoldable pub unless_refused : ℕ → StepEnd → BatchEnd → BatchEnd
unless_refused done o rest = cond (not (eqb o.refused 0)) (batch_end (batched o.refused done o.stream) o.state) rest

-- the evaluations left, the next one's number, and how many were trained before it
unfoldable pub steps_of : List ℕ → List Float → Memory → MonteCarloRng → ℕ → ℕ → BatchEnd
steps_of table [] m s number done = batch_end (batched 0 done s) m
steps_of table (e ∷ es) m s number done =
    let o = step_of table m s e number in unless_refused done o (steps_of table es o.state o.stream (number + 1) (done + 1))

-- the call: the state's own refusal, also where there is nothing to train; then the evaluations, numbered from the first number on
unfoldable pub batch_of : List ℕ → Memory → MonteCarloRng → List Float → ℕ → BatchEnd
batch_of table m s es number =
    let fault = state_fault table m.reals m.counts in
    cond (not (eqb fault 0)) (batch_end (batched fault 0 s) m) (steps_of table es m s number 0)
