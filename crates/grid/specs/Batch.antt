-- Histories with draw_and_train among the calls: it is draws and trainings one by one, up to the first refusal.
use Rattle.std.specs.Prelude.{cond, List, [], ◌∷◌, ◌++◌, ℕ, ◌+◌, eqb, Float}
use Rattle.doubles.specs.Paper.{Paper, gives, refuses}
use Rattle.stream.specs.declared.MonteCarloRng.{MonteCarloRng}
use Rattle.model.specs.Grid.{Grid}
use Rattle.model.specs.Draw.{draw_grid}
use Rattle.model.specs.Train.{train_of}
use Rattle.lent.specs.Batched.{Batched}
use Rattle.lent.specs.Memory.{Memory}
use Rattle.lent.specs.Sampled.{laid_drawing}
use Rattle.lent.specs.State.{root_of}
use Rattle.lent.specs.Calls.{train_call_of}
use Rattle.lent.specs.Batched.{batched, batch_of}
use Rattle.grid.specs.History.{Word, told, after}
use Rattle.grid.specs.Lent.{Deed, draws, trains, reply_of, state_of, seen, worded}

-- its calls one by one
unfoldable pub batch_deeds : List ℕ → Memory → MonteCarloRng → List Float → ℕ → List Deed
batch_deeds table m s [] k = []
batch_deeds table m s (e ∷ es) k =
    let d = laid_drawing (draw_grid (root_of table m.reals m.counts) s) in
    let t = train_call_of table m d.sample e k in
    draws s ∷ (trains d.sample e k ∷ cond (eqb t.answer 0) (batch_deeds table t.state d.stream es (k + 1)) [])

-- a call, or a batch from a stream with its evaluations and its first number
pub data Act : Type 0 where
  one : Deed → Act
  batch : MonteCarloRng → List Float → ℕ → Act

unfoldable pub act_state : List ℕ → Memory → Act → Memory
act_state table m (one d) = state_of table m d
act_state table m (batch s es k) = (batch_of table m s es k).state

unfoldable pub acted : List ℕ → Memory → List Act → Memory
acted table m [] = m
acted table m (a ∷ rest) = acted table (act_state table m a) rest

-- the same with every batch opened
unfoldable pub act_deeds : List ℕ → Memory → Act → List Deed
act_deeds table m (one d) = d ∷ []
act_deeds table m (batch s es k) = batch_deeds table m s es k

unfoldable pub opened : List ℕ → Memory → List Act → List Deed
opened table m [] = []
opened table m (a ∷ rest) = act_deeds table m a ++ opened table (act_state table m a) rest

-- ---- every answer, batches' too, and the model's

pub data Reply : Type 0 where
  said : Paper Word → Reply
  counted : Batched → Reply

unfoldable pub act_reply : List ℕ → Memory → Act → Reply
act_reply table m (one d) = said (reply_of table m d)
act_reply table m (batch s es k) = counted (batch_of table m s es k).answer

unfoldable pub act_replies : List ℕ → Memory → List Act → List Reply
act_replies table m [] = []
act_replies table m (a ∷ rest) = act_reply table m a ∷ act_replies table (act_state table m a) rest

-- what the model's batch answers, and its grid afterwards
pub record Ended : Type 0 where
  pub answer : Batched
  pub grid : Grid

-- the model's batch: each sample drawn and trained, up to the first refusal
unfoldable pub batch_by : Paper Grid → Grid → MonteCarloRng → ℕ → (Grid → Ended) → Ended
batch_by (gives h) g s done f = f h
batch_by (refuses n) g s done f = record { answer = batched n done s; grid = g }

unfoldable pub model_batch : List Float → Grid → MonteCarloRng → ℕ → ℕ → Ended
model_batch [] g s k done = record { answer = batched 0 done s; grid = g }
model_batch (e ∷ es) g s k done =
    batch_by (train_of g (draw_grid g s).sample e k) g s done (λ (h : Grid). model_batch es h (draw_grid g s).stream (k + 1) (done + 1))

unfoldable pub model_reply : List ℕ → Grid → Act → Reply
model_reply table g (one d) = said (worded (told g (seen table d)))
model_reply table g (batch s es k) = counted (model_batch es g s k 0).answer

unfoldable pub model_state : List ℕ → Grid → Act → Grid
model_state table g (one d) = after g (seen table d)
model_state table g (batch s es k) = (model_batch es g s k 0).grid

unfoldable pub model_replies : List ℕ → Grid → List Act → List Reply
model_replies table g [] = []
model_replies table g (a ∷ rest) = model_reply table g a ∷ model_replies table (model_state table g a) rest

unfoldable pub model_run : List ℕ → Grid → List Act → Grid
model_run table g [] = g
model_run table g (a ∷ rest) = model_run table (model_state table g a) rest
