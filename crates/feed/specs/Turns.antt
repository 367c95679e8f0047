-- What a turn answers, and what it leaves in the table and in the grid's memory: by what is due, in the document's order.
use Rattle.std.specs.Prelude.{ℕ, ◌*◌, Bool, cond, not, ◌&&◌, ◌||◌, List, length, take, ◌==◌, nat_le, nat_lt, slice_index, Float}
use Rattle.doubles.specs.Paper as real
use Rattle.plan.specs.Numbers.{number_at}
use Rattle.plan.specs.Paper as plan
use Rattle.plan.specs.Calls.{measure_prefix_of}
use Rattle.stream.specs.declared.MonteCarloRng.{MonteCarloRng}
use Rattle.stream.specs.Calls.{new_of}
use Rattle.accumulator.specs.declared.Summary.{Summary}
use Rattle.lent.specs.Batched.{Batched}
use Rattle.lent.specs.Memory.{Memory}
use Rattle.lent.specs.Calls.{FreshEnd, fresh_of, StateEnd, update_of, summary_of}
use Rattle.lent.specs.Batched.{BatchEnd, batch_of}
use Rattle.feed.specs.declared.Phase.{Phase}
use Rattle.feed.specs.declared.Phase.TheVariants as phase
use Rattle.feed.specs.declared.Run.{Run}
use Rattle.feed.specs.declared.fields.Standing.{Standing}
use Rattle.feed.specs.declared.fields.Standing.TheVariants as standing
use Rattle.feed.specs.Said.{Said, waiting, ending, going, telling, refusing_at, refusing}
use Rattle.feed.specs.Fields.{double_at, standing_of, row_from}

-- the answer, and the table and the grid's two lists afterwards
pub record TurnEnd : Type 0 where
  pub answer : Said
  pub table : List ℕ
  pub state : Memory

abbrev pub turn_end : Said → List ℕ → Memory → TurnEnd
turn_end o table m = record { answer = o; table = table; state = m }

-- ---- the plan

-- no byte can change the plan's answer: they are the last, or more than a plan and a field can take
unfoldable pub all_in : List ℕ → Bool → Bool
all_in bs last = last || nat_le 131072 (length bs)

-- a 1 may be for the lack of bytes that still come
unfoldable pub unread_of : Run → Bool → ℕ → ℕ → Said
unread_of run all n at = cond (not all && n == 1) (waiting run) (refusing_at (waiting run) n at)

-- a plan is laid, and its stream is due
unfoldable pub fresh_said : Run → ℕ → plan.Paper plan.PlanRead → Said
fresh_said run end (plan.gives r) = going run phase.Stream run.stream 0 end
fresh_said run end (plan.refuses n) = refusing (waiting run) n
fresh_said run end (plan.refuses_at n at) = refusing_at (waiting run) n at

unfoldable pub fresh_ends : Run → ℕ → FreshEnd → TurnEnd
fresh_ends run end e = turn_end (fresh_said run end e.answer) e.table e.state

-- behind a plan that ends with the bytes an 02 may still come; more than 128 bins are 10 at 0
unfoldable pub found_of : Run → List ℕ → Bool → plan.PlanRead → List ℕ → Memory → TurnEnd
found_of run bs all r table m =
    cond (not all && r.end == length bs) (turn_end (waiting run) table m)
    (cond (nat_lt 128 r.needs.bins) (turn_end (refusing_at (waiting run) 10 0) table m)
    (fresh_ends run r.end (fresh_of (take r.end bs) table m)))

unfoldable pub plan_by : Run → List ℕ → Bool → List ℕ → Memory → plan.Paper plan.PlanRead → TurnEnd
plan_by run bs all table m (plan.gives r) = found_of run bs all r table m
plan_by run bs all table m (plan.refuses n) = turn_end (refusing (waiting run) n) table m
plan_by run bs all table m (plan.refuses_at n at) = turn_end (unread_of run all n at) table m

-- the plan that stands at the front is measured; the table and the memory stay where the turn waits or refuses
unfoldable pub plan_turn : Run → List ℕ → Bool → List ℕ → Memory → TurnEnd
plan_turn run bs last table m = plan_by run bs (all_in bs last) table m (measure_prefix_of bs)

-- ---- the stream's field 10

unfoldable pub made_of : Run → real.Paper MonteCarloRng → Said
made_of run (real.gives s) = going run phase.Samples s 0 13
made_of run (real.refuses n) = refusing (waiting run) n

unfoldable pub stream_by : Run → List ℕ → Standing → Said
stream_by run bs standing.Whole = made_of run (new_of (number_at bs 3 8) (number_at bs 11 2))
stream_by run bs standing.Waiting = waiting run
stream_by run bs standing.Wrong = refusing (waiting run) 1

unfoldable pub stream_turn : Run → List ℕ → Bool → Said
stream_turn run bs last = stream_by run bs (standing_of bs 0x10 10 last)

-- ---- 11s

-- a refused sample is the field behind those that were trained
unfoldable pub trained_of : Run → Batched → Said
trained_of run b =
    let o = going run phase.Samples b.stream b.done (11 * b.done) in
    cond (not (b.refused == 0)) (refusing o b.refused) o

unfoldable pub batch_ends : Run → List ℕ → BatchEnd → TurnEnd
batch_ends run table e = turn_end (trained_of run e.answer) table e.state

unfoldable pub train_of : Run → List ℕ → List Float → Memory → TurnEnd
train_of run table row m = batch_ends run table (batch_of table m run.stream row run.number)

unfoldable pub row_by : Run → List ℕ → List ℕ → Memory → Standing → TurnEnd
row_by run bs table m standing.Whole = train_of run table (row_from bs 0 256) m
row_by run bs table m standing.Waiting = turn_end (waiting run) table m
row_by run bs table m standing.Wrong = turn_end (refusing (waiting run) 1) table m

unfoldable pub row_turn : Run → List ℕ → Bool → List ℕ → Memory → TurnEnd
row_turn run bs last table m = row_by run bs table m (standing_of bs 0x11 8 last)

-- ---- a 12

-- an updated grid's line
unfoldable pub report_of : Run → real.Paper Summary → Said
report_of run (real.gives s) = telling (going run phase.Samples run.stream 0 19) s
report_of run (real.refuses n) = refusing (waiting run) n

unfoldable pub update_ends : Run → List ℕ → StateEnd → TurnEnd
update_ends run table e =
    cond (not (e.answer == 0)) (turn_end (refusing (waiting run) e.answer) table e.state)
    (turn_end (report_of run (summary_of table e.state.reals e.state.counts)) table e.state)

unfoldable pub renew_of : Run → List ℕ → List ℕ → Memory → ℕ → ℕ → TurnEnd
renew_of run bs table m R C = update_ends run table (update_of table (double_at bs 3) (double_at bs 11) R C m)

unfoldable pub update_by : Run → List ℕ → List ℕ → Memory → ℕ → ℕ → Standing → TurnEnd
update_by run bs table m R C standing.Whole = renew_of run bs table m R C
update_by run bs table m R C standing.Waiting = turn_end (waiting run) table m
update_by run bs table m R C standing.Wrong = turn_end (refusing (waiting run) 1) table m

unfoldable pub update_turn : Run → List ℕ → Bool → List ℕ → Memory → ℕ → ℕ → TurnEnd
update_turn run bs last table m R C = update_by run bs table m R C (standing_of bs 0x12 16 last)

-- ---- samples and updates: the input may end before any of them

unfoldable pub samples_turn : Run → List ℕ → Bool → List ℕ → Memory → ℕ → ℕ → TurnEnd
samples_turn run bs last table m R C =
    cond (last && length bs == 0) (turn_end (ending run) table m)
    (cond (slice_index bs 0 == 0x11) (row_turn run bs last table m)
    (update_turn run bs last table m R C))

-- ---- what is due; the spare has R reals and C counts

unfoldable pub turn_by : Phase → Run → List ℕ → Bool → List ℕ → Memory → ℕ → ℕ → TurnEnd
turn_by phase.Plan run bs last table m R C = plan_turn run bs last table m
turn_by phase.Stream run bs last table m R C = turn_end (stream_turn run bs last) table m
turn_by phase.Samples run bs last table m R C = samples_turn run bs last table m R C
turn_by phase.Over run bs last table m R C = turn_end (waiting run) table m

unfoldable pub turn_of : Run → List ℕ → Bool → List ℕ → Memory → ℕ → ℕ → TurnEnd
turn_of run bs last table m R C = turn_by run.phase run bs last table m R C
