-- A turn takes no more bytes than there are.
use Rattle.std.proofs.Common.{◌≡◌, ℕ, ◌*◌, ◌≤◌, Bool, not, ◌&&◌, eqb, ltb, List, length, get_or, take, refl, ap, arith}
use lib.Ieee.{Float}
use Rattle.doubles.specs.Paper as real
use Rattle.plan.specs.Bounds.{Bytes}
use Rattle.plan.specs.Numbers.{number_at}
use Rattle.plan.specs.Paper as plan
use Rattle.plan.specs.Calls.{measure_prefix_of}
use Rattle.plan.proofs.Here.{pick}
use Rattle.stream.specs.declared.MonteCarloRng.{MonteCarloRng}
use Rattle.stream.specs.Calls.{new_of}
use Rattle.accumulator.specs.declared.Summary.{Summary}
use Rattle.lent.specs.Batched.{Batched}
use Rattle.lent.specs.Memory.{Memory}
use Rattle.lent.specs.Calls.{StateEnd, fresh_of, update_of, summary_of}
use Rattle.lent.specs.Batched.{batch_of}
use Rattle.feed.specs.declared.Phase.{Phase}
use Rattle.feed.specs.declared.Phase.TheVariants as phase
use Rattle.feed.specs.declared.Run.{Run}
use Rattle.feed.specs.declared.fields.Standing.{Standing}
use Rattle.feed.specs.declared.fields.Standing.TheVariants as standing
use Rattle.feed.specs.Said.{Said, waiting, ending, going, telling, refusing_at, refusing}
use Rattle.feed.specs.Fields.{double_at, standing_of, row_from}
use Rattle.feed.specs.Turns.{TurnEnd, all_in, unread_of, fresh_said, fresh_ends, found_of, plan_by, plan_turn, made_of, stream_by, stream_turn, trained_of, batch_ends, train_of, row_by, row_turn, report_of, update_ends, renew_of, update_by, update_turn, samples_turn, turn_by, turn_of}
use Rattle.feed.proofs.Rows.{row_fits}
use Rattle.feed.proofs.Standings.{whole-there}
use Rattle.feed.proofs.Batches.{batch-done}
use Rattle.feed.proofs.Prefixes.{prefix-reach}

abbrev Says : ℕ → Said → Type 0
Says n o = o.taken ≤ n

abbrev Ends : ℕ → TurnEnd → Type 0
Ends n o = o.answer.taken ≤ n

-- ---- the plan

fresh-within : (run : Run) (end n : ℕ) (p : plan.Paper plan.PlanRead) → end ≤ n → (fresh_said run end p).taken ≤ n
unfolding fresh_said going refusing refusing_at waiting
fresh-within run end n (plan.gives r) h = h
fresh-within run end n (plan.refuses k) h = omega arith
fresh-within run end n (plan.refuses_at k at) h = omega arith

found_within : (run : Run) (bs : List ℕ) (all : Bool) (r : plan.PlanRead) (table : List ℕ) (m : Memory) → r.end ≤ length bs → (found_of run bs all r table m).answer.taken ≤ length bs
unfolding found_of fresh_ends waiting refusing_at
found_within run bs all r table m h =
    let e = fresh_of (take r.end bs) table m in
    pick (Ends (length bs)) (not all && eqb r.end (length bs)) (λ t. omega arith)
    (λ t. pick (Ends (length bs)) (ltb 128 r.needs.bins) (λ u. omega arith) (λ u. fresh-within run r.end (length bs) e.answer h))

plan-by-within : (run : Run) (bs : List ℕ) (all : Bool) (table : List ℕ) (m : Memory) (p : plan.Paper plan.PlanRead) → Bytes bs → measure_prefix_of bs ≡ p → (plan_by run bs all table m p).answer.taken ≤ length bs
unfolding plan_by unread_of refusing refusing_at waiting
plan-by-within run bs all table m (plan.gives r) small e = found_within run bs all r table m (prefix-reach bs r small e)
plan-by-within run bs all table m (plan.refuses n) small e = omega arith
plan-by-within run bs all table m (plan.refuses_at n at) small e = pick (Says (length bs)) (not all && eqb n 1) (λ t. omega arith) (λ t. omega arith)

-- ---- the stream's field

made-within : (run : Run) (n : ℕ) (p : real.Paper MonteCarloRng) → 13 ≤ n → (made_of run p).taken ≤ n
unfolding made_of going refusing refusing_at waiting
made-within run n (real.gives s) h = h
made-within run n (real.refuses k) h = omega arith

stream-within : (run : Run) (bs : List ℕ) (last : Bool) (o : Standing) → standing_of bs 0x10 10 last ≡ o → (stream_by run bs o).taken ≤ length bs
unfolding stream_by refusing refusing_at waiting
stream-within run bs last standing.Whole e = made-within run (length bs) (new_of (number_at bs 3 8) (number_at bs 11 2)) (whole-there bs 0x10 10 last e)
stream-within run bs last standing.Waiting e = omega arith
stream-within run bs last standing.Wrong e = omega arith

-- ---- 11s

trained-within : (run : Run) (b : Batched) (n : ℕ) → 11 * b.done ≤ n → (trained_of run b).taken ≤ n
unfolding trained_of refusing refusing_at going
trained-within run b n h =
    pick (Says n) (not (eqb b.refused 0)) (λ t. h) (λ t. h)

pub train-within : (run : Run) (table : List ℕ) (row : List Float) (m : Memory) (n : ℕ) → 11 * length row ≤ n → (train_of run table row m).answer.taken ≤ n
unfolding train_of batch_ends
train-within run table row m n h = trained-within run (batch_of table m run.stream row run.number).answer n (omega (arith, batch-done table m run.stream row run.number))

row_within : (run : Run) (bs table : List ℕ) (m : Memory) (o : Standing) → (row_by run bs table m o).answer.taken ≤ length bs
unfolding row_by refusing refusing_at waiting
row_within run bs table m standing.Whole = train-within run table (row_from bs 0 256) m (length bs) (omega (arith, row_fits bs 256 0 (omega arith)))
row_within run bs table m standing.Waiting = omega arith
row_within run bs table m standing.Wrong = omega arith

-- ---- a 12

report-within : (run : Run) (n : ℕ) (p : real.Paper Summary) → 19 ≤ n → (report_of run p).taken ≤ n
unfolding report_of telling going refusing refusing_at waiting
report-within run n (real.gives s) h = h
report-within run n (real.refuses k) h = omega arith

ends-within : (run : Run) (table : List ℕ) (e : StateEnd) (n : ℕ) → 19 ≤ n → (update_ends run table e).answer.taken ≤ n
unfolding update_ends refusing refusing_at waiting
ends-within run table e n h =
    pick (Ends n) (not (eqb e.answer 0)) (λ t. omega arith) (λ t. report-within run n (summary_of table e.state.reals e.state.counts) h)

update-within : (run : Run) (bs : List ℕ) (last : Bool) (table : List ℕ) (m : Memory) (R C : ℕ) (o : Standing) → standing_of bs 0x12 16 last ≡ o → (update_by run bs table m R C o).answer.taken ≤ length bs
unfolding update_by renew_of refusing refusing_at waiting
update-within run bs last table m R C standing.Whole e = ends-within run table (update_of table (double_at bs 3) (double_at bs 11) R C m) (length bs) (whole-there bs 0x12 16 last e)
update-within run bs last table m R C standing.Waiting e = omega arith
update-within run bs last table m R C standing.Wrong e = omega arith

-- ---- samples and updates

samples-within : (run : Run) (bs : List ℕ) (last : Bool) (table : List ℕ) (m : Memory) (R C : ℕ) → (samples_turn run bs last table m R C).answer.taken ≤ length bs
unfolding samples_turn row_turn update_turn ending waiting
samples-within run bs last table m R C =
    pick (Ends (length bs)) (last && eqb (length bs) 0) (λ t. omega arith)
    (λ t.
    pick (Ends (length bs)) (eqb (get_or bs 0 0) 0x11) (λ u. row_within run bs table m (standing_of bs 0x11 8 last))
    (λ u. update-within run bs last table m R C (standing_of bs 0x12 16 last) refl))

-- ---- a turn

turn-by-within : (p : Phase) (run : Run) (bs : List ℕ) (last : Bool) (table : List ℕ) (m : Memory) (R C : ℕ) → Bytes bs → (turn_by p run bs last table m R C).answer.taken ≤ length bs
unfolding turn_by plan_turn stream_turn waiting
turn-by-within phase.Plan run bs last table m R C small = plan-by-within run bs (all_in bs last) table m (measure_prefix_of bs) small refl
turn-by-within phase.Stream run bs last table m R C small = stream-within run bs last (standing_of bs 0x10 10 last) refl
turn-by-within phase.Samples run bs last table m R C small = samples-within run bs last table m R C
turn-by-within phase.Over run bs last table m R C small = omega arith

pub turn-within : (run : Run) (bs : List ℕ) (last : Bool) (table : List ℕ) (m : Memory) (R C : ℕ) → Bytes bs → (turn_of run bs last table m R C).answer.taken ≤ length bs
unfolding turn_of
turn-within run bs last table m R C small = turn-by-within run.phase run bs last table m R C small

pub turned-within : (run : Run) (bs : List ℕ) (last : Bool) (table : List ℕ) (m : Memory) (R C : ℕ) (o : TurnEnd) → Bytes bs → o ≡ turn_of run bs last table m R C → o.answer.taken ≤ length bs
turned-within run bs last table m R C o small e = omega (arith, ap (λ (x : TurnEnd). x.answer.taken) e, turn-within run bs last table m R C small)
