-- What waits stays: a turn that takes nothing, tells nothing and does not end the run leaves the run, the table and the grid's memory as they
-- were.
use Rattle.std.proofs.Common.{◌≡◌, ℕ, ◌*◌, ◌<◌, Bool, true, false, not, ◌&&◌, eqb, ltb, List, length, get_or, take, refl, arith, eqb-true}
use borrow.Author.Tests.{not-false}
use Rattle.doubles.specs.Paper as real
use Rattle.plan.specs.Bounds.{Bytes}
use Rattle.plan.specs.Numbers.{number_at}
use Rattle.plan.specs.Paper as plan
use Rattle.plan.specs.Calls.{measure_prefix_of}
use Rattle.plan.proofs.Here.{pick}
use Rattle.stream.specs.declared.MonteCarloRng.{MonteCarloRng}
use Rattle.stream.specs.Calls.{new_of}
use Rattle.accumulator.specs.declared.Summary.{Summary}
use Rattle.lent.specs.Batched.{Batched}
use lib.Ieee.{Float}
use Rattle.lent.specs.Memory.{Memory}
use Rattle.lent.specs.Calls.{FreshEnd, StateEnd, fresh_of, update_of, summary_of}
use Rattle.lent.specs.Batched.{batch_of}
use Rattle.feed.specs.declared.Phase.{Phase}
use Rattle.feed.specs.declared.Phase.TheVariants as phase
use Rattle.feed.specs.declared.Run.{Run}
use Rattle.feed.specs.declared.fields.Standing.{Standing}
use Rattle.feed.specs.declared.fields.Standing.TheVariants as standing
use Rattle.feed.specs.Said.{Line, none, line, Said, is_over_in, is_over_of, over_of, waiting, ending, going, telling, refusing_at, refusing}
use Rattle.feed.specs.Fields.{double_at, standing_of, row_from}
use Rattle.feed.specs.Turns.{TurnEnd, all_in, unread_of, fresh_said, fresh_ends, found_of, plan_by, plan_turn, made_of, stream_by, stream_turn, trained_of, batch_ends, train_of, row_by, row_turn, report_of, update_ends, renew_of, update_by, update_turn, samples_turn, turn_by, turn_of}
use Rattle.feed.proofs.Batches.{batch-all}
use Rattle.feed.proofs.Rows.{row-some}
use Rattle.feed.proofs.Prefixes.{prefix-some}

-- a turn that waits
pub record Waits (o : Said) : Type 0 where
  pub taken : o.taken ≡ 0
  pub told : o.told ≡ plan.gives none
  pub due : is_over_of o.run ≡ false

pub waiting-waits : (run : Run) → is_over_of run ≡ false → Waits (waiting run)
unfolding waiting
waiting-waits run e = record { taken = refl; told = refl; due = e }

-- then the run is the one before, and so are the table and the grid's memory
pub record Stays (before : Run) (words : List ℕ) (m : Memory) (e : TurnEnd) : Type 0 where
  pub run : e.answer.run ≡ before
  pub table : e.table ≡ words
  pub state : e.state ≡ m

abbrev Still : Run → Said → Type 0
Still run o = Waits o → o.run ≡ run

abbrev Kept : Run → List ℕ → Memory → TurnEnd → Type 0
Kept run table m e = Waits e.answer → Stays run table m e

refused-told : {P : Type 0} {n at : ℕ} → ◌≡◌ {A = plan.Paper Line} (plan.refuses_at n at) (plan.gives none) → P
refused-told e = let z : ◌≡◌ {A = ℕ} 0 1 = cc in absurd (omega arith)

line-told : {P : Type 0} {s : Summary} → ◌≡◌ {A = plan.Paper Line} (plan.gives (line s)) (plan.gives none) → P
line-told e = let z : ◌≡◌ {A = ℕ} 0 1 = cc in absurd (omega arith)

refusing-not : {P : Type 0} (o : Said) (n at : ℕ) → Waits (refusing_at o n at) → P
unfolding refusing_at
refusing-not o n at w = refused-told w.told

-- ---- the plan

fresh_kept : (run : Run) (table : List ℕ) (m : Memory) (end : ℕ) (e : FreshEnd) (p : plan.Paper plan.PlanRead) → 0 < end → Waits (fresh_said run end p) → Stays run table m (fresh_ends run end e)
unfolding fresh_said going refusing
fresh_kept run table m end e (plan.gives r) h w = absurd (omega (arith, w.taken))
fresh_kept run table m end e (plan.refuses n) h w = refusing-not (waiting run) n (waiting run).run.at w
fresh_kept run table m end e (plan.refuses_at n at) h w = refusing-not (waiting run) n at w

found-kept : (run : Run) (bs : List ℕ) (all : Bool) (r : plan.PlanRead) (table : List ℕ) (m : Memory) → 0 < r.end → Kept run table m (found_of run bs all r table m)
unfolding found_of fresh_ends waiting
found-kept run bs all r table m h =
    let e = fresh_of (take r.end bs) table m in
    pick (Kept run table m) (not all && eqb r.end (length bs)) (λ t w. record { run = refl; table = refl; state = refl })
    (λ t. pick (Kept run table m) (ltb 128 r.needs.bins) (λ u w. refusing-not (waiting run) 10 0 w) (λ u w. fresh_kept run table m r.end e e.answer h w))

unread-still : (run : Run) (all : Bool) (n at : ℕ) → Still run (unread_of run all n at)
unfolding unread_of waiting
unread-still run all n at = pick (Still run) (not all && eqb n 1) (λ t w. refl) (λ t w. refusing-not (waiting run) n at w)

plan-kept : (run : Run) (bs : List ℕ) (all : Bool) (table : List ℕ) (m : Memory) (p : plan.Paper plan.PlanRead) → Bytes bs → measure_prefix_of bs ≡ p → Kept run table m (plan_by run bs all table m p)
unfolding plan_by refusing
plan-kept run bs all table m (plan.gives r) small e w = found-kept run bs all r table m (prefix-some bs r small e) w
plan-kept run bs all table m (plan.refuses n) small e w = refusing-not (waiting run) n (waiting run).run.at w
plan-kept run bs all table m (plan.refuses_at n at) small e w = record { run = unread-still run all n at w; table = refl; state = refl }

-- ---- the stream's field

made-still : (run : Run) (p : real.Paper MonteCarloRng) → Still run (made_of run p)
unfolding made_of going refusing
made-still run (real.gives s) w = absurd (omega (arith, w.taken))
made-still run (real.refuses n) w = refusing-not (waiting run) n (waiting run).run.at w

stream-still : (run : Run) (bs : List ℕ) (o : Standing) → Still run (stream_by run bs o)
unfolding stream_by refusing waiting
stream-still run bs standing.Whole w = made-still run (new_of (number_at bs 3 8) (number_at bs 11 2)) w
stream-still run bs standing.Waiting w = refl
stream-still run bs standing.Wrong w = refusing-not (waiting run) 1 run.at w

-- ---- 11s: a row that is not refused is trained to its end, and a whole 11 at the front makes a row

trained-not : {P : Type 0} (run : Run) (b : Batched) (n : ℕ) → 0 < n → (b.refused ≡ 0 → b.done ≡ n) → Waits (trained_of run b) → P
unfolding trained_of going refusing
trained-not {P} run b n h all =
    let o = going run phase.Samples b.stream b.done (11 * b.done) in
    pick (λ (x : Said). Waits x → P) (not (eqb b.refused 0)) (λ t w. refusing-not o b.refused o.run.at w)
    (λ t w. absurd (omega (arith, w.taken, all (eqb-true b.refused 0 (not-false (eqb b.refused 0) t)))))

pub train-not : {P : Type 0} (run : Run) (table : List ℕ) (row : List Float) (m : Memory) → 0 < length row → Waits (train_of run table row m).answer → P
unfolding train_of batch_ends
train-not run table row m h = trained-not run (batch_of table m run.stream row run.number).answer (length row) h (batch-all table m run.stream row run.number)

row_kept : (run : Run) (bs : List ℕ) (last : Bool) (table : List ℕ) (m : Memory) (o : Standing) → standing_of bs 0x11 8 last ≡ o → Kept run table m (row_by run bs table m o)
unfolding row_by refusing waiting
row_kept run bs last table m standing.Whole e w = train-not run table (row_from bs 0 256) m (row-some bs last 255 e) w
row_kept run bs last table m standing.Waiting e w = record { run = refl; table = refl; state = refl }
row_kept run bs last table m standing.Wrong e w = refusing-not (waiting run) 1 run.at w

-- ---- a 12

report-not : {P : Type 0} (run : Run) (p : real.Paper Summary) → Waits (report_of run p) → P
unfolding report_of telling refusing
report-not run (real.gives s) w = line-told w.told
report-not run (real.refuses n) w = refusing-not (waiting run) n (waiting run).run.at w

renew-kept : (run : Run) (table : List ℕ) (m : Memory) (e : StateEnd) → Kept run table m (update_ends run table e)
unfolding update_ends refusing
renew-kept run table m e =
    pick (Kept run table m) (not (eqb e.answer 0)) (λ t w. refusing-not (waiting run) e.answer (waiting run).run.at w)
    (λ t w. report-not run (summary_of table e.state.reals e.state.counts) w)

update-kept : (run : Run) (bs table : List ℕ) (m : Memory) (R C : ℕ) (o : Standing) → Kept run table m (update_by run bs table m R C o)
unfolding update_by renew_of refusing waiting
update-kept run bs table m R C standing.Whole w = renew-kept run table m (update_of table (double_at bs 3) (double_at bs 11) R C m) w
update-kept run bs table m R C standing.Waiting w = record { run = refl; table = refl; state = refl }
update-kept run bs table m R C standing.Wrong w = refusing-not (waiting run) 1 run.at w

-- ---- samples and updates

ending-not : {P : Type 0} (run : Run) → Waits (ending run) → P
unfolding ending waiting over_of is_over_of is_over_in
ending-not run w = let e : true ≡ false = w.due in let z : ◌≡◌ {A = ℕ} 0 1 = cc in absurd (omega arith)

samples-kept : (run : Run) (bs : List ℕ) (last : Bool) (table : List ℕ) (m : Memory) (R C : ℕ) → Kept run table m (samples_turn run bs last table m R C)
unfolding samples_turn row_turn update_turn
samples-kept run bs last table m R C =
    pick (Kept run table m) (last && eqb (length bs) 0) (λ t w. ending-not run w)
    (λ t.
    pick (Kept run table m) (eqb (get_or bs 0 0) 0x11) (λ u. row_kept run bs last table m (standing_of bs 0x11 8 last) refl)
    (λ u. update-kept run bs table m R C (standing_of bs 0x12 16 last)))

-- ---- a turn

by-phase : (p : Phase) (run : Run) (bs : List ℕ) (last : Bool) (table : List ℕ) (m : Memory) (R C : ℕ) → Bytes bs → Kept run table m (turn_by p run bs last table m R C)
unfolding turn_by plan_turn stream_turn waiting
by-phase phase.Plan run bs last table m R C small w = plan-kept run bs (all_in bs last) table m (measure_prefix_of bs) small refl w
by-phase phase.Stream run bs last table m R C small w = record { run = stream-still run bs (standing_of bs 0x10 10 last) w; table = refl; state = refl }
by-phase phase.Samples run bs last table m R C small w = samples-kept run bs last table m R C w
by-phase phase.Over run bs last table m R C small w = record { run = refl; table = refl; state = refl }

pub waits-stays : (run : Run) (bs : List ℕ) (last : Bool) (table : List ℕ) (m : Memory) (R C : ℕ) → Bytes bs → Waits (turn_of run bs last table m R C).answer → Stays run table m (turn_of run bs last table m R C)
unfolding turn_of
waits-stays run bs last table m R C small = by-phase run.phase run bs last table m R C small
