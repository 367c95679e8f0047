-- A text full of bytes is never waited on: a turn that takes nothing and does not end the run has fewer than 131,072 bytes before it.
use Prim.Native.Nat.{ℕ, ◌+◌, ◌-◌, ◌*◌, ◌≤◌, ◌<◌}
use mathlib.Core.Path.{◌≡◌, refl, sym, ap, ◌∙◌}
use mathlib.Core.Bool.{Bool, true, false, not, ◌&&◌, cond}
use mathlib.Core.List.{List}
use native.Mathlib.Omega.{arith}
use borrow.Author.Tests.{ltb-true, leb-false, eqb-true, not-false}
use lib.Dec.{eqb, leb, ltb}
use lib.ListN.{length, get_or, take, drop, length-drop}
use lib.Seq.{get_or-drop, length-take-le}
use Rattle.doubles.specs.Paper as real
use Rattle.plan.specs.Bounds.{Bytes}
use Rattle.plan.specs.Numbers.{number_at}
use Rattle.plan.specs.Paper as plan
use Rattle.plan.specs.Calls.{measure_prefix_of}
use Rattle.plan.proofs.Here.{pick}
use Rattle.stream.specs.declared.MonteCarloRng.{MonteCarloRng}
use Rattle.stream.specs.Calls.{new_of}
use Rattle.accumulator.specs.declared.Summary.{Summary}
use Rattle.lent.specs.Batched.{Batched}
use Rattle.lent.specs.Memory.{Memory}
use Rattle.lent.specs.Calls.{StateEnd, fresh_of, update_of, summary_of}
use Rattle.lent.specs.Batched.{batch_of}
use Rattle.feed.specs.declared.Phase.{Phase}
use Rattle.feed.specs.declared.Phase.TheVariants as phase
use Rattle.feed.specs.declared.Run.{Run}
use Rattle.feed.specs.declared.fields.Standing.{Standing}
use Rattle.feed.specs.declared.fields.Standing.TheVariants as standing
use Rattle.feed.specs.Said.{Said, is_over_in, is_over_of, over_of, waiting, ending, going, telling, refusing_at, refusing}
use Rattle.feed.specs.Fields.{double_at, missing_of, standing_of, row_from}
use Rattle.feed.specs.Turns.{TurnEnd, all_in, unread_of, fresh_said, fresh_ends, found_of, plan_by, plan_turn, made_of, stream_by, stream_turn, trained_of, batch_ends, train_of, row_by, row_turn, report_of, update_ends, renew_of, update_by, update_turn, samples_turn, turn_by, turn_of}
use Rattle.feed.proofs.Batches.{batch-all}
use Rattle.feed.proofs.Rows.{row-some}
use Rattle.feed.proofs.Prefixes.{prefix-some}
use Rattle.integrate.specs.Pouring.{Place, turn_at, place_behind, goes_on, goes_behind, Turns, one, more}

abbrev Short : List ℕ → Said → Type 0
Short bs o = o.taken ≡ 0 → is_over_of o.run ≡ false → length bs < 131072

abbrev ShortEnd : List ℕ → TurnEnd → Type 0
ShortEnd bs e = Short bs e.answer

over-not : {P : Type 0} (run : Run) → is_over_of (over_of run) ≡ false → P
unfolding over_of is_over_of is_over_in
over-not run d = let z : ◌≡◌ {A = ℕ} 0 1 = cc in absurd (omega arith)

refusing-short : (bs : List ℕ) (o : Said) (n at : ℕ) → Short bs (refusing_at o n at)
unfolding refusing_at
refusing-short bs o n at t d = over-not o.run d

refused-short : (bs : List ℕ) (o : Said) (n : ℕ) → Short bs (refusing o n)
unfolding refusing
refused-short bs o n = refusing-short bs o n o.run.at

-- ---- the plan: all is there with so many bytes

all-out : (bs : List ℕ) (last x : Bool) → not (all_in bs last) && x ≡ true → length bs < 131072
unfolding all_in
all-out bs true x e = let z : ◌≡◌ {A = ℕ} 0 1 = cc in absurd (omega arith)
all-out bs false x e = some (leb 131072 (length bs)) refl e
  where
    some : (s : Bool) → leb 131072 (length bs) ≡ s → not s && x ≡ true → length bs < 131072
    some true k h = let z : ◌≡◌ {A = ℕ} 0 1 = cc in absurd (omega arith)
    some false k h = leb-false 131072 (length bs) k

fresh-short : (bs : List ℕ) (run : Run) (end : ℕ) (p : plan.Paper plan.PlanRead) → 0 < end → Short bs (fresh_said run end p)
unfolding fresh_said going
fresh-short bs run end (plan.gives r) h = λ t d. absurd (omega arith)
fresh-short bs run end (plan.refuses n) h = refused-short bs (waiting run) n
fresh-short bs run end (plan.refuses_at n at) h = refusing-short bs (waiting run) n at

found-short : (bs : List ℕ) (run : Run) (last : Bool) (r : plan.PlanRead) (table : List ℕ) (m : Memory) → 0 < r.end → ShortEnd bs (found_of run bs (all_in bs last) r table m)
unfolding found_of fresh_ends
found-short bs run last r table m h =
    pick (ShortEnd bs) (not (all_in bs last) && eqb r.end (length bs)) (λ e t d. all-out bs last (eqb r.end (length bs)) e)
    (λ e. pick (ShortEnd bs) (ltb 128 r.needs.bins) (λ f. refusing-short bs (waiting run) 10 0)
    (λ f. fresh-short bs run r.end (fresh_of (take r.end bs) table m).answer h))

unread-short : (bs : List ℕ) (run : Run) (last : Bool) (n at : ℕ) → Short bs (unread_of run (all_in bs last) n at)
unfolding unread_of
unread-short bs run last n at =
    pick (Short bs) (not (all_in bs last) && eqb n 1) (λ e t d. all-out bs last (eqb n 1) e) (λ e. refusing-short bs (waiting run) n at)

plan-short : (bs : List ℕ) (run : Run) (last : Bool) (table : List ℕ) (m : Memory) (p : plan.Paper plan.PlanRead) → Bytes bs → measure_prefix_of bs ≡ p → ShortEnd bs (plan_by run bs (all_in bs last) table m p)
unfolding plan_by
plan-short bs run last table m (plan.gives r) small e = found-short bs run last r table m (prefix-some bs r small e)
plan-short bs run last table m (plan.refuses n) small e = refused-short bs (waiting run) n
plan-short bs run last table m (plan.refuses_at n at) small e = unread-short bs run last n at

-- ---- a field behind it: a waiting one lacks bytes

lacks : (n size : ℕ) (a b c d last : Bool) → ltb n 3 ≡ a → ltb n (3 + size) ≡ d
    → cond a (missing_of last) (cond (not b) standing.Wrong (cond (not c) standing.Wrong (cond d (missing_of last) standing.Whole))) ≡ standing.Waiting → n < 3 + size
lacks n size true b c d last e f h = omega (arith, ltb-true n 3 e)
lacks n size false false c d last e f h = let z : ◌≡◌ {A = ℕ} 0 1 = cc in absurd (omega arith)
lacks n size false true false d last e f h = let z : ◌≡◌ {A = ℕ} 0 1 = cc in absurd (omega arith)
lacks n size false true true true last e f h = ltb-true n (3 + size) f
lacks n size false true true false last e f h = let z : ◌≡◌ {A = ℕ} 0 1 = cc in absurd (omega arith)

waiting-lacks : (bs : List ℕ) (tag size : ℕ) (last : Bool) → standing_of bs tag size last ≡ standing.Waiting → length bs < 3 + size
unfolding standing_of
waiting-lacks bs tag size last e =
    lacks (length bs) size (ltb (length bs) 3) (eqb (get_or bs 0 0) tag) (eqb (number_at bs 1 2) size) (ltb (length bs) (3 + size)) last refl refl e

made-short : (bs : List ℕ) (run : Run) (p : real.Paper MonteCarloRng) → Short bs (made_of run p)
unfolding made_of going
made-short bs run (real.gives s) = λ t d. absurd (omega arith)
made-short bs run (real.refuses n) = refused-short bs (waiting run) n

stream-short : (bs : List ℕ) (run : Run) (last : Bool) (o : Standing) → standing_of bs 0x10 10 last ≡ o → Short bs (stream_by run bs o)
unfolding stream_by
stream-short bs run last standing.Whole e = made-short bs run (new_of (number_at bs 3 8) (number_at bs 11 2))
stream-short bs run last standing.Waiting e = λ t d. omega (arith, waiting-lacks bs 0x10 10 last e)
stream-short bs run last standing.Wrong e = refused-short bs (waiting run) 1

trained-short : (bs : List ℕ) (run : Run) (b : Batched) (n : ℕ) → 0 < n → (b.refused ≡ 0 → b.done ≡ n) → Short bs (trained_of run b)
unfolding trained_of going
trained-short bs run b n h all =
    let o = going run phase.Samples b.stream b.done (11 * b.done) in
    pick (Short bs) (not (eqb b.refused 0)) (λ e. refused-short bs o b.refused)
    (λ e t d. absurd (omega (arith, all (eqb-true b.refused 0 (not-false (eqb b.refused 0) e)))))

row-short : (bs : List ℕ) (run : Run) (last : Bool) (table : List ℕ) (m : Memory) (o : Standing) → standing_of bs 0x11 8 last ≡ o → ShortEnd bs (row_by run bs table m o)
unfolding row_by train_of batch_ends
row-short bs run last table m standing.Whole e =
    let row = row_from bs 0 256 in
    trained-short bs run (batch_of table m run.stream row run.number).answer (length row) (row-some bs last 255 e) (batch-all table m run.stream row run.number)
row-short bs run last table m standing.Waiting e = λ t d. omega (arith, waiting-lacks bs 0x11 8 last e)
row-short bs run last table m standing.Wrong e = refused-short bs (waiting run) 1

report-short : (bs : List ℕ) (run : Run) (p : real.Paper Summary) → Short bs (report_of run p)
unfolding report_of telling going
report-short bs run (real.gives s) = λ t d. absurd (omega arith)
report-short bs run (real.refuses n) = refused-short bs (waiting run) n

renew-short : (bs : List ℕ) (run : Run) (table : List ℕ) (e : StateEnd) → ShortEnd bs (update_ends run table e)
unfolding update_ends
renew-short bs run table e =
    pick (ShortEnd bs) (not (eqb e.answer 0)) (λ f. refused-short bs (waiting run) e.answer) (λ f. report-short bs run (summary_of table e.state.reals e.state.counts))

update-short : (bs : List ℕ) (run : Run) (last : Bool) (table : List ℕ) (m : Memory) (R C : ℕ) (o : Standing) → standing_of bs 0x12 16 last ≡ o → ShortEnd bs (update_by run bs table m R C o)
unfolding update_by renew_of
update-short bs run last table m R C standing.Whole e = renew-short bs run table (update_of table (double_at bs 3) (double_at bs 11) R C m)
update-short bs run last table m R C standing.Waiting e = λ t d. omega (arith, waiting-lacks bs 0x12 16 last e)
update-short bs run last table m R C standing.Wrong e = refused-short bs (waiting run) 1

ending-short : (bs : List ℕ) (run : Run) → Short bs (ending run)
unfolding ending waiting
ending-short bs run t d = over-not run d

samples-short : (bs : List ℕ) (run : Run) (last : Bool) (table : List ℕ) (m : Memory) (R C : ℕ) → ShortEnd bs (samples_turn run bs last table m R C)
unfolding samples_turn row_turn update_turn
samples-short bs run last table m R C =
    pick (ShortEnd bs) (last && eqb (length bs) 0) (λ e. ending-short bs run)
    (λ e. pick (ShortEnd bs) (eqb (get_or bs 0 0) 0x11) (λ f. row-short bs run last table m (standing_of bs 0x11 8 last) refl)
    (λ f. update-short bs run last table m R C (standing_of bs 0x12 16 last) refl))

-- ---- a turn

by-phase : (p : Phase) (bs : List ℕ) (run : Run) (last : Bool) (table : List ℕ) (m : Memory) (R C : ℕ) → Bytes bs → run.phase ≡ p → ShortEnd bs (turn_by p run bs last table m R C)
unfolding turn_by plan_turn stream_turn waiting is_over_of is_over_in
by-phase phase.Plan bs run last table m R C small e = plan-short bs run last table m (measure_prefix_of bs) small refl
by-phase phase.Stream bs run last table m R C small e = stream-short bs run last (standing_of bs 0x10 10 last) refl
by-phase phase.Samples bs run last table m R C small e = samples-short bs run last table m R C
by-phase phase.Over bs run last table m R C small e = λ t d. let k : is_over_in phase.Over ≡ false = rw e at d in let z : ◌≡◌ {A = ℕ} 0 1 = cc in absurd (omega arith)

turn-short : (bs : List ℕ) (run : Run) (last : Bool) (table : List ℕ) (m : Memory) (R C : ℕ) → Bytes bs → ShortEnd bs (turn_of run bs last table m R C)
unfolding turn_of
turn-short bs run last table m R C small = by-phase run.phase bs run last table m R C small refl

-- ---- the turns: what they leave, if the run goes on

nothing-taken : (t : ℕ) (run : Run) → goes_on t run ≡ false → is_over_of run ≡ false → t ≡ 0
unfolding goes_on
nothing-taken t run g d = some (eqb t 0) refl (rw d at g)
  where
    some : (s : Bool) → eqb t 0 ≡ s → not s && true ≡ false → t ≡ 0
    some true e h = eqb-true t 0 e
    some false e h = let z : ◌≡◌ {A = ℕ} 0 1 = cc in absurd (omega arith)

pub turns-short : {bs : List ℕ} {last : Bool} {R C : ℕ} {p q : Place} → Bytes bs → Turns bs last R C p q → is_over_of q.run ≡ false → length bs < q.taken + 131072
unfolding goes_behind place_behind turn_at
turns-short {bs} {last} {R} {C} small (one p e g) d =
    let E = turn_at bs last R C p in
    let o : is_over_of E.answer.run ≡ false = sym (ap (λ (x : Place). is_over_of x.run) e) ∙ d in
    let t = nothing-taken E.answer.taken E.answer.run g o in
    let s = turn-short (drop p.taken bs) p.run last p.table p.state R C (λ i. rw get_or-drop (small (p.taken + i))) t o in
    omega (arith, length-drop p.taken bs, ap (λ (x : Place). x.taken) e)
turns-short small (more p e g t) d = turns-short small t d

-- so what is left of the first bytes of a text
pub left-short : (text : List ℕ) (full taken rest : ℕ) → full ≤ length text → rest ≡ full - taken → length (take full text) < taken + 131072 → rest < 131072
left-short text full taken rest h e s = omega (arith, length-take-le full text h)
