-- What is refused stays: a turn that refuses the plan, the stream's field or a 12 leaves the table and the grid's memory as they were. A refused
-- sample leaves what the samples before it in its row left: they were trained before it.
use Rattle.std.proofs.Common.{◌≡◌, ℕ, suc, ◌+◌, ◌*◌, Bool, true, false, not, ◌&&◌, eqb, ltb, List, [], ◌∷◌, length, get_or, take, sym, refl, ap, ◌∙◌, subst, add-zero, arith, eqb-true}
use borrow.Author.Tests.{not-true, not-false, eqb-false}
use lib.Ieee.{Float}
use Rattle.doubles.specs.Paper as real
use Rattle.plan.specs.Paper as plan
use Rattle.plan.specs.Calls.{measure_of, measure_prefix_of}
use Rattle.plan.proofs.Here.{pick}
use Rattle.plan.proofs.Tables.{Words}
use Rattle.stream.specs.declared.MonteCarloRng.{MonteCarloRng}
use Rattle.accumulator.specs.declared.Summary.{Summary}
use Rattle.lent.specs.Batched.{Batched}
use Rattle.lent.specs.Calls.{Drawn}
use Rattle.lent.specs.Memory.{Memory}
use Rattle.lent.specs.State.{state_fault}
use Rattle.lent.specs.Calls.{FreshEnd, founded_of, fresh_by, fresh_of, StateEnd, drawn_as, draw_of, train_call_of, update_of, summary_of}
use Rattle.lent.specs.Batched.{StepEnd, trained_from, step_by, step_of, BatchEnd, batch_end, batched, unless_refused, steps_of, batch_of}
use Rattle.lent.proofs.AbsorbedTree.{train-stays}
use Rattle.feed.specs.declared.Phase.{Phase}
use Rattle.feed.specs.declared.Phase.TheVariants as phase
use Rattle.feed.specs.declared.Run.{Run}
use Rattle.feed.specs.declared.fields.Standing.{Standing}
use Rattle.feed.specs.declared.fields.Standing.TheVariants as standing
use Rattle.feed.specs.Said.{Line, Said, going, telling, refusing_at, refusing}
use Rattle.feed.specs.Fields.{double_at, standing_of, is_sample, row_from}
use Rattle.feed.specs.Turns.{TurnEnd, all_in, fresh_said, fresh_ends, found_of, plan_by, plan_turn, trained_of, batch_ends, train_of, row_by, row_turn, report_of, update_ends, renew_of, update_by, update_turn, samples_turn, turn_by, turn_of}
use Rattle.feed.proofs.Rows.{is-sample}
use Rattle.feed.proofs.Splits.{batch-faulty, batch-clear}
use Rattle.feed.proofs.Standings.{whole_is}
use Rattle.feed.proofs.Renewed.{Renewed, update-renews, clear-sums}
use Rattle.feed.proofs.Chunks.{turn-row}

-- a turn that refuses
pub record Refuses (o : Said) : Type 0 where
  pub number : ℕ
  pub at : ℕ
  pub told : o.told ≡ plan.refuses_at number at

-- the table and the grid's memory are as they were
pub record Untouched (words : List ℕ) (m : Memory) (e : TurnEnd) : Type 0 where
  pub table : e.table ≡ words
  pub state : e.state ≡ m

abbrev Kept : List ℕ → Memory → TurnEnd → Type 0
Kept table m e = Refuses e.answer → Untouched table m e

told-not : {P : Type 0} {l : Line} {n at : ℕ} → ◌≡◌ {A = plan.Paper Line} (plan.gives l) (plan.refuses_at n at) → P
told-not e = let z : ◌≡◌ {A = ℕ} 0 1 = cc in absurd (omega arith)

-- ---- the plan

-- a grid that is not laid
abbrev Unlaid : List ℕ → Memory → FreshEnd → Type 0
Unlaid table m e = ((r : plan.PlanRead) → e.answer ≡ plan.gives r → ⊥) → (e.table ≡ table) × (e.state ≡ m)

refused-gives : {n at : ℕ} {r : plan.PlanRead} → ◌≡◌ {A = plan.Paper plan.PlanRead} (plan.refuses_at n at) (plan.gives r) → ⊥
refused-gives e = let z : ◌≡◌ {A = ℕ} 0 1 = cc in absurd (omega arith)

numbered-gives : {n : ℕ} {r : plan.PlanRead} → ◌≡◌ {A = plan.Paper plan.PlanRead} (plan.refuses n) (plan.gives r) → ⊥
numbered-gives e = let z : ◌≡◌ {A = ℕ} 0 1 = cc in absurd (omega arith)

founded-unlaid : (bs : List ℕ) (r : plan.PlanRead) (table : List ℕ) (m : Memory) → Unlaid table m (founded_of bs r table m)
unfolding founded_of
founded-unlaid bs r table m =
    pick (Unlaid table m) (ltb (length table) r.needs.words) (λ t z. (refl, refl))
    (λ t. pick (Unlaid table m) (ltb (length m.reals) r.needs.reals) (λ u z. (refl, refl))
    (λ u. pick (Unlaid table m) (ltb (length m.counts) r.needs.counts) (λ v z. (refl, refl)) (λ v z. absurd (z r refl))))

by-measure : (bs : List ℕ) (p : plan.Paper plan.PlanRead) (table : List ℕ) (m : Memory) → Unlaid table m (fresh_by bs p table m)
by-measure bs (plan.gives r) table m = founded-unlaid bs r table m
by-measure bs (plan.refuses n) table m = λ z. (refl, refl)
by-measure bs (plan.refuses_at n at) table m = λ z. (refl, refl)

fresh-unlaid : (bs table : List ℕ) (m : Memory) → Unlaid table m (fresh_of bs table m)
unfolding fresh_of
fresh-unlaid bs table m = by-measure bs (measure_of bs) table m

fresh_kept : (run : Run) (end : ℕ) (table : List ℕ) (m : Memory) (e : FreshEnd) (p : plan.Paper plan.PlanRead) → e.answer ≡ p → Unlaid table m e → Refuses (fresh_said run end p) → Untouched table m (fresh_ends run end e)
unfolding fresh_said fresh_ends going
fresh_kept run end table m e (plan.gives r) q f w = told-not w.told
fresh_kept run end table m e (plan.refuses n) q f w = let k = f (λ r z. numbered-gives (sym q ∙ z)) in record { table = k.0; state = k.1 }
fresh_kept run end table m e (plan.refuses_at n at) q f w = let k = f (λ r z. refused-gives (sym q ∙ z)) in record { table = k.0; state = k.1 }

found-kept : (run : Run) (bs : List ℕ) (all : Bool) (r : plan.PlanRead) (table : List ℕ) (m : Memory) → Kept table m (found_of run bs all r table m)
unfolding found_of fresh_ends
found-kept run bs all r table m =
    let e = fresh_of (take r.end bs) table m in
    pick (Kept table m) (not all && eqb r.end (length bs)) (λ t w. record { table = refl; state = refl })
    (λ t. pick (Kept table m) (ltb 128 r.needs.bins) (λ u w. record { table = refl; state = refl }) (λ u w. fresh_kept run r.end table m e e.answer refl (fresh-unlaid (take r.end bs) table m) w))

plan-kept : (run : Run) (bs : List ℕ) (all : Bool) (table : List ℕ) (m : Memory) (p : plan.Paper plan.PlanRead) → Kept table m (plan_by run bs all table m p)
unfolding plan_by
plan-kept run bs all table m (plan.gives r) w = found-kept run bs all r table m w
plan-kept run bs all table m (plan.refuses n) w = record { table = refl; state = refl }
plan-kept run bs all table m (plan.refuses_at n at) w = record { table = refl; state = refl }

-- ---- a 12

report-not : {P : Type 0} (run : Run) (p : real.Paper Summary) (s : Summary) → p ≡ real.gives s → Refuses (report_of run p) → P
unfolding report_of telling
report-not run (real.gives t) s e w = told-not w.told
report-not run (real.refuses n) s e w = let z : ◌≡◌ {A = ℕ} 0 1 = cc in absurd (omega arith)

renew-kept : (run : Run) (table : List ℕ) → Words table → (m : Memory) (e : StateEnd) → Renewed table m e → Kept table m (update_ends run table e)
unfolding update_ends
renew-kept run table large m e r =
    pick (Kept table m) (not (eqb e.answer 0)) (λ t w. record { table = refl; state = r.stays (eqb-false e.answer 0 (not-true (eqb e.answer 0) t)) })
    (λ t w. report-not run (summary_of table e.state.reals e.state.counts) _ (clear-sums table large e.state (r.clear (eqb-true e.answer 0 (not-false (eqb e.answer 0) t)))) w)

update-kept : (run : Run) (bs table : List ℕ) → Words table → (m : Memory) (R C : ℕ) (o : Standing) → Kept table m (update_by run bs table m R C o)
unfolding update_by renew_of
update-kept run bs table large m R C standing.Whole w = renew-kept run table large m (update_of table (double_at bs 3) (double_at bs 11) R C m) (update-renews table large m (double_at bs 3) (double_at bs 11) R C) w
update-kept run bs table large m R C standing.Waiting w = record { table = refl; state = refl }
update-kept run bs table large m R C standing.Wrong w = record { table = refl; state = refl }

-- ---- an 11 that is not whole

true-false : {P : Type 0} {b : Bool} → b ≡ true → b ≡ false → P
true-false e f = let x : true ≡ false = sym e ∙ f in let z : ◌≡◌ {A = ℕ} 0 1 = cc in absurd (omega arith)

row_kept : (run : Run) (bs : List ℕ) (last : Bool) (table : List ℕ) (m : Memory) (o : Standing) → standing_of bs 0x11 8 last ≡ o → is_sample bs 0 ≡ false → Kept table m (row_by run bs table m o)
unfolding row_by
row_kept run bs last table m standing.Whole e f w = true-false (is-sample bs (whole_is bs 0x11 8 last e)) f
row_kept run bs last table m standing.Waiting e f w = record { table = refl; state = refl }
row_kept run bs last table m standing.Wrong e f w = record { table = refl; state = refl }

samples-kept : (run : Run) (bs : List ℕ) (last : Bool) (table : List ℕ) → Words table → (m : Memory) (R C : ℕ) → is_sample bs 0 ≡ false → Kept table m (samples_turn run bs last table m R C)
unfolding samples_turn row_turn update_turn
samples-kept run bs last table large m R C f =
    pick (Kept table m) (last && eqb (length bs) 0) (λ t w. record { table = refl; state = refl })
    (λ t.
    pick (Kept table m) (eqb (get_or bs 0 0) 0x11) (λ u. row_kept run bs last table m (standing_of bs 0x11 8 last) refl f)
    (λ u. update-kept run bs table large m R C (standing_of bs 0x12 16 last)))

-- ---- a turn

by-phase : (p : Phase) (run : Run) (bs : List ℕ) (last : Bool) (table : List ℕ) → Words table → (m : Memory) (R C : ℕ) → (p ≡ phase.Samples → is_sample bs 0 ≡ false) → Kept table m (turn_by p run bs last table m R C)
unfolding turn_by plan_turn
by-phase phase.Plan run bs last table large m R C f w = plan-kept run bs (all_in bs last) table m (measure_prefix_of bs) w
by-phase phase.Stream run bs last table large m R C f w = record { table = refl; state = refl }
by-phase phase.Samples run bs last table large m R C f w = samples-kept run bs last table large m R C (f refl) w
by-phase phase.Over run bs last table large m R C f w = record { table = refl; state = refl }

-- whatever is due but a row of whole 11s
pub refused-stays : (run : Run) (bs : List ℕ) (last : Bool) (table : List ℕ) (m : Memory) (R C : ℕ) → Words table → (run.phase ≡ phase.Samples → is_sample bs 0 ≡ false)
    → Refuses (turn_of run bs last table m R C).answer → Untouched table m (turn_of run bs last table m R C)
unfolding turn_of
refused-stays run bs last table m R C large = by-phase run.phase run bs last table large m R C

-- ---- a row: its refused sample leaves what the samples before it left

from-stays : (m : Memory) (s s' : MonteCarloRng) (t : StateEnd) → ((t.answer ≡ 0 → ⊥) → t.state ≡ m) → ((trained_from s s' t).refused ≡ 0 → ⊥) → (trained_from s s' t).state ≡ m
unfolding trained_from
from-stays m s s' t h =
    pick (λ (o : StepEnd). (o.refused ≡ 0 → ⊥) → o.state ≡ m) (not (eqb t.answer 0)) (λ u z. h z) (λ u z. absurd (z refl))

step-by-stays : (table : List ℕ) (m : Memory) (s : MonteCarloRng) (e : Float) (k : ℕ) (d : Drawn) → ((step_by table m s e k d).refused ≡ 0 → ⊥) → (step_by table m s e k d).state ≡ m
unfolding step_by
step-by-stays table m s e k d =
    pick (λ (o : StepEnd). (o.refused ≡ 0 → ⊥) → o.state ≡ m) (not (eqb d.refused 0)) (λ u z. refl)
    (λ u. from-stays m s d.drawing.stream (train_call_of table m d.drawing.sample e k) (train-stays table m d.drawing.sample e k))

step_stays : (table : List ℕ) (m : Memory) (s : MonteCarloRng) (e : Float) (k : ℕ) → ((step_of table m s e k).refused ≡ 0 → ⊥) → (step_of table m s e k).state ≡ m
unfolding step_of
step_stays table m s e k = step-by-stays table m s e k (drawn_as s (draw_of table m.reals m.counts s))

-- a row's end: the memory after as many of its samples as were trained
record Left (d : ℕ) (b : BatchEnd) (first : ℕ → Memory) : Type 0 where
  many : ℕ
  done : b.answer.done ≡ d + many
  state : b.state ≡ first many

module _ (table : List ℕ) where
  steps_on : (e : Float) (es : List Float) (m : Memory) (s : MonteCarloRng) (k d : ℕ) → not (eqb (step_of table m s e k).refused 0) ≡ false
      → steps_of table (e ∷ es) m s k d ≡ steps_of table es (step_of table m s e k).state (step_of table m s e k).stream (k + 1) (d + 1)
  unfolding steps_of unless_refused
  steps_on e es m s k d t = rw t

  steps-left : (es : List Float) (m : Memory) (s : MonteCarloRng) (k d : ℕ) → Left d (steps_of table es m s k d) (λ n. (steps_of table (take n es) m s k d).state)
  unfolding steps_of unless_refused
  steps-left [] m s k d = record { many = 0; done = sym (add-zero d); state = refl }
  steps-left (e ∷ es) m s k d =
      let o = step_of table m s e k in
      let rest = steps_of table es o.state o.stream (k + 1) (d + 1) in
      let left = steps-left es o.state o.stream (k + 1) (d + 1) in
      pick (λ (b : BatchEnd). Left d b (λ n. (steps_of table (take n (e ∷ es)) m s k d).state)) (not (eqb o.refused 0)) {x = batch_end (batched o.refused d o.stream) o.state} {y = rest}
      (λ t. record { many = 0; done = sym (add-zero d); state = step_stays table m s e k (eqb-false o.refused 0 (not-true (eqb o.refused 0) t)) })
      (λ t. record { many = suc left.many; done = omega (arith, left.done); state = left.state ∙ sym (ap (λ (b : BatchEnd). b.state) (steps_on e (take left.many es) m s k d t)) })

  module _ (m : Memory) (s : MonteCarloRng) (k : ℕ) where
    batch-left : (es : List Float) → Left 0 (batch_of table m s es k) (λ n. (batch_of table m s (take n es) k).state)
    unfolding batch_of
    batch-left es =
        let fault = state_fault table m.reals m.counts in
        let left = steps-left es m s k 0 in
        pick (λ (b : BatchEnd). Left 0 b (λ n. (batch_of table m s (take n es) k).state)) (not (eqb fault 0)) {x = batch_end (batched fault 0 s) m} {y = steps_of table es m s k 0}
        (λ t. record { many = 0; done = refl; state = sym (ap (λ (b : BatchEnd). b.state) (batch-faulty table m s k [] t)) })
        (λ t. record { many = left.many; done = left.done; state = left.state ∙ sym (ap (λ (b : BatchEnd). b.state) (batch-clear table m s k (take left.many es) t)) })

-- the turn of a row: as many samples as it took bytes for, and the memory after just these
pub record RowLeft (run : Run) (words : List ℕ) (m : Memory) (row : List Float) (e : TurnEnd) : Type 0 where
  pub many : ℕ
  pub taken : e.answer.taken ≡ 11 * many
  pub table : e.table ≡ words
  pub state : e.state ≡ (train_of run words (take many row) m).state

trained-taken : (run : Run) (b : Batched) → (trained_of run b).taken ≡ 11 * b.done
unfolding trained_of refusing refusing_at going
trained-taken run b = pick (λ (o : Said). o.taken ≡ 11 * b.done) (not (eqb b.refused 0)) (λ t. refl) (λ t. refl)

train-left : (run : Run) (table : List ℕ) (m : Memory) (row : List Float) → RowLeft run table m row (train_of run table row m)
unfolding train_of batch_ends
train-left run table m row =
    let left = batch-left table m run.stream run.number row in
    let done : (batch_of table m run.stream row run.number).answer.done ≡ left.many = omega (arith, left.done) in
    record { many = left.many; taken = trained-taken run (batch_of table m run.stream row run.number).answer ∙ ap (λ (n : ℕ). 11 * n) done; table = refl; state = left.state }

pub row-left : (run : Run) (bs : List ℕ) (last : Bool) (table : List ℕ) (m : Memory) (R C : ℕ) → run.phase ≡ phase.Samples → is_sample bs 0 ≡ true → RowLeft run table m (row_from bs 0 256) (turn_of run bs last table m R C)
row-left run bs last table m R C p s = subst (RowLeft run table m (row_from bs 0 256)) (sym (turn-row run table m R C bs last p s)) (train-left run table m (row_from bs 0 256))
