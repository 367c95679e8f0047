-- A turn is its fields one by one: feeding turn by turn is feeding field by field.
use Rattle.std.proofs.Common.{◌≡◌, ℕ, zero, suc, ◌+◌, ◌^◌, ◌<◌, Bool, true, false, cond, not, ◌&&◌, eqb, List, [], ◌∷◌, drop, sym, refl, ap, ◌∙◌, subst, arith, get_or-drop, drop-drop, eqb-true}
use borrow.Author.Tests.{not-false}
use lib.Ieee.{Float}
use Rattle.doubles.proofs.Truth.{both}
use Rattle.plan.specs.Bounds.{Bytes}
use Rattle.plan.specs.Paper as plan
use Rattle.plan.proofs.Flags.{never}
use Rattle.plan.proofs.Here.{pick}
use Rattle.plan.proofs.Tables.{Words}
use Rattle.stream.specs.Words.{plus}
use Rattle.lent.specs.Batched.{Batched}
use Rattle.lent.specs.Memory.{Memory}
use Rattle.lent.specs.Batched.{batch_of}
use Rattle.feed.specs.declared.Phase.{Phase}
use Rattle.feed.specs.declared.Phase.TheVariants as phase
use Rattle.feed.specs.declared.Run.{Run}
use Rattle.feed.specs.Said.{none, Said, is_over_in, is_over_of, over_of, going, refusing_at, refusing}
use Rattle.feed.specs.Fields.{double_at, is_sample, row_from}
use Rattle.feed.specs.Turns.{TurnEnd, trained_of, batch_ends, train_of, turn_of}
use Rattle.feed.proofs.Batches.{batch-all}
use Rattle.feed.proofs.Rows.{row_one, row-none}
use Rattle.feed.proofs.Splits.{followed, row-split}
use Rattle.feed.proofs.Waits.{Waits, train-not}
use Rattle.feed.proofs.Joined.{sample-drop, row_drop}
use Rattle.feed.proofs.Chunks.{turn-row}
use Rattle.feed.proofs.Feeding.{Stand, heard, after, samples_due, single, Fed, here, on}

-- an 11 that was not refused
record Goes (o : Said) : Type 0 where
  taken : o.taken ≡ 11
  told : o.told ≡ plan.gives none
  due : o.run.phase ≡ phase.Samples
  word : o.run.number < 2 ^ 64

trained-goes : (run : Run) (b : Batched) → (b.refused ≡ 0 → b.done ≡ 1) → is_over_of (trained_of run b).run ≡ false → Goes (trained_of run b)
unfolding trained_of going refusing refusing_at over_of is_over_of is_over_in plus
trained-goes run b all =
    pick (λ (o : Said). is_over_of o.run ≡ false → Goes o) (not (eqb b.refused 0)) (λ t e. never e)
    (λ t e. record { taken = omega (arith, all (eqb-true b.refused 0 (not-false (eqb b.refused 0) t))); told = refl; due = refl; word = omega arith })

train-goes : (run : Run) (table : List ℕ) (x : Float) (m : Memory) → is_over_of (train_of run table (x ∷ []) m).answer.run ≡ false → Goes (train_of run table (x ∷ []) m).answer
unfolding train_of batch_ends
train-goes run table x m = trained-goes run (batch_of table m run.stream (x ∷ []) run.number).answer (batch-all table m run.stream (x ∷ []) run.number)

samples-live : (run : Run) → run.phase ≡ phase.Samples → is_over_of run ≡ false
unfolding is_over_of is_over_in
samples-live run p = ap is_over_in p

samples-due : (run : Run) → run.phase ≡ phase.Samples → samples_due run.phase ≡ true
unfolding samples_due
samples-due run p = ap samples_due p

pub due-samples : (p : Phase) → samples_due p ≡ true → p ≡ phase.Samples
unfolding samples_due
due-samples phase.Plan e = never (sym e)
due-samples phase.Stream e = never (sym e)
due-samples phase.Samples e = refl
due-samples phase.Over e = never (sym e)

small-drop : (bs : List ℕ) (k : ℕ) → Bytes bs → Bytes (drop k bs)
small-drop bs k small i = rw (get_or-drop k bs i 0) (small (k + i))

module _ (R C : ℕ) (last : Bool) where
  -- where a feeding stands with an 11 due
  record Ready (s : Stand) : Type 0 where
    due : s.run.phase ≡ phase.Samples
    words : Words s.table
    word : s.run.number < 2 ^ 64
    small : Bytes s.bytes
    sample : is_sample s.bytes 0 ≡ true

  abbrev first : Stand → TurnEnd
  first s = train_of s.run s.table (double_at s.bytes 3 ∷ []) s.state

  single-first : (s : Stand) → Ready s → single R C last s ≡ first s
  unfolding single
  single-first s r = rw (samples-due s.run r.due, r.sample)

  -- a step over the first 11
  step : (s t : Stand) → Ready s → Fed R C last (after s (first s)) t → Fed R C last s t
  step s t r f =
      let e = single-first s r in
      on s t r.small (samples-live s.run r.due)
      (λ w. train-not s.run s.table (double_at s.bytes 3 ∷ []) s.state (omega arith) (subst (λ (o : TurnEnd). Waits o.answer) e w))
      (subst (λ (o : TurnEnd). Fed R C last (after s o) t) (sym e) f)

  alone : (s : Stand) → Ready s → Fed R C last s (after s (first s))
  alone s r = step s (after s (first s)) r (here (after s (first s)))

  -- the first 11, and those behind it
  module _ (s : Stand) (r : Ready s) (n : ℕ) (rest : (t : Stand) → Ready t → Fed R C last t (after t (train_of t.run t.table (row_from t.bytes 0 (suc n)) t.state))) where
    abbrev o : TurnEnd
    o = first s

    abbrev fs : List Float
    fs = row_from s.bytes 11 (suc n)

    table_same : o.table ≡ s.table
    unfolding train_of batch_ends
    table_same = refl

    -- taken one behind the other
    follows : (x : TurnEnd) → Goes o.answer → after (after s o) x ≡ after s (followed o x)
    unfolding heard
    follows x g =
        ap (λ (l : List ℕ). record { run = x.answer.run; bytes = l; table = x.table; state = x.state; told = heard x.answer.told (heard o.answer.told s.told) }) (drop-drop x.answer.taken o.answer.taken s.bytes)
        ∙ ap (λ (t : plan.Paper _). record { run = x.answer.run; bytes = drop (o.answer.taken + x.answer.taken) s.bytes; table = x.table; state = x.state; told = heard x.answer.told (heard t s.told) }) g.told

    onward : is_sample s.bytes 11 ≡ true → is_over_of o.answer.run ≡ false → Fed R C last s (after s (followed o (train_of o.answer.run s.table fs o.state)))
    onward e live =
        let g = train-goes s.run s.table (double_at s.bytes 3) s.state live in
        let t = after s o in
        let eleven : drop o.answer.taken s.bytes ≡ drop 11 s.bytes = ap (λ (k : ℕ). drop k s.bytes) g.taken in
        let sample : is_sample t.bytes 0 ≡ true = ap (λ (l : List ℕ). is_sample l 0) eleven ∙ sample-drop s.bytes 11 0 ∙ e in
        let row : row_from t.bytes 0 (suc n) ≡ fs = ap (λ (l : List ℕ). row_from l 0 (suc n)) eleven ∙ row_drop s.bytes 11 (suc n) 0 in
        let ready : Ready t = record { due = g.due; words = rw table_same r.words; word = g.word; small = small-drop s.bytes o.answer.taken r.small; sample = sample } in
        let whole : train_of t.run t.table (row_from t.bytes 0 (suc n)) t.state ≡ train_of o.answer.run s.table fs o.state =
        ap (λ (l : List Float). train_of t.run t.table l t.state) row ∙ ap (λ (l : List ℕ). train_of o.answer.run l fs o.state) table_same in
        step s (after s (followed o (train_of o.answer.run s.table fs o.state))) r
        (subst (Fed R C last t) (ap (after t) whole ∙ follows (train_of o.answer.run s.table fs o.state) g) (rest t ready))

    by_over : is_sample s.bytes 11 ≡ true → (b : Bool) → is_over_of o.answer.run ≡ b → Fed R C last s (after s (cond b o (followed o (train_of o.answer.run s.table fs o.state))))
    by_over e true v = alone s r
    by_over e false v = onward e v

    by_next : (b : Bool) → is_sample s.bytes 11 ≡ b → Fed R C last s (after s (train_of s.run s.table (double_at s.bytes 3 ∷ fs) s.state))
    by_next true e =
        subst (λ (x : TurnEnd). Fed R C last s (after s x)) (sym (row-split s.table r.words s.run r.word (double_at s.bytes 3 ∷ []) fs s.state)) (by_over e (is_over_of o.answer.run) refl)
    by_next false e =
        subst (λ (l : List Float). Fed R C last s (after s (train_of s.run s.table (double_at s.bytes 3 ∷ l) s.state))) (sym (row-none s.bytes 11 (suc n) e)) (alone s r)

  row-fed : (n : ℕ) (s : Stand) → Ready s → Fed R C last s (after s (train_of s.run s.table (row_from s.bytes 0 (suc n)) s.state))
  unfolding row_from
  row-fed zero s r = subst (λ (l : List Float). Fed R C last s (after s (train_of s.run s.table l s.state))) (sym (row_one s.bytes 0 0 r.sample)) (alone s r)
  row-fed (suc n) s r =
      subst (λ (l : List Float). Fed R C last s (after s (train_of s.run s.table l s.state))) (sym (row_one s.bytes 0 (suc n) r.sample)) (by_next s r n (row-fed n) (is_sample s.bytes 11) refl)

  -- ---- any turn

  module _ (s : Stand) (words : Words s.table) (word : s.run.number < 2 ^ 64) (small : Bytes s.bytes) (live : is_over_of s.run ≡ false) where
    abbrev turned : TurnEnd
    turned = turn_of s.run s.bytes last s.table s.state R C

    by_field : (b : Bool) → (samples_due s.run.phase && is_sample s.bytes 0) ≡ b → (Waits turned.answer → ⊥) → Fed R C last s (after s turned)
    unfolding single
    by_field true e goes =
        let k = both (samples_due s.run.phase) (is_sample s.bytes 0) e in
        let p = due-samples s.run.phase k.0 in
        subst (λ (o : TurnEnd). Fed R C last s (after s o)) (sym (turn-row s.run s.table s.state R C s.bytes last p k.1))
        (row-fed 255 s (record { due = p; words = words; word = word; small = small; sample = k.1 }))
    by_field false e goes =
        let same : single R C last s ≡ turned = rw e in
        on s (after s turned) small live (λ w. goes (subst (λ (o : TurnEnd). Waits o.answer) same w))
        (subst (λ (o : TurnEnd). Fed R C last (after s o) (after s turned)) (sym same) (here (after s turned)))

    -- a turn that does not wait is some fields fed
    pub turn-fed : (Waits turned.answer → ⊥) → Fed R C last s (after s turned)
    turn-fed goes = by_field (samples_due s.run.phase && is_sample s.bytes 0) refl goes
