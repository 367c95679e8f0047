-- A row of 11s cut in two is trained as one: what a run comes to does not depend on how many 11s a turn takes.
use Rattle.std.proofs.Common.{◌≡◌, ℕ, zero, suc, ◌+◌, ◌*◌, ◌%◌, ◌^◌, ◌<◌, ◌≤◌, Bool, true, false, cond, not, eqb, List, [], ◌∷◌, ◌++◌, length, sym, refl, ap, ◌∙◌, add-zero, arith, eqb-true}
use borrow.Author.Tests.{not-true, not-false, eqb-false}
use lib.Ieee.{Float}
use Rattle.plan.proofs.Tables.{Words}
use Rattle.stream.specs.declared.MonteCarloRng.{MonteCarloRng}
use Rattle.stream.specs.Words.{plus}
use Rattle.lent.specs.Batched.{Batched}
use Rattle.lent.specs.Memory.{Memory}
use Rattle.lent.specs.State.{state_fault}
use Rattle.lent.specs.Batched.{BatchEnd, batch_end, batched, step_of, unless_refused, steps_of, batch_of}
use Rattle.lent.proofs.Batches.{step-onward}
use Rattle.feed.specs.declared.Phase.{Phase}
use Rattle.feed.specs.declared.Phase.TheVariants as phase
use Rattle.feed.specs.declared.Run.{Run}
use Rattle.feed.specs.Said.{Said, is_over_in, is_over_of, over_of, going, refusing_at, refusing}
use Rattle.feed.specs.Turns.{TurnEnd, turn_end, trained_of, batch_ends, train_of}

-- ---- the trainings of two rows

-- so many more were trained before
abbrev moved : ℕ → BatchEnd → BatchEnd
moved d b = batch_end (batched b.answer.refused (d + b.answer.done) b.answer.stream) b.state

moved-either : (c : ℕ) (b : Bool) (x y x' y' : BatchEnd) → x' ≡ moved c x → y' ≡ moved c y → cond b x' y' ≡ moved c (cond b x y)
moved-either c true x y x' y' p q = p
moved-either c false x y x' y' p q = q

module _ (table : List ℕ) where
  steps-moved : (es : List Float) (m : Memory) (s : MonteCarloRng) (k c d : ℕ) → steps_of table es m s k (c + d) ≡ moved c (steps_of table es m s k d)
  unfolding steps_of unless_refused
  steps-moved [] m s k c d = refl
  steps-moved (e ∷ es) m s k c d =
      let o = step_of table m s e k in
      let i : c + d + 1 ≡ c + (d + 1) = omega arith in
      moved-either c (not (eqb o.refused 0)) (batch_end (batched o.refused d o.stream) o.state) (steps_of table es o.state o.stream (k + 1) (d + 1))
      (batch_end (batched o.refused (c + d) o.stream) o.state) (steps_of table es o.state o.stream (k + 1) (c + d + 1)) refl
      (ap (steps_of table es o.state o.stream (k + 1)) i ∙ steps-moved es o.state o.stream (k + 1) c (d + 1))

  -- refused it stays, else the rest follows
  abbrev carried : List Float → ℕ → BatchEnd → BatchEnd
  carried fs k b = cond (not (eqb b.answer.refused 0)) b (steps_of table fs b.state b.answer.stream k b.answer.done)

  carried-either : (fs : List Float) (k : ℕ) (b : Bool) (x y z : BatchEnd) → not (eqb x.answer.refused 0) ≡ b → z ≡ carried fs k y → cond b x z ≡ carried fs k (cond b x y)
  carried-either fs k true x y z e q = sym (ap (λ (t : Bool). cond t x (steps_of table fs x.state x.answer.stream k x.answer.done)) e)
  carried-either fs k false x y z e q = q

  steps-append : (es fs : List Float) (m : Memory) (s : MonteCarloRng) (k d : ℕ) → steps_of table (es ++ fs) m s k d ≡ carried fs (k + length es) (steps_of table es m s k d)
  unfolding steps_of unless_refused
  steps-append [] fs m s k d = ap (λ (j : ℕ). steps_of table fs m s j d) (sym (add-zero k))
  steps-append (e ∷ es) fs m s k d =
      let o = step_of table m s e k in
      let i : k + 1 + length es ≡ k + suc (length es) = omega arith in
      let rest = steps_of table es o.state o.stream (k + 1) (d + 1) in
      carried-either fs (k + suc (length es)) (not (eqb o.refused 0)) (batch_end (batched o.refused d o.stream) o.state) rest
      (steps_of table (es ++ fs) o.state o.stream (k + 1) (d + 1)) refl
      (steps-append es fs o.state o.stream (k + 1) (d + 1) ∙ ap (λ (j : ℕ). carried fs j rest) i)

  -- what a row that was not refused leaves
  record Through (n k d : ℕ) (b : BatchEnd) : Type 0 where
    clear : state_fault table b.state.reals b.state.counts ≡ 0
    done : b.answer.done ≡ d + n
    number : 0 < n → k + n ≤ 2 ^ 53 + 1

  number_more : (n k : ℕ) → k ≤ 2 ^ 53 → (0 < n → k + 1 + n ≤ 2 ^ 53 + 1) → k + suc n ≤ 2 ^ 53 + 1
  number_more zero k h i = omega arith
  number_more (suc n) k h i = omega (arith, i (omega arith))

  through-either : (n k d : ℕ) (b : Bool) (x y : BatchEnd) → not (eqb x.answer.refused 0) ≡ b → (cond b x y).answer.refused ≡ 0 → (x.answer.refused ≡ 0 → y.answer.refused ≡ 0 → Through n k d y) → Through n k d (cond b x y)
  through-either n k d true x y e z f = absurd (eqb-false x.answer.refused 0 (not-true (eqb x.answer.refused 0) e) z)
  through-either n k d false x y e z f = f (eqb-true x.answer.refused 0 (not-false (eqb x.answer.refused 0) e)) z

  steps-through : Words table → (es : List Float) (m : Memory) (s : MonteCarloRng) (k d : ℕ) → state_fault table m.reals m.counts ≡ 0 → (steps_of table es m s k d).answer.refused ≡ 0 → Through (length es) k d (steps_of table es m s k d)
  unfolding steps_of unless_refused
  steps-through large [] m s k d c z = record { clear = c; done = sym (add-zero d); number = λ h. absurd (omega arith) }
  steps-through large (e ∷ es) m s k d c z =
      let o = step_of table m s e k in
      let rest = steps_of table es o.state o.stream (k + 1) (d + 1) in
      through-either (suc (length es)) k d (not (eqb o.refused 0)) (batch_end (batched o.refused d o.stream) o.state) rest refl z
      (λ p q.
      let on = step-onward table m s e k c o.refused o.stream o.state large refl p in
      let t = steps-through large es o.state o.stream (k + 1) (d + 1) on.clear q in
      record { clear = t.clear; done = omega (arith, t.done); number = λ h. number_more (length es) k on.number t.number })

-- ---- the turns of two rows

-- so many bytes were taken before
abbrev further : ℕ → Said → Said
further n o = record { run = o.run; taken = n + o.taken; told = o.told }

going_on : (run : Run) (p q : Phase) (s s' : MonteCarloRng) (a c : ℕ) → going run p s (a + c) (11 * (a + c)) ≡ further (11 * a) (going (going run q s' a (11 * a)).run p s c (11 * c))
unfolding going plus
going_on run p q s s' a c =
    let number : (run.number + (a + c)) % 2 ^ 64 ≡ ((run.number + a) % 2 ^ 64 + c) % 2 ^ 64 = omega arith in
    let at : (run.at + 11 * (a + c)) % 2 ^ 64 ≡ ((run.at + 11 * a) % 2 ^ 64 + 11 * c) % 2 ^ 64 = omega arith in
    let taken : 11 * (a + c) ≡ 11 * a + 11 * c = omega arith in
    rw (number, at, taken)

further-either : (n : ℕ) (b : Bool) (x y x' y' : Said) → x' ≡ further n x → y' ≡ further n y → cond b x' y' ≡ further n (cond b x y)
further-either n true x y x' y' p q = p
further-either n false x y x' y' p q = q

refusing-further : (n k : ℕ) (o : Said) → refusing (further n o) k ≡ further n (refusing o k)
unfolding refusing refusing_at
refusing-further n k o = refl

trained-on : (run : Run) (s : MonteCarloRng) (a : ℕ) (b : Batched) → trained_of run (batched b.refused (a + b.done) b.stream) ≡ further (11 * a) (trained_of (going run phase.Samples s a (11 * a)).run b)
unfolding trained_of
trained-on run s a b =
    let o = going (going run phase.Samples s a (11 * a)).run phase.Samples b.stream b.done (11 * b.done) in
    let o' = going run phase.Samples b.stream (a + b.done) (11 * (a + b.done)) in
    let g = going_on run phase.Samples phase.Samples b.stream s a b.done in
    further-either (11 * a) (not (eqb b.refused 0)) (refusing o b.refused) o (refusing o' b.refused) o' (ap (λ (x : Said). refusing x b.refused) g ∙ refusing-further (11 * a) b.refused o) g

-- behind a turn that did not end the run, the turn of a further row
abbrev pub followed : TurnEnd → TurnEnd → TurnEnd
followed o e = turn_end (further o.answer.taken e.answer) e.table e.state

abbrev pub behind : List ℕ → TurnEnd → List Float → TurnEnd
behind table o fs = cond (is_over_of o.answer.run) o (followed o (train_of o.answer.run table fs o.state))

if-true : {A : Type 0} (b : Bool) (x y : A) → b ≡ true → cond b x y ≡ x
if-true b x y e = rw e

if-false : {A : Type 0} (b : Bool) (x y : A) → b ≡ false → cond b x y ≡ y
if-false b x y e = rw e

over-stays : (run : Run) (table : List ℕ) (fs : List Float) (x : BatchEnd) → not (eqb x.answer.refused 0) ≡ true → batch_ends run table x ≡ behind table (batch_ends run table x) fs
unfolding batch_ends trained_of refusing refusing_at over_of is_over_of is_over_in
over-stays run table fs x e =
    let o = going run phase.Samples x.answer.stream x.answer.done (11 * x.answer.done) in
    let r = if-true (not (eqb x.answer.refused 0)) (refusing o x.answer.refused) o e in
    let over : is_over_of (trained_of run x.answer).run ≡ true = ap (λ (s : Said). is_over_of s.run) r in
    let b = batch_ends run table x in
    sym (if-true (is_over_of b.answer.run) b (followed b (train_of b.answer.run table fs b.state)) over)

number_fits : (n k : ℕ) → k < 2 ^ 64 → (0 < n → k + n ≤ 2 ^ 53 + 1) → k + n < 2 ^ 64
number_fits zero k h i = omega arith
number_fits (suc n) k h i = omega (arith, i (omega arith))

plus-fits : (k d n : ℕ) → d ≡ n → k + n < 2 ^ 64 → plus k d ≡ k + n
unfolding plus
plus-fits k d n e h = rw e (omega arith)

-- a batch on a state that is faulty, and on one that is clear
module _ (table : List ℕ) (m : Memory) (s : MonteCarloRng) (k : ℕ) (xs : List Float) where
  pub batch-faulty : not (eqb (state_fault table m.reals m.counts) 0) ≡ true → batch_of table m s xs k ≡ batch_end (batched (state_fault table m.reals m.counts) 0 s) m
  unfolding batch_of
  batch-faulty e = rw e

  pub batch-clear : not (eqb (state_fault table m.reals m.counts) 0) ≡ false → batch_of table m s xs k ≡ steps_of table xs m s k 0
  unfolding batch_of
  batch-clear e = rw e

module _ (table : List ℕ) (large : Words table) (run : Run) (word : run.number < 2 ^ 64) (es fs : List Float) (m : Memory) where
  abbrev s : MonteCarloRng
  s = run.stream

  abbrev k : ℕ
  k = run.number

  -- the first row's end, where the state is clear, and the second's from there on
  abbrev first : BatchEnd
  first = steps_of table es m s k 0

  abbrev second : BatchEnd
  second = steps_of table fs first.state first.answer.stream (k + length es) 0

  -- both rows alike end as x does
  both_end : (x : BatchEnd) → not (eqb x.answer.refused 0) ≡ true → batch_of table m s (es ++ fs) k ≡ x → batch_of table m s es k ≡ x → train_of run table (es ++ fs) m ≡ behind table (train_of run table es m) fs
  unfolding train_of
  both_end x e p q = ap (batch_ends run table) p ∙ over-stays run table fs x e ∙ ap (λ (b : BatchEnd). behind table (batch_ends run table b) fs) (sym q)

  module _ (judged : not (eqb (state_fault table m.reals m.counts) 0) ≡ false) where
    all : batch_of table m s (es ++ fs) k ≡ carried table fs (k + length es) first
    all = batch-clear table m s k (es ++ fs) judged ∙ steps-append table es fs m s k 0

    rest-refused : not (eqb first.answer.refused 0) ≡ true → train_of run table (es ++ fs) m ≡ behind table (train_of run table es m) fs
    rest-refused e =
        both_end first e (all ∙ if-true (not (eqb first.answer.refused 0)) first (steps_of table fs first.state first.answer.stream (k + length es) first.answer.done) e) (batch-clear table m s k es judged)

    module _ (e : not (eqb first.answer.refused 0) ≡ false) where
      through : Through table (length es) k 0 first
      through =
          steps-through table large es m s k 0 (eqb-true (state_fault table m.reals m.counts) 0 (not-false (eqb (state_fault table m.reals m.counts) 0) judged))
          (eqb-true first.answer.refused 0 (not-false (eqb first.answer.refused 0) e))

      abbrev gone : Said
      gone = going run phase.Samples first.answer.stream first.answer.done (11 * first.answer.done)

      -- both rows as one
      whole : train_of run table (es ++ fs) m ≡ turn_end (further (11 * first.answer.done) (trained_of gone.run second.answer)) table second.state
      unfolding train_of batch_ends
      whole =
          ap (batch_ends run table)
          (all
          ∙ if-false (not (eqb first.answer.refused 0)) first (steps_of table fs first.state first.answer.stream (k + length es) first.answer.done) e
          ∙ ap (steps_of table fs first.state first.answer.stream (k + length es)) (sym (add-zero first.answer.done))
          ∙ steps-moved table fs first.state first.answer.stream (k + length es) first.answer.done 0)
          ∙ ap (λ (o : Said). turn_end o table second.state) (trained-on run first.answer.stream first.answer.done second.answer)

      -- the second row's turn
      next : batch_of table first.state first.answer.stream fs (plus k first.answer.done) ≡ second
      next =
          let f = state_fault table first.state.reals first.state.counts in
          let t = through in
          let number = plus-fits k first.answer.done (length es) (omega (arith, t.done)) (number_fits (length es) k word t.number) in
          let clear : not (eqb f 0) ≡ false = rw t.clear in
          ap (batch_of table first.state first.answer.stream fs) number ∙ batch-clear table first.state first.answer.stream (k + length es) fs clear

      parts : behind table (turn_end gone table first.state) fs ≡ turn_end (further (11 * first.answer.done) (trained_of gone.run second.answer)) table second.state
      unfolding train_of batch_ends going is_over_of is_over_in
      parts = ap (λ (b : BatchEnd). turn_end (further (11 * first.answer.done) (trained_of gone.run b.answer)) table b.state) next

      started : train_of run table es m ≡ turn_end gone table first.state
      unfolding train_of batch_ends trained_of
      started =
          ap (batch_ends run table) (batch-clear table m s k es judged)
          ∙ ap (λ (o : Said). turn_end o table first.state) (if-false (not (eqb first.answer.refused 0)) (refusing gone first.answer.refused) gone e)

      rest_goes : train_of run table (es ++ fs) m ≡ behind table (train_of run table es m) fs
      rest_goes = whole ∙ sym parts ∙ ap (λ (o : TurnEnd). behind table o fs) (sym started)

    by_first : (b : Bool) → not (eqb first.answer.refused 0) ≡ b → train_of run table (es ++ fs) m ≡ behind table (train_of run table es m) fs
    by_first true e = rest-refused e
    by_first false e = rest_goes e

  by_state : (b : Bool) → not (eqb (state_fault table m.reals m.counts) 0) ≡ b → train_of run table (es ++ fs) m ≡ behind table (train_of run table es m) fs
  by_state true e = both_end (batch_end (batched (state_fault table m.reals m.counts) 0 s) m) e (batch-faulty table m s k (es ++ fs) e) (batch-faulty table m s k es e)
  by_state false e = by_first e (not (eqb first.answer.refused 0)) refl

  -- the law
  pub row-split : train_of run table (es ++ fs) m ≡ behind table (train_of run table es m) fs
  row-split = by_state (not (eqb (state_fault table m.reals m.counts) 0)) refl
