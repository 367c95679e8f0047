-- Histories: once nothing stands against a state, nothing does after any sequence of calls, refused ones included. So from a fresh grid on
-- every axis has edges that rise strictly from exactly 0 to exactly 1, and every probability is finite and above 0 (`sound`). And a sequence
-- that the model gives is answered and leaves the model's grid. Draws, probes, summaries and estimates write nothing; a copy is a state of
-- its own.
use mathlib.Core.Path.{◌≡◌, refl, sym, ap, ap₂, ◌∙◌, subst}
use mathlib.Core.Bool.{Bool, true, false}
use mathlib.Core.List.{List, [], ◌∷◌}
use Prim.Native.Nat.{ℕ, ◌≤◌}
use native.Mathlib.Omega.{arith}
use borrow.Author.Tests.{eqb-true, eqb-false, le-ltb}
use lib.Dec.{eqb, ltb}
use lib.ListN.{length, replicate, length-replicate}
use lib.Ieee.{Float}
use Rattle.doubles.specs.Numbers.{zero64}
use Rattle.doubles.specs.Paper.{Paper, gives, refuses}
use Rattle.doubles.proofs.Ladder.{given}
use Rattle.plan.specs.Bounds.{Bytes}
use Rattle.plan.specs.Paper as plan
use Rattle.plan.specs.Paper.{PlanRead}
use Rattle.plan.specs.declared.Needs.{Needs}
use Rattle.plan.specs.Calls.{sizes_of}
use Rattle.plan.proofs.Tables.{Words}
use Rattle.model.specs.Grid.{Grid}
use Rattle.model.specs.Sound.{sound}
use Rattle.model.specs.Train.{train_of}
use Rattle.model.specs.Merge.{merge_of}
use Rattle.model.specs.Update as model
use Rattle.lent.specs.declared.Sample.{Sample}
use Rattle.lent.specs.Memory.{Memory, memory}
use Rattle.lent.specs.Sampled.{sample_of}
use Rattle.lent.specs.State.{root_of, judged_by, judged_to, fault_by, state_fault, pair_fault}
use Rattle.lent.specs.Calls.{StateEnd, fresh_end, fresh_of, train_call_of, updated_by, update_of, united_by, merge_into_of}
use Rattle.lent.proofs.States.{Clear, clear, passes}
use Rattle.lent.proofs.Batches.{clear-again, trained-onward}
use Rattle.lent.proofs.AbsorbedTree.{train-trains, train-stays}
use Rattle.lent.proofs.UpdatedState.{Called, update-updates}
use Rattle.lent.proofs.UnitedTree.{merge-read}
use Rattle.lent.proofs.FreshState.{fresh-founds}

-- a call that may write: a training; an update with its rates and the spare's two lengths; a merge with any other table and memory
pub data Step : Type 0 where
  trains : Sample → Float → ℕ → Step
  updates : Float → Float → ℕ → ℕ → Step
  merges : (other : List ℕ) → Words other → Memory → Step

-- the state after it
unfoldable pub after : List ℕ → Memory → Step → Memory
after table m (trains s e k) = (train_call_of table m s e k).state
after table m (updates bins_rate axes_rate R C) = (update_of table bins_rate axes_rate R C m).state
after table m (merges other w others) = (merge_into_of table m other others).state

unfoldable pub after_all : List ℕ → Memory → List Step → Memory
after_all table m [] = m
after_all table m (x ∷ xs) = after_all table (after table m x) xs

module _ (table : List ℕ) (large : Words table) (m : Memory) (fault : state_fault table m.reals m.counts ≡ 0) where
  abbrev Fine : Memory → Type 0
  Fine t = state_fault table t.reals t.counts ≡ 0

  -- what stays is as clear as it was
  stays : (t : Memory) → t ≡ m → Fine t
  stays t e = ap (λ (x : Memory). state_fault table x.reals x.counts) e ∙ fault

  trained : (s : Sample) (e : Float) (k : ℕ) → Fine (train_call_of table m s e k).state
  trained s e k = pick (eqb (train_call_of table m s e k).answer 0) refl
    where
      pick : (b : Bool) → eqb (train_call_of table m s e k).answer 0 ≡ b → Fine (train_call_of table m s e k).state
      pick true h = (trained-onward table m s e k large fault (eqb-true _ 0 h)).clear
      pick false h = stays _ (train-stays table m s e k (eqb-false _ 0 h))

  updated : (bins_rate axes_rate : Float) (R C : ℕ) → Fine (update_of table bins_rate axes_rate R C m).state
  unfolding update_of updated_by Called
  updated bins_rate axes_rate R C = pick (eqb (judged_to table m.reals m.counts R C c.needs) 0) refl
    where
      c : Clear table m.reals m.counts
      c = clear table m.reals m.counts large fault

      to : Memory
      to = memory (replicate R zero64) (replicate C 0)

      by-model : (e : StateEnd) (p : Paper Grid) → Called table m e p → Fine e.state
      by-model e (gives g) (a, r, w, x, y) = clear-again table m e.state large fault x y (ap sound r ∙ w)
      by-model e (refuses k) h = stays e.state (ap (λ (z : StateEnd). z.state) h)

      pick : (b : Bool) → eqb (judged_to table m.reals m.counts R C c.needs) 0 ≡ b → Fine (update_of table bins_rate axes_rate R C m).state
      pick true h =
          let x = length-replicate R zero64 in
          let y = length-replicate {A = ℕ} C 0 in
          let z : judged_to table m.reals m.counts (length to.reals) (length to.counts) c.needs ≡ 0 = rw (x, y) (eqb-true _ 0 h) in
          let u = update-updates table bins_rate axes_rate m to c.needs large c.planned z in
          let same : update_of table bins_rate axes_rate (length to.reals) (length to.counts) m ≡ update_of table bins_rate axes_rate R C m = ap₂ (λ (i j : ℕ). update_of table bins_rate axes_rate i j m) x y in
          subst (λ (o : StateEnd). Fine o.state) same (by-model _ (model.update_of bins_rate axes_rate (root_of table m.reals m.counts)) u)
      pick false h = rw (c.planned, h) fault

  merged : (other : List ℕ) (wide : Words other) (others : Memory) → Fine (merge_into_of table m other others).state
  unfolding merge_into_of united_by
  merged other wide others = pick (eqb (pair_fault table m.reals m.counts other others.reals others.counts) 0) refl
    where
      by-model : (p : Paper Grid) → pair_fault table m.reals m.counts other others.reals others.counts ≡ 0
          → merge_of (root_of table m.reals m.counts) (root_of other others.reals others.counts) ≡ p → Fine (merge_into_of table m other others).state
      by-model (gives g) z e = let r = merge-read table m other others g large wide z e in clear-again table m _ large fault r.3 r.4 (ap sound r.1 ∙ r.2)
      by-model (refuses k) z e = rw (z, e) fault

      pick : (b : Bool) → eqb (pair_fault table m.reals m.counts other others.reals others.counts) 0 ≡ b → Fine (merge_into_of table m other others).state
      pick true h = by-model (merge_of (root_of table m.reals m.counts) (root_of other others.reals others.counts)) (eqb-true _ 0 h) refl
      pick false h = rw h fault

  pub step_clear : (x : Step) → Fine (after table m x)
  unfolding after
  step_clear (trains s e k) = trained s e k
  step_clear (updates bins_rate axes_rate R C) = updated bins_rate axes_rate R C
  step_clear (merges other wide others) = merged other wide others

pub history-clear : (table : List ℕ) → Words table → (xs : List Step) (m : Memory) → state_fault table m.reals m.counts ≡ 0 → state_fault table (after_all table m xs).reals (after_all table m xs).counts ≡ 0
unfolding after_all
history-clear table large [] m f = f
history-clear table large (x ∷ xs) m f = history-clear table large xs (after table m x) (step_clear table large m f x)

-- from a fresh grid
pub fresh-history : (bs table ys : List ℕ) (s t : Memory) (r : PlanRead) (xs : List Step) → Bytes bs → Words ys → fresh_of bs table s ≡ fresh_end (plan.gives r) ys t
    → state_fault ys (after_all ys t xs).reals (after_all ys t xs).counts ≡ 0
fresh-history bs table ys s t r xs small large e = history-clear ys large xs t (fresh-founds bs table ys s t r small large e).clear

-- ---- what the calls come to is the model's run

-- the model's answer to a step
unfoldable pub step_of : Grid → Step → Paper Grid
step_of g (trains s e k) = train_of g (sample_of s) e k
step_of g (updates bins_rate axes_rate R C) = model.update_of bins_rate axes_rate g
step_of g (merges other w others) = merge_of g (root_of other others.reals others.counts)

-- the model's run: it ends at the first refusal
unfoldable pub on_given : Paper Grid → (Grid → Paper Grid) → Paper Grid
on_given (gives g) f = f g
on_given (refuses n) f = refuses n

unfoldable pub run_of : Grid → List Step → Paper Grid
run_of g [] = gives g
run_of g (x ∷ xs) = on_given (step_of g x) (λ (h : Grid). run_of h xs)

-- the answer of a step's call
unfoldable pub answer_of : List ℕ → Memory → Step → ℕ
answer_of table m (trains s e k) = (train_call_of table m s e k).answer
answer_of table m (updates bins_rate axes_rate R C) = (update_of table bins_rate axes_rate R C m).answer
answer_of table m (merges other w others) = (merge_into_of table m other others).answer

-- what a step is lent is there: the spare's room, and another state that nothing stands against
unfoldable pub Lent : List ℕ → Memory → Step → Type 0
Lent table m (trains s e k) = Unit
Lent table m (updates bins_rate axes_rate R C) = (n : Needs) → sizes_of table ≡ plan.gives n → (n.reals ≤ R) × (n.counts ≤ C)
Lent table m (merges other w others) = pair_fault table m.reals m.counts other others.reals others.counts ≡ 0

unfoldable pub AllLent : List ℕ → Memory → List Step → Type 0
AllLent table m [] = Unit
AllLent table m (x ∷ xs) = Lent table m x × AllLent table (after table m x) xs

unfoldable pub Answered : List ℕ → Memory → List Step → Type 0
Answered table m [] = Unit
Answered table m (x ∷ xs) = (answer_of table m x ≡ 0) × Answered table (after table m x) xs

module _ (table : List ℕ) (large : Words table) (m : Memory) (fault : state_fault table m.reals m.counts ≡ 0) where
  roomed : (R C : ℕ) (n : Needs) → sizes_of table ≡ plan.gives n → n.reals ≤ R → n.counts ≤ C → judged_to table m.reals m.counts R C n ≡ 0
  unfolding judged_to state_fault fault_by judged_by
  roomed R C n e h k =
      let f : judged_by table m.reals m.counts n ≡ 0 = ap (fault_by table m.reals m.counts) (sym e) ∙ fault in
      let a = passes (ltb (length m.reals) n.reals) 10 _ (λ z. omega (arith, z)) f in
      let b = passes (ltb (length m.counts) n.counts) 10 _ (λ z. omega (arith, z)) a.1 in
      rw (a.0, b.0, le-ltb R n.reals h, le-ltb C n.counts k) b.1

  pub step-model : (x : Step) (g : Grid) → Lent table m x → step_of (root_of table m.reals m.counts) x ≡ gives g
      → (answer_of table m x ≡ 0) × (root_of table (after table m x).reals (after table m x).counts ≡ g)
  unfolding step_of answer_of after Lent Called
  step-model (trains s e k) g l h = let t = train-trains table m s e k g large fault h in (t.answer, t.reads)
  step-model (updates bins_rate axes_rate R C) g l h =
      let c = clear table m.reals m.counts large fault in
      let n = c.needs in
      let p = l n c.planned in
      let x = length-replicate R zero64 in
      let y = length-replicate {A = ℕ} C 0 in
      let to = memory (replicate R zero64) (replicate C 0) in
      let z : judged_to table m.reals m.counts (length to.reals) (length to.counts) n ≡ 0 = rw (x, y) (roomed R C n c.planned p.0 p.1) in
      let u = subst (Called table m (update_of table bins_rate axes_rate (length to.reals) (length to.counts) m)) h (update-updates table bins_rate axes_rate m to n large c.planned z) in
      let same : update_of table bins_rate axes_rate (length to.reals) (length to.counts) m ≡ update_of table bins_rate axes_rate R C m = ap₂ (λ (i j : ℕ). update_of table bins_rate axes_rate i j m) x y in
      subst (λ (o : StateEnd). (o.answer ≡ 0) × (root_of table o.state.reals o.state.counts ≡ g)) same (called-gives _ g u)
    where
      called-gives : (e : StateEnd) (g : Grid) → Called table m e (gives g) → (e.answer ≡ 0) × (root_of table e.state.reals e.state.counts ≡ g)
      called-gives e g q = (q.0, q.1)
  step-model (merges other wide others) g l h = let r = merge-read table m other others g large wide l h in (r.0, r.1)

-- any sequence of calls that the model gives, on a state that nothing stands against, is answered, and leaves the model's grid
pub history-model : (table : List ℕ) → Words table → (xs : List Step) (m : Memory) (g : Grid) → state_fault table m.reals m.counts ≡ 0 → AllLent table m xs
    → run_of (root_of table m.reals m.counts) xs ≡ gives g → Answered table m xs × (root_of table (after_all table m xs).reals (after_all table m xs).counts ≡ g)
unfolding after_all AllLent Answered run_of on_given
history-model table large [] m g f l e = (tt, given (root_of table m.reals m.counts) g e)
history-model table large (x ∷ xs) m g f l e =
    pick (λ k. history-model table large xs (after table m x) g (step_clear table large m f x) l.1 k) (step_of (root_of table m.reals m.counts) x) refl e
  where
    t : Memory
    t = after table m x

    pick : (run_of (root_of table t.reals t.counts) xs ≡ gives g → Answered table t xs × (root_of table (after_all table t xs).reals (after_all table t xs).counts ≡ g)) → (p : Paper Grid)
        → step_of (root_of table m.reals m.counts) x ≡ p → on_given p (λ (h : Grid). run_of h xs) ≡ gives g
        → Answered table m (x ∷ xs) × (root_of table (after_all table m (x ∷ xs)).reals (after_all table m (x ∷ xs)).counts ≡ g)
    pick on (gives h) q r =
        let one = step-model table large m f x h l.0 q in
        let rest = on (ap (λ (k : Grid). run_of k xs) one.1 ∙ r) in
        ((one.0, rest.0), rest.1)
    pick on (refuses n) q r = let z : ◌≡◌ {A = ℕ} 0 1 = cc in absurd (omega arith)
