-- Demand 2: any sequence of calls none of which is refused is the model's run; estimates, samples, weights and all state included. And with
-- refused calls among them: each answer is the model's, its number too.
use mathlib.Core.Path.{◌≡◌, refl, sym, ap, ap₂, ◌∙◌, subst}
use mathlib.Core.Bool.{Bool, true, false, true≢false}
use mathlib.Core.List.{List, [], ◌∷◌, map}
use Prim.Native.Nat.{ℕ}
use lib.Dec.{eqb}
use Rattle.doubles.specs.Paper.{Paper, gives, refuses}
use Rattle.plan.specs.Bounds.{Bytes}
use Rattle.plan.specs.Paper as plan
use Rattle.plan.specs.Paper.{PlanRead}
use Rattle.plan.proofs.Tables.{Words}
use Rattle.model.specs.Grid.{Grid}
use Rattle.lent.specs.Memory.{Memory}
use Rattle.lent.specs.State.{root_of, state_fault}
use Rattle.lent.specs.Calls.{fresh_end, fresh_of}
use Rattle.lent.proofs.FreshState.{fresh-founds}
use Rattle.grid.specs.Fresh.{fresh}
use Rattle.grid.specs.History.{Call, Word, Told, told, after, run, Entry, entry, given, log, lacks}
use Rattle.grid.specs.Lent.{Deed, reply_of, state_of, replies, ending, lent, plainly, besides, seen, granted, lent_log, worded, words, plan_of}
use Rattle.grid.proofs.Planned.{fresh-planned}
use Rattle.grid.proofs.Tied.{Wordy, tie}

-- every table lent is of 64-bit words
unfoldable pub AllWordy : List Deed → Type 0
AllWordy [] = Unit
AllWordy (d ∷ ds) = Wordy d × AllWordy ds

-- none of the answers is a refusal
unfoldable pub AllGiven : List (Paper Word) → Type 0
AllGiven [] = Unit
AllGiven (p ∷ ps) = (granted p ≡ true) × AllGiven ps

pub granted-is : (p : Paper Told) → granted (worded p) ≡ given p
unfolding granted worded given
granted-is (gives t) = refl
granted-is (refuses n) = refl

-- ---- a sequence from any state that nothing stands against

pub record Runs (table : List ℕ) (m : Memory) (ds : List Deed) (cs : List Call) : Type 0 where
  pub answers : replies table m ds ≡ words (root_of table m.reals m.counts) cs
  pub reads : root_of table (ending table m ds).reals (ending table m ds).counts ≡ run (root_of table m.reals m.counts) cs
  pub logs : lent_log table m ds ≡ log (root_of table m.reals m.counts) cs
  pub clear : state_fault table (ending table m ds).reals (ending table m ds).counts ≡ 0

pub runs : (table : List ℕ) → Words table → (ds : List Deed) (m : Memory) → state_fault table m.reals m.counts ≡ 0 → AllWordy ds → Runs table m ds (map (seen table) ds)
unfolding AllWordy replies ending lent_log words run log
runs table large [] m f w = record { answers = refl; reads = refl; logs = refl; clear = f }
runs table large (d ∷ ds) m f w =
    let g = root_of table m.reals m.counts in
    let c = seen table d in
    let cs = map (seen table) ds in
    let t = tie table m large f d w.0 in
    let r = runs table large ds (state_of table m d) t.clear w.1 in
    let verdict : granted (reply_of table m d) ≡ given (told g c) = ap granted t.reply ∙ granted-is (told g c) in
    record {
      answers = ap₂ (λ (p : Paper Word) (ps : List (Paper Word)). p ∷ ps) t.reply (r.answers ∙ ap (λ (x : Grid). words x cs) t.reads);
      reads = r.reads ∙ ap (λ (x : Grid). run x cs) t.reads;
      logs = ap₂ (λ (b : Bool) (es : List Entry). entry c b ∷ es) verdict (r.logs ∙ ap (λ (x : Grid). log x cs) t.reads);
      clear = r.clear;
    }

-- ---- where none is refused, nothing that is lent lacks

refused-lacks : (g : Grid) (n : ℕ) → granted (worded (told g (lacks n))) ≡ false
unfolding told worded granted
refused-lacks g n = refl

seen-plainly : (table : List ℕ) (g : Grid) (d : Deed) → granted (worded (told g (seen table d))) ≡ true → seen table d ≡ plainly d
unfolding seen lent
seen-plainly table g d e = pick (eqb (besides table d) 0) refl
  where
    pick : (b : Bool) → eqb (besides table d) 0 ≡ b → seen table d ≡ plainly d
    pick true h = rw h
    pick false h =
        let c : seen table d ≡ lacks (besides table d) = rw h in
        absurd (true≢false (sym e ∙ ap (λ (x : Call). granted (worded (told g x))) c ∙ refused-lacks g (besides table d)))

all-plainly : (table : List ℕ) (ds : List Deed) (g : Grid) → AllGiven (words g (map (seen table) ds)) → map (seen table) ds ≡ map plainly ds
unfolding AllGiven words
all-plainly table [] g w = refl
all-plainly table (d ∷ ds) g w = ap₂ (λ (c : Call) (cs : List Call). c ∷ cs) (seen-plainly table g d w.0) (all-plainly table ds (after g (seen table d)) w.1)

-- any sequence of calls none of which is refused, on a state that nothing stands against
pub unrefused : (table : List ℕ) → Words table → (ds : List Deed) (m : Memory) → state_fault table m.reals m.counts ≡ 0 → AllWordy ds → AllGiven (replies table m ds) → Runs table m ds (map plainly ds)
unrefused table large ds m f w a =
    let r = runs table large ds m f w in
    subst (Runs table m ds) (all-plainly table ds (root_of table m.reals m.counts) (subst AllGiven r.answers a)) r

-- ---- from a fresh grid

module _ (bs table ys : List ℕ) (s t : Memory) (r : PlanRead) (small : Bytes bs) (large : Words ys) (laid : fresh_of bs table s ≡ fresh_end (plan.gives r) ys t) (ds : List Deed) (wordy : AllWordy ds) where
  abbrev start : Grid
  start = fresh (plan_of ys)

  pub fresh-reads : root_of ys t.reals t.counts ≡ start
  fresh-reads = (fresh-founds bs table ys s t r small large laid).reads ∙ fresh-planned 4 ys 0

  -- every answer is the model's and the memory at the end reads as the model's grid, refused calls included
  pub demand-2-refused : (replies ys t ds ≡ words start (map (seen ys) ds)) × (root_of ys (ending ys t ds).reals (ending ys t ds).counts ≡ run start (map (seen ys) ds))
  demand-2-refused =
      let q = runs ys large ds t (fresh-founds bs table ys s t r small large laid).clear wordy in
      (q.answers ∙ ap (λ (g : Grid). words g (map (seen ys) ds)) fresh-reads, q.reads ∙ ap (λ (g : Grid). run g (map (seen ys) ds)) fresh-reads)

  pub demand-2 : AllGiven (replies ys t ds) → (replies ys t ds ≡ words start (map plainly ds)) × (root_of ys (ending ys t ds).reals (ending ys t ds).counts ≡ run start (map plainly ds))
  demand-2 a =
      let q = unrefused ys large ds t (fresh-founds bs table ys s t r small large laid).clear wordy a in
      (q.answers ∙ ap (λ (g : Grid). words g (map plainly ds)) fresh-reads, q.reads ∙ ap (λ (g : Grid). run g (map plainly ds)) fresh-reads)
