-- Demand 3 of lent memory: what `fresh` lays there, after any sequence of calls, refused ones included, reads as a grid whose every axis
-- has edges strictly rising from exactly 0 to exactly 1, whose every bin probability is finite and above 0, in which a coordinate has a bin
-- exactly when it is a number in [0, 1] (p[i] < x ≤ p[i+1], zero in bin 0), and an axis's bin counts total the samples it accepted, merged
-- ones included, since its last reset.
use mathlib.Core.Path.{◌≡◌, sym, ap, ◌∙◌, subst}
use mathlib.Core.List.{List, map}
use Prim.Native.Nat.{ℕ}
use lib.ListN.{length}
use Rattle.plan.specs.Bounds.{Bytes}
use Rattle.plan.specs.Paper as plan
use Rattle.plan.specs.Paper.{PlanRead}
use Rattle.plan.proofs.Tables.{Words}
use Rattle.model.specs.Grid.{Grid}
use Rattle.lent.specs.Memory.{Memory}
use Rattle.lent.specs.State.{root_of}
use Rattle.lent.specs.Calls.{fresh_end, fresh_of}
use Rattle.lent.proofs.States.{clear}
use Rattle.lent.proofs.FreshState.{fresh-founds}
use Rattle.grid.specs.Fresh.{fresh}
use Rattle.grid.specs.History.{Entry, run, log}
use Rattle.grid.specs.Lent.{Deed, ending, seen, lent_log, plan_of}
use Rattle.grid.specs.Demand3.{Demand3}
use Rattle.grid.proofs.Planned.{planned-sized}
use Rattle.grid.proofs.Second.{AllWordy, runs, fresh-reads}
use Rattle.grid.proofs.Third.{demand-3}

pub demand-3-memory : (bs table ys : List ℕ) (s t : Memory) (r : PlanRead) → Bytes bs → Words ys → fresh_of bs table s ≡ fresh_end (plan.gives r) ys t → (ds : List Deed) → AllWordy ds
    → Demand3 (root_of ys (ending ys t ds).reals (ending ys t ds).counts) (lent_log ys t ds)
demand-3-memory bs table ys s t r small large laid ds wordy =
    let f = fresh-founds bs table ys s t r small large laid in
    let q = runs ys large ds t f.clear wordy in
    let cs = map (seen ys) ds in
    let e = fresh-reads bs table ys s t r small large laid ds wordy in
    let sized = planned-sized 4 ys (length t.reals) (length t.counts) 0 (clear ys t.reals t.counts large f.clear).laid in
    let reads = q.reads ∙ ap (λ (g : Grid). run g cs) e in
    let logs = q.logs ∙ ap (λ (g : Grid). log g cs) e in
    subst (λ (es : List Entry). Demand3 (root_of ys (ending ys t ds).reals (ending ys t ds).counts) es) (sym logs)
    (subst (λ (g : Grid). Demand3 g (log (fresh (plan_of ys)) cs)) (sym reads) (demand-3 (plan_of ys) sized cs))
