-- What each call answers, and the table afterwards.
use Rattle.std.specs.Prelude.{ℕ, cond, List, length, get_or, leb, ltb, eqb}
use Rattle.std.proofs.lemmas.List.Edits.{sets}
use Rattle.plan.specs.declared.Place.{Place}
use Rattle.plan.specs.declared.Needs.{Needs}
use Rattle.plan.specs.Judged.{Step, Stop, Found}
use Rattle.plan.specs.Plan.{Tree}
use Rattle.plan.specs.Needs.{untaken, needs_of}
use Rattle.plan.specs.Reading.{Out, tree_of, from_bytes}
use Rattle.plan.specs.Table.{rows}
use Rattle.plan.specs.Walk.{from_table}
use Rattle.plan.specs.Paper.{Paper, gives, refuses, refuses_at, PlanRead, plan_read}

abbrev pub begin : Place
begin = record { at = 0; tally = untaken }

-- the grid that a plan begins with; 04 is none
unfoldable pub grid_of : List ℕ → Out
grid_of bs = cond (eqb (get_or bs 0 0) 4) (Out.stops 1 0) (tree_of (from_bytes bs) 4 begin)

-- behind the grid no byte may stand: surplus bytes are 1 at the first of them
abbrev pub whole : List ℕ → Step → Step
whole bs (Stop n at) = Stop n at
whole bs (Found q) = cond (ltb q.at (length bs)) (Stop 1 q.at) (Found q)

-- a call's answer, and the table afterwards
pub record End : Type 0 where
  pub answer : Paper PlanRead
  pub table : List ℕ

abbrev pub end : Paper PlanRead → List ℕ → End
end r xs = record { answer = r; table = xs }

-- a table too short is 10; else the plan's rows stand at its begin, and what lies behind them is kept
unfoldable pub written_of : List ℕ → Tree → Place → End
written_of xs t q =
    cond (ltb (length xs) q.tally.words) (end (refuses_at 10 0) xs)
    (end (gives (plan_read q.at (needs_of q.tally))) (sets xs 0 (rows 4 t untaken)))

abbrev pub prefix_end : List ℕ → Out → End
prefix_end xs (Out.stops n at) = end (refuses_at n at) xs
prefix_end xs (Out.reads t q) = written_of xs t q

-- the shortest prefix that is one grid
unfoldable pub read_prefix_of : List ℕ → List ℕ → End
read_prefix_of bs xs = prefix_end xs (grid_of bs)

abbrev pub plan_end : List ℕ → List ℕ → Out → End
plan_end bs xs (Out.stops n at) = end (refuses_at n at) xs
plan_end bs xs (Out.reads t q) = cond (ltb q.at (length bs)) (end (refuses_at 1 q.at) xs) (written_of xs t q)

-- the whole plan: surplus bytes are 1 at the first of them
unfoldable pub read_plan_of : List ℕ → List ℕ → End
read_plan_of bs xs = plan_end bs xs (grid_of bs)

abbrev pub measured_end : List ℕ → Out → Paper PlanRead
measured_end bs (Out.stops n at) = refuses_at n at
measured_end bs (Out.reads t q) = cond (ltb q.at (length bs)) (refuses_at 1 q.at) (gives (plan_read q.at (needs_of q.tally)))

-- the whole plan measured: its bytes and its needs
unfoldable pub measure_of : List ℕ → Paper PlanRead
measure_of bs = measured_end bs (grid_of bs)

abbrev pub measured_prefix : Out → Paper PlanRead
measured_prefix (Out.stops n at) = refuses_at n at
measured_prefix (Out.reads t q) = gives (plan_read q.at (needs_of q.tally))

-- the shortest prefix that is one grid, measured
unfoldable pub measure_prefix_of : List ℕ → Paper PlanRead
measure_prefix_of bs = measured_prefix (grid_of bs)

abbrev pub sized_end : List ℕ → Out → Paper Needs
sized_end xs (Out.stops n at) = refuses 12
sized_end xs (Out.reads t q) = cond (leb q.tally.words (length xs)) (gives (needs_of q.tally)) (refuses 12)

-- what a table's plan needs
unfoldable pub sizes_of : List ℕ → Paper Needs
sizes_of xs = sized_end xs (tree_of (from_table xs) 4 begin)
