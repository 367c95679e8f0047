-- What stands against a call on lent memory, before anything of its own: 12, 10, 12.
use Rattle.std.specs.Prelude.{ℕ, not, cond, List, ltb, length, Float}
use Rattle.plan.specs.declared.Needs.{Needs}
use Rattle.plan.specs.Paper as plan
use Rattle.plan.specs.Calls.{sizes_of}
use Rattle.accumulator.specs.declared.StatisticsAccumulator.{StatisticsAccumulator}
use Rattle.model.specs.Grid.{Grid, axes, bins}
use Rattle.model.specs.Sound.{sound}
use Rattle.lent.specs.Tree.{grid_at}

-- the whole grid: a plan has four levels, and its first run begins at word 0
abbrev pub root_of : List ℕ → List Float → List ℕ → Grid
root_of table reals counts = grid_at 4 table reals counts 0

-- a grid's own accumulator
unfoldable pub own_of : Grid → StatisticsAccumulator
own_of (axes g) = g.own
own_of (bins h bs) = h.own

-- too short for what the plan needs: 10; not well formed: 12; else 0
unfoldable pub judged_by : List ℕ → List Float → List ℕ → Needs → ℕ
judged_by table reals counts n =
    cond (ltb (length reals) n.reals) 10
    (cond (ltb (length counts) n.counts) 10
    (cond (not (sound (root_of table reals counts))) 12 0))

-- the same with a destination of R reals and C counts, which is judged behind the source's room and before its state
unfoldable pub judged_to : List ℕ → List Float → List ℕ → ℕ → ℕ → Needs → ℕ
judged_to table reals counts R C n =
    cond (ltb (length reals) n.reals) 10
    (cond (ltb (length counts) n.counts) 10
    (cond (ltb R n.reals) 10
    (cond (ltb C n.counts) 10
    (cond (not (sound (root_of table reals counts))) 12 0))))

-- a table that is no plan's, or is cut: 12
unfoldable pub fault_by : List ℕ → List Float → List ℕ → plan.Paper Needs → ℕ
fault_by table reals counts (plan.gives n) = judged_by table reals counts n
fault_by table reals counts (plan.refuses k) = 12
fault_by table reals counts (plan.refuses_at k at) = 12

unfoldable pub state_fault : List ℕ → List Float → List ℕ → ℕ
state_fault table reals counts = fault_by table reals counts (sizes_of table)

-- the same with a destination
unfoldable pub fault_to_by : List ℕ → List Float → List ℕ → ℕ → ℕ → plan.Paper Needs → ℕ
fault_to_by table reals counts R C (plan.gives n) = judged_to table reals counts R C n
fault_to_by table reals counts R C (plan.refuses k) = 12
fault_to_by table reals counts R C (plan.refuses_at k at) = 12

unfoldable pub fault_to : List ℕ → List Float → List ℕ → ℕ → ℕ → ℕ
fault_to table reals counts R C = fault_to_by table reals counts R C (sizes_of table)

-- ---- two states: of both the table (12), then of both the room (10), then of both the state (12)

unfoldable pub both_judged : List ℕ → List Float → List ℕ → Needs → List ℕ → List Float → List ℕ → Needs → ℕ
both_judged table reals counts n other theirs tallies k =
    cond (ltb (length reals) n.reals) 10
    (cond (ltb (length counts) n.counts) 10
    (cond (ltb (length theirs) k.reals) 10
    (cond (ltb (length tallies) k.counts) 10
    (cond (not (sound (root_of table reals counts))) 12
    (cond (not (sound (root_of other theirs tallies))) 12 0)))))

unfoldable pub second_by : List ℕ → List Float → List ℕ → Needs → List ℕ → List Float → List ℕ → plan.Paper Needs → ℕ
second_by table reals counts n other theirs tallies (plan.gives k) = both_judged table reals counts n other theirs tallies k
second_by table reals counts n other theirs tallies (plan.refuses k) = 12
second_by table reals counts n other theirs tallies (plan.refuses_at k at) = 12

unfoldable pub first_by : List ℕ → List Float → List ℕ → plan.Paper Needs → List ℕ → List Float → List ℕ → ℕ
first_by table reals counts (plan.gives n) other theirs tallies = second_by table reals counts n other theirs tallies (sizes_of other)
first_by table reals counts (plan.refuses k) other theirs tallies = 12
first_by table reals counts (plan.refuses_at k at) other theirs tallies = 12

unfoldable pub pair_fault : List ℕ → List Float → List ℕ → List ℕ → List Float → List ℕ → ℕ
pair_fault table reals counts other theirs tallies = first_by table reals counts (sizes_of table) other theirs tallies
