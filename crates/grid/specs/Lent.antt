-- Calls on a grid in lent memory: what each answers and leaves there, and the call on the model's grid that it is.
use Rattle.std.specs.Prelude.{Bool, true, false, cond, List, [], ◌∷◌, ℕ, zero, suc, ◌+◌, eqb, ltb, length, get_or, Float}
use Rattle.std.specs.Float.{binary64}
use Rattle.std.specs.Float.Ieee.{of_bits}
use Rattle.doubles.specs.Paper.{Paper, gives, refuses}
use Rattle.stream.specs.declared.MonteCarloRng.{MonteCarloRng}
use Rattle.plan.specs.declared.Needs.{Needs}
use Rattle.plan.specs.Paper as plan
use Rattle.plan.specs.Calls.{sizes_of}
use Rattle.model.specs.Grid.{Grid}
use Rattle.lent.specs.declared.Sample.{Sample}
use Rattle.lent.specs.declared.Region.{Region}
use Rattle.lent.specs.Memory.{Memory}
use Rattle.lent.specs.Sampled.{entries, sample_of}
use Rattle.lent.specs.Probed.{coordinates_of, path_from}
use Rattle.lent.specs.Tree.{axes_plan_at}
use Rattle.lent.specs.State.{root_of, state_fault}
use Rattle.lent.specs.Calls.{CloneEnd, draw_of, summary_of, live_of, live_of_bin, probe_of, train_call_of, update_of, mergeable_of, merge_into_of, clone_of}
use Rattle.grid.specs.Fresh.{Plan, Plans, flat, tree, stop, bare, under}
use Rattle.grid.specs.History as model
use Rattle.grid.specs.History.{Call, Word, Told, drawing, weight, summary, estimate, numbered, told, after, Entry, entry}

-- the spare of an update is lent by its two lengths, another grid by its table and memory, a copy's destination by its memory
pub data Deed : Type 0 where
  draws : MonteCarloRng → Deed
  probes : Region → Deed
  sums : Deed
  estimates : Deed
  estimates_bin : List ℕ → ℕ → Deed
  trains : Sample → Float → ℕ → Deed
  updates : Float → Float → ℕ → ℕ → Deed
  matches : List ℕ → Memory → Deed
  merges : List ℕ → Memory → Deed
  copies : Memory → Deed

-- ---- the answer, and the memory that one goes on with

unfoldable pub mapped : {A : Type 0} → (A → Word) → Paper A → Paper Word
mapped f (gives x) = gives (f x)
mapped f (refuses n) = refuses n

unfoldable pub reply_of : List ℕ → Memory → Deed → Paper Word
reply_of table m (draws s) = mapped drawing (draw_of table m.reals m.counts s)
reply_of table m (probes r) = mapped weight (probe_of table m.reals m.counts r)
reply_of table m sums = mapped summary (summary_of table m.reals m.counts)
reply_of table m estimates = mapped estimate (live_of table m.reals m.counts)
reply_of table m (estimates_bin path levels) = mapped estimate (live_of_bin table m.reals m.counts path levels)
reply_of table m (trains s e k) = numbered (train_call_of table m s e k).answer
reply_of table m (updates bins_rate axes_rate R C) = numbered (update_of table bins_rate axes_rate R C m).answer
reply_of table m (matches other o) = numbered (mergeable_of table m.reals m.counts other o.reals o.counts)
reply_of table m (merges other o) = numbered (merge_into_of table m other o).answer
reply_of table m (copies to) = numbered (clone_of table m to).answer

-- one goes on with a copy that was made
unfoldable pub copy_or : Memory → CloneEnd → Memory
copy_or m e = cond (eqb e.answer 0) e.copy m

unfoldable pub state_of : List ℕ → Memory → Deed → Memory
state_of table m (draws s) = m
state_of table m (probes r) = m
state_of table m sums = m
state_of table m estimates = m
state_of table m (estimates_bin path levels) = m
state_of table m (trains s e k) = (train_call_of table m s e k).state
state_of table m (updates bins_rate axes_rate R C) = (update_of table bins_rate axes_rate R C m).state
state_of table m (matches other o) = m
state_of table m (merges other o) = (merge_into_of table m other o).state
state_of table m (copies to) = copy_or m (clone_of table m to)

-- a sequence: every answer in order, and the memory at its end
unfoldable pub replies : List ℕ → Memory → List Deed → List (Paper Word)
replies table m [] = []
replies table m (d ∷ ds) = reply_of table m d ∷ replies table (state_of table m d) ds

unfoldable pub ending : List ℕ → Memory → List Deed → Memory
ending table m [] = m
ending table m (d ∷ ds) = ending table (state_of table m d) ds

-- ---- the model's call

-- what stands against room of R reals and C counts for the plan of a table
unfoldable pub room_by : ℕ → ℕ → plan.Paper Needs → ℕ
room_by R C (plan.gives n) = cond (ltb R n.reals) 10 (cond (ltb C n.counts) 10 0)
room_by R C (plan.refuses k) = 12
room_by R C (plan.refuses_at k at) = 12

unfoldable pub room_fault : List ℕ → ℕ → ℕ → ℕ
room_fault table R C = room_by R C (sizes_of table)

-- a call for which what is lent beside the grid is there, else it is refused with that number
unfoldable pub lent : ℕ → Call → Call
lent fault c = cond (eqb fault 0) c (model.lacks fault)

unfoldable pub plainly : Deed → Call
plainly (draws s) = model.draws s
plainly (probes r) = model.probes (path_from r 0) (coordinates_of r.coordinates)
plainly sums = model.sums
plainly estimates = model.estimates
plainly (estimates_bin path levels) = model.estimates_bin (entries 0 path 0 levels)
plainly (trains s e k) = model.trains (sample_of s) e k
plainly (updates bins_rate axes_rate R C) = model.updates bins_rate axes_rate
plainly (matches other o) = model.matches (root_of other o.reals o.counts)
plainly (merges other o) = model.merges (root_of other o.reals o.counts)
plainly (copies to) = model.copies

-- the fault of what is lent beside the grid
unfoldable pub besides : List ℕ → Deed → ℕ
besides table (draws s) = 0
besides table (probes r) = 0
besides table sums = 0
besides table estimates = 0
besides table (estimates_bin path levels) = 0
besides table (trains s e k) = 0
besides table (updates bins_rate axes_rate R C) = room_fault table R C
besides table (matches other o) = state_fault other o.reals o.counts
besides table (merges other o) = state_fault other o.reals o.counts
besides table (copies to) = room_fault table (length to.reals) (length to.counts)

unfoldable pub seen : List ℕ → Deed → Call
seen table d = lent (besides table d) (plainly d)

-- a history as its user saw it
unfoldable pub granted : Paper Word → Bool
granted (gives w) = true
granted (refuses n) = false

unfoldable pub lent_log : List ℕ → Memory → List Deed → List Entry
lent_log table m [] = []
lent_log table m (d ∷ ds) = entry (seen table d) (granted (reply_of table m d)) ∷ lent_log table (state_of table m d) ds

-- ---- the model's answers

unfoldable pub worded : Paper Told → Paper Word
worded (gives t) = gives t.word
worded (refuses n) = refuses n

unfoldable pub words : Grid → List Call → List (Paper Word)
words g [] = []
words g (c ∷ cs) = worded (told g c) ∷ words (after g c) cs

-- ---- the plan that a table says, run by run

unfoldable pub hung : (ℕ → Plan) → ℕ → Plans → Plans
hung f link ps = cond (eqb link 0) (bare ps) (under (f link) ps)

unfoldable pub plans_at : (ℕ → Plan) → List ℕ → ℕ → ℕ → ℕ → Plans
plans_at f table w i zero = stop
plans_at f table w i (suc n) = hung f (get_or table (w + 7 + i) 0) (plans_at f table w (i + 1) n)

unfoldable pub flat_at : List ℕ → ℕ → Plan
flat_at table w = flat (get_or table (w + 2) 0) (axes_plan_at table w)

unfoldable pub plan_at : ℕ → List ℕ → ℕ → Plan
plan_at zero table w = flat_at table w
plan_at (suc l) table w =
    cond (eqb (get_or table w 0) 1) (flat_at table w)
    (tree (of_bits binary64 (get_or table (w + 3) 0)) (eqb (get_or table (w + 4) 0) 1) (plans_at (plan_at l table) table w 0 (get_or table (w + 2) 0)))

abbrev pub plan_of : List ℕ → Plan
plan_of table = plan_at 4 table 0
