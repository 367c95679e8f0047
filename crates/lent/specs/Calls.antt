-- What each public call answers: the refusals in their order, then the answer; and what it leaves in lent memory.
use Rattle.std.specs.Prelude.{ℕ, not, ◌&&◌, cond, List, ◌++◌, eqb, ltb, length, take, drop, Float}
use Rattle.doubles.specs.Paper.{Paper, gives, refuses}
use Rattle.stream.specs.declared.MonteCarloRng.{MonteCarloRng}
use Rattle.accumulator.specs.declared.Estimate.{Estimate}
use Rattle.accumulator.specs.declared.Summary.{Summary}
use Rattle.accumulator.specs.Calls.{summarize_of, live_estimate_of}
use Rattle.model.specs.Draw.{Drawing, draw_grid, draw_nothing}
use Rattle.model.specs.Probe.{probe_grid}
use Rattle.model.specs.Grid.{Grid}
use Rattle.model.specs.Train.{train_of}
use Rattle.lent.specs.declared.Drawing as laid
use Rattle.plan.specs.Paper as plan
use Rattle.plan.specs.declared.Needs.{Needs}
use Rattle.plan.specs.Calls.{measure_of, read_plan_of, sizes_of}
use Rattle.lent.specs.Memory.{Memory, memory}
use Rattle.lent.specs.Founded.{laid_grid}
use Rattle.lent.specs.Adapted.{updated_in}
use Rattle.model.specs.Update.{rate_fits}
use Rattle.lent.specs.declared.Region.{Region}
use Rattle.lent.specs.declared.Sample.{Sample}
use Rattle.lent.specs.Sampled.{entries, laid_drawing, sample_of}
use Rattle.lent.specs.Bins.{estimate_along}
use Rattle.lent.specs.Probed.{coordinates_of, path_from}
use Rattle.model.specs.Merge.{merge_fault, merge_of}
use Rattle.lent.specs.State.{root_of, own_of, judged_to, state_fault, pair_fault}
use Rattle.lent.specs.United.{united_grid}
use Rattle.lent.specs.Cleared.{cleared_root}
use Rattle.lent.specs.Absorbed.{absorbed}

-- an answer on a state that may be refused
abbrev pub on_state : {A : Type 0} → ℕ → Paper A → Paper A
on_state fault p = cond (not (eqb fault 0)) (refuses fault) p

-- the answer of a call that writes a state, 0 or a refusal, and the two lists afterwards
pub record StateEnd : Type 0 where
  pub answer : ℕ
  pub state : Memory

abbrev pub state_end : ℕ → Memory → StateEnd
state_end n s = record { answer = n; state = s }

-- ---- draw

unfoldable pub draw_of : List ℕ → List Float → List ℕ → MonteCarloRng → Paper Drawing
draw_of table reals counts s = on_state (state_fault table reals counts) (gives (draw_grid (root_of table reals counts) s))

-- a drawing as the struct
abbrev pub laid_paper : Paper Drawing → Paper laid.Drawing
laid_paper (gives d) = gives (laid_drawing d)
laid_paper (refuses n) = refuses n

-- 0, the sample and the stream after it; or a refusal's number, no sample and the stream as it was
pub record Drawn : Type 0 where
  pub refused : ℕ
  pub drawing : laid.Drawing

unfoldable pub drawn_as : MonteCarloRng → Paper Drawing → Drawn
drawn_as start (gives d) = record { refused = 0; drawing = laid_drawing d }
drawn_as start (refuses n) = record { refused = n; drawing = laid_drawing (draw_nothing start) }

-- ---- summary and live estimate: those of the root's own accumulator

unfoldable pub summary_of : List ℕ → List Float → List ℕ → Paper Summary
summary_of table reals counts = on_state (state_fault table reals counts) (summarize_of (own_of (root_of table reals counts)))

unfoldable pub live_of : List ℕ → List Float → List ℕ → Paper Estimate
live_of table reals counts = on_state (state_fault table reals counts) (live_estimate_of (own_of (root_of table reals counts)))

-- that of the bin at the end of a path; past the fourth index, which no grid asks for, the path has zeros
unfoldable pub live_of_bin : List ℕ → List Float → List ℕ → List ℕ → ℕ → Paper Estimate
live_of_bin table reals counts path levels = on_state (state_fault table reals counts) (estimate_along (root_of table reals counts) (entries 0 path 0 levels))

-- ---- fresh

-- the answer, a plan's needs or a refusal at a field, and the three lists afterwards
pub record FreshEnd : Type 0 where
  pub answer : plan.Paper plan.PlanRead
  pub table : List ℕ
  pub state : Memory

abbrev pub fresh_end : plan.Paper plan.PlanRead → List ℕ → Memory → FreshEnd
fresh_end r table s = record { answer = r; table = table; state = s }

-- too little room for any of the three: 10 at 0; else the plan's table, and its fresh grid laid
unfoldable pub founded_of : List ℕ → plan.PlanRead → List ℕ → Memory → FreshEnd
founded_of bs r table s =
    cond (ltb (length table) r.needs.words) (fresh_end (plan.refuses_at 10 0) table s)
    (cond (ltb (length s.reals) r.needs.reals) (fresh_end (plan.refuses_at 10 0) table s)
    (cond (ltb (length s.counts) r.needs.counts) (fresh_end (plan.refuses_at 10 0) table s)
    (fresh_end (plan.gives r) (read_plan_of bs table).table (laid_grid 4 (read_plan_of bs table).table 0 s))))

abbrev pub fresh_by : List ℕ → plan.Paper plan.PlanRead → List ℕ → Memory → FreshEnd
fresh_by bs (plan.gives r) table s = founded_of bs r table s
fresh_by bs (plan.refuses n) table s = fresh_end (plan.refuses n) table s
fresh_by bs (plan.refuses_at n at) table s = fresh_end (plan.refuses_at n at) table s

unfoldable pub fresh_of : List ℕ → List ℕ → Memory → FreshEnd
fresh_of bs table s = fresh_by bs (measure_of bs) table s

-- ---- clone_without_samples

-- the answer, 0 or a refusal, and the destination afterwards
pub record CloneEnd : Type 0 where
  pub answer : ℕ
  pub copy : Memory

abbrev pub clone_end : ℕ → Memory → CloneEnd
clone_end n s = record { answer = n; copy = s }

-- the first n of other entries over one's own; the room past them stays
unfoldable pub over_front : {A : Type 0} → ℕ → List A → List A → List A
over_front n ys xs = take n ys ++ drop n xs

-- a plan's reals and counts in front of the destination
unfoldable pub copied_to : Needs → Memory → Memory → Memory
copied_to n s to = memory (over_front n.reals s.reals to.reals) (over_front n.counts s.counts to.counts)

-- refused, the destination stays; else the grid is copied, and nothing waits in the copy's root
unfoldable pub cloned_by : List ℕ → Memory → Memory → Needs → CloneEnd
cloned_by table s to n =
    let fault = judged_to table s.reals s.counts (length to.reals) (length to.counts) n in
    cond (not (eqb fault 0)) (clone_end fault to) (clone_end 0 (cleared_root table (copied_to n s to)))

abbrev pub clone_by : List ℕ → Memory → Memory → plan.Paper Needs → CloneEnd
clone_by table s to (plan.gives n) = cloned_by table s to n
clone_by table s to (plan.refuses k) = clone_end 12 to
clone_by table s to (plan.refuses_at k at) = clone_end 12 to

unfoldable pub clone_of : List ℕ → Memory → Memory → CloneEnd
clone_of table s to = clone_by table s to (sizes_of table)

-- ---- probe

-- the model's answer, from the top of the path
unfoldable pub probe_of : List ℕ → List Float → List ℕ → Region → Paper Float
probe_of table reals counts p = on_state (state_fault table reals counts) (probe_grid (root_of table reals counts) (path_from p 0) (coordinates_of p.coordinates))

-- ---- train

-- the model's answer decides: where it refuses all stays, else the sample is taken in
unfoldable pub trained_by : List ℕ → Memory → Sample → Float → ℕ → Paper Grid → StateEnd
trained_by table m s e number (gives g) = state_end 0 (absorbed 4 table s e number 0 0 m)
trained_by table m s e number (refuses n) = state_end n m

unfoldable pub train_call_of : List ℕ → Memory → Sample → Float → ℕ → StateEnd
train_call_of table m s e number =
    trained_by table m s e number (on_state (state_fault table m.reals m.counts) (train_of (root_of table m.reals m.counts) (sample_of s) e number))

-- ---- draw_and_train: in Batched, by `draw_of` and `train_call_of`

-- ---- update

-- of memory that is just the plan's: 8 anywhere, then 9 anywhere, else what the update leaves
unfoldable pub renewed_over : List ℕ → Float → Float → Memory → StateEnd
renewed_over table bins_rate axes_rate s =
    let o = updated_in 4 table bins_rate axes_rate 0 s in
    cond o.eight (state_end 8 s) (cond o.nine (state_end 9 s) (state_end 0 o.after))

-- the plan's part of memory, and memory with another in its place
unfoldable pub front_of : Needs → Memory → Memory
front_of n s = memory (take n.reals s.reals) (take n.counts s.counts)

unfoldable pub in_front : Needs → Memory → Memory → Memory
in_front n front s = memory (front.reals ++ drop n.reals s.reals) (front.counts ++ drop n.counts s.counts)

-- 10 for the spare of R reals and C counts too, 12, 3, 8, 9
unfoldable pub updated_by : List ℕ → Float → Float → ℕ → ℕ → Memory → Needs → StateEnd
updated_by table bins_rate axes_rate R C s n =
    let fault = judged_to table s.reals s.counts R C n in
    let e = renewed_over table bins_rate axes_rate (front_of n s) in
    cond (not (eqb fault 0)) (state_end fault s)
    (cond (not (rate_fits bins_rate && rate_fits axes_rate)) (state_end 3 s)
    (state_end e.answer (in_front n e.state s)))

abbrev pub update_by : List ℕ → Float → Float → ℕ → ℕ → Memory → plan.Paper Needs → StateEnd
update_by table bins_rate axes_rate R C s (plan.gives n) = updated_by table bins_rate axes_rate R C s n
update_by table bins_rate axes_rate R C s (plan.refuses k) = state_end 12 s
update_by table bins_rate axes_rate R C s (plan.refuses_at k at) = state_end 12 s

unfoldable pub update_of : List ℕ → Float → Float → ℕ → ℕ → Memory → StateEnd
update_of table bins_rate axes_rate R C s = update_by table bins_rate axes_rate R C s (sizes_of table)

-- ---- is_mergeable and merge

-- 0, or the refusal's number
unfoldable pub mergeable_of : List ℕ → List Float → List ℕ → List ℕ → List Float → List ℕ → ℕ
mergeable_of table reals counts other theirs tallies =
    let fault = pair_fault table reals counts other theirs tallies in
    cond (not (eqb fault 0)) fault (merge_fault (root_of table reals counts) (root_of other theirs tallies))

-- the model's answer decides whether anything is written
unfoldable pub united_by : Paper Grid → Memory → Memory → StateEnd
united_by (gives g) after s = state_end 0 after
united_by (refuses n) after s = state_end n s

unfoldable pub merge_into_of : List ℕ → Memory → List ℕ → Memory → StateEnd
merge_into_of table s other others =
    let fault = pair_fault table s.reals s.counts other others.reals others.counts in
    cond (not (eqb fault 0)) (state_end fault s)
    (united_by (merge_of (root_of table s.reals s.counts) (root_of other others.reals others.counts)) (united_grid table other others 4 0 0 s) s)
