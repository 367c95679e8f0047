-- What `fresh` leaves is a state that every call takes: nothing stands against it, and it reads as the model's fresh grid.
use mathlib.Core.Path.{◌≡◌, refl, sym, ap, ◌∙◌, subst}
use mathlib.Core.Logic.{inl, inr}
use mathlib.Core.Bool.{Bool, true, false, cond, true≢false}
use mathlib.Core.List.{List}
use Prim.Native.Nat.{ℕ, zero, suc, ◌+◌, ◌≤◌, ◌<◌}
use native.Mathlib.Omega.{arith}
use borrow.Author.Tests.{ne_eqb, ltb-false, le-ltb}
use lib.Dec.{ltb}
use lib.ListN.{length, get_or, replicate}
use Rattle.doubles.proofs.Truth.{both}
use Rattle.doubles.proofs.Steps.{inv-above, inv-finite}
use Rattle.accumulator.proofs.Laws.{fresh-sound}
use Rattle.axis.specs.Edges.{even_edges}
use Rattle.axis.proofs.Fresh.{length-even, fresh-formed}
use Rattle.recut.specs.Chances.{chance}
use Rattle.plan.specs.declared.Needs.{Needs}
use Rattle.plan.specs.Bounds.{Bytes}
use Rattle.plan.specs.Paper as plan
use Rattle.plan.specs.Paper.{PlanRead}
use Rattle.plan.specs.Calls.{end, sizes_of, measure_of, read_plan_of}
use Rattle.plan.proofs.Tables.{Words}
use Rattle.plan.specs.Needs.{after, untaken, needs_of}
use Rattle.plan.proofs.Plans.{plan-was-plan, read-passes}
use Rattle.plan.proofs.Records.{passed-stands}
use Rattle.model.specs.Axes.{AxesPlan, fresh_axis, fresh_axes}
use Rattle.model.specs.Grid.{Grid, axes, fresh_bin, fresh_bins, fresh_head, fresh_grid}
use Rattle.model.specs.Sound.{sound, formed_axis_list, kept_axis_list, formed_grid, formed_bins, formed_child, kept_grid, kept_bins, kept_child}
use Rattle.lent.specs.Memory.{Memory}
use Rattle.lent.specs.Tree.{axes_plan_at, child_in, AxesLaid, Laid}
use Rattle.lent.specs.State.{root_of, judged_by, fault_by, state_fault}
use Rattle.lent.specs.Founded.{laid_grid, fresh_children, fresh_node, fresh_at}
use Rattle.lent.specs.Calls.{FreshEnd, fresh_end, founded_of, fresh_by, fresh_of}
use Rattle.lent.proofs.Laid.{root-laid}
use Rattle.lent.proofs.Plans.{measured-read}
use Rattle.lent.proofs.FoundedTree.{founded, root-founded}
use Rattle.lent.proofs.Reformed.{all_two, listed_here, none-bounded, empty-sound}

-- ---- the model's fresh grid is well formed

pub axes-fresh : (plan : AxesPlan) (k : ℕ) → 1 ≤ plan.bins → plan.bins ≤ 1024
    → (formed_axis_list plan (replicate k (fresh_axis plan.bins)) ≡ true) × (kept_axis_list (replicate k (fresh_axis plan.bins)) ≡ true)
unfolding formed_axis_list kept_axis_list fresh_axis even_edges
axes-fresh plan zero h m = (refl, refl)
axes-fresh plan (suc k) h m =
    let n = plan.bins in
    let one = empty-sound plan (even_edges n) n 0 (listed_here n plan.evolution) (length-even (n + 1) 0 n) (fresh-formed n h m) none-bounded in
    let rest = axes-fresh plan k h m in
    (all_two one.0 rest.0, all_two one.1 rest.1)

axes-sound : (table : List ℕ) (R C w : ℕ) → AxesLaid table R C w → sound (axes (fresh_axes (get_or table (w + 2) 0) (axes_plan_at table w))) ≡ true
unfolding sound formed_grid kept_grid fresh_axes axes_plan_at
axes-sound table R C w a =
    let all = axes-fresh (axes_plan_at table w) (get_or table (w + 2) 0) a.some (omega (arith, a.fits, a.most)) in
    all_two all.0 (all_two fresh-sound all.1)

-- what hangs at each of n links is well formed
Hung : (ℕ → Grid) → List ℕ → ℕ → ℕ → ℕ → Type 0
Hung f table w i n = (j : ℕ) → i ≤ j → j < i + n → (get_or table (w + 7 + j) 0 ≡ 0 → ⊥) → sound (f (get_or table (w + 7 + j) 0)) ≡ true

child-sound : (f : ℕ → Grid) (link : ℕ) → ((link ≡ 0 → ⊥) → sound (f link) ≡ true) → (formed_child (child_in f link) ≡ true) × (kept_child (child_in f link) ≡ true)
unfolding child_in formed_child kept_child sound
child-sound f zero h = (refl, refl)
child-sound f (suc n) h =
    let z : suc n ≡ 0 → ⊥ = λ e. absurd (omega arith) in
    let p = both (formed_grid (f (suc n))) (kept_grid (f (suc n))) (h z) in
    rw (ne_eqb (suc n) 0 z) (p.0, p.1)

bins-sound : (f : ℕ → Grid) (table : List ℕ) (w m i n : ℕ) → 1 ≤ m → m ≤ 1024 → Hung f table w i n
    → (formed_bins (fresh_bins m (fresh_children f table w i n)) ≡ true) × (kept_bins (fresh_bins m (fresh_children f table w i n)) ≡ true)
unfolding formed_bins kept_bins fresh_bins fresh_bin fresh_children Hung chance
bins-sound f table w m i zero h k c = (refl, refl)
bins-sound f table w m i (suc n) h k c =
    let one = child-sound f (get_or table (w + 7 + i) 0) (c i (omega arith) (omega arith)) in
    let rest = bins-sound f table w m (i + 1) n h k (λ j x y. c j (omega arith) (omega arith)) in
    (all_two (all_two (inv-finite m h k) (inv-above m h k)) (all_two one.0 rest.0), all_two fresh-sound (all_two one.1 rest.1))

length-hung : (f : ℕ → Grid) (table : List ℕ) (w i n : ℕ) → length (fresh_children f table w i n) ≡ n
unfolding fresh_children
length-hung f table w i zero = refl
length-hung f table w i (suc n) = ap suc (length-hung f table w (i + 1) n)

pub fresh-well : (l : ℕ) (table : List ℕ) (R C w : ℕ) → Laid l table R C w → sound (fresh_at l table w) ≡ true
unfolding Laid fresh_at fresh_node sound formed_grid kept_grid fresh_grid fresh_head Hung
fresh-well zero table R C w a = axes-sound table R C w a
fresh-well (suc l) table R C w (inl a) = let k = a.kind in rw k (axes-sound table R C w a)
fresh-well (suc l) table R C w (inr b) =
    let z : get_or table w 0 ≡ 1 → ⊥ = λ e. absurd (omega (arith, b.kind)) in
    let n = get_or table (w + 2) 0 in
    let e = length-hung (fresh_at l table) table w 0 n in
    let all = bins-sound (fresh_at l table) table w n 0 n b.some (omega (arith, b.most)) (λ j x y q. fresh-well l table R C (get_or table (w + 7 + j) 0) (b.children j (omega arith) q)) in
    rw (ne_eqb (get_or table w 0) 1 z, e) (all_two all.0 (all_two fresh-sound all.1))

-- ---- the call

given_by : plan.Paper PlanRead → Bool
given_by (plan.gives r) = true
given_by (plan.refuses n) = false
given_by (plan.refuses_at n at) = false

-- room was there, where an answer was given
roomy : (b : Bool) (table ys : List ℕ) (s t : Memory) (rest : FreshEnd) (r : PlanRead) → cond b (fresh_end (plan.refuses_at 10 0) table s) rest ≡ fresh_end (plan.gives r) ys t → (b ≡ false) × (rest ≡ fresh_end (plan.gives r) ys t)
unfolding given_by
roomy true table ys s t rest r e = absurd (true≢false (sym (ap (λ (x : FreshEnd). given_by x.answer) e)))
roomy false table ys s t rest r e = (refl, e)

-- nothing stands against what fresh left, and it reads as the model's fresh grid
pub record Founded (ys : List ℕ) (t : Memory) : Type 0 where
  pub clear : state_fault ys t.reals t.counts ≡ 0
  pub reads : root_of ys t.reals t.counts ≡ fresh_at 4 ys 0

laid-clear : (ys : List ℕ) (n : Needs) (s : Memory) → Words ys → sizes_of ys ≡ plan.gives n → n.reals ≤ length s.reals → n.counts ≤ length s.counts → Founded ys (laid_grid 4 ys 0 s)
unfolding state_fault fault_by judged_by needs_of
laid-clear ys n s large e h k =
    let t = laid_grid 4 ys 0 s in
    let r = passed-stands ys n large e in
    let rr : n.reals ≡ (after r.tree untaken).reals = ap (λ (m : Needs). m.reals) r.needs in
    let cc : n.counts ≡ (after r.tree untaken).counts = ap (λ (m : Needs). m.counts) r.needs in
    let f = founded ys 4 r.tree untaken s r.grid r.stands (omega arith) (omega arith) in
    let size : length t.reals ≡ length s.reals = (f.within.low 0 0 (omega arith)).size in
    let sizes : length t.counts ≡ length s.counts = (f.within.few 0 0 (omega arith)).size in
    let there = root-founded ys n s large e h k in
    let well = ap sound there ∙ fresh-well 4 ys (length s.reals) (length s.counts) 0 (root-laid ys n (length s.reals) (length s.counts) large e h k) in
    record { clear = rw (e, le-ltb (length t.reals) n.reals (omega arith), le-ltb (length t.counts) n.counts (omega arith), well); reads = there }

module _ (bs table ys : List ℕ) (s t : Memory) (r : PlanRead) (small : Bytes bs) (large : Words ys) where
  by-plan : (p : plan.Paper PlanRead) → measure_of bs ≡ p → fresh_by bs p table s ≡ fresh_end (plan.gives r) ys t → Founded ys t
  unfolding founded_of given_by
  by-plan (plan.gives q) m e =
      let a = roomy (ltb (length table) q.needs.words) table ys s t _ r e in
      let b = roomy (ltb (length s.reals) q.needs.reals) table ys s t _ r a.1 in
      let c = roomy (ltb (length s.counts) q.needs.counts) table ys s t _ r b.1 in
      let words = ltb-false (length table) q.needs.words a.0 in
      let same : (read_plan_of bs table).table ≡ ys = ap (λ (x : FreshEnd). x.table) c.1 in
      let laid : laid_grid 4 (read_plan_of bs table).table 0 s ≡ t = ap (λ (x : FreshEnd). x.state) c.1 in
      let read = measured-read bs table q m words ∙ ap (end (plan.gives q)) same in
      let p = plan-was-plan bs table ys q small read in
      let sized = read-passes bs table ys p.0.tree p.0.rest q p.0.is in
      subst (Founded ys) (sym (ap (λ (zs : List ℕ). laid_grid 4 zs 0 s) same) ∙ laid)
      (laid-clear ys q.needs s large sized (ltb-false (length s.reals) q.needs.reals b.0) (ltb-false (length s.counts) q.needs.counts c.0))
  by-plan (plan.refuses n) m e = absurd (true≢false (sym (ap (λ (x : FreshEnd). given_by x.answer) e)))
  by-plan (plan.refuses_at n at) m e = absurd (true≢false (sym (ap (λ (x : FreshEnd). given_by x.answer) e)))

  pub fresh-founds : fresh_of bs table s ≡ fresh_end (plan.gives r) ys t → Founded ys t
  unfolding fresh_of
  fresh-founds e = by-plan (measure_of bs) refl e
