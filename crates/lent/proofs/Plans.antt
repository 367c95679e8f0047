-- A plan that was measured is read as it was measured, and its table passes: the fresh grid has its room.
use mathlib.Core.Path.{◌≡◌, refl, sym, ap, ◌∙◌, subst}
use mathlib.Core.Bool.{Bool, true, false, cond, true≢false}
use mathlib.Core.List.{List}
use Prim.Native.Nat.{ℕ, ◌≤◌, ◌<◌}
use borrow.Author.Tests.{le-ltb, lt-ltb}
use lib.Dec.{ltb}
use lib.ListN.{length}
use Rattle.plan.specs.declared.Place.{Place}
use Rattle.std.specs.Prelude.{Result, Ok, Err}
use Rattle.plan.specs.declared.Read.{Read}
use Rattle.plan.specs.declared.Misread.{Misread}
use Rattle.plan.specs.Bounds.{Bytes}
use Rattle.plan.specs.Plan.{Tree}
use Rattle.plan.specs.Needs.{needs_of}
use Rattle.plan.specs.Reading.{Out}
use Rattle.plan.specs.Paper as plan
use Rattle.plan.specs.Paper.{PlanRead, plan_read, paper_read}
use Rattle.plan.specs.Calls.{End, end, grid_of, written_of, plan_end, measured_end, measure_of, read_plan_of}
use Rattle.plan.proofs.Tables.{Words}
use Rattle.plan.proofs.Plans.{plan-was-plan, read-passes}
use Rattle.lent.specs.Memory.{Memory}
use Rattle.lent.specs.Tree.{Laid}
use Rattle.lent.specs.Founded.{laid_grid}
use Rattle.lent.specs.Calls.{FreshEnd, fresh_end, founded_of, fresh_by, fresh_of}
use Rattle.lent.proofs.Laid.{root-laid}

given_by : PlanRead → plan.Paper PlanRead → PlanRead
given_by d (plan.gives r) = r
given_by d (plan.refuses n) = d
given_by d (plan.refuses_at n at) = d

is-given : plan.Paper PlanRead → Bool
is-given (plan.gives r) = true
is-given (plan.refuses n) = false
is-given (plan.refuses_at n at) = false

whole : (bs xs : List ℕ) (t : Tree) (q : Place) (b : Bool) (r : PlanRead) → ltb q.at (length bs) ≡ b
    → cond b (plan.refuses_at 1 q.at) (plan.gives (plan_read q.at (needs_of q.tally))) ≡ plan.gives r → r.needs.words ≤ length xs
    → plan_end bs xs (Out.reads t q) ≡ end (plan.gives r) (plan_end bs xs (Out.reads t q)).table
unfolding written_of needs_of given_by is-given
whole bs xs t q true r e m h = absurd (true≢false (sym (ap is-given m)))
whole bs xs t q false r e m h =
    let s : plan_read q.at (needs_of q.tally) ≡ r = ap (given_by r) m in
    let k : q.tally.words ≤ length xs = subst (λ (x : PlanRead). x.needs.words ≤ length xs) (sym s) h in
    rw (e, le-ltb (length xs) q.tally.words k, sym s)

by-grid : (bs xs : List ℕ) (o : Out) (r : PlanRead) → measured_end bs o ≡ plan.gives r → r.needs.words ≤ length xs → plan_end bs xs o ≡ end (plan.gives r) (plan_end bs xs o).table
unfolding is-given
by-grid bs xs (Out.stops n at) r m h = absurd (true≢false (sym (ap is-given m)))
by-grid bs xs (Out.reads t q) r m h = whole bs xs t q (ltb q.at (length bs)) r refl m h

pub measured-read : (bs xs : List ℕ) (r : PlanRead) → measure_of bs ≡ plan.gives r → r.needs.words ≤ length xs → read_plan_of bs xs ≡ end (plan.gives r) (read_plan_of bs xs).table
unfolding measure_of read_plan_of
measured-read bs xs r m h = by-grid bs xs (grid_of bs) r m h

-- the table that was written lays its grid within the room that was measured
pub read-laid : (bs xs ys : List ℕ) (r : PlanRead) (R C : ℕ) → Bytes bs → Words ys → measure_of bs ≡ plan.gives r → r.needs.words ≤ length xs → r.needs.reals ≤ R → r.needs.counts ≤ C
    → ys ≡ (read_plan_of bs xs).table → Laid 4 ys R C 0
read-laid bs xs ys r R C small large m h i j e =
    let p = plan-was-plan bs xs ys r small (measured-read bs xs r m h ∙ ap (end (plan.gives r)) (sym e)) in
    root-laid ys r.needs R C large (read-passes bs xs ys p.0.tree p.0.rest r p.0.is) i j

module _ (bs table : List ℕ) (s : Memory) (r : PlanRead) where
  pub short-table : length table < r.needs.words → fresh_end (plan.refuses_at 10 0) table s ≡ founded_of bs r table s
  unfolding founded_of
  short-table h = rw (lt-ltb _ _ h)

  pub short-reals : r.needs.words ≤ length table → length s.reals < r.needs.reals → fresh_end (plan.refuses_at 10 0) table s ≡ founded_of bs r table s
  unfolding founded_of
  short-reals h i = rw (le-ltb _ _ h, lt-ltb _ _ i)

  pub short-counts : r.needs.words ≤ length table → r.needs.reals ≤ length s.reals → length s.counts < r.needs.counts → fresh_end (plan.refuses_at 10 0) table s ≡ founded_of bs r table s
  unfolding founded_of
  short-counts h i j = rw (le-ltb _ _ h, le-ltb _ _ i, lt-ltb _ _ j)

  pub founded : (a : plan.Paper PlanRead) (ys : List ℕ) (after : Memory) → r.needs.words ≤ length table → r.needs.reals ≤ length s.reals → r.needs.counts ≤ length s.counts
      → measure_of bs ≡ plan.gives r → end a ys ≡ read_plan_of bs table → after ≡ laid_grid 4 ys 0 s → fresh_end a ys after ≡ founded_of bs r table s
  unfolding founded_of
  founded a ys after h i j m e l =
      let f = e ∙ measured-read bs table r m h in
      let t : ys ≡ (read_plan_of bs table).table = ap (λ (x : End). x.table) f in
      rw (le-ltb _ _ h, le-ltb _ _ i, le-ltb _ _ j, l, ap (λ (x : End). x.answer) f, t)

pub fresh-refused : (bs table : List ℕ) (s : Memory) (x : Result Read Misread) (m : Misread) → paper_read x ≡ measure_of bs → x ≡ Err m → fresh_end (paper_read (Err m)) table s ≡ fresh_of bs table s
unfolding fresh_of
fresh-refused bs table s x m e q = ap (λ (p : plan.Paper PlanRead). fresh_by bs p table s) (ap paper_read (sym q) ∙ e)

pub fresh-measured : (bs table : List ℕ) (s : Memory) (x : Result Read Misread) (r : Read) (o : FreshEnd) → paper_read x ≡ measure_of bs → x ≡ Ok r
    → o ≡ founded_of bs (plan_read r.end r.needs) table s → o ≡ fresh_of bs table s
unfolding fresh_of
fresh-measured bs table s x r o e q f = f ∙ ap (λ (p : plan.Paper PlanRead). fresh_by bs p table s) (ap paper_read (sym q) ∙ e)

pub measured-by : (bs : List ℕ) (x : Result Read Misread) (r : Read) → paper_read x ≡ measure_of bs → x ≡ Ok r → measure_of bs ≡ plan.gives (plan_read r.end r.needs)
measured-by bs x r e q = sym e ∙ ap paper_read q
