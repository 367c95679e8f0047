-- The calls' answers, in the form in which the code meets them.
use mathlib.Core.Path.{◌≡◌, refl, sym, ap, ◌∙◌}
use mathlib.Core.Bool.{Bool, true, false, cond}
use mathlib.Core.List.{List}
use Prim.Native.Nat.{ℕ, ◌≤◌, ◌<◌}
use native.Mathlib.Omega.{arith}
use lib.ListN.{length, get_or}
use lib.Seq.{sets}
use lib.Dec.{eqb, ltb}
use borrow.Author.Tests.{eqb-false, eq-eqb, ne_eqb, lt-ltb, le-ltb, ltb-false, le-leb, lt-leb}
use Rattle.std.specs.Prelude.{Option, None, Some, Result, Ok, Err}
use Rattle.std.specs.Option.{ok_or}
use Rattle.doubles.specs.declared.refusal.Refusal.{Refusal}
use Rattle.doubles.specs.declared.refusal.Refusal.TheVariants as refusal
use Rattle.plan.specs.declared.Place.{Place}
use Rattle.plan.specs.declared.Needs.{Needs}
use Rattle.plan.specs.declared.Read.{Read}
use Rattle.plan.specs.Judged.{Step, Stop, Found, known}
use Rattle.plan.specs.Plan.{Tree}
use Rattle.plan.specs.Needs.{untaken, needs_of}
use Rattle.plan.specs.Reading.{Out, tree_of, from_bytes, step_of}
use Rattle.plan.specs.Table.{rows}
use Rattle.plan.specs.Walk.{from_table}
use Rattle.plan.specs.Bounds.{Bytes, Inside}
use Rattle.plan.specs.Writing.{Writable, laid}
use Rattle.plan.specs.Paper.{Paper, gives, refuses, refuses_at, PlanRead, plan_read, paper_read}
use Rattle.plan.specs.Calls.{begin, grid_of, whole, end, written_of, plan_end, measured_end, measured_prefix, read_prefix_of, measure_of, measure_prefix_of, read_plan_of, sizes_of}
use Rattle.plan.proofs.Trees.{start-roomy}
use Rattle.plan.proofs.Readings.{stops-reads}
use Rattle.plan.proofs.Steps.{some, stopped, stopped-done}

pub begin-inside : (bs : List ℕ) → Bytes bs → {p : Place} → p ≡ begin → Inside bs p
begin-inside bs small e = rw e record { small = small; reach = omega arith; roomy = start-roomy }

-- 1. The grid that bytes begin with -----------------------------------------------------------------------

pub grid-none : (bs : List ℕ) {x : ℕ} → x ≡ get_or bs 0 0 → x ≡ 4 → Stop 1 0 ≡ step_of (grid_of bs)
unfolding grid_of
grid-none bs e h = rw (eq-eqb _ 4 (sym e ∙ h))

pub grid-some : (bs : List ℕ) {x : ℕ} {p : Place} {r : Step} → x ≡ get_or bs 0 0 → (x ≡ 4 → ⊥) → p ≡ begin → r ≡ step_of (tree_of (from_bytes bs) 4 p) → r ≡ step_of (grid_of bs)
unfolding grid_of
grid-some bs e h b d = rw (ne_eqb (get_or bs 0 0) 4 (λ y. h (e ∙ y))) (d ∙ ap (λ (q : Place). step_of (tree_of (from_bytes bs) 4 q)) b)

pub record GridRead (bs : List ℕ) (t : Tree) (q : Place) : Type 0 where
  pub grid : grid_of bs ≡ Out.reads t q
  pub read : tree_of (from_bytes bs) 4 begin ≡ Out.reads t q
  pub tag : get_or bs 0 0 ≡ 4 → ⊥

grid-case : (b : Bool) (o : Out) (t : Tree) (q : Place) → cond b (Out.stops 1 0) o ≡ Out.reads t q → (b ≡ false) × (o ≡ Out.reads t q)
grid-case true o t q e = stops-reads e
grid-case false o t q e = (refl, e)

pub grid-read : (bs : List ℕ) (t : Tree) (q : Place) → grid_of bs ≡ Out.reads t q → GridRead bs t q
unfolding grid_of
grid-read bs t q e =
    let k = grid-case (eqb (get_or bs 0 0) 4) (tree_of (from_bytes bs) 4 begin) t q e in
    record { grid = e; read = k.1; tag = eqb-false (get_or bs 0 0) 4 k.0 }

record GridDone (bs : List ℕ) (q : Place) : Type 0 where
  tree : Tree
  reads : GridRead bs tree q

grid-done : (bs : List ℕ) (q : Place) → Found q ≡ step_of (grid_of bs) → GridDone bs q
grid-done bs q e = let s = some (grid_of bs) q e in record { tree = s.tree; reads = grid-read bs s.tree q s.read }

-- all the bytes are that grid's: what stops, and what is found
stopped-or : (xs : List ℕ) {n at : ℕ} (t : Tree) (r : Place) (b : Bool) → Stop n at ≡ cond b (Stop 1 r.at) (Found r)
    → end (refuses_at n at) xs ≡ cond b (end (refuses_at 1 r.at) xs) (written_of xs t r)
stopped-or xs {n} {at} t r true e = let x : n ≡ 1 = cc in let y : at ≡ r.at = cc in rw (x, y)
stopped-or xs t r false e = stopped-done e

found-or : (bs : List ℕ) {q : Place} (r : Place) (b : Bool) → ltb r.at (length bs) ≡ b → Found q ≡ cond b (Stop 1 r.at) (Found r) → (q ≡ r) × (length bs ≤ r.at)
found-or bs r true h e = stopped-done (sym e)
found-or bs r false h e = (cc, ltb-false r.at (length bs) h)

pub whole-found : (bs : List ℕ) {q : Place} → Found q ≡ whole bs (step_of (grid_of bs)) → (Found q ≡ step_of (grid_of bs)) × (length bs ≤ q.at)
whole-found bs {q} e = go (grid_of bs) e
  where
    go : (o : Out) → Found q ≡ whole bs (step_of o) → (Found q ≡ step_of o) × (length bs ≤ q.at)
    go (Out.stops n at) e = stopped-done (sym e)
    go (Out.reads t r) e = let k = found-or bs r (ltb r.at (length bs)) refl e in rw k.0 (refl, k.1)

-- 2. Reading ----------------------------------------------------------------------------------------------

-- what was judged, as an answer
abbrev pub paper_step : Step → Paper PlanRead
paper_step (Stop n at) = refuses_at n at
paper_step (Found q) = gives (plan_read q.at (needs_of q.tally))

pub measured-prefix : (bs : List ℕ) → paper_step (step_of (grid_of bs)) ≡ measure_prefix_of bs
unfolding measure_prefix_of
measured-prefix bs = go (grid_of bs)
  where
    go : (o : Out) → paper_step (step_of o) ≡ measured_prefix o
    go (Out.stops n at) = refl
    go (Out.reads t q) = refl

pub measured-whole : (bs : List ℕ) → paper_step (whole bs (step_of (grid_of bs))) ≡ measure_of bs
unfolding measure_of
measured-whole bs = go (grid_of bs)
  where
    either : (b : Bool) (q : Place) → paper_step (cond b (Stop 1 q.at) (Found q)) ≡ cond b (refuses_at 1 q.at) (gives (plan_read q.at (needs_of q.tally)))
    either true q = refl
    either false q = refl

    go : (o : Out) → paper_step (whole bs (step_of o)) ≡ measured_end bs o
    go (Out.stops n at) = refl
    go (Out.reads t q) = either (ltb q.at (length bs)) q

module _ (bs xs : List ℕ) where
  pub prefix-refused : {n at : ℕ} → Stop n at ≡ step_of (grid_of bs) → end (refuses_at n at) xs ≡ read_prefix_of bs xs
  unfolding read_prefix_of
  prefix-refused {n} {at} e = rw (stopped (grid_of bs) n at e)

  pub plan-refused : {n at : ℕ} → Stop n at ≡ whole bs (step_of (grid_of bs)) → end (refuses_at n at) xs ≡ read_plan_of bs xs
  unfolding read_plan_of
  plan-refused {n} {at} e = go (grid_of bs) e
    where
      go : (o : Out) → Stop n at ≡ whole bs (step_of o) → end (refuses_at n at) xs ≡ plan_end bs xs o
      go (Out.stops m b) e = let x : n ≡ m = cc in let y : at ≡ b = cc in rw (x, y)
      go (Out.reads t r) e = stopped-or xs t r (ltb r.at (length bs)) e

  module _ {q : Place} (e : Found q ≡ step_of (grid_of bs)) where
    pub put-short : length xs < q.tally.words → end (refuses_at 10 0) xs ≡ read_prefix_of bs xs
    unfolding read_prefix_of written_of
    put-short m = rw ((grid-done bs q e).reads.grid, lt-ltb (length xs) q.tally.words m)

    pub plan-whole : length bs ≤ q.at → read_prefix_of bs xs ≡ read_plan_of bs xs
    unfolding read_plan_of read_prefix_of
    plan-whole m = rw ((grid-done bs q e).reads.grid, le-ltb q.at (length bs) m)

    module _ (m : q.tally.words ≤ length xs) where
      pub writable : Bytes bs → {p : Place} → p ≡ begin → Writable bs 4 p (length xs)
      writable small b = let s = grid-done bs q e in rw b record { inside = begin-inside bs small refl; tree = s.tree; stop = q; read = s.reads.read; room = m }

      pub put_whole : {p : Place} {r : Read} (new : List ℕ) → p ≡ begin → (r.end ≡ q.at) × (r.needs ≡ needs_of q.tally)
          → new ≡ laid 4 p.tally (tree_of (from_bytes bs) 4 p) xs → end (paper_read (Ok r)) new ≡ read_prefix_of bs xs
      unfolding read_prefix_of written_of
      put_whole {p} new b n w =
          let s = grid-done bs q e in
          let v : new ≡ sets xs 0 (rows 4 s.tree untaken) = w ∙ ap (λ (p : Place). laid 4 p.tally (tree_of (from_bytes bs) 4 p) xs) b ∙ ap (λ (o : Out). laid 4 untaken o xs) s.reads.read in
          rw (s.reads.grid, le-ltb (length xs) q.tally.words m, n.0, n.1, v)

-- 3. A table's sizes --------------------------------------------------------------------------------------

pub not_there : (o : Option Place) {r : Refusal} → Err r ≡ ok_or o refusal.State → (r ≡ refusal.State) × (o ≡ None)
not_there None e = (cc, refl)
not_there (Some q) {r} e = absurd (let k : ◌≡◌ {A = Result Place Refusal} (Err r) (Ok q) = e in cc)

pub is_there : (o : Option Place) {q : Place} → Ok q ≡ ok_or o refusal.State → o ≡ Some q
is_there None {q} e = absurd (let k : ◌≡◌ {A = Result Place Refusal} (Ok q) (Err refusal.State) = e in cc)
is_there (Some p) e = cc

module _ (xs : List ℕ) {p : Place} (b : p ≡ begin) (o : Option Place) (e : known o ≡ step_of (tree_of (from_table xs) 4 p)) where
  from-begin : known o ≡ step_of (tree_of (from_table xs) 4 begin)
  from-begin = e ∙ ap (λ (q : Place). step_of (tree_of (from_table xs) 4 q)) b

  pub sizes-stray : o ≡ None → refuses 12 ≡ sizes_of xs
  unfolding sizes_of
  sizes-stray n = rw (stopped (tree_of (from_table xs) 4 begin) 12 0 (rw n at from-begin))

  module _ {q : Place} (f : o ≡ Some q) where
    pub sizes-cut : length xs < q.tally.words → refuses 12 ≡ sizes_of xs
    unfolding sizes_of
    sizes-cut m = rw ((some (tree_of (from_table xs) 4 begin) q (rw f at from-begin)).read, lt-leb q.tally.words (length xs) m)

    pub sizes-whole : {n : Needs} → n ≡ needs_of q.tally → q.tally.words ≤ length xs → gives n ≡ sizes_of xs
    unfolding sizes_of
    sizes-whole n m = rw ((some (tree_of (from_table xs) 4 begin) q (rw f at from-begin)).read, le-leb q.tally.words (length xs) m, n)
