-- What is accepted is exactly the format, and a table passes exactly if reading some plan writes it.
use mathlib.Core.Path.{◌≡◌, refl, sym, ap, ◌∙◌}
use mathlib.Core.Bool.{Bool, true, false, cond}
use mathlib.Core.List.{List, [], ◌∷◌, ◌++◌, append-nil}
use Prim.Native.Nat.{ℕ, ◌+◌, ◌≤◌}
use native.Mathlib.Omega.{arith}
use lib.ListN.{length, get_or, drop, length-append, length-drop}
use lib.Seq.{sets, sets-eq, drop-append_seam}
use lib.Dec.{leb, ltb}
use borrow.Author.Tests.{leb-true, le-leb, le-ltb, ltb-false, ne_eqb}
use Rattle.plan.specs.declared.Place.{Place}
use Rattle.plan.specs.declared.Tally.{Tally}
use Rattle.plan.specs.declared.Needs.{Needs}
use Rattle.plan.specs.Plan.{Tree, nothing, axes, bins}
use Rattle.plan.specs.Needs.{untaken, needs_of, after}
use Rattle.plan.specs.Reading.{Out, tree_of}
use Rattle.plan.specs.Table.{rows}
use Rattle.plan.specs.Bytes.{axes_bytes, bins_bytes, encode, valid}
use Rattle.plan.specs.Walk.{from_table}
use Rattle.plan.specs.Bounds.{Bytes}
use Rattle.plan.specs.Paper.{gives, refuses, refuses_at, PlanRead, plan_read}
use Rattle.plan.specs.Calls.{begin, grid_of, End, end, written_of, prefix_end, plan_end, read_plan_of, read_prefix_of, sized_end, sizes_of}
use Rattle.plan.proofs.Trees.{rows_words}
use Rattle.plan.proofs.Accepts.{sound}
use Rattle.plan.proofs.Calls.{grid-read}
use Rattle.plan.proofs.Encodes.{Clear, complete}
use Rattle.plan.proofs.Tables.{Words, held, some-grid}
use Rattle.plan.proofs.Rereads.{grid-kept}

-- a plan: one grid, all of whose numbers, levels and grids are within their bounds
pub record Plan (t : Tree) : Type 0 where
  pub grid : t ≡ nothing → ⊥
  pub within : valid 4 t untaken ≡ true

-- 1. Bytes ------------------------------------------------------------------------------------------------------

-- what is read off bytes is a plan whose encoding they begin with
pub record Decoded (bs : List ℕ) (t : Tree) (q : Place) : Type 0 where
  pub plan : Plan t
  pub bytes : bs ≡ encode t ++ drop q.at bs
  pub taken : q.tally ≡ after t untaken
  pub end : q.at ≡ length (encode t)

nothing-tag : (bs : List ℕ) (t : Tree) (rest : List ℕ) → (get_or bs 0 0 ≡ 4 → ⊥) → bs ≡ encode t ++ rest → t ≡ nothing → ⊥
unfolding encode
nothing-tag bs t rest h e z = h (ap (λ (l : List ℕ). get_or l 0 0) (e ∙ ap (λ (u : Tree). encode u ++ rest) z))

-- where an encoding ends that the rest of the bytes follows
ends : (bs enc : List ℕ) (n : ℕ) → n ≤ length bs → bs ≡ enc ++ drop n bs → n ≡ length enc
ends bs enc n h e = let l : length bs ≡ length enc + length (drop n bs) = ap length e ∙ length-append enc (drop n bs) in omega (arith, length-drop n bs)

pub accepted-is-encoded : (bs : List ℕ) → Bytes bs → (t : Tree) (q : Place) → grid_of bs ≡ Out.reads t q → Decoded bs t q
accepted-is-encoded bs small t q e =
    let g = grid-read bs t q e in
    let s = sound bs small 4 begin t q g.read in
    record { plan = record { grid = nothing-tag bs t (drop q.at bs) g.tag s.bytes; within = s.plan }; bytes = s.bytes; taken = s.end; end = ends bs (encode t) q.at (s.reach (omega arith)) s.bytes }

first_byte : (t : Tree) (rest : List ℕ) → (t ≡ nothing → ⊥) → get_or (encode t ++ rest) 0 0 ≡ 4 → ⊥
unfolding encode axes_bytes bins_bytes
first_byte nothing rest g e = g refl
first_byte (axes a es) rest g e = absurd (omega arith)
first_byte (bins b ts) rest g e = absurd (omega arith)

-- the encoding of a plan is read, whatever follows but a 02
pub encoded-is-accepted : (t : Tree) (rest : List ℕ) → Plan t → Clear rest → grid_of (encode t ++ rest) ≡ Out.reads t (record { at = length (encode t); tally = after t untaken })
unfolding grid_of
encoded-is-accepted t rest p c =
    let z : 0 + length (encode t) ≡ length (encode t) = omega arith in
    rw (ne_eqb (get_or (encode t ++ rest) 0 0) 4 (first_byte t rest p.grid)) (complete (encode t ++ rest) t 4 begin rest c p.within refl ∙ rw z)

-- 2. The calls ----------------------------------------------------------------------------------------------------

-- a plan read into a table
pub record ReadOf (bs xs : List ℕ) (t : Tree) (rest : List ℕ) (r : PlanRead) (ys : List ℕ) : Type 0 where
  pub plan : Plan t
  pub bytes : bs ≡ encode t ++ rest
  pub end : r.end ≡ length (encode t)
  pub needs : r.needs ≡ needs_of (after t untaken)
  pub room : (after t untaken).words ≤ length xs
  pub table : ys ≡ sets xs 0 (rows 4 t untaken)

written-gives : (xs : List ℕ) (t : Tree) (n : ℕ) → (after t untaken).words ≤ length xs
    → written_of xs t (record { at = n; tally = after t untaken }) ≡ end (gives (plan_read n (needs_of (after t untaken)))) (sets xs 0 (rows 4 t untaken))
unfolding written_of
written-gives xs t n h = rw (le-ltb (length xs) (after t untaken).words h)

pub plan-is-read : (t : Tree) (xs : List ℕ) → Plan t → (after t untaken).words ≤ length xs
    → read_plan_of (encode t) xs ≡ end (gives (plan_read (length (encode t)) (needs_of (after t untaken)))) (sets xs 0 (rows 4 t untaken))
unfolding read_plan_of
plan-is-read t xs p h =
    let g : grid_of (encode t) ≡ Out.reads t (record { at = length (encode t); tally = after t untaken }) =
    rw append-nil at (encoded-is-accepted t [] p (λ e. absurd (omega arith))) in
    rw (g, le-ltb (length (encode t)) (length (encode t)) (omega arith)) (written-gives xs t (length (encode t)) h)

pub prefix-is-read : (t : Tree) (rest xs : List ℕ) → Plan t → Clear rest → (after t untaken).words ≤ length xs
    → read_prefix_of (encode t ++ rest) xs ≡ end (gives (plan_read (length (encode t)) (needs_of (after t untaken)))) (sets xs 0 (rows 4 t untaken))
unfolding read_prefix_of
prefix-is-read t rest xs p c h = rw (encoded-is-accepted t rest p c) (written-gives xs t (length (encode t)) h)

-- a refusal is no answer
refused-gives : {P : Type 0} {n at : ℕ} {r : PlanRead} {xs ys : List ℕ} → end (refuses_at n at) xs ≡ end (gives r) ys → P
refused-gives {P} {n} {at} {r} e =
    let y : refuses_at n at ≡ gives r = ap (λ (o : End). o.answer) e in
    let z : ◌≡◌ {A = ℕ} 0 1 = cc in absurd (omega arith)

passed-gives : (b : Bool) (n at : ℕ) (xs : List ℕ) {ys : List ℕ} {r : PlanRead} (x : End) → cond b (end (refuses_at n at) xs) x ≡ end (gives r) ys → (b ≡ false) × (x ≡ end (gives r) ys)
passed-gives true n at xs x e = refused-gives e
passed-gives false n at xs x e = (refl, e)

written-shows : (bs : List ℕ) (t : Tree) (q : Place) (xs ys : List ℕ) (r : PlanRead) → Decoded bs t q → written_of xs t q ≡ end (gives r) ys → ReadOf bs xs t (drop q.at bs) r ys
unfolding written_of
written-shows bs t q xs ys r d e =
    let k = passed-gives (ltb (length xs) q.tally.words) 10 0 xs _ e in
    let h : q.tally.words ≤ length xs = ltb-false (length xs) q.tally.words k.0 in
    let a : gives (plan_read q.at (needs_of q.tally)) ≡ gives r = ap (λ (o : End). o.answer) k.1 in
    let b : plan_read q.at (needs_of q.tally) ≡ r = cc in
    let w = ap (λ (y : Tally). y.words) d.taken in
    record {
      plan = d.plan;
      bytes = d.bytes;
      end = sym (ap (λ (p : PlanRead). p.end) b) ∙ d.end;
      needs = sym (ap (λ (p : PlanRead). p.needs) b) ∙ ap needs_of d.taken;
      room = omega arith;
      table = sym (ap (λ (o : End). o.table) k.1);
    }

pub record PlanIn (bs xs : List ℕ) (r : PlanRead) (ys : List ℕ) : Type 0 where
  pub tree : Tree
  pub rest : List ℕ
  pub is : ReadOf bs xs tree rest r ys

-- what read_prefix accepts begins with the encoding of a plan, whose rows it writes
pub prefix-was-plan : (bs xs ys : List ℕ) (r : PlanRead) → Bytes bs → read_prefix_of bs xs ≡ end (gives r) ys → PlanIn bs xs r ys
unfolding read_prefix_of
prefix-was-plan bs xs ys r small e = go (grid_of bs) refl e
  where
    go : (o : Out) → grid_of bs ≡ o → prefix_end xs o ≡ end (gives r) ys → PlanIn bs xs r ys
    go (Out.stops n at) g e = refused-gives e
    go (Out.reads t q) g e = record { tree = t; rest = drop q.at bs; is = written-shows bs t q xs ys r (accepted-is-encoded bs small t q g) e }

empty : (l : List ℕ) → length l ≡ 0 → l ≡ []
empty [] e = refl
empty (x ∷ l) e = absurd (omega arith)

-- what read_plan accepts is the encoding of a plan, whose rows it writes
pub plan-was-plan : (bs xs ys : List ℕ) (r : PlanRead) → Bytes bs → read_plan_of bs xs ≡ end (gives r) ys → (p : PlanIn bs xs r ys) × (bs ≡ encode p.tree)
unfolding read_plan_of
plan-was-plan bs xs ys r small e = go (grid_of bs) refl e
  where
    go : (o : Out) → grid_of bs ≡ o → plan_end bs xs o ≡ end (gives r) ys → (p : PlanIn bs xs r ys) × (bs ≡ encode p.tree)
    go (Out.stops n at) g e = refused-gives e
    go (Out.reads t q) g e =
        let k = passed-gives (ltb q.at (length bs)) 1 q.at xs _ e in
        let h : length bs ≤ q.at = ltb-false q.at (length bs) k.0 in
        let d = accepted-is-encoded bs small t q g in
        let z : drop q.at bs ≡ [] = empty (drop q.at bs) (omega (arith, length-drop q.at bs)) in
        (record { tree = t; rest = drop q.at bs; is = written-shows bs t q xs ys r d k.1 }, d.bytes ∙ ap (λ (l : List ℕ). encode t ++ l) z ∙ append-nil (encode t))

-- 3. Tables ---------------------------------------------------------------------------------------------------------

-- a table that holds a plan: its rows, and room behind them
pub record Holds (xs : List ℕ) (n : Needs) : Type 0 where
  pub tree : Tree
  pub plan : Plan tree
  pub rest : List ℕ
  pub words : xs ≡ rows 4 tree untaken ++ rest
  pub needs : n ≡ needs_of (after tree untaken)

refuses-gives : {P : Type 0} {m : ℕ} {n : Needs} → refuses m ≡ gives n → P
refuses-gives e = let z : ◌≡◌ {A = ℕ} 0 1 = cc in absurd (omega arith)

sized-shows : (b : Bool) (m n : Needs) → cond b (gives m) (refuses 12) ≡ gives n → (b ≡ true) × (m ≡ n)
sized-shows true m n e = (refl, cc)
sized-shows false m n e = refuses-gives e

-- a table that passes holds a plan, and its sizes are the plan's
pub passed-holds : (xs : List ℕ) (n : Needs) → Words xs → sizes_of xs ≡ gives n → Holds xs n
unfolding sizes_of
passed-holds xs n large e = go (tree_of (from_table xs) 4 begin) refl e
  where
    go : (o : Out) → tree_of (from_table xs) 4 begin ≡ o → sized_end xs o ≡ gives n → Holds xs n
    go (Out.stops m at) g e = refuses-gives e
    go (Out.reads t q) g e =
        let k = sized-shows (leb q.tally.words (length xs)) (needs_of q.tally) n e in
        let h = held xs large 4 begin t q g (leb-true _ _ k.0) in
        record {
          tree = t;
          plan = record { grid = some-grid xs large 4 begin t q g; within = h.plan };
          rest = drop q.tally.words xs;
          words = h.words;
          needs = sym k.1 ∙ ap needs_of h.end;
        }

-- a table that holds a plan passes
pub holding-passes : (t : Tree) (rest : List ℕ) → Plan t → sizes_of (rows 4 t untaken ++ rest) ≡ gives (needs_of (after t untaken))
unfolding sizes_of
holding-passes t rest p =
    let k = grid-kept (rows 4 t untaken ++ rest) t 4 begin rest p.grid p.within refl in
    let m : (after t untaken).words ≤ length (rows 4 t untaken ++ rest) = simp length-append (omega (arith, rows_words 4 t untaken p.within)) in
    rw (k, le-leb (after t untaken).words (length (rows 4 t untaken ++ rest)) m)

rows-length : (t : Tree) → Plan t → length (rows 4 t untaken) ≡ (after t untaken).words
rows-length t p = let k : (after t untaken).words ≡ 0 + length (rows 4 t untaken) = rows_words 4 t untaken p.within in omega arith

-- what reading writes passes, with the same sizes
pub read-passes : (bs xs ys : List ℕ) (t : Tree) (rest : List ℕ) (r : PlanRead) → ReadOf bs xs t rest r ys → sizes_of ys ≡ gives r.needs
read-passes bs xs ys t rest r k =
    let l = rows-length t k.plan in
    let e : ys ≡ rows 4 t untaken ++ drop (0 + length (rows 4 t untaken)) xs = k.table ∙ sets-eq (rows 4 t untaken) xs 0 (omega (arith, k.room)) in
    rw (e, k.needs) (holding-passes t (drop (0 + length (rows 4 t untaken)) xs) k.plan)

-- and whatever passes is written so: the plan's bytes, read over the table, leave it as it is
pub passed-is-read : (xs : List ℕ) (n : Needs) → Words xs → sizes_of xs ≡ gives n → (h : Holds xs n) × (read_plan_of (encode h.tree) xs ≡ end (gives (plan_read (length (encode h.tree)) n)) xs)
passed-is-read xs n large e =
    let h = passed-holds xs n large e in
    let t = h.tree in
    let l = rows-length t h.plan in
    let m : length xs ≡ length (rows 4 t untaken) + length h.rest = ap length h.words ∙ length-append (rows 4 t untaken) h.rest in
    let z : 0 + length (rows 4 t untaken) ≡ length (rows 4 t untaken) = omega arith in
    let s : sets xs 0 (rows 4 t untaken) ≡ xs =
    sets-eq (rows 4 t untaken) xs 0 (omega arith) ∙ ap (λ (l : List ℕ). rows 4 t untaken ++ drop (0 + length (rows 4 t untaken)) l) h.words
    ∙ ap (λ (i : ℕ). rows 4 t untaken ++ drop i (rows 4 t untaken ++ h.rest)) z ∙ ap (λ (l : List ℕ). rows 4 t untaken ++ l) (drop-append_seam (rows 4 t untaken) h.rest) ∙ sym h.words in (
      h,
      plan-is-read t xs h.plan (omega arith)
          ∙ ap (λ (ys : List ℕ). end (gives (plan_read (length (encode t)) (needs_of (after t untaken)))) ys) s
          ∙ ap (λ (m : Needs). end (gives (plan_read (length (encode t)) m)) xs) (sym h.needs),
    )
