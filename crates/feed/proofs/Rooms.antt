-- The program's rooms: a plan of at most 128 bins needs at most 16,832 words, 2,816 reals and 1,344 counts, so that with rooms of these lengths
-- no such plan is refused with 10.
use Rattle.std.proofs.Common.{◌≡◌, ℕ, ◌+◌, ◌-◌, ◌*◌, ◌<◌, ◌≤◌, Bool, true, false, cond, not, ◌&&◌, eqb, ltb, List, [], length, take, sym, refl, ap, ◌∙◌, append-nil, mul-le-mul, mul-one, mul-add, mul_left_comm, arith, le-ltb}
use lib.Seq.{take-append_seam}
use Rattle.plan.specs.declared.AxesPlan.{AxesPlan}
use Rattle.plan.specs.declared.BinsPlan.{BinsPlan}
use Rattle.plan.specs.declared.Needs.{Needs}
use Rattle.plan.specs.declared.Tally.{Tally}
use Rattle.plan.specs.Bounds.{Bytes}
use Rattle.plan.specs.Bytes.{encode, valid, valid_all}
use Rattle.plan.specs.Needs.{axes_reals, axes_counts, bins_reals, bins_counts, axes_taken, bins_taken, untaken, needs_of, after, after_all}
use Rattle.plan.specs.Paper as plan
use Rattle.plan.specs.Plan.{Tree, Trees, nothing, axes, bins, none, more}
use Rattle.plan.specs.Reading.{Out}
use Rattle.plan.specs.Calls.{grid_of, measured_end, measure_of, measure_prefix_of, read_plan_of}
use Rattle.plan.proofs.Flags.{at_least}
use Rattle.plan.proofs.Ranges.{most-least}
use Rattle.plan.proofs.Faults.{axes-free, bins-free}
use Rattle.plan.proofs.Trees.{AxesValid, axes-valid, bins-valid, more-valid, start-roomy, roomy_after}
use Rattle.plan.proofs.Plans.{Plan, accepted-is-encoded, encoded-is-accepted}
use Rattle.lent.specs.Memory.{Memory}
use Rattle.lent.specs.Founded.{laid_grid}
use Rattle.lent.specs.Calls.{fresh_end, founded_of, fresh_of}
use Rattle.feed.specs.declared.Phase.{Phase}
use Rattle.feed.specs.declared.Phase.TheVariants as phase
use Rattle.feed.specs.declared.Run.{Run}
use Rattle.feed.specs.Said.{going}
use Rattle.feed.specs.Turns.{all_in, fresh_said, fresh_ends, found_of, plan_by, plan_turn, turn_by, turn_of}
use Rattle.feed.proofs.Prefixes.{measured-is-plan}

-- ---- of each grid at most 14 reals and 7 counts, and of each of its bins at most 15 and 7

-- what is taken, and 14 and 7 more for each grid that may still come
record Modest (y : Tally) : Type 0 where
  reals : y.reals + 14 * y.left ≤ 896 + 15 * y.bins
  counts : y.counts + 7 * y.left ≤ 448 + 7 * y.bins

module _ (a m : ℕ) (some : 1 ≤ m) where
  each : a ≤ a * m
  each = let h : a * 1 ≤ a * m = mul-le-mul (omega arith) some in rw mul-one at h

  reals-each : a * (6 * m + 1) ≤ 15 * (a * m)
  reals-each =
      let e : a * (6 * m + 1) ≡ 6 * (a * m) + a = mul-add a (6 * m) 1 ∙ rw (mul-one a, mul_left_comm a 6 m) in
      omega (arith, each)

  counts_each : a * (3 * m + 2) ≤ 7 * (a * m)
  counts_each =
      let e : a * (3 * m + 2) ≡ 3 * (a * m) + a * 2 = mul-add a (3 * m) 2 ∙ rw (mul_left_comm a 3 m) in
      omega (arith, each)

modest-axes : (a : AxesPlan) (es : List ℕ) (y : Tally) → AxesValid a es y.left → Modest y → Modest (axes_taken a y)
unfolding axes_taken axes_reals axes_counts
modest-axes a es y v r =
    let o = axes-free a y.left v.free in
    let some : 1 ≤ a.most = omega (arith, v.most, most-least a.bins es, at_least 1 1024 a.bins o.bins) in
    record {
      reals = omega (arith, r.reals, o.some, reals-each a.axes a.most some);
      counts = omega (arith, r.counts, o.some, counts_each a.axes a.most some);
    }

modest-bins : (b : BinsPlan) (y : Tally) → 0 < y.left → Modest y → Modest (bins_taken b y)
unfolding bins_taken bins_reals bins_counts
modest-bins b y some r = record { reals = omega (arith, r.reals); counts = omega (arith, r.counts) }

mutual
  unfolding after after_all

  modest-after : (l : ℕ) (t : Tree) (y : Tally) → valid l t y ≡ true → Modest y → Modest (after t y)
  modest-after l nothing y v r = r
  modest-after l (axes a es) y v r = modest-axes a es y (axes-valid l a es y v) r
  modest-after l (bins b ts) y v r =
      let k = bins-valid l b ts y v in
      modest-all (l - 1) ts (bins_taken b y) k.rest (modest-bins b y (bins-free b y.left l k.free).some r)

  modest-all : (l : ℕ) (ts : Trees) (y : Tally) → valid_all l ts y ≡ true → Modest y → Modest (after_all ts y)
  modest-all l none y v r = r
  modest-all l (more t ts) y v r =
      let k = more-valid l t ts y v in
      modest-all l ts (after t y) k.tail (modest-after l t y k.head r)

-- ---- the rooms

pub record Roomed (n : Needs) : Type 0 where
  pub words : n.words ≤ 16832
  pub reals : n.reals ≤ 2816
  pub counts : n.counts ≤ 1344

pub plan-roomed : (t : Tree) → Plan t → (after t untaken).bins ≤ 128 → Roomed (needs_of (after t untaken))
unfolding needs_of
plan-roomed t p h =
    let m = modest-after 4 t untaken p.within (record { reals = omega arith; counts = omega arith }) in
    let r = roomy_after 4 t untaken p.within start-roomy in
    record { words = omega (arith, r.words); reals = omega (arith, m.reals); counts = omega (arith, m.counts) }

needs-roomed : (t : Tree) (n : Needs) → Plan t → n ≡ needs_of (after t untaken) → n.bins ≤ 128 → Roomed n
unfolding needs_of
needs-roomed t n p e h = rw e (plan-roomed t p (omega (arith, ap (λ (k : Needs). k.bins) e)))

-- a plan at the front of some bytes
pub prefix-roomed : (bs : List ℕ) (r : plan.PlanRead) → Bytes bs → measure_prefix_of bs ≡ plan.gives r → r.needs.bins ≤ 128 → Roomed r.needs
prefix-roomed bs r small e h = let k = measured-is-plan bs r small e in needs-roomed k.tree r.needs k.plan k.needs h

-- and a plan that is all of them
pub measured-roomed : (bs : List ℕ) (r : plan.PlanRead) → Bytes bs → measure_of bs ≡ plan.gives r → r.needs.bins ≤ 128 → Roomed r.needs
unfolding measure_of
measured-roomed bs r small e h = go (grid_of bs) refl e
  where
    refused : {P : Type 0} {n at : ℕ} → ◌≡◌ {A = plan.Paper plan.PlanRead} (plan.refuses_at n at) (plan.gives r) → P
    refused z = let c : ◌≡◌ {A = ℕ} 0 1 = cc in absurd (omega arith)

    whole : (b : Bool) (n : ℕ) (p : plan.PlanRead) → cond b (plan.refuses_at 1 n) (plan.gives p) ≡ plan.gives r → p ≡ r
    whole true n p z = refused z
    whole false n p z = cc

    go : (o : Out) → grid_of bs ≡ o → measured_end bs o ≡ plan.gives r → Roomed r.needs
    go (Out.stops n at) g z = refused z
    go (Out.reads t q) g z =
        let d = accepted-is-encoded bs small t q g in
        let k = whole (ltb q.at (length bs)) q.at (plan.plan_read q.at (needs_of q.tally)) z in
        needs-roomed t r.needs d.plan (sym (ap (λ (p : plan.PlanRead). p.needs) k) ∙ ap needs_of d.taken) h

-- so a grid is laid
roomed-lays : (bs table : List ℕ) (m : Memory) (r : plan.PlanRead) → measure_of bs ≡ plan.gives r → Roomed r.needs → 16832 ≤ length table → 2816 ≤ length m.reals → 1344 ≤ length m.counts
    → fresh_of bs table m ≡ fresh_end (plan.gives r) (read_plan_of bs table).table (laid_grid 4 (read_plan_of bs table).table 0 m)
unfolding fresh_of founded_of
roomed-lays bs table m r e k words reals counts =
    let w : r.needs.words ≤ length table = omega (arith, k.words) in
    let x : r.needs.reals ≤ length m.reals = omega (arith, k.reals) in
    let c : r.needs.counts ≤ length m.counts = omega (arith, k.counts) in
    rw (e, le-ltb _ _ w, le-ltb _ _ x, le-ltb _ _ c)

pub rooms-hold : (bs table : List ℕ) (m : Memory) (r : plan.PlanRead) → Bytes bs → measure_of bs ≡ plan.gives r → r.needs.bins ≤ 128 → 16832 ≤ length table → 2816 ≤ length m.reals → 1344 ≤ length m.counts
    → fresh_of bs table m ≡ fresh_end (plan.gives r) (read_plan_of bs table).table (laid_grid 4 (read_plan_of bs table).table 0 m)
rooms-hold bs table m r small e h = roomed-lays bs table m r e (measured-roomed bs r small e h)

-- ---- the plan's turn

-- a plan at the front is the plan that the bytes up to its end are
prefix-measures : (bs : List ℕ) (r : plan.PlanRead) → Bytes bs → measure_prefix_of bs ≡ plan.gives r → measure_of (take r.end bs) ≡ plan.gives r
unfolding measure_of
prefix-measures bs r small e =
    let k = measured-is-plan bs r small e in
    let enc = encode k.tree in
    let front : take r.end bs ≡ enc = ap (λ (n : ℕ). take n bs) k.end ∙ ap (take (length enc)) k.bytes ∙ take-append_seam enc k.rest in
    let read : grid_of enc ≡ Out.reads k.tree (record { at = length enc; tally = after k.tree untaken }) = rw append-nil at (encoded-is-accepted k.tree [] k.plan (λ z. absurd (omega arith))) in
    let same : plan.plan_read (length enc) (needs_of (after k.tree untaken)) ≡ r = ap (λ (n : ℕ). plan.plan_read n (needs_of (after k.tree untaken))) (sym k.end) ∙ ap (λ (n : Needs). plan.plan_read r.end n) (sym k.needs) in
    rw (front, read, le-ltb (length enc) (length enc) (omega arith)) (ap plan.gives same)

-- so with these rooms a plan of at most 128 bins is laid, once no 02 can follow, and its stream is due
pub rooms-serve : (run : Run) (bs : List ℕ) (last : Bool) (table : List ℕ) (m : Memory) (R C : ℕ) (r : plan.PlanRead) → Bytes bs → run.phase ≡ phase.Plan → measure_prefix_of bs ≡ plan.gives r
    → r.needs.bins ≤ 128 → 16832 ≤ length table → 2816 ≤ length m.reals → 1344 ≤ length m.counts → (not (all_in bs last) && eqb r.end (length bs)) ≡ false
    → (turn_of run bs last table m R C).answer ≡ going run phase.Stream run.stream 0 r.end
unfolding turn_of turn_by plan_turn plan_by found_of fresh_ends fresh_said
rooms-serve run bs last table m R C r small p e h words reals counts w =
    ap (λ (x : Phase). (turn_by x run bs last table m R C).answer) p
    ∙ rw (e, w, le-ltb 128 r.needs.bins h, roomed-lays (take r.end bs) table m r (prefix-measures bs r small e) (prefix-roomed bs r small e h) words reals counts)
