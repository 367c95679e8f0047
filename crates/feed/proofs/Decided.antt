-- 131,072 bytes decide a plan: every field of one begins among the first 53,507 and takes at most 65,557, so that no byte behind them is looked at.
use Rattle.std.proofs.Common.{◌≡◌, ℕ, zero, suc, ◌+◌, ◌-◌, ◌*◌, ◌≤◌, Bool, true, false, eqb, List, ◌++◌, length, get_or, sym, refl, ap, ◌∙◌, arith, le-leb}
use Rattle.plan.specs.declared.Place.{Place}
use Rattle.plan.specs.declared.AxesPlan.{AxesPlan}
use Rattle.plan.specs.declared.BinsPlan.{BinsPlan}
use Rattle.plan.specs.declared.Child.{Child}
use Rattle.plan.specs.declared.Child.TheVariants as child
use Rattle.plan.specs.Judged.{Field}
use Rattle.plan.specs.Judged as field
use Rattle.plan.specs.Bounds.{Bytes}
use Rattle.plan.specs.Numbers.{values_at}
use Rattle.plan.specs.Needs.{axes_taken, bins_taken}
use Rattle.plan.specs.Plan.{Tree, axes}
use Rattle.plan.specs.Fields.{formed, span_of, axes_at, axes_field, bins_at, bins_field, nothing_field, field_of}
use Rattle.plan.specs.Reading.{Out, cons_to, then, bins_to, trees_of, hung, opened, tree_of, from_bytes}
use Rattle.plan.specs.Calls.{begin, grid_of}
use Rattle.plan.proofs.Flags.{at_most}
use Rattle.plan.proofs.Faults.{axes-free, bins-free, evolution-few}
use Rattle.plan.proofs.Here.{nothing-found, axes-found, bins-found, here-evolved}
use Rattle.plan.proofs.Readings.{Kept, kept}
use Rattle.feed.proofs.Spelling.{below}
use Rattle.feed.proofs.Joined.{number-front}
use Rattle.feed.proofs.Settled.{Evolved, no-evolution, evolution-there, fault-stays, axes-same, bins-same, axes-by, longer, byte-front, values-front}
use Rattle.feed.proofs.SettledPlan.{span-some}

-- ---- where the fields of a plan begin

-- a place with k children still due: three bytes for each, and 836 for each grid that may still come
abbrev Spent : Place → ℕ → Type 0
Spent p k = p.at + 3 * k + 836 * p.tally.left ≤ 53507

-- n children further
abbrev Onto : Place → Place → ℕ → Type 0
Onto p q n = (k : ℕ) → Spent p (k + n) → Spent q k

span-most : (v : ℕ) → v ≤ 16 → span_of v ≤ 54
unfolding span_of
span-most zero h = omega arith
span-most (suc v) h = omega (arith, span-some v)

module _ (bs : List ℕ) where
  onto-nothing : (l : ℕ) (p q : Place) → field_of bs l p ≡ field.Found (record { child = child.Nothing; past = q }) → Onto p q 1
  onto-nothing l p q e k h =
      let f = nothing-found bs l p q e in
      omega (arith, ap (λ (x : Place). x.at) f.past, ap (λ (x : Place). x.tally.left) f.past)

  onto-axes : (l : ℕ) (p : Place) (a : AxesPlan) (q : Place) → field_of bs l p ≡ field.Found (record { child = child.Axes a; past = q }) → Onto p q 1
  unfolding axes_taken
  onto-axes l p a q e k h =
      let f = axes-found bs l p a q e in
      let free = axes-free (axes_at bs p.at) p.tally.left f.at.free in
      let span = span-most (axes_at bs p.at).values (evolution-few (here-evolved f.at)) in
      let at : q.at ≡ p.at + span_of (axes_at bs p.at).values = ap (λ (x : Place). x.at) f.past in
      let left : q.tally.left ≡ p.tally.left - 1 = ap (λ (x : Place). x.tally.left) f.past in
      omega (arith, free.some)

  -- what a bins grid's field leaves to its children
  into-bins : (l : ℕ) (p : Place) (b : BinsPlan) (s : Place) → field_of bs l p ≡ field.Found (record { child = child.Bins b; past = s }) → (k : ℕ) → Spent p (k + 1) → Spent s (k + b.bins)
  unfolding bins_taken
  into-bins l p b s e k h =
      let f = bins-found bs l p b s e in
      let free = bins-free (bins_at bs p.at) p.tally.left l f.at.free in
      let few = at_most 1 256 (bins_at bs p.at).bins free.bins in
      let same : b.bins ≡ (bins_at bs p.at).bins = ap (λ (x : BinsPlan). x.bins) f.numbers in
      let at : s.at ≡ p.at + 14 = ap (λ (x : Place). x.at) f.past in
      let left : s.tally.left ≡ p.tally.left - 1 = ap (λ (x : Place). x.tally.left) f.past in
      omega (arith, free.some)

  spends : Kept (from_bytes bs) (λ l p t q. Onto p q 1) (λ l s p t q. Onto p q 1) (λ l s n p ts q. Onto p q n)
  spends = record {
    empty = λ l p q e. onto-nothing l p q e;
    leaf = λ l p a q e. onto-axes l p a q e;
    inner = λ l p b s ts q e k. λ j h. k j (into-bins l p b s e j h);
    hangs = λ l s p t q k e. k p t q e;
    end = λ l s p k h. omega arith;
    next = λ l s n p t u ts q c k. λ j h. k j (c (j + n) (omega arith));
  }

  onto : (l : ℕ) (p : Place) (t : Tree) (q : Place) → tree_of (from_bytes bs) l p ≡ Out.reads t q → Onto p q 1
  onto = kept spends

-- ---- a field there is the same with more bytes behind

module _ (xs ys : List ℕ) (small : Bytes xs) (many : 131072 ≤ length xs) where
  abbrev zs : List ℕ
  zs = xs ++ ys

  module _ (p : Place) (near : p.at ≤ 53507) where
    formed-near : (n : ℕ) → n ≤ 16 → formed zs p.at n ≡ formed xs p.at n
    unfolding formed
    formed-near n h =
        let w : p.at + 3 + n ≤ length xs = omega arith in
        let l : p.at + 3 + n ≤ length zs = omega (arith, longer xs ys) in
        rw (number-front xs ys 2 (p.at + 1) (omega arith), le-leb (p.at + 3 + n) (length zs) l, le-leb (p.at + 3 + n) (length xs) w)

    evolved-near : (b : Bool) → eqb (get_or xs (p.at + 19) 0) 2 ≡ b → Evolved xs ys (p.at + 19)
    evolved-near true e = evolution-there xs ys (p.at + 19) (omega arith) (omega (arith, below xs small 2 (p.at + 19 + 1))) e
    evolved-near false e = no-evolution xs ys (p.at + 19) (omega arith) e

    axes-near : axes_field zs p ≡ axes_field xs p
    axes-near =
        let v = evolved-near (eqb (get_or xs (p.at + 19) 0) 2) refl in
        let w : p.at + 19 ≤ length xs = omega arith in
        axes-by zs p ∙ rw (formed-near 16 (omega arith), fault-stays xs ys p.at w p.tally.left, v.fault, axes-same xs ys p.at w v) (sym (axes-by xs p))

    bins-near : (l : ℕ) → bins_field zs l p ≡ bins_field xs l p
    unfolding bins_field
    bins-near l = rw (formed-near 11 (omega arith), bins-same xs ys p.at (omega arith))

    nothing-near : nothing_field zs p ≡ nothing_field xs p
    unfolding nothing_field
    nothing-near = rw (formed-near 0 (omega arith))

    field-near : (l : ℕ) → field_of zs l p ≡ field_of xs l p
    unfolding field_of
    field-near l = rw (byte-front xs ys p.at (omega arith), axes-near, bins-near l, nothing-near)

    evolution-near : (l : ℕ) (a : AxesPlan) (q : Place) → field_of xs l p ≡ field.Found (record { child = child.Axes a; past = q }) → values_at zs (p.at + 22) a.values ≡ values_at xs (p.at + 22) a.values
    evolution-near l a q e =
        let f = axes-found xs l p a q e in
        let few = evolution-few (here-evolved f.at) in
        let same : a.values ≡ (axes_at xs p.at).values = ap (λ (x : AxesPlan). x.values) f.numbers in
        values-front xs ys a.values (p.at + 22) (omega arith)

  -- ---- and so is a grid

  module _ (l : ℕ) (p : Place) (near : p.at ≤ 53507) (f f' : ℕ → Place → Out)
      (children : (b : BinsPlan) (q : Place) → field_of xs l p ≡ field.Found (record { child = child.Bins b; past = q }) → (s : ℕ) → trees_of f' s b.bins q ≡ trees_of f s b.bins q) where
    abbrev evolution : AxesPlan → List ℕ
    evolution a = values_at xs (p.at + 22) a.values

    abbrev evolution' : AxesPlan → List ℕ
    evolution' a = values_at zs (p.at + 22) a.values

    hung-near : (c : Child) (q : Place) → field_of xs l p ≡ field.Found (record { child = c; past = q }) → hung evolution' f' c q ≡ hung evolution f c q
    hung-near child.Nothing q e = refl
    hung-near (child.Axes a) q e = ap (λ (vs : List ℕ). Out.reads (axes a vs) q) (evolution-near p near l a q e)
    hung-near (child.Bins b) q e = ap (bins_to b) (children b q e (q.tally.words - b.bins))

    node-near : (F : Field) → field_of xs l p ≡ F → opened evolution' f' (field_of zs l p) ≡ opened evolution f F
    node-near (field.Stop n at) e = ap (opened evolution' f') (field-near p near l ∙ e)
    node-near (field.Found x) e = ap (opened evolution' f') (field-near p near l ∙ e) ∙ hung-near x.child x.past e

  module _ (l : ℕ) (same : (p : Place) (k : ℕ) → Spent p (k + 1) → tree_of (from_bytes zs) l p ≡ tree_of (from_bytes xs) l p) where
    abbrev before : ℕ → Place → Out
    before s x = tree_of (from_bytes xs) l x

    abbrev after : ℕ → Place → Out
    after s x = tree_of (from_bytes zs) l x

    first-near : (s n k : ℕ) (p : Place) (o : Out) → tree_of (from_bytes xs) l p ≡ o → Spent p (k + n + 1)
        → ((q : Place) → Spent q (k + n) → trees_of after (s + 1) n q ≡ trees_of before (s + 1) n q) → then o (λ q. trees_of after (s + 1) n q) ≡ then o (λ q. trees_of before (s + 1) n q)
    first-near s n k p (Out.stops m at) e h rest = refl
    first-near s n k p (Out.reads t q) e h rest = ap (cons_to t) (rest q (onto xs l p t q e (k + n) h))

    children-near : (n s k : ℕ) (p : Place) → Spent p (k + n) → trees_of after s n p ≡ trees_of before s n p
    unfolding trees_of
    children-near zero s k p h = refl
    children-near (suc n) s k p h =
        let i : Spent p (k + n + 1) = omega arith in
        ap (λ (o : Out). then o (λ q. trees_of after (s + 1) n q)) (same p (k + n) i)
        ∙ first-near s n k p (tree_of (from_bytes xs) l p) refl i (λ q j. children-near n (s + 1) k q j)

  tree-near : (l : ℕ) (p : Place) (k : ℕ) → Spent p (k + 1) → tree_of (from_bytes zs) l p ≡ tree_of (from_bytes xs) l p
  unfolding tree_of
  tree-near zero p k h =
      node-near 0 p (omega arith) (λ s q. Out.stops 2 q.at) (λ s q. Out.stops 2 q.at) (λ b q e s. refl) (field_of xs 0 p) refl
  tree-near (suc l) p k h =
      node-near (suc l) p (omega arith) (before l (tree-near l)) (after l (tree-near l)) (λ b q e s. children-near l (tree-near l) b.bins s k q (into-bins xs (suc l) p b q e k h)) (field_of xs (suc l) p) refl

  pub grid-near : grid_of zs ≡ grid_of xs
  unfolding grid_of
  grid-near = rw (byte-front xs ys 0 (omega arith), tree-near 4 begin 0 (omega arith))
