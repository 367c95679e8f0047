-- The writer: what stands in the table, and then what is left to write, is the whole.
use mathlib.Core.Path.{◌≡◌, refl, sym, ap, ◌∙◌}
use mathlib.Core.List.{List, ◌++◌}
use Prim.Native.Nat.{ℕ, suc, ◌+◌, ◌-◌, ◌≤◌, ◌<◌}
use native.Mathlib.Numerals.{add-one}
use native.Mathlib.Omega.{arith}
use lib.ListN.{length, set, length-set}
use lib.Seq.{sets, length-sets}
use Rattle.plan.specs.declared.Place.{Place}
use Rattle.plan.specs.declared.Tally.{Tally}
use Rattle.plan.specs.declared.AxesPlan.{AxesPlan}
use Rattle.plan.specs.declared.BinsPlan.{BinsPlan}
use Rattle.plan.specs.declared.BinPlan.{BinPlan}
use Rattle.plan.specs.declared.Child.TheVariants as child
use Rattle.std.specs.Prelude.{Result, Ok, Err}
use Rattle.std.specs.Result.{IsOk}
use Rattle.plan.specs.declared.Misread.{Misread}
use Rattle.plan.specs.Judged.{judged, Stop, Found}
use Rattle.plan.specs.Numbers.{values_at}
use Rattle.plan.specs.Plan.{Tree, Trees, axes, bins, none, more}
use Rattle.plan.specs.Needs.{axes_taken, bins_taken, after}
use Rattle.plan.specs.Fields.{axes_at, field_of}
use Rattle.plan.specs.Reading.{Out, Outs, bins_to, trees_of, tree_of, from_bytes, step_of, steps_of}
use Rattle.plan.specs.Table.{head_axes, head_bins, link, links, rows, rows_all, link_at}
use Rattle.plan.specs.Bounds.{Inside}
use Rattle.plan.specs.Writing.{Writable, AllWritable, laid, spread, laid_all}
use Rattle.plan.proofs.Stores.{sets-append, sets-comm}
use Rattle.plan.proofs.Faults.{evolution-few}
use Rattle.plan.proofs.Trees.{links-count, rows_words, rows-all-words}
use Rattle.plan.proofs.Here.{as-found, AxesFound, BinsFound, axes-found, bins-found, here-evolved, past-inside, deep}
use Rattle.plan.proofs.Readings.{First, first, Within, inside, stops-reads, tree-stop, tree-nothing, tree-axes, tree-bins}
use Rattle.plan.proofs.Accepts.{Sound, SoundAll, sound, sound-all, sound-inside}

-- 1. One turn, on plain lists ---------------------------------------------------------------------------

turn : (l s : ℕ) (y : Tally) (t : Tree) (ts : Trees) (u : Tally) (xs : List ℕ) → u ≡ after t y → u.words ≡ y.words + length (rows l t y) → s + 1 + length (links ts u) ≤ y.words
    → spread l (s + 1) u ts (sets (set xs s (link t y)) y.words (rows l t y)) ≡ spread l s y (more t ts) xs
unfolding spread rows links
turn l s y t ts u xs e k h =
    ap (λ (S : List ℕ). sets S u.words (rows_all l ts u)) (sets-comm (set xs s (link t y)) y.words (rows l t y) (s + 1) (links ts u) h)
    ∙ ap (λ (n : ℕ). sets (sets (sets (set xs s (link t y)) (s + 1) (links ts u)) y.words (rows l t y)) n (rows_all l ts u)) k
    ∙ sym (sets-append (sets (set xs s (link t y)) (s + 1) (links ts u)) y.words (rows l t y) (rows_all l ts u))
    ∙ rw (add-one s, e)

-- a record, its links and what hangs there are the grid's rows
rows-bins : (l : ℕ) (b : BinsPlan) (ts : Trees) (y : Tally) (xs : List ℕ) → length (links ts (bins_taken b y)) ≡ b.bins
    → spread (l - 1) (y.words + 7) (bins_taken b y) ts (sets xs y.words (head_bins l b y)) ≡ sets xs y.words (rows l (bins b ts) y)
unfolding spread rows head_bins bins_taken
rows-bins l b ts y xs c =
    let e : y.words + 7 + length (links ts (bins_taken b y)) ≡ y.words + (7 + b.bins) = omega arith in
    sym (sets-append xs y.words (head_bins l b y) (links ts (bins_taken b y) ++ rows_all (l - 1) ts (bins_taken b y))
    ∙ sets-append (sets xs y.words (head_bins l b y)) (y.words + 7) (links ts (bins_taken b y)) (rows_all (l - 1) ts (bins_taken b y))
    ∙ ap (λ (m : ℕ). sets (sets (sets xs y.words (head_bins l b y)) (y.words + 7) (links ts (bins_taken b y))) m (rows_all (l - 1) ts (bins_taken b y))) e)

rows-axes : (l : ℕ) (a : AxesPlan) (es : List ℕ) (y : Tally) (xs : List ℕ) → sets (sets xs y.words (head_axes l a y)) (y.words + 11) es ≡ sets xs y.words (rows l (axes a es) y)
unfolding rows head_axes
rows-axes l a es y xs = sym (sets-append xs y.words (head_axes l a y) es)

-- 2. The loop -------------------------------------------------------------------------------------------

pub record Writing (bs : List ℕ) (l n slot : ℕ) (begin : Place) (old new : List ℕ) (here : Place) (i : ℕ) : Type 0 where
  pub low : i ≤ n
  pub inside : Inside bs here
  pub same : length new ≡ length old
  pub all : Trees
  pub stop : Place
  pub whole : trees_of (λ s q. tree_of (from_bytes bs) l q) slot n begin ≡ Outs.reads all stop
  pub rest : Trees
  pub ahead : trees_of (λ s q. tree_of (from_bytes bs) l q) (slot + i) (n - i) here ≡ Outs.reads rest stop
  pub apart : slot + n ≤ here.tally.words
  pub room : stop.tally.words ≤ length old
  pub done : spread l (slot + i) here.tally rest new ≡ spread l slot begin.tally all old

module _ {bs : List ℕ} {l n slot : ℕ} {begin : Place} {old new : List ℕ} {here : Place} {i : ℕ} (v : Writing bs l n slot begin old new here i) where
  all_words : (m s : ℕ) (p : Place) (ts : Trees) → SoundAll bs l m p ts v.stop → p.tally.words ≤ v.stop.tally.words
  all_words m s p ts a =
      let e = ap (λ (y : Tally). y.words) a.end in
      omega (arith, rows-all-words l ts p.tally a.plan)

  pub slot-in : i < n → slot + i < length new
  slot-in h =
      let a = sound-all bs v.inside.small l (slot + i) (n - i) here v.rest v.stop v.ahead in
      omega (arith, all_words (n - i) slot here v.rest a, v.apart, v.room, v.same)

  module _ (h : i < n) where
    next : First (tree_of (from_bytes bs) l here) (λ u. trees_of (λ s q. tree_of (from_bytes bs) l q) (slot + (i + 1)) (n - (i + 1)) u) v.rest v.stop
    unfolding trees_of
    next =
        let e : n - i ≡ suc (n - (i + 1)) = omega arith in
        let d : slot + (i + 1) ≡ slot + i + 1 = omega arith in
        first _ _ v.rest v.stop (rw d (rw e at v.ahead))

    head : Sound bs l here next.head next.mid
    head = sound bs v.inside.small l here next.head next.mid next.child

    tail : SoundAll bs l (n - (i + 1)) next.mid next.tail v.stop
    tail = sound-all bs v.inside.small l (slot + (i + 1)) (n - (i + 1)) next.mid next.tail v.stop next.rest

    grown : next.mid.tally.words ≡ here.tally.words + length (rows l next.head here.tally)
    grown = ap (λ (y : Tally). y.words) head.end ∙ rows_words l next.head here.tally head.plan

    pub writing-child : (x : ℕ) → Writable bs l here (length (set new (slot + i) x))
    writing-child x = record {
      inside = v.inside;
      tree = next.head;
      stop = next.mid;
      read = next.child;
      room = rw length-set (omega (arith, all_words (n - (i + 1)) slot next.mid next.tail tail, v.room, v.same));
    }

    module _ (x : ℕ) (e : x ≡ link_at bs here) (q : Place) (d : Found q ≡ step_of (tree_of (from_bytes bs) l here)) (newer : List ℕ)
        (w : newer ≡ laid l here.tally (tree_of (from_bytes bs) l here) (set new (slot + i) x)) where
      mid : q ≡ next.mid
      mid = let y : Found q ≡ Found next.mid = d ∙ ap step_of next.child in cc

      child-laid : newer ≡ sets (set new (slot + i) (link next.head here.tally)) here.tally.words (rows l next.head here.tally)
      child-laid =
          w ∙ ap (λ (o : Out). laid l here.tally o (set new (slot + i) x)) next.child
          ∙ ap (λ (m : ℕ). sets (set new (slot + i) m) here.tally.words (rows l next.head here.tally)) (e ∙ head.linked)

      finish : spread l (slot + (i + 1)) next.mid.tally next.tail newer ≡ spread l slot begin.tally v.all old
      finish =
          let a : slot + (i + 1) ≡ slot + i + 1 = omega arith in
          let c = links-count next.tail next.mid.tally in
          rw (a, child-laid) (turn l (slot + i) here.tally next.head next.tail next.mid.tally new head.end grown (omega (arith, tail.number, v.apart))
          ∙ ap (λ (ts : Trees). spread l (slot + i) here.tally ts new) (sym next.all) ∙ v.done)

      pub writing-next : Writing bs l n slot begin old newer q (i + 1)
      writing-next =
          rw mid record {
            low = omega arith;
            inside = sound-inside v.inside head;
            same = rw child-laid (length-sets (set new (slot + i) (link next.head here.tally)) here.tally.words (rows l next.head here.tally) ∙ length-set new (slot + i) (link next.head here.tally) ∙ v.same);
            all = v.all;
            stop = v.stop;
            whole = v.whole;
            rest = next.tail;
            ahead = next.rest;
            apart = omega (arith, grown, v.apart);
            room = v.room;
            done = finish;
          }

  module _ (h : n ≤ i) where
    last-read : Outs.reads none here ≡ Outs.reads v.rest v.stop
    unfolding trees_of
    last-read = let e : n - i ≡ 0 = omega arith in rw e at v.ahead

    pub writing-stop : Found here ≡ steps_of (trees_of (λ s q. tree_of (from_bytes bs) l q) slot n begin)
    writing-stop = let y = last-read in let z : here ≡ v.stop = cc in rw (v.whole, z)

    pub writing-end : new ≡ laid_all l slot begin.tally (trees_of (λ s q. tree_of (from_bytes bs) l q) slot n begin) old
    unfolding spread rows links
    writing-end = let y = last-read in let z : none ≡ v.rest = cc in rw v.whole (ap (λ (ts : Trees). spread l (slot + i) here.tally ts new) z ∙ v.done)

-- 3. What the code meets --------------------------------------------------------------------------------

pub record Wrote (bs : List ℕ) (l : ℕ) (p : Place) (old : List ℕ) (r : Place) (new : List ℕ) : Type 0 where
  pub place : Found r ≡ step_of (tree_of (from_bytes bs) l p)
  pub table : new ≡ laid l p.tally (tree_of (from_bytes bs) l p) old

module _ (bs : List ℕ) (l : ℕ) (p : Place) where
  pub wrote-stop : {n at m : ℕ} (P : Type 0) → Writable bs l p m → Stop n at ≡ field_of bs l p → P
  wrote-stop P w e = stops-reads (sym (tree-stop (from_bytes bs) l p (sym e)) ∙ w.read)

  pub writable-found : {m : ℕ} (r : Result BinPlan Misread) → Writable bs l p m → judged r ≡ field_of bs l p → IsOk r
  writable-found (Ok x) w e = refl
  writable-found (Err m) w e = wrote-stop _ w e

  module _ {x : BinPlan} (e : Found x ≡ field_of bs l p) where
    pub wrote_nothing : (old : List ℕ) → x.child ≡ child.Nothing → Wrote bs l p old x.past old
    unfolding rows
    wrote_nothing old h = let t = tree-nothing (from_bytes bs) l p (as-found e h) in record { place = rw t; table = rw t }

    module _ {a : AxesPlan} (h : x.child ≡ child.Axes a) where
      read-axes : tree_of (from_bytes bs) l p ≡ Out.reads (axes a (values_at bs (p.at + 22) a.values)) x.past
      read-axes = tree-axes (from_bytes bs) l p (as-found e h)

      axes-is : AxesFound bs p a x.past
      axes-is = axes-found bs l p a x.past (as-found e h)

      pub axes-few : a.values ≤ 16
      axes-few = rw axes-is.numbers (evolution-few (here-evolved axes-is.at))

      pub axes-room : {n : ℕ} → Writable bs l p n → p.tally.words + 11 + a.values ≤ n
      unfolding axes_taken
      axes-room w =
          let y : Out.reads (axes a (values_at bs (p.at + 22) a.values)) x.past ≡ Out.reads w.tree w.stop = sym read-axes ∙ w.read in
          let z : x.past ≡ w.stop = cc in
          let u : w.stop.tally.words ≡ p.tally.words + (11 + (axes_at bs p.at).values) = ap (λ (q : Place). q.tally.words) (sym z ∙ axes-is.past) in
          let k : (axes_at bs p.at).values ≡ a.values = ap (λ (b : AxesPlan). b.values) (sym axes-is.numbers) in
          omega (arith, w.room)

      pub wrote-axes : (old mid new : List ℕ) → mid ≡ sets old p.tally.words (head_axes l a p.tally) → new ≡ sets mid (p.tally.words + 11) (values_at bs (p.at + 22) a.values)
          → Wrote bs l p old x.past new
      wrote-axes old mid new m w = record { place = rw read-axes; table = rw (read-axes, w, m) (rows-axes l a (values_at bs (p.at + 22) a.values) p.tally old) }

    module _ {b : BinsPlan} (h : x.child ≡ child.Bins b) where
      bins-is : BinsFound bs l p b x.past
      bins-is = bins-found bs l p b x.past (as-found e h)

      past_is : x.past.tally ≡ bins_taken b p.tally
      past_is = ap (λ (q : Place). q.tally) bins-is.past ∙ ap (λ (c : BinsPlan). bins_taken c p.tally) (sym bins-is.numbers)

      past_words : x.past.tally.words ≡ p.tally.words + (7 + b.bins)
      unfolding bins_taken
      past_words = ap (λ (y : Tally). y.words) past_is

      read-bins : tree_of (from_bytes bs) l p ≡ bins_to b (trees_of (λ s q. tree_of (from_bytes bs) (l - 1) q) (p.tally.words + 7) b.bins x.past)
      read-bins =
          let s : x.past.tally.words - b.bins ≡ p.tally.words + 7 = omega (arith, past_words) in
          tree-bins (from_bytes bs) l p (deep bs l p e h) (as-found e h) ∙ ap (λ (m : ℕ). bins_to b (trees_of (λ s q. tree_of (from_bytes bs) (l - 1) q) m b.bins x.past)) s

      module _ {n : ℕ} (w : Writable bs l p n) where
        kids : Within b (trees_of (λ s q. tree_of (from_bytes bs) (l - 1) q) (p.tally.words + 7) b.bins x.past) w.tree w.stop
        kids = inside b _ w.tree w.stop (sym read-bins ∙ w.read)

        kids-sound : SoundAll bs (l - 1) b.bins x.past kids.children w.stop
        kids-sound = sound-all bs w.inside.small (l - 1) (p.tally.words + 7) b.bins x.past kids.children w.stop kids.read

        pub bins-room : p.tally.words + 7 ≤ n
        bins-room =
            let k = kids-sound in
            let e = ap (λ (y : Tally). y.words) k.end in
            omega (arith, rows-all-words (l - 1) kids.children x.past.tally k.plan, past_words, w.room)

        pub all-writable : (m : ℕ) → m ≡ n → AllWritable bs (l - 1) b.bins (p.tally.words + 7) x.past m
        all-writable m z = record {
          inside = past-inside l w.inside x e;
          trees = kids.children;
          stop = w.stop;
          read = kids.read;
          apart = omega (arith, past_words);
          room = rw z w.room;
        }

        pub wrote-bins : (old mid new : List ℕ) (r : Place) → mid ≡ sets old p.tally.words (head_bins l b p.tally)
            → Found r ≡ steps_of (trees_of (λ s q. tree_of (from_bytes bs) (l - 1) q) (p.tally.words + 7) b.bins x.past)
            → new ≡ laid_all (l - 1) (p.tally.words + 7) x.past.tally (trees_of (λ s q. tree_of (from_bytes bs) (l - 1) q) (p.tally.words + 7) b.bins x.past) mid
            → Wrote bs l p old r new
        wrote-bins old mid new r m d g =
            let t : tree_of (from_bytes bs) l p ≡ Out.reads (bins b kids.children) w.stop = read-bins ∙ ap (bins_to b) kids.read in
            let c : length (links kids.children (bins_taken b p.tally)) ≡ b.bins = links-count kids.children (bins_taken b p.tally) ∙ kids-sound.number in
            record {
              place = rw t (d ∙ ap steps_of kids.read);
              table = rw t (g ∙ ap (λ (o : Outs). laid_all (l - 1) (p.tally.words + 7) x.past.tally o mid) kids.read
                  ∙ ap (λ (y : Tally). spread (l - 1) (p.tally.words + 7) y kids.children mid) past_is ∙ rw m (rows-bins l b kids.children p.tally old c));
            }
