-- How to reason about a table that passed: a grid's record at its word, its children's links, and the stretches of lent memory,
-- which follow one another without a gap.
use mathlib.Core.Path.{◌≡◌, refl, sym, ap, ◌∙◌}
use mathlib.Core.Bool.{true}
use mathlib.Core.List.{List, ◌++◌, append_assoc}
use Prim.Native.Nat.{ℕ, zero, suc, ◌+◌, ◌-◌, ◌≤◌, ◌<◌}
use native.Mathlib.Nat.{add-zero}
use native.Mathlib.Omega.{arith}
use lib.ListN.{length, get_or, drop, length-append}
use lib.Seq.{drop-drop, drop-append_seam}
use Rattle.plan.specs.declared.Place.{Place}
use Rattle.plan.specs.declared.Tally.{Tally}
use Rattle.plan.specs.declared.Needs.{Needs}
use Rattle.plan.specs.declared.AxesPlan.{AxesPlan}
use Rattle.plan.specs.declared.BinsPlan.{BinsPlan}
use Rattle.plan.specs.Numbers.{run_of, words_at}
use Rattle.plan.specs.Plan.{Tree, Trees, nothing, axes, bins, none, more, count}
use Rattle.plan.specs.Needs.{axes_reals, axes_counts, bins_reals, bins_counts, axes_taken, bins_taken, after, after_all, child_at, before, untaken, needs_of}
use Rattle.plan.specs.Table.{head_axes, head_bins, link, links, rows, rows_all}
use Rattle.plan.specs.Bytes.{valid, valid_all}
use Rattle.plan.specs.Walk.{axes_row, bins_row}
use Rattle.plan.specs.Paper.{gives}
use Rattle.plan.specs.Calls.{sizes_of}
use Rattle.plan.proofs.Faults.{AxesOk, BinsOk, axes-free, bins-free}
use Rattle.plan.proofs.Trees.{AxesValid, axes-valid, bins-valid, more-valid, links-count, rows_words}
use Rattle.plan.proofs.Rows.{axes-met, bins-met, placed-shows}
use Rattle.plan.proofs.Tables.{Words}
use Rattle.plan.proofs.Rereads.{words_of, row-axes, row-bins, past-axes, past-bins, taken-words}
use Rattle.plan.proofs.Plans.{passed-holds}

-- 1. What stands in a table ---------------------------------------------------------------------------------------

-- a plan's tree stands at the word where the tally begins, with so many levels left
pub record Stands (xs : List ℕ) (l : ℕ) (t : Tree) (y : Tally) : Type 0 where
  pub plan : valid l t y ≡ true
  pub rest : List ℕ
  pub words : drop y.words xs ≡ rows l t y ++ rest
  pub room : (after t y).words ≤ length xs

-- the whole plan of a table that passed
pub record Root (xs : List ℕ) (n : Needs) : Type 0 where
  pub tree : Tree
  pub grid : tree ≡ nothing → ⊥
  pub stands : Stands xs 4 tree untaken
  pub needs : n ≡ needs_of (after tree untaken)

pub passed-stands : (xs : List ℕ) (n : Needs) → Words xs → sizes_of xs ≡ gives n → Root xs n
passed-stands xs n large e =
    let h = passed-holds xs n large e in
    let w : (after h.tree untaken).words ≡ 0 + length (rows 4 h.tree untaken) = rows_words 4 h.tree untaken h.plan.within in
    let m : length xs ≡ length (rows 4 h.tree untaken) + length h.rest = ap length h.words ∙ length-append (rows 4 h.tree untaken) h.rest in
    record {
      tree = h.tree;
      grid = h.plan.grid;
      stands = record { plan = h.plan.within; rest = h.rest; words = h.words; room = omega arith };
      needs = h.needs;
    }

-- 2. An axes grid's record ------------------------------------------------------------------------------------------

pub record AxesRecord (xs : List ℕ) (l : ℕ) (a : AxesPlan) (es : List ℕ) (y : Tally) : Type 0 where
  pub kind : get_or xs y.words 0 ≡ 1
  pub level : get_or xs (y.words + 1) 0 ≡ l
  pub numbers : axes_row xs y.words ≡ a
  pub reals : get_or xs (y.words + 9) 0 ≡ y.reals
  pub counts : get_or xs (y.words + 10) 0 ≡ y.counts
  pub values : words_at xs (y.words + 11) a.values ≡ es
  pub ranges : AxesOk a y.left
  pub planned : AxesValid a es y.left

pub axes-record : (xs : List ℕ) (l : ℕ) (a : AxesPlan) (es : List ℕ) (y : Tally) → Stands xs l (axes a es) y → AxesRecord xs l a es y
unfolding rows
axes-record xs l a es y s =
    let k = axes-valid l a es y s.plan in
    let p : Place = record { at = 0; tally = y } in
    let d : drop y.words xs ≡ head_axes l a y ++ (es ++ s.rest) = s.words ∙ append_assoc (head_axes l a y) es s.rest in
    let v : words_at xs (y.words + 11) a.values ≡ es =
    ap (λ (n : ℕ). words_at xs (y.words + 11) n) (sym k.number) ∙ words_of xs (y.words + 11) es s.rest (past-axes xs l a y (es ++ s.rest) d) in
    let m = axes-met xs l p a _ (row-axes xs l p a es s.rest k d v) in
    let f = placed-shows xs l y 9 m.at.place in
    record {
      kind = m.at.kind;
      level = f.level;
      numbers = sym m.numbers;
      reals = f.reals;
      counts = f.counts;
      values = v;
      ranges = axes-free a y.left k.free;
      planned = k;
    }

-- 3. A bins grid's record ---------------------------------------------------------------------------------------------

pub record BinsRecord (xs : List ℕ) (l : ℕ) (b : BinsPlan) (ts : Trees) (y : Tally) : Type 0 where
  pub kind : get_or xs y.words 0 ≡ 2
  pub level : get_or xs (y.words + 1) 0 ≡ l
  pub numbers : bins_row xs y.words ≡ b
  pub reals : get_or xs (y.words + 5) 0 ≡ y.reals
  pub counts : get_or xs (y.words + 6) 0 ≡ y.counts
  pub slots : words_at xs (y.words + 7) b.bins ≡ links ts (bins_taken b y)
  pub number : count ts ≡ b.bins
  pub ranges : BinsOk b y.left l

module _ (xs : List ℕ) (l : ℕ) (b : BinsPlan) (ts : Trees) (y : Tally) (s : Stands xs l (bins b ts) y) where
  spelled : drop y.words xs ≡ head_bins l b y ++ (links ts (bins_taken b y) ++ (rows_all (l - 1) ts (bins_taken b y) ++ s.rest))
  unfolding rows
  spelled = s.words ∙ append_assoc (head_bins l b y) _ s.rest ∙ ap (λ (o : List ℕ). head_bins l b y ++ o) (append_assoc (links ts (bins_taken b y)) _ s.rest)

  counted : length (links ts (bins_taken b y)) ≡ b.bins
  counted = links-count ts (bins_taken b y) ∙ (bins-valid l b ts y s.plan).number

  pub bins-record : BinsRecord xs l b ts y
  bins-record =
      let k = bins-valid l b ts y s.plan in
      let p : Place = record { at = 0; tally = y } in
      let m = bins-met xs l p b _ (row-bins xs l p b _ k.free spelled) in
      let f = placed-shows xs l y 5 m.at.place in
      record {
        kind = m.at.kind;
        level = f.level;
        numbers = sym m.numbers;
        reals = f.reals;
        counts = f.counts;
        slots = ap (words_at xs (y.words + 7)) (sym counted) ∙ words_of xs (y.words + 7) (links ts (bins_taken b y)) _ (past-bins xs l b y _ spelled);
        number = k.number;
        ranges = bins-free b y.left l k.free;
      }

-- 4. Its children --------------------------------------------------------------------------------------------------------

pub words-at : (xs : List ℕ) (k w i : ℕ) → i < k → get_or (words_at xs w k) i 0 ≡ get_or xs (w + i) 0
unfolding words_at run_of
words-at xs zero w i h = absurd (omega arith)
words-at xs (suc k) w zero h = rw add-zero
words-at xs (suc k) w (suc i) h = let e : w + suc i ≡ w + 1 + i = omega arith in rw e (words-at xs k (w + 1) i (omega arith))

links-at : (ts : Trees) (i : ℕ) (y : Tally) → i < count ts → get_or (links ts y) i 0 ≡ link (child_at ts i) (before ts i y)
unfolding links count child_at before
links-at none i y h = absurd (omega arith)
links-at (more t ts) zero y h = refl
links-at (more t ts) (suc i) y h = links-at ts i (after t y) (omega arith)

pub grid-link : (t : Tree) (y : Tally) → (t ≡ nothing → ⊥) → link t y ≡ y.words
unfolding link
grid-link nothing y g = absurd (g refl)
grid-link (axes a es) y g = refl
grid-link (bins b ts) y g = refl

-- one tally is reached from another by taking
pub record Upto (y u : Tally) : Type 0 where
  pub words : y.words ≤ u.words
  pub reals : y.reals ≤ u.reals
  pub counts : y.counts ≤ u.counts
  pub bins : y.bins ≤ u.bins

pub upto-same : (y : Tally) → Upto y y
upto-same y = record { words = omega arith; reals = omega arith; counts = omega arith; bins = omega arith }

pub upto-on : {y u z : Tally} → Upto y u → Upto u z → Upto y z
upto-on a b = record {
  words = omega (arith, a.words, b.words);
  reals = omega (arith, a.reals, b.reals);
  counts = omega (arith, a.counts, b.counts);
  bins = omega (arith, a.bins, b.bins);
}

upto-axes : (a : AxesPlan) (y : Tally) → Upto y (axes_taken a y)
unfolding axes_taken
upto-axes a y = record { words = omega arith; reals = omega arith; counts = omega arith; bins = omega arith }

pub upto-bins : (b : BinsPlan) (y : Tally) → Upto y (bins_taken b y)
unfolding bins_taken
upto-bins b y = record { words = omega arith; reals = omega arith; counts = omega arith; bins = omega arith }

mutual
  unfolding after

  pub upto-after : (t : Tree) (y : Tally) → Upto y (after t y)
  upto-after nothing y = upto-same y
  upto-after (axes a es) y = upto-axes a y
  upto-after (bins b ts) y = upto-on (upto-bins b y) (upto_all ts (bins_taken b y))

  pub upto_all : (ts : Trees) (y : Tally) → Upto y (after_all ts y)
  upto_all none y = upto-same y
  upto_all (more t ts) y = upto-on (upto-after t y) (upto_all ts (after t y))

-- children lie one behind the other, the first behind the bins grid's own record and stretches
pub upto_before : (ts : Trees) (i : ℕ) (y : Tally) → Upto y (before ts i y)
unfolding before
upto_before none i y = upto-same y
upto_before (more t ts) zero y = upto-same y
upto_before (more t ts) (suc i) y = upto-on (upto-after t y) (upto_before ts i (after t y))

before-first : (ts : Trees) (y : Tally) → before ts 0 y ≡ y
unfolding before
before-first none y = refl
before-first (more t ts) y = refl

pub before-next : (ts : Trees) (i : ℕ) (y : Tally) → i < count ts → before ts (suc i) y ≡ after (child_at ts i) (before ts i y)
unfolding before child_at count
before-next none i y h = absurd (omega arith)
before-next (more t ts) zero y h = before-first ts (after t y)
before-next (more t ts) (suc i) y h = before-next ts i (after t y) (omega arith)

pub upto-end : (ts : Trees) (i : ℕ) (y : Tally) → i < count ts → Upto (after (child_at ts i) (before ts i y)) (after_all ts y)
unfolding before child_at count after
upto-end none i y h = absurd (omega arith)
upto-end (more t ts) zero y h = upto_all ts (after t y)
upto-end (more t ts) (suc i) y h = upto-end ts i (after t y) (omega arith)

past-rows : (xs : List ℕ) (l : ℕ) (t : Tree) (y : Tally) (rest : List ℕ) → valid l t y ≡ true → drop y.words xs ≡ rows l t y ++ rest → drop (after t y).words xs ≡ rest
past-rows xs l t y rest v e =
    ap (λ (i : ℕ). drop i xs) (rows_words l t y v) ∙ sym (drop-drop (length (rows l t y)) y.words xs) ∙ ap (drop (length (rows l t y))) e ∙ drop-append_seam (rows l t y) rest

children-stand : (xs : List ℕ) (l : ℕ) (ts : Trees) (i : ℕ) (y : Tally) (rest : List ℕ) → valid_all l ts y ≡ true → drop y.words xs ≡ rows_all l ts y ++ rest → (after_all ts y).words ≤ length xs
    → i < count ts → Stands xs l (child_at ts i) (before ts i y)
unfolding before child_at count after rows
children-stand xs l none i y rest v e r h = absurd (omega arith)
children-stand xs l (more t ts) zero y rest v e r h =
    let k = more-valid l t ts y v in
    let u = (upto_all ts (after t y)).words in
    record { plan = k.head; rest = rows_all l ts (after t y) ++ rest; words = e ∙ append_assoc (rows l t y) (rows_all l ts (after t y)) rest; room = omega arith }
children-stand xs l (more t ts) (suc i) y rest v e r h =
    let k = more-valid l t ts y v in
    children-stand xs l ts i (after t y) rest k.tail (past-rows xs l t y (rows_all l ts (after t y) ++ rest) k.head (e ∙ append_assoc (rows l t y) (rows_all l ts (after t y)) rest)) r (omega arith)

-- the i-th child: its link, what stands there, and that it lies behind its parent's record and within what its parent takes
pub record ChildRecord (xs : List ℕ) (l : ℕ) (b : BinsPlan) (ts : Trees) (y : Tally) (i : ℕ) : Type 0 where
  pub linked : get_or xs (y.words + 7 + i) 0 ≡ link (child_at ts i) (before ts i (bins_taken b y))
  pub stands : Stands xs (l - 1) (child_at ts i) (before ts i (bins_taken b y))
  pub behind : Upto (bins_taken b y) (before ts i (bins_taken b y))
  pub inside : Upto (after (child_at ts i) (before ts i (bins_taken b y))) (after (bins b ts) y)

pub child-record : (xs : List ℕ) (l : ℕ) (b : BinsPlan) (ts : Trees) (y : Tally) (i : ℕ) → Stands xs l (bins b ts) y → i < b.bins → ChildRecord xs l b ts y i
unfolding after
child-record xs l b ts y i s h =
    let k = bins-valid l b ts y s.plan in
    let r = bins-record xs l b ts y s in
    let c : i < count ts = omega (arith, k.number) in
    let d = past-bins xs l b y _ (spelled xs l b ts y s) in
    let e : drop (bins_taken b y).words xs ≡ rows_all (l - 1) ts (bins_taken b y) ++ s.rest =
    ap (λ (n : ℕ). drop n xs) (taken-words b y ∙ ap (λ (n : ℕ). y.words + 7 + n) (sym (counted xs l b ts y s))) ∙ sym (drop-drop (length (links ts (bins_taken b y))) (y.words + 7) xs)
    ∙ ap (drop (length (links ts (bins_taken b y)))) d ∙ drop-append_seam (links ts (bins_taken b y)) _ in
    record {
      linked = sym (words-at xs b.bins (y.words + 7) i h) ∙ ap (λ (o : List ℕ). get_or o i 0) r.slots ∙ links-at ts i (bins_taken b y) c;
      stands = children-stand xs (l - 1) ts i (bins_taken b y) s.rest k.rest e s.room c;
      behind = upto_before ts i (bins_taken b y);
      inside = upto-end ts i (bins_taken b y) c;
    }

-- a child's link points forward, past its parent's links
pub link-forward : (xs : List ℕ) (l : ℕ) (b : BinsPlan) (ts : Trees) (y : Tally) (i : ℕ) → Stands xs l (bins b ts) y → i < b.bins → (child_at ts i ≡ nothing → ⊥)
    → y.words + 7 + b.bins ≤ get_or xs (y.words + 7 + i) 0
link-forward xs l b ts y i s h g =
    let c = child-record xs l b ts y i s h in
    let e = c.linked ∙ grid-link (child_at ts i) (before ts i (bins_taken b y)) g in
    omega (arith, c.behind.words, taken-words b y)

-- 5. What a grid takes of the lent memory is its own ---------------------------------------------------------------------------

-- an axes grid's stretches begin where the tally stood and end where it stands then
pub axes-stretch : (a : AxesPlan) (es : List ℕ) (y : Tally) → ((after (axes a es) y).reals ≡ y.reals + axes_reals a) × ((after (axes a es) y).counts ≡ y.counts + axes_counts a)
unfolding after axes_taken
axes-stretch a es y = (refl, refl)

-- so do a bins grid's own; its children's follow
pub bins-stretch : (b : BinsPlan) (y : Tally) → ((bins_taken b y).reals ≡ y.reals + bins_reals b) × ((bins_taken b y).counts ≡ y.counts + bins_counts b)
unfolding bins_taken
bins-stretch b y = (refl, refl)
