-- The table that a plan is written to passes, and gives the plan back.
use mathlib.Core.Path.{◌≡◌, refl, sym, ap, ◌∙◌}
use mathlib.Core.Bool.{true}
use mathlib.Core.List.{List, [], ◌∷◌, ◌++◌, append_assoc}
use Prim.Native.Nat.{ℕ, ◌+◌, ◌-◌, ◌<◌}
use native.Mathlib.Nat.{add-zero}
use native.Mathlib.Omega.{arith}
use lib.ListN.{length, get_or, drop}
use lib.Seq.{drop-drop, drop-append_seam, get_or-drop}
use borrow.Author.Tests.{eq-eqb, ne_eqb, le-leb, lt-ltb}
use Rattle.plan.specs.declared.Place.{Place}
use Rattle.plan.specs.declared.Tally.{Tally}
use Rattle.plan.specs.declared.AxesPlan.{AxesPlan}
use Rattle.plan.specs.declared.BinsPlan.{BinsPlan}
use Rattle.plan.specs.declared.Child.TheVariants as child
use Rattle.plan.specs.Numbers.{run_of, words_at}
use Rattle.plan.specs.Plan.{Tree, Trees, nothing, axes, bins, none, more, count}
use Rattle.plan.specs.Needs.{axes_taken, bins_taken, after, after_all}
use Rattle.plan.specs.Fields.{bins_fault}
use Rattle.plan.specs.Reading.{Out, Outs, bins_to, trees_of, tree_of}
use Rattle.plan.specs.Table.{head_axes, head_bins, link, links, rows, rows_all}
use Rattle.plan.specs.Bytes.{valid, valid_all}
use Rattle.plan.specs.Walk.{axes_row, bins_row, placed, evolved, axes_at_word, bins_at_word, row_of, child_of, from_table}
use Rattle.plan.proofs.Numbers.{read_one}
use Rattle.plan.proofs.Faults.{bins-free}
use Rattle.plan.proofs.Trees.{AxesValid, axes-valid, bins-valid, more-valid, links-count, rows_words}
use Rattle.plan.proofs.Here.{found}
use Rattle.plan.proofs.Readings.{tree-axes, tree-bins}
use Rattle.plan.proofs.Tables.{axes-grid, bins-grid}

-- 1. A record -------------------------------------------------------------------------------------------------

word_of : (xs : List ℕ) (w : ℕ) (enc : List ℕ) (i : ℕ) → drop w xs ≡ enc → get_or xs (w + i) 0 ≡ get_or enc i 0
word_of xs w enc i e = sym (get_or-drop w xs i 0) ∙ ap (λ (l : List ℕ). get_or l i 0) e

pub words_of : (xs : List ℕ) (w : ℕ) (ys rest : List ℕ) → drop w xs ≡ ys ++ rest → words_at xs w (length ys) ≡ ys
unfolding words_at run_of
words_of xs w [] rest e = refl
words_of xs w (y ∷ ys) rest e =
    let r = read_one xs w (w + 1) y (ys ++ rest) refl e in
    rw (r.value, words_of xs (w + 1) ys rest r.next)

pub row-axes : (xs : List ℕ) (l : ℕ) (p : Place) (a : AxesPlan) (es rest : List ℕ) → AxesValid a es p.tally.left → drop p.tally.words xs ≡ head_axes l a p.tally ++ (es ++ rest)
    → words_at xs (p.tally.words + 11) a.values ≡ es → row_of xs l p ≡ found (child.Axes a) p.at (axes_taken a p.tally)
unfolding head_axes row_of axes_at_word placed evolved axes_row
row-axes xs l p a es rest v e g =
    let w = p.tally.words in
    let y = p.tally in
    let z : w + 0 ≡ w = add-zero w in
    let k0 : get_or xs w 0 ≡ 1 = rw z at (word_of xs w _ 0 e) in
    let k1 : get_or xs (w + 1) 0 ≡ l = word_of xs w _ 1 e in
    let k2 : get_or xs (w + 2) 0 ≡ a.axes = word_of xs w _ 2 e in
    let k3 : get_or xs (w + 3) 0 ≡ a.bins = word_of xs w _ 3 e in
    let k4 : get_or xs (w + 4) 0 ≡ a.least = word_of xs w _ 4 e in
    let k5 : get_or xs (w + 5) 0 ≡ a.flag = word_of xs w _ 5 e in
    let k6 : get_or xs (w + 6) 0 ≡ a.floor = word_of xs w _ 6 e in
    let k7 : get_or xs (w + 7) 0 ≡ a.most = word_of xs w _ 7 e in
    let k8 : get_or xs (w + 8) 0 ≡ a.values = word_of xs w _ 8 e in
    let k9 : get_or xs (w + 9) 0 ≡ y.reals = word_of xs w _ 9 e in
    let k10 : get_or xs (w + 10) 0 ≡ y.counts = word_of xs w _ 10 e in
    rw (
      k0,
      k1,
      k2,
      k3,
      k4,
      k5,
      k6,
      k7,
      k8,
      k9,
      k10,
      eq-eqb l l refl,
      eq-eqb y.reals y.reals refl,
      eq-eqb y.counts y.counts refl,
      v.free,
      lt-ltb a.least 0x1_0000_0000 v.least,
      le-leb a.values 16 v.few,
      g,
      v.inbounds,
      eq-eqb _ _ v.most,
    )

pub row-bins : (xs : List ℕ) (l : ℕ) (p : Place) (b : BinsPlan) (rest : List ℕ) → bins_fault b p.tally.left l ≡ 0 → drop p.tally.words xs ≡ head_bins l b p.tally ++ rest
    → row_of xs l p ≡ found (child.Bins b) p.at (bins_taken b p.tally)
unfolding head_bins row_of bins_at_word placed bins_row
row-bins xs l p b rest f e =
    let w = p.tally.words in
    let y = p.tally in
    let z : w + 0 ≡ w = add-zero w in
    let k0 : get_or xs w 0 ≡ 2 = rw z at (word_of xs w _ 0 e) in
    let k1 : get_or xs (w + 1) 0 ≡ l = word_of xs w _ 1 e in
    let k2 : get_or xs (w + 2) 0 ≡ b.bins = word_of xs w _ 2 e in
    let k3 : get_or xs (w + 3) 0 ≡ b.ratio = word_of xs w _ 3 e in
    let k4 : get_or xs (w + 4) 0 ≡ b.flag = word_of xs w _ 4 e in
    let k5 : get_or xs (w + 5) 0 ≡ y.reals = word_of xs w _ 5 e in
    let k6 : get_or xs (w + 6) 0 ≡ y.counts = word_of xs w _ 6 e in
    rw (k0, k1, k2, k3, k4, k5, k6, eq-eqb l l refl, eq-eqb y.reals y.reals refl, eq-eqb y.counts y.counts refl, f)

pub past-axes : (xs : List ℕ) (l : ℕ) (a : AxesPlan) (y : Tally) (rest : List ℕ) → drop y.words xs ≡ head_axes l a y ++ rest → drop (y.words + 11) xs ≡ rest
unfolding head_axes
past-axes xs l a y rest e = sym (drop-drop 11 y.words xs) ∙ ap (drop 11) e

pub past-bins : (xs : List ℕ) (l : ℕ) (b : BinsPlan) (y : Tally) (rest : List ℕ) → drop y.words xs ≡ head_bins l b y ++ rest → drop (y.words + 7) xs ≡ rest
unfolding head_bins
past-bins xs l b y rest e = sym (drop-drop 7 y.words xs) ∙ ap (drop 7) e

-- 2. A child ----------------------------------------------------------------------------------------------------

child-at : (xs : List ℕ) (f : Place → Out) (s : ℕ) (p : Place) → 0 < p.tally.words → get_or xs s 0 ≡ p.tally.words → child_of xs f s p ≡ f p
unfolding child_of
child-at xs f s p h e =
    let n : p.tally.words ≡ 0 → ⊥ = λ y. absurd (omega arith) in
    rw (e, ne_eqb p.tally.words 0 n, eq-eqb p.tally.words p.tally.words refl)

child-empty : (xs : List ℕ) (f : Place → Out) (s : ℕ) (p : Place) → get_or xs s 0 ≡ 0 → child_of xs f s p ≡ Out.reads nothing p
unfolding child_of
child-empty xs f s p e = rw e

-- the walk ends where the tree does, at the byte where it began
abbrev pub onward : Tree → Place → Place
onward t p = record { at = p.at; tally = after t p.tally }

child-kept : (xs : List ℕ) (t : Tree) (l s : ℕ) (p : Place) → 0 < p.tally.words → get_or xs s 0 ≡ link t p.tally → ((t ≡ nothing → ⊥) → tree_of (from_table xs) l p ≡ Out.reads t (onward t p))
    → child_of xs (tree_of (from_table xs) l) s p ≡ Out.reads t (onward t p)
unfolding after link
child-kept xs nothing l s p h k i = child-empty xs (tree_of (from_table xs) l) s p k
child-kept xs (axes a es) l s p h k i = child-at xs (tree_of (from_table xs) l) s p h k ∙ i (axes-grid a es)
child-kept xs (bins b ts) l s p h k i = child-at xs (tree_of (from_table xs) l) s p h k ∙ i (bins-grid b ts)

taken-some : (b : BinsPlan) (y : Tally) → 0 < (bins_taken b y).words
unfolding bins_taken
taken-some b y = omega arith

taken-slot : (b : BinsPlan) (y : Tally) → (bins_taken b y).words - b.bins ≡ y.words + 7
unfolding bins_taken
taken-slot b y = omega arith

pub taken-words : (b : BinsPlan) (y : Tally) → (bins_taken b y).words ≡ y.words + 7 + b.bins
unfolding bins_taken
taken-words b y = omega arith

-- 3. The whole ----------------------------------------------------------------------------------------------------

mutual
  unfolding after rows links count trees_of link words_at run_of

  pub grid-kept : (xs : List ℕ) (t : Tree) (l : ℕ) (p : Place) (rest : List ℕ) → (t ≡ nothing → ⊥) → valid l t p.tally ≡ true → drop p.tally.words xs ≡ rows l t p.tally ++ rest
      → tree_of (from_table xs) l p ≡ Out.reads t (onward t p)
  grid-kept xs nothing l p rest g v e = absurd (g refl)
  grid-kept xs (axes a es) l p rest g v e =
      let k = axes-valid l a es p.tally v in
      let d = e ∙ append_assoc (head_axes l a p.tally) es rest in
      let w = ap (λ (n : ℕ). words_at xs (p.tally.words + 11) n) (sym k.number) ∙ words_of xs (p.tally.words + 11) es rest (past-axes xs l a p.tally (es ++ rest) d) in
      tree-axes (from_table xs) l p (row-axes xs l p a es rest k d w) ∙ ap (λ (vs : List ℕ). Out.reads (axes a vs) (onward (axes a es) p)) w
  grid-kept xs (bins b ts) l p rest g v e =
      let k = bins-valid l b ts p.tally v in
      let y = p.tally in
      let q : Place = record { at = p.at; tally = bins_taken b y } in
      let d : drop y.words xs ≡ head_bins l b y ++ (links ts (bins_taken b y) ++ (rows_all (l - 1) ts (bins_taken b y) ++ rest)) =
      e ∙ append_assoc (head_bins l b y) _ rest ∙ ap (λ (o : List ℕ). head_bins l b y ++ o) (append_assoc (links ts (bins_taken b y)) _ rest) in
      let c : length (links ts (bins_taken b y)) ≡ b.bins = links-count ts (bins_taken b y) ∙ k.number in
      let d7 = past-bins xs l b y _ d in
      let slots : words_at xs (q.tally.words - b.bins) (count ts) ≡ links ts (bins_taken b y) =
      ap (λ (i : ℕ). words_at xs i (count ts)) (taken-slot b y) ∙ ap (words_at xs (y.words + 7)) (sym (links-count ts (bins_taken b y))) ∙ words_of xs (y.words + 7) (links ts (bins_taken b y)) _ d7 in
      let kids : drop q.tally.words xs ≡ rows_all (l - 1) ts (bins_taken b y) ++ rest =
      ap (λ (i : ℕ). drop i xs) (taken-words b y ∙ ap (λ (i : ℕ). y.words + 7 + i) (sym c)) ∙ sym (drop-drop (length (links ts (bins_taken b y))) (y.words + 7) xs)
      ∙ ap (drop (length (links ts (bins_taken b y)))) d7 ∙ drop-append_seam (links ts (bins_taken b y)) _ in
      let r = all-kept xs ts (l - 1) (q.tally.words - b.bins) q rest (taken-some b y) k.rest slots kids in
      tree-bins (from_table xs) l p (bins-free b y.left l k.free).level (row-bins xs l p b _ k.free d)
      ∙ ap (λ (n : ℕ). bins_to b (trees_of (λ s x. child_of xs (tree_of (from_table xs) (l - 1)) s x) (q.tally.words - b.bins) n q)) (sym k.number)
      ∙ ap (bins_to b) r

  all-kept : (xs : List ℕ) (ts : Trees) (l s : ℕ) (p : Place) (rest : List ℕ) → 0 < p.tally.words → valid_all l ts p.tally ≡ true → words_at xs s (count ts) ≡ links ts p.tally
      → drop p.tally.words xs ≡ rows_all l ts p.tally ++ rest
      → trees_of (λ s x. child_of xs (tree_of (from_table xs) l) s x) s (count ts) p ≡ Outs.reads ts (record { at = p.at; tally = after_all ts p.tally })
  all-kept xs none l s p rest h v k e = refl
  all-kept xs (more t ts) l s p rest h v k e =
      let m = more-valid l t ts p.tally v in
      let q = onward t p in
      let w = rows_words l t p.tally m.head in
      let k0 : get_or xs s 0 ≡ link t p.tally = ap (λ (o : List ℕ). get_or o 0 0) k in
      let k1 : words_at xs (s + 1) (count ts) ≡ links ts q.tally = ap (drop 1) k in
      let e' = e ∙ append_assoc (rows l t p.tally) (rows_all l ts q.tally) rest in
      let n : drop q.tally.words xs ≡ rows_all l ts q.tally ++ rest =
      ap (λ (i : ℕ). drop i xs) w ∙ sym (drop-drop (length (rows l t p.tally)) p.tally.words xs) ∙ ap (drop (length (rows l t p.tally))) e' ∙ drop-append_seam (rows l t p.tally) _ in
      let c = child-kept xs t l s p h k0 (λ g. grid-kept xs t l p (rows_all l ts q.tally ++ rest) g m.head e') in
      let d = all-kept xs ts l (s + 1) q rest (omega arith) m.tail k1 n in
      rw (c, d)
