-- A table that passes is what some plan was written to, and what a plan is written to passes.
use mathlib.Core.Path.{◌≡◌, refl, sym, ap, ◌∙◌}
use mathlib.Core.Bool.{true}
use mathlib.Core.List.{List, [], ◌∷◌, ◌++◌, append_assoc}
use Prim.Native.Nat.{ℕ, zero, suc, ◌+◌, ◌-◌, ◌≤◌, ◌<◌}
use native.Mathlib.Nat.{add-zero}
use native.Mathlib.Omega.{arith}
use lib.ListN.{length, get_or, drop}
use lib.Seq.{drop-cons}
use Rattle.plan.specs.declared.Place.{Place}
use Rattle.plan.specs.declared.Tally.{Tally}
use Rattle.plan.specs.declared.AxesPlan.{AxesPlan}
use Rattle.plan.specs.declared.BinsPlan.{BinsPlan}
use Rattle.plan.specs.Numbers.{run_of, words_at}
use Rattle.plan.specs.Plan.{Tree, Trees, nothing, axes, bins, none, more, count}
use Rattle.plan.specs.Needs.{axes_taken, bins_taken, after, after_all}
use Rattle.plan.specs.Fields.{bins_fault}
use Rattle.plan.specs.Reading.{Out, tree_of}
use Rattle.plan.specs.Table.{head_axes, head_bins, link, links, rows, rows_all}
use Rattle.plan.specs.Bytes.{valid, valid_all}
use Rattle.plan.specs.Walk.{axes_row, bins_row, child_of, from_table}
use Rattle.plan.proofs.Numbers.{words-length}
use Rattle.plan.proofs.Trees.{AxesValid, valid-axes, valid-bins}
use Rattle.plan.proofs.Readings.{Kept, kept}
use Rattle.plan.proofs.Rows.{AxesMet, BinsMet, axes-met, bins-met, nothing-met, evolved-shows, placed-shows, child-case}

-- every element of a list is a word
abbrev pub Words : List ℕ → Type 0
Words xs = (i : ℕ) → get_or xs i 0 < 0x1_0000_0000_0000_0000

-- 1. Words that stand there ---------------------------------------------------------------------------------

-- the n words from the i-th past a place on
unfoldable cells : List ℕ → ℕ → ℕ → ℕ → List ℕ
cells xs w i zero = []
cells xs w i (suc n) = get_or xs (w + i) 0 ∷ cells xs w (suc i) n

cells-drop : (xs : List ℕ) (w i n : ℕ) → w + (i + n) ≤ length xs → drop (w + i) xs ≡ cells xs w i n ++ drop (w + (i + n)) xs
unfolding cells
cells-drop xs w i zero h = rw add-zero
cells-drop xs w i (suc n) h =
    let e : i + suc n ≡ suc i + n = omega arith in
    let s : suc (w + i) ≡ w + suc i = omega arith in
    drop-cons xs (w + i) 0 (omega arith) ∙ rw (e, s) (ap (λ (l : List ℕ). get_or xs (w + i) 0 ∷ l) (cells-drop xs w (suc i) n (omega arith)))

-- a record of n words
head-drop : (xs : List ℕ) (w n : ℕ) → w + n ≤ length xs → drop w xs ≡ cells xs w 0 n ++ drop (w + n) xs
head-drop xs w n h =
    let z : w + 0 ≡ w = add-zero w in
    let y : w + (0 + n) ≡ w + n = omega arith in
    ap (λ (i : ℕ). drop i xs) (sym z) ∙ cells-drop xs w 0 n (omega arith) ∙ ap (λ (i : ℕ). cells xs w 0 n ++ drop i xs) y

words-drop : (xs : List ℕ) (k w to : ℕ) → to ≡ w + k → to ≤ length xs → drop w xs ≡ words_at xs w k ++ drop to xs
unfolding words_at run_of
words-drop xs zero w to e h = let z : to ≡ w = e ∙ add-zero w in rw z
words-drop xs (suc k) w to e h =
    let s : suc w ≡ w + 1 = omega arith in
    drop-cons xs w 0 (omega arith) ∙ rw s (ap (λ (l : List ℕ). get_or xs w 0 ∷ l) (words-drop xs k (w + 1) to (omega arith) h))

-- 2. What passes is a plan's ----------------------------------------------------------------------------------

pub record Held (xs : List ℕ) (l : ℕ) (p : Place) (t : Tree) (q : Place) : Type 0 where
  pub plan : valid l t p.tally ≡ true
  pub end : q.tally ≡ after t p.tally
  pub words : drop p.tally.words xs ≡ rows l t p.tally ++ drop q.tally.words xs

-- words are only taken; and where the table is long enough, a grid is held
record Holding (xs : List ℕ) (l : ℕ) (p : Place) (t : Tree) (q : Place) : Type 0 where
  grow : p.tally.words ≤ q.tally.words
  linked : link t p.tally ≡ p.tally.words
  some : t ≡ nothing → ⊥
  held : q.tally.words ≤ length xs → Held xs l p t q

record HoldingChild (xs : List ℕ) (l s : ℕ) (p : Place) (t : Tree) (q : Place) : Type 0 where
  grow : p.tally.words ≤ q.tally.words
  slot : get_or xs s 0 ≡ link t p.tally
  held : q.tally.words ≤ length xs → Held xs l p t q

record HeldAll (xs : List ℕ) (l s n : ℕ) (p : Place) (ts : Trees) (q : Place) : Type 0 where
  plan : valid_all l ts p.tally ≡ true
  end : q.tally ≡ after_all ts p.tally
  words : drop p.tally.words xs ≡ rows_all l ts p.tally ++ drop q.tally.words xs
  slots : words_at xs s n ≡ links ts p.tally
  number : count ts ≡ n

record HoldingAll (xs : List ℕ) (l s n : ℕ) (p : Place) (ts : Trees) (q : Place) : Type 0 where
  grow : p.tally.words ≤ q.tally.words
  held : q.tally.words ≤ length xs → HeldAll xs l s n p ts q

-- a tree that is a grid
pub axes-grid : (a : AxesPlan) (es : List ℕ) → axes a es ≡ nothing → ⊥
axes-grid a es e = let z : ◌≡◌ {A = ℕ} 0 1 = cc in omega arith

pub bins-grid : (b : BinsPlan) (ts : Trees) → bins b ts ≡ nothing → ⊥
bins-grid b ts e = let z : ◌≡◌ {A = ℕ} 0 1 = cc in omega arith

held-nothing : (xs : List ℕ) (l s : ℕ) (p : Place) → get_or xs s 0 ≡ 0 → HoldingChild xs l s p nothing p
unfolding after valid rows link
held-nothing xs l s p e = record { grow = omega arith; slot = e; held = λ h. record { plan = refl; end = refl; words = refl } }

module _ (xs : List ℕ) (large : Words xs) where
  axes-planned : (l : ℕ) (p : Place) (a : AxesPlan) (q : Place) → AxesMet xs l p a q → AxesValid a (words_at xs (p.tally.words + 11) a.values) p.tally.left
  unfolding axes_row
  axes-planned l p a q m =
      let h = m.at in
      let v = evolved-shows xs p.tally.words (axes_row xs p.tally.words) h.evolution in
      rw m.numbers record {
        free = h.free;
        number = words-length xs _ _;
        few = v.few;
        inbounds = v.inbounds;
        most = v.most;
        least = v.least;
        floor = large (p.tally.words + 6);
      }

  axes-words : (l : ℕ) (p : Place) (a : AxesPlan) (q : Place) → AxesMet xs l p a q → q.tally.words ≡ p.tally.words + (11 + a.values)
  unfolding axes_taken
  axes-words l p a q m = ap (λ (x : Place). x.tally.words) m.past ∙ ap (λ (b : AxesPlan). p.tally.words + (11 + b.values)) (sym m.numbers)

  axes-head : (l : ℕ) (p : Place) (a : AxesPlan) (q : Place) → AxesMet xs l p a q → p.tally.words + 11 ≤ length xs
      → drop p.tally.words xs ≡ head_axes l a p.tally ++ drop (p.tally.words + 11) xs
  unfolding head_axes cells axes_row
  axes-head l p a q m h =
      let w = p.tally.words in
      let z : w + 0 ≡ w = add-zero w in
      let f = placed-shows xs l p.tally 9 m.at.place in
      let k0 : get_or xs (w + 0) 0 ≡ 1 = rw z m.at.kind in
      let c : get_or xs (w + 10) 0 ≡ p.tally.counts = f.counts in
      rw m.numbers (head-drop xs w 11 h ∙ rw (k0, f.level, f.reals, c))

  holding-leaf : (l : ℕ) (p : Place) (a : AxesPlan) (q : Place) → AxesMet xs l p a q → Holding xs l p (axes a (words_at xs (p.tally.words + 11) a.values)) q
  unfolding after rows link
  holding-leaf l p a q m =
      let y = axes-words l p a q m in
      record {
        grow = omega arith;
        linked = refl;
        some = axes-grid a _;
        held = λ h. record {
          plan = valid-axes l a _ p.tally (axes-planned l p a q m);
          end = ap (λ (x : Place). x.tally) m.past ∙ ap (λ (b : AxesPlan). axes_taken b p.tally) (sym m.numbers);
          words = axes-head l p a q m (omega arith) ∙ ap (λ (r : List ℕ). head_axes l a p.tally ++ r) (words-drop xs a.values (p.tally.words + 11) q.tally.words (omega arith) h)
              ∙ sym (append_assoc (head_axes l a p.tally) _ _);
        };
      }

  bins-tally : (l : ℕ) (p : Place) (b : BinsPlan) (q : Place) → BinsMet xs l p b q → q.tally ≡ bins_taken b p.tally
  bins-tally l p b q m = ap (λ (x : Place). x.tally) m.past ∙ ap (λ (c : BinsPlan). bins_taken c p.tally) (sym m.numbers)

  bins-head : (l : ℕ) (p : Place) (b : BinsPlan) (q : Place) → BinsMet xs l p b q → p.tally.words + 7 ≤ length xs
      → drop p.tally.words xs ≡ head_bins l b p.tally ++ drop (p.tally.words + 7) xs
  unfolding head_bins cells bins_row
  bins-head l p b q m h =
      let w = p.tally.words in
      let z : w + 0 ≡ w = add-zero w in
      let f = placed-shows xs l p.tally 5 m.at.place in
      let k0 : get_or xs (w + 0) 0 ≡ 2 = rw z m.at.kind in
      let c : get_or xs (w + 6) 0 ≡ p.tally.counts = f.counts in
      rw m.numbers (head-drop xs w 7 h ∙ rw (k0, f.level, f.reals, c))

  bins-ratio : (l : ℕ) (p : Place) (b : BinsPlan) (q : Place) → BinsMet xs l p b q → b.ratio < 0x1_0000_0000_0000_0000
  unfolding bins_row
  bins-ratio l p b q m = rw m.numbers (large (p.tally.words + 3))

  held_inner : (l : ℕ) (p : Place) (b : BinsPlan) (s : Place) (ts : Trees) (q : Place) → BinsMet xs l p b s → s.tally.words ≤ length xs → s.tally.words ≡ p.tally.words + (7 + b.bins)
      → HeldAll xs (l - 1) (s.tally.words - b.bins) b.bins s ts q → Held xs l p (bins b ts) q
  unfolding after rows
  held_inner l p b s ts q m h y k =
      let n = bins-tally l p b s m in
      let v : s.tally.words - b.bins ≡ p.tally.words + 7 = omega arith in
      let d : drop (p.tally.words + 7) xs ≡ links ts (bins_taken b p.tally) ++ (rows_all (l - 1) ts (bins_taken b p.tally) ++ drop q.tally.words xs) =
      words-drop xs b.bins (p.tally.words + 7) s.tally.words (omega arith) h
      ∙ ap (λ (i : ℕ). words_at xs i b.bins ++ drop s.tally.words xs) (sym v) ∙ ap (λ (r : List ℕ). r ++ drop s.tally.words xs) k.slots
      ∙ ap (λ (r : List ℕ). links ts s.tally ++ r) k.words
      ∙ ap (λ (x : Tally). links ts x ++ (rows_all (l - 1) ts x ++ drop q.tally.words xs)) n in
      record {
        plan = valid-bins l b ts p.tally (record {
          free = ap (λ (c : BinsPlan). bins_fault c p.tally.left l) m.numbers ∙ m.at.free;
          ratio = bins-ratio l p b s m;
          number = k.number;
          rest = ap (valid_all (l - 1) ts) (sym n) ∙ k.plan;
        });
        end = k.end ∙ ap (after_all ts) n;
        words = bins-head l p b s m (omega arith) ∙ ap (λ (r : List ℕ). head_bins l b p.tally ++ r) d
            ∙ ap (λ (r : List ℕ). head_bins l b p.tally ++ r) (sym (append_assoc (links ts (bins_taken b p.tally)) _ _))
            ∙ sym (append_assoc (head_bins l b p.tally) _ _);
      }

  bins-words : (l : ℕ) (p : Place) (b : BinsPlan) (q : Place) → BinsMet xs l p b q → q.tally.words ≡ p.tally.words + (7 + b.bins)
  unfolding bins_taken
  bins-words l p b q m = ap (λ (x : Tally). x.words) (bins-tally l p b q m)

  holding-inner : (l : ℕ) (p : Place) (b : BinsPlan) (s : Place) (ts : Trees) (q : Place) → BinsMet xs l p b s → HoldingAll xs (l - 1) (s.tally.words - b.bins) b.bins s ts q → Holding xs l p (bins b ts) q
  unfolding link
  holding-inner l p b s ts q m k =
      let y = bins-words l p b s m in
      let g = k.grow in
      record { grow = omega arith; linked = refl; some = bins-grid b ts; held = λ h. held_inner l p b s ts q m (omega arith) y (k.held h) }

  holding-child : (l s : ℕ) (p : Place) (t : Tree) (q : Place) → ((x : Place) (u : Tree) (z : Place) → tree_of (from_table xs) l x ≡ Out.reads u z → Holding xs l x u z)
      → child_of xs (tree_of (from_table xs) l) s p ≡ Out.reads t q → HoldingChild xs l s p t q
  holding-child l s p t q k e =
      child-case xs (tree_of (from_table xs) l) s p t q e
      (λ u v w. rw (v, w) (held-nothing xs l s p u))
      (λ u v. let h = k p t q v in record { grow = h.grow; slot = u ∙ sym h.linked; held = h.held })

  holding-more : (l s n : ℕ) (p : Place) (t : Tree) (u : Place) (ts : Trees) (q : Place) → HoldingChild xs l s p t u → HoldingAll xs l (s + 1) n u ts q → HoldingAll xs l s (suc n) p (more t ts) q
  unfolding after valid rows links count words_at run_of
  holding-more l s n p t u ts q c k =
      let g = k.grow in
      let f = c.grow in
      record {
        grow = omega arith;
        held = λ h. let a = c.held (omega arith) in let b = k.held h in record {
          plan = rw a.plan (ap (valid_all l ts) (sym a.end) ∙ b.plan);
          end = b.end ∙ ap (after_all ts) a.end;
          words = a.words ∙ ap (λ (r : List ℕ). rows l t p.tally ++ r) (b.words ∙ ap (λ (y : Tally). rows_all l ts y ++ drop q.tally.words xs) a.end) ∙ sym (append_assoc (rows l t p.tally) _ _);
          slots = rw c.slot (ap (λ (r : List ℕ). link t p.tally ∷ r) (b.slots ∙ ap (links ts) a.end));
          number = ap suc b.number;
        };
      }

  holding-none : (l s : ℕ) (p : Place) → HoldingAll xs l s 0 p none p
  unfolding after valid rows links count words_at run_of
  holding-none l s p = record { grow = omega arith; held = λ h. record { plan = refl; end = refl; words = refl; slots = refl; number = refl } }

  holdings : Kept (from_table xs) (Holding xs) (HoldingChild xs) (HoldingAll xs)
  holdings = record {
    empty = λ l p q e. nothing-met xs l p q e;
    leaf = λ l p a q e. holding-leaf l p a q (axes-met xs l p a q e);
    inner = λ l p b s ts q e k. holding-inner l p b s ts q (bins-met xs l p b s e) k;
    hangs = λ l s p t q k e. holding-child l s p t q k e;
    end = λ l s p. holding-none l s p;
    next = λ l s n p t u ts q c k. holding-more l s n p t u ts q c k;
  }

  pub held : (l : ℕ) (p : Place) (t : Tree) (q : Place) → tree_of (from_table xs) l p ≡ Out.reads t q → q.tally.words ≤ length xs → Held xs l p t q
  held l p t q e h = (kept holdings l p t q e).held h

  -- what stands at a place is a grid
  pub some-grid : (l : ℕ) (p : Place) (t : Tree) (q : Place) → tree_of (from_table xs) l p ≡ Out.reads t q → t ≡ nothing → ⊥
  some-grid l p t q e = (kept holdings l p t q e).some
