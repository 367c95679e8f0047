-- A step over what hangs below a bins grid: each child's keeps to what that child takes of memory, so the children after it read as they
-- did, and all of them together come to the model's step on each.
use mathlib.Core.Path.{◌≡◌, refl, sym, ap, ap₂, ◌∙◌, subst}
use mathlib.Core.Logic.{◌≢◌}
use mathlib.Core.Bool.{Bool, true, false, ◌||◌, cond, true≢false}
use mathlib.Core.List.{List, [], ◌∷◌}
use Prim.Native.Nat.{ℕ, zero, suc, ◌+◌, ◌≤◌, ◌<◌}
use native.Mathlib.Omega.{arith}
use borrow.Author.Tests.{ne_eqb}
use lib.Dec.{eqb}
use lib.ListN.{length, get_or}
use lib.Ieee.{Float, nan}
use Rattle.plan.specs.declared.Tally.{Tally}
use Rattle.plan.specs.declared.BinsPlan.{BinsPlan}
use Rattle.plan.specs.Plan.{Tree, Trees, nothing, axes, bins}
use Rattle.plan.specs.Needs.{bins_taken, after, child_at, before}
use Rattle.plan.specs.Table.{link}
use Rattle.plan.proofs.Rereads.{taken-words}
use Rattle.plan.proofs.Records.{Stands, Upto, upto-after, bins-record, child-record, before-next}
use Rattle.model.specs.Grid as model
use Rattle.model.specs.Sound.{formed_grid}
use Rattle.model.specs.Update.{Outcome, nested}
use Rattle.lent.specs.Memory.{Memory}
use Rattle.lent.specs.Tree.{child_in, grid_at}
use Rattle.lent.specs.Founded.{fresh_children}
use Rattle.lent.specs.Turns.{child_turned, children_turned}
use Rattle.lent.proofs.Same.{Same, same-on, same-sym, same-within}
use Rattle.lent.proofs.Trees.{axes-differ, bins-differ}
use Rattle.lent.proofs.FoundedOwn.{Within, within_same, within_on}
use Rattle.lent.proofs.Children.{stands-in, later}

-- ---- what a step comes to

-- from s a step came to o within these bounds, and the model's to m: the same was found, and where no 8 was, memory that is the same there
-- reads as the model's
pub record Turned {X : Type 0} (r e c d : ℕ) (s : Memory) (o : Outcome Memory) (read : List Float → List ℕ → X) (m : Outcome X) : Type 0 where
  pub within : Within r e c d s o.after
  pub eight : o.eight ≡ m.eight
  pub nine : m.eight ≡ false → o.nine ≡ m.nine
  pub reads : m.eight ≡ false → (reals' : List Float) (counts' : List ℕ) → Same nan r e o.after.reals reals' → Same 0 c d o.after.counts counts' → read reals' counts' ≡ m.after

pub no-either : (a b : Bool) → (a || b) ≡ false → (a ≡ false) × (b ≡ false)
no-either true b e = absurd (true≢false e)
no-either false b e = (refl, e)

-- ---- the model's side: what hangs at the links, each after its step

unfoldable pub child_after : (ℕ → Outcome model.Grid) → ℕ → Outcome model.Child
child_after f link = cond (eqb link 0) (record { eight = false; nine = false; after = model.nothing }) (nested (f link))

unfoldable pub children_after : (ℕ → Outcome model.Grid) → List ℕ → ℕ → ℕ → ℕ → Outcome (List model.Child)
children_after f table w i zero = record { eight = false; nine = false; after = [] }
children_after f table w i (suc n) =
    let o = child_after f (get_or table (w + 7 + i) 0) in
    let q = children_after f table w (i + 1) n in
    record { eight = o.eight || q.eight; nine = o.nine || q.nine; after = o.after ∷ q.after }

child-after-same : (f g : ℕ → Outcome model.Grid) (at : ℕ) → (at ≢ 0 → f at ≡ g at) → child_after f at ≡ child_after g at
unfolding child_after
child-after-same f g zero e = refl
child-after-same f g (suc n) e =
    let z : suc n ≢ 0 = λ q. absurd (omega arith) in
    rw (ne_eqb (suc n) 0 z, e z)

module _ (xs : List ℕ) (l : ℕ) (f : ℕ → Memory → Outcome Memory) (F : ℕ → model.Grid → Outcome model.Grid) (P : ℕ → model.Grid → Type 0)
    (formed : (w : ℕ) (g : model.Grid) → P w g → formed_grid g ≡ true)
    (deeper : (t : Tree) (u : Tally) (s : Memory) → (t ≡ nothing → ⊥) → Stands xs l t u → (after t u).reals ≤ length s.reals → (after t u).counts ≤ length s.counts
    → P u.words (grid_at l xs s.reals s.counts u.words)
    → Turned u.reals (after t u).reals u.counts (after t u).counts s (f u.words s) (λ (a : List Float) (b : List ℕ). grid_at l xs a b u.words) (F u.words (grid_at l xs s.reals s.counts u.words))) where
  hung-turned : (t : Tree) (u : Tally) (at : ℕ) (s : Memory) → (t ≡ nothing → ⊥) → at ≡ u.words → 1 ≤ u.words → Stands xs l t u → (after t u).reals ≤ length s.reals → (after t u).counts ≤ length s.counts
      → (at ≢ 0 → P at (grid_at l xs s.reals s.counts at))
      → Turned u.reals (after t u).reals u.counts (after t u).counts s (child_turned f at s) (λ (a : List Float) (b : List ℕ). child_in (grid_at l xs a b) at) (child_after (λ (n : ℕ). F n (grid_at l xs s.reals s.counts n)) at)
  unfolding child_turned child_after child_in
  hung-turned t u at s there e n st h k p =
      let z : at ≢ 0 = λ q. absurd (omega arith) in
      let d = deeper t u s there st h k (subst (λ (m : ℕ). P m (grid_at l xs s.reals s.counts m)) e (p z)) in
      rw (ne_eqb at 0 z, e) (record { within = d.within; eight = d.eight; nine = d.nine; reads = λ q a b x y. ap model.grid (d.reads q a b x y) })

  child-turned : (t : Tree) (u : Tally) (at : ℕ) (s : Memory) → at ≡ link t u → 1 ≤ u.words → Stands xs l t u → (after t u).reals ≤ length s.reals → (after t u).counts ≤ length s.counts
      → (at ≢ 0 → P at (grid_at l xs s.reals s.counts at))
      → Turned u.reals (after t u).reals u.counts (after t u).counts s (child_turned f at s) (λ (a : List Float) (b : List ℕ). child_in (grid_at l xs a b) at) (child_after (λ (n : ℕ). F n (grid_at l xs s.reals s.counts n)) at)
  unfolding link child_turned child_after child_in after
  child-turned nothing u at s e n st h k p = rw e (record { within = within_same u.reals u.reals u.counts u.counts s; eight = refl; nine = λ q. refl; reads = λ q a b x y. refl })
  child-turned (axes a es) u at s e n st h k p = hung-turned (axes a es) u at s (axes-differ a es) e n st h k p
  child-turned (bins b ts) u at s e n st h k p = hung-turned (bins b ts) u at s (bins-differ b ts) e n st h k p

  module _ (b : BinsPlan) (ts : Trees) (y : Tally) (st : Stands xs (suc l) (bins b ts) y) (G : ℕ → model.Grid) where
    abbrev own : Tally
    own = bins_taken b y

    abbrev end : Tally
    end = after (bins b ts) y

    abbrev at : ℕ → ℕ
    at i = get_or xs (y.words + 7 + i) 0

    -- the last k children, from child i on, which read as G so far
    pub children-turned : (k i : ℕ) (u : Tally) (s : Memory) → i + k ≡ b.bins → u ≡ before ts i own → u.reals ≤ end.reals → u.counts ≤ end.counts
        → end.reals ≤ length s.reals → end.counts ≤ length s.counts
        → ((j : ℕ) → i ≤ j → j < b.bins → at j ≢ 0 → P (at j) (G (at j)))
        → ((j : ℕ) → i ≤ j → j < b.bins → at j ≢ 0 → grid_at l xs s.reals s.counts (at j) ≡ G (at j))
        → Turned u.reals end.reals u.counts end.counts s (children_turned f xs y.words i k s)
        (λ (a : List Float) (b : List ℕ). fresh_children (grid_at l xs a b) xs y.words i k) (children_after (λ (n : ℕ). F n (G n)) xs y.words i k)
    unfolding children_turned children_after fresh_children
    children-turned zero i u s e o rr cc h g p q = record { within = within_same u.reals end.reals u.counts end.counts s; eight = refl; nine = λ x. refl; reads = λ x a b y z. refl }
    children-turned (suc k) i u s e o rr cc h g p q =
        let c = child-record xs (suc l) b ts y i st (omega arith) in
        let t = child_at ts i in
        let there : Stands xs l t u = subst (λ (v : Tally). Stands xs l t v) (sym o) (stands-in xs l b ts y st i (omega arith)) in
        let inside : Upto (after t u) end = subst (λ (v : Tally). Upto (after t v) end) (sym o) c.inside in
        let behind : Upto own u = subst (λ (v : Tally). Upto own v) (sym o) c.behind in
        let past = upto-after t u in
        let linked : at i ≡ link t u = c.linked ∙ ap (link t) (sym o) in
        let large : 1 ≤ u.words = omega (arith, behind.words, taken-words b y) in
        let now : at i ≢ 0 → P (at i) (grid_at l xs s.reals s.counts (at i)) = λ z. subst (P (at i)) (sym (q i (omega arith) (omega arith) z)) (p i (omega arith) (omega arith) z) in
        let d = child-turned t u (at i) s linked large there (omega (arith, inside.reals)) (omega (arith, inside.counts)) now in
        let m : child_after (λ (n : ℕ). F n (grid_at l xs s.reals s.counts n)) (at i) ≡ child_after (λ (n : ℕ). F n (G n)) (at i) =
        child-after-same (λ (n : ℕ). F n (grid_at l xs s.reals s.counts n)) (λ (n : ℕ). F n (G n)) (at i) (λ z. ap (F (at i)) (q i (omega arith) (omega arith) z)) in
        let one = subst (λ (x : Outcome model.Child). Turned u.reals (after t u).reals u.counts (after t u).counts s (child_turned f (at i) s) (λ (a : List Float) (b : List ℕ). child_in (grid_at l xs a b) (at i)) x) m d in
        let s₁ = (child_turned f (at i) s).after in
        let size : length s₁.reals ≡ length s.reals = (one.within.low 0 0 (omega arith)).size in
        let sizes : length s₁.counts ≡ length s.counts = (one.within.few 0 0 (omega arith)).size in
        let step : suc i ≡ i + 1 = omega arith in
        let next : after t u ≡ before ts (i + 1) own = ap (after t) o ∙ sym (before-next ts i own (omega (arith, (bins-record xs (suc l) b ts y st).number))) ∙ ap (λ (j : ℕ). before ts j own) step in
        let v = after t u in
        let near : Within (before ts i own).reals (after t (before ts i own)).reals (before ts i own).counts (after t (before ts i own)).counts s s₁ =
        subst (λ (x : Tally). Within x.reals (after t x).reals x.counts (after t x).counts s s₁) o one.within in
        let still : (j : ℕ) → i + 1 ≤ j → j < b.bins → at j ≢ 0 → grid_at l xs s₁.reals s₁.counts (at j) ≡ G (at j) =
        λ j x z n. later xs l b ts y st i j s s₁ (omega arith) z near n (ap formed_grid (q j (omega arith) z n) ∙ formed (at j) (G (at j)) (p j (omega arith) z n)) ∙ q j (omega arith) z n in
        let r = children-turned k (i + 1) v s₁ (omega arith) next inside.reals inside.counts (omega arith) (omega arith) (λ j x. p j (omega arith)) still in
        let last = (children_turned f xs y.words (i + 1) k s₁).after in
        record {
          within = within_on u.reals end.reals u.counts end.counts u.reals v.reals u.counts v.counts v.reals end.reals v.counts end.counts s s₁ last
              (omega arith) inside.reals (omega arith) inside.counts past.reals (omega arith) past.counts (omega arith) one.within r.within;
          eight = ap₂ ◌||◌ one.eight r.eight;
          nine = λ x. let n = no-either _ _ x in ap₂ ◌||◌ (one.nine n.0) (r.nine n.1);
          reads = λ x a z p q.
              let n = no-either _ _ x in
              let first = one.reads n.0 a z
              (same-on nan u.reals v.reals s₁.reals last.reals a (same-sym nan u.reals v.reals last.reals s₁.reals (r.within.low u.reals v.reals (omega arith)))
              (same-within nan u.reals end.reals u.reals v.reals last.reals a (omega arith) inside.reals p))
              (same-on 0 u.counts v.counts s₁.counts last.counts z (same-sym 0 u.counts v.counts last.counts s₁.counts (r.within.few u.counts v.counts (omega arith)))
              (same-within 0 u.counts end.counts u.counts v.counts last.counts z (omega arith) inside.counts q)) in
              let others = r.reads n.1 a z (same-within nan u.reals end.reals v.reals end.reals last.reals a past.reals (omega arith) p)
              (same-within 0 u.counts end.counts v.counts end.counts last.counts z past.counts (omega arith) q) in
              ap₂ (λ (x : model.Child) (xs : List model.Child). x ∷ xs) first others;
        }
