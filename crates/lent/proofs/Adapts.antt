-- The update of a tree: each step of the code as the definitions have it.
use mathlib.Core.Path.{◌≡◌, refl, sym, ap, ap₂, ◌∙◌}
use mathlib.Core.Bool.{Bool, true, false, ◌||◌, or_assoc, or-false}
use mathlib.Core.List.{List}
use Prim.Native.Nat.{ℕ, zero, suc, ◌+◌, ◌-◌, ◌≤◌, ◌<◌}
use native.Mathlib.Omega.{arith}
use borrow.Author.Tests.{ne_eqb}
use lib.ListN.{get_or}
use lib.Ieee.{Float}
use Rattle.accumulator.specs.declared.StatisticsAccumulator.{StatisticsAccumulator}
use Rattle.accumulator.specs.declared.Updated.{Updated}
use Rattle.std.specs.Prelude.{Result, Ok, Err}
use Rattle.doubles.specs.declared.refusal.Refusal.{Refusal}
use Rattle.accumulator.specs.Calls.{paper_updated}
use Rattle.accumulator.specs.Calls as account
use Rattle.model.specs.Update.{Outcome}
use Rattle.lent.specs.declared.Found.{Found}
use Rattle.lent.specs.Memory.{Memory, record_at, stored}
use Rattle.lent.specs.Renewed.{finding, found}
use Rattle.lent.specs.Turns.{child_turned, children_turned}
use Rattle.lent.specs.Adapted.{followed, account_stepped, account_updated, axes_updated, node_updated, updated_in}

-- ---- one step after another

pub followed-on : (o : Outcome Memory) (f g : Memory → Outcome Memory) → followed (followed o f) g ≡ followed o (λ (s : Memory). followed (f s) g)
unfolding followed
followed-on o f g =
    let q = f o.after in
    ap₂ (λ (x y : Bool). finding x y (g q.after).after) (or_assoc o.eight q.eight (g q.after).eight) (or_assoc o.nine q.nine (g q.after).nine)

-- a finding so far, and one more
pub followed-next : (a b r : Found) (s t : Memory) (step rest : Memory → Outcome Memory) → (r.eight ≡ (a.eight || b.eight)) × (r.nine ≡ (a.nine || b.nine)) → found b t ≡ step s
    → followed (found r t) rest ≡ followed (found a s) (λ (u : Memory). followed (step u) rest)
unfolding followed
followed-next a b r s t step rest e h =
    let one : found r t ≡ followed (found a s) step = rw (e.0, e.1, sym h) in
    ap (λ (o : Outcome Memory). followed o rest) one ∙ followed-on (found a s) step rest

-- two findings together
pub both_found : (a b r : Found) (s t u : Memory) (f g : Memory → Outcome Memory) → (r.eight ≡ (a.eight || b.eight)) × (r.nine ≡ (a.nine || b.nine))
    → found a t ≡ f s → found b u ≡ g t → found r u ≡ followed (f s) g
unfolding followed
both_found a b r s t u f g e h k = rw (sym h, sym k, e.0, e.1)

-- ---- an accumulator

module _ (r c : ℕ) (s : Memory) (x : Result Updated Refusal) (own : StatisticsAccumulator) (l : own ≡ record_at s.reals s.counts r c) (p : paper_updated x ≡ account.update_of false own) where
  answer : (y : Result Updated Refusal) → y ≡ x → account.update_of false (record_at s.reals s.counts r c) ≡ paper_updated y
  answer y e = ap (account.update_of false) (sym l) ∙ sym p ∙ ap paper_updated (sym e)

  pub account-stepped : (u : Updated) (t : Memory) → x ≡ Ok u → t ≡ stored r c u.after s → finding false false t ≡ account_updated r c s
  unfolding account_updated account_stepped
  account-stepped u t e h = rw (h, answer (Ok u) (sym e))

  pub account-refused : (n : Refusal) → x ≡ Err n → finding true false s ≡ account_updated r c s
  unfolding account_updated account_stepped
  account-refused n e = rw (answer (Err n) (sym e))

-- ---- loops over bins

module _ (table : List ℕ) (w n : ℕ) where
  pub turned-next : (f : ℕ → Memory → Outcome Memory) (i : ℕ) (a b r : Found) (s t : Memory) → i < n → (r.eight ≡ (a.eight || b.eight)) × (r.nine ≡ (a.nine || b.nine))
      → found b t ≡ child_turned f (get_or table (w + 7 + i) 0) s
      → followed (found r t) (children_turned f table w (i + 1) (n - (i + 1))) ≡ followed (found a s) (children_turned f table w i (n - i))
  unfolding children_turned followed
  turned-next f i a b r s t h e k =
      let g : n - i ≡ suc (n - (i + 1)) = omega arith in
      followed-next a b r s t (child_turned f (get_or table (w + 7 + i) 0)) (children_turned f table w (i + 1) (n - (i + 1))) e k
      ∙ ap (λ (q : ℕ). followed (found a s) (children_turned f table w i q)) (sym g)

  pub turned-done : (f : ℕ → Memory → Outcome Memory) (i : ℕ) (o : Outcome Memory) → n ≤ i → followed o (children_turned f table w i (n - i)) ≡ o
  unfolding children_turned followed
  turned-done f i o h = let g : n - i ≡ 0 = omega arith in rw (g, or-false o.eight, or-false o.nine)

-- nothing hangs at 0
pub none-turned : (f : ℕ → Memory → Outcome Memory) (link : ℕ) (s : Memory) → link ≡ 0 → finding false false s ≡ child_turned f link s
unfolding child_turned
none-turned f link s e = rw e

pub some-turned : (f : ℕ → Memory → Outcome Memory) (link : ℕ) (s : Memory) → (link ≡ 0 → ⊥) → f link s ≡ child_turned f link s
unfolding child_turned
some-turned f link s z = rw (ne_eqb link 0 z)

-- ---- the tree

pub grid-updated-axes : (l : ℕ) (table : List ℕ) (bins_rate axes_rate : Float) (w : ℕ) (s : Memory) → get_or table w 0 ≡ 1 → axes_updated table axes_rate w s ≡ updated_in l table bins_rate axes_rate w s
unfolding updated_in node_updated
grid-updated-axes zero table bins_rate axes_rate w s e = refl
grid-updated-axes (suc l) table bins_rate axes_rate w s e = rw e
