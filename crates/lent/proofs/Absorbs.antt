-- A sample taken in: each step of the code as the definitions have it.
use mathlib.Core.Path.{◌≡◌, refl, sym, ap, ap₂, ◌∙◌, subst}
use mathlib.Core.List.{List}
use Prim.Native.Nat.{ℕ, zero, suc, ◌+◌, ◌-◌, ◌*◌, ◌≤◌}
use native.Mathlib.Omega.{arith}
use borrow.Author.Tests.{ne_eqb}
use lib.ListN.{length, get_or}
use lib.Ieee.{Float, nan, binary64, mul}
use Rattle.doubles.proofs.Truth.{both}
use Rattle.model.specs.Grid.{Grid, bins}
use Rattle.model.specs.Sound.{formed_child, kept_child}
use Rattle.lent.specs.declared.Sample.{Sample}
use Rattle.lent.specs.declared.Gain.{Gain}
use Rattle.lent.specs.declared.AxesAt.{AxesAt}
use Rattle.lent.specs.Memory.{Memory}
use Rattle.lent.specs.Drawn.{axes_at}
use Rattle.lent.specs.Tree.{axes_place, head_at, child_in, bins_in, grid_at, BinsLaid, Laid}
use Rattle.lent.specs.Sampled.{sound_child}
use Rattle.lent.specs.Trained.{bins_on, trained_over}
use Rattle.lent.specs.Absorbed.{places_in, Takes, gain_at, gained, absorbed_axes, absorbed_child, absorbed_bin, absorbed_bins, absorbed_node, absorbed, admitted}
use Rattle.lent.specs.Found.{Held, HeldChild}
use Rattle.lent.proofs.Same.{same_alike, same-sym}
use Rattle.lent.proofs.FoundedOwn.{Within}
use Rattle.lent.proofs.Alike.{child-alike}
use Rattle.lent.proofs.Accepts.{formed, takes-below}
use Rattle.lent.proofs.Finds.{held-child-as, held_below}
use Rattle.lent.proofs.AbsorbedOwn.{own-within}

module _ (table : List ℕ) (s : Sample) (e : Float) (number w d : ℕ) where
  pub axes-absorbed : (m t u : Memory) (g : AxesAt) (is : List ℕ) (own : Gain) → g ≡ axes_place table w
      → is ≡ bins_on (axes_at m.reals m.counts (axes_place table w)) (places_in s)
      → own ≡ gain_at (get_or table (w + 9) 0) (get_or table (w + 10) 0) (mul binary64 e (get_or s.weights d nan)) number m
      → t ≡ trained_over g (mul binary64 (get_or s.weights d nan) e) is m
      → u ≡ gained (get_or table (w + 9) 0) (get_or table (w + 10) 0) own t → u ≡ absorbed_axes table s e number w d m
  unfolding absorbed_axes
  axes-absorbed m t u g is own p q o h k =
      k ∙ ap₂ (λ (a : Gain) (y : Memory). gained (get_or table (w + 9) 0) (get_or table (w + 10) 0) a y) o
      (h ∙ ap₂ (λ (b : AxesAt) (js : List ℕ). trained_over b (mul binary64 (get_or s.weights d nan) e) js m) p q)

  module _ (f : ℕ → ℕ → Memory → Memory) where
    pub bins-absorbed : (m t u below : Memory) (own inner : Gain)
        → own ≡ gain_at (get_or table (w + 5) 0) (get_or table (w + 6) 0) (mul binary64 e (get_or s.weights d nan)) number m
        → inner ≡ gain_at (get_or table (w + 5) 0 + 14 + get_or table (w + 2) 0 + 14 * get_or s.path d 0) (get_or table (w + 6) 0 + 7 + 7 * get_or s.path d 0)
        (mul binary64 (mul binary64 (get_or s.weights d nan) (get_or m.reals (get_or table (w + 5) 0 + 14 + get_or s.path d 0) nan)) e) number m
        → t ≡ gained (get_or table (w + 5) 0 + 14 + get_or table (w + 2) 0 + 14 * get_or s.path d 0) (get_or table (w + 6) 0 + 7 + 7 * get_or s.path d 0) inner m
        → u ≡ gained (get_or table (w + 5) 0) (get_or table (w + 6) 0) own t
        → below ≡ absorbed_child f (get_or table (w + 7 + get_or s.path d 0) 0) (d + 1) u → below ≡ absorbed_bins f table s e number w d m
    unfolding absorbed_bins absorbed_bin
    bins-absorbed m t u below own inner o i h k b =
        b ∙ ap (absorbed_child f (get_or table (w + 7 + get_or s.path d 0) 0) (d + 1))
        (k ∙ ap₂ (λ (a : Gain) (y : Memory). gained (get_or table (w + 5) 0) (get_or table (w + 6) 0) a y) o
        (h ∙ ap (λ (a : Gain). gained (get_or table (w + 5) 0 + 14 + get_or table (w + 2) 0 + 14 * get_or s.path d 0) (get_or table (w + 6) 0 + 7 + 7 * get_or s.path d 0) a m) i))

-- ---- what hangs below a bins grid: the grid's own records were put, and it reads as it did

module _ (l : ℕ) (table : List ℕ) (w : ℕ) (m : Memory) (laid : BinsLaid (Laid l table (length m.reals) (length m.counts)) table (length m.reals) (length m.counts) w) where
  abbrev f : ℕ → Grid
  f = grid_at l table m.reals m.counts

  abbrev whole : Grid
  whole = bins (head_at table m.reals m.counts w) (bins_in f table m.reals m.counts w 0 (get_or table (w + 2) 0))

  module _ (own inner : Gain) (t u : Memory) where
    pub child-still : (s : Sample) (d number : ℕ) → Takes whole s d number
        → t ≡ gained (get_or table (w + 5) 0 + 14 + get_or table (w + 2) 0 + 14 * get_or s.path d 0) (get_or table (w + 6) 0 + 7 + 7 * get_or s.path d 0) inner m
        → u ≡ gained (get_or table (w + 5) 0) (get_or table (w + 6) 0) own t
        → child_in f (get_or table (w + 7 + get_or s.path d 0) 0) ≡ child_in (grid_at l table u.reals u.counts) (get_or table (w + 7 + get_or s.path d 0) 0)
    unfolding sound_child
    child-still s d number takes p q =
        let i = get_or s.path d 0 in
        let R = get_or table (w + 5) 0 + 14 + 15 * get_or table (w + 2) 0 in
        let C = get_or table (w + 6) 0 + 7 + 7 * get_or table (w + 2) 0 in
        let c = child_in f (get_or table (w + 7 + i) 0) in
        let inside = (formed f table m.reals m.counts w (get_or table (w + 2) 0) (head_at table m.reals m.counts w) s d number takes).bin in
        let form = (both (formed_child c) (kept_child c) (takes-below f table m.reals m.counts w (get_or table (w + 2) 0) (head_at table m.reals m.counts w) s d number takes).well).0 in
        let put = q ∙ ap (gained (get_or table (w + 5) 0) (get_or table (w + 6) 0) own) p in
        let o = subst (Within (get_or table (w + 5) 0) R (get_or table (w + 6) 0) C m) (sym put) (own-within table w i m own inner inside) in
        child-alike table m.reals u.reals m.counts u.counts (length m.reals) (length m.counts) l w laid i inside form
        (same_alike nan R (length m.reals) m.reals u.reals (same-sym nan R (length m.reals) u.reals m.reals (o.high R (length m.reals) (omega arith))))
        (same_alike 0 C (length m.counts) m.counts u.counts (same-sym 0 C (length m.counts) u.counts m.counts (o.many C (length m.counts) (omega arith))))

    -- so what is handed over for the grid holds for it there
    pub held-past : {a : Sample} {spots : List ℕ} {d number : ℕ} (h : Held a spots whole d number)
        → t ≡ gained (get_or table (w + 5) 0 + 14 + get_or table (w + 2) 0 + 14 * get_or a.path d 0) (get_or table (w + 6) 0 + 7 + 7 * get_or a.path d 0) inner m
        → u ≡ gained (get_or table (w + 5) 0) (get_or table (w + 6) 0) own t
        → HeldChild a spots (child_in (grid_at l table u.reals u.counts) (get_or table (w + 7 + get_or a.path d 0) 0)) (d + 1) number
    held-past {a} {spots} {d} {number} h p q =
        held-child-as (child-still a d number h.takes p q) (held_below f table m.reals m.counts w (get_or table (w + 2) 0) (head_at table m.reals m.counts w) h)

-- ---- what hangs at a link

module _ (f : ℕ → ℕ → Memory → Memory) (link d : ℕ) (m : Memory) where
  pub nothing-absorbed : link ≡ 0 → m ≡ absorbed_child f link d m
  unfolding absorbed_child
  nothing-absorbed e = rw e

  pub child-absorbed : (link ≡ 0 → ⊥) → f link d m ≡ absorbed_child f link d m
  unfolding absorbed_child
  child-absorbed z = rw (ne_eqb link 0 z)

-- ---- which of the two a run is

module _ (table : List ℕ) (s : Sample) (e : Float) (number w d : ℕ) (m : Memory) where
  pub absorbed-axes : (l : ℕ) → get_or table w 0 ≡ 1 → absorbed_axes table s e number w d m ≡ absorbed l table s e number w d m
  unfolding absorbed absorbed_node
  absorbed-axes zero h = refl
  absorbed-axes (suc l) h = rw h

  pub absorbed-bins : (l : ℕ) → (get_or table w 0 ≡ 1 → ⊥) → 1 ≤ l → absorbed_bins (absorbed (l - 1) table s e number) table s e number w d m ≡ absorbed l table s e number w d m
  unfolding absorbed absorbed_node
  absorbed-bins zero n h = absurd (omega arith)
  absorbed-bins (suc l) n h = let z : suc l - 1 ≡ l = omega arith in rw (z, ne_eqb (get_or table w 0) 1 n)

-- ---- whether the root takes it

module _ (n : ℕ) (table : List ℕ) (s : Sample) (e : Float) (number : ℕ) (m : Memory) where
  pub admitted-all : n ≡ 0 → admitted n table s e number m ≡ absorbed 4 table s e number 0 0 m
  unfolding admitted
  admitted-all h = rw h

  pub admitted-none : (n ≡ 0 → ⊥) → admitted n table s e number m ≡ m
  unfolding admitted
  admitted-none z = rw (ne_eqb n 0 z)
