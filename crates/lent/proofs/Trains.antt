-- Training axes in lent memory: scans one coordinate on, what a step keeps to, and what is read afterwards.
use mathlib.Core.Path.{◌≡◌, refl, sym, ap, ◌∙◌, subst}
use mathlib.Core.Bool.{Bool, true, false, ◌&&◌, cond, and_assoc, and-true}
use mathlib.Core.List.{List, [], ◌∷◌}
use Prim.Native.Nat.{ℕ, zero, suc, ◌+◌, ◌-◌, ◌*◌, ◌≤◌, ◌<◌}
use native.Mathlib.Numerals.{add-one}
use native.Mathlib.Omega.{arith}
use lib.ListN.{length, take, drop, get_or}
use lib.Seq.{drop-cons}
use lib.Ieee.{Float, nan, eq, lt, le}
use Rattle.doubles.specs.Numbers.{zero64}
use Rattle.accumulator.specs.Steps.{zero_count}
use Rattle.doubles.proofs.Truth.{both}
use Rattle.axis.specs.Edges.{well_formed, bin_of}
use Rattle.axis.proofs.Bins.{bin-rule, or_left}
use Rattle.lent.specs.Layout.{axis_reals, axis_counts}
use Rattle.lent.specs.Memory.{Memory, over_axes, Asked}
use Rattle.lent.specs.Sampled.{entries}
use Rattle.lent.specs.Trained.{trained_at, Cell}
use Rattle.lent.proofs.Same.{same-on, same-set-below, same-set-above}
use Rattle.lent.proofs.Over.{Local, Frames, asked-next}
use Rattle.lent.proofs.Fitting.{one_left, none_left}

-- ---- a scan over the first n entries of an array: what was found, and what is left from entry i on

module _ (test : Float → Bool) (all : List Float → Bool) (none : all [] ≡ true) (more : (x : Float) (xs : List Float) → all (x ∷ xs) ≡ (test x && all xs)) where
  pub scan-on : (xs : List Float) (i n : ℕ) (ok : Bool) → i < n → ((ok && test (get_or xs i nan)) && all (entries nan xs (i + 1) (n - (i + 1)))) ≡ (ok && all (entries nan xs i (n - i)))
  scan-on xs i n ok h = rw (one_left nan xs i n h, more) (and_assoc ok (test (get_or xs i nan)) (all (entries nan xs (i + 1) (n - (i + 1)))))

  pub scan-out : (xs : List Float) (i n : ℕ) (ok : Bool) → n ≤ i → (ok && all (entries nan xs i (n - i))) ≡ ok
  scan-out xs i n ok h = rw (none_left nan xs i n h, none) (and-true ok)

-- n entries of an array are its first n
entries_from : {A : Type 0} (d : A) (xs : List A) (i n : ℕ) → i + n ≤ length xs → entries d xs i n ≡ take n (drop i xs)
unfolding entries
entries_from d xs i zero h = refl
entries_from d xs i (suc n) h = rw (drop-cons xs i d (omega arith)) (ap (λ (l : List _). get_or xs i d ∷ l) (entries_from d xs (i + 1) n (omega arith) ∙ ap (λ (k : ℕ). take n (drop k xs)) (add-one i)))

pub entries-take : {A : Type 0} (d : A) (xs : List A) (n : ℕ) → n ≤ length xs → entries d xs 0 n ≡ take n xs
entries-take d xs n h = entries_from d xs 0 n (omega arith)

-- ---- bins

-- where x lies in a bin, that is its bin
pub near-is : (es : List Float) (x : Float) (i : ℕ) → well_formed es ≡ true → i < length es - 1 → (lt (get_or es i nan) x && le x (get_or es (i + 1) nan)) ≡ true → i ≡ bin_of es x
near-is es x i w h e =
    let b = both (lt (get_or es i nan) x) _ e in
    ((bin-rule es x i w).0 (record { there = omega arith; above = or_left _ _ b.0; upto = rw (add-one i) at b.1 })).1

-- ---- cells

pub zero-count-small : (v : Float) → zero_count v ≤ 1
unfolding zero_count
zero-count-small v = small (eq v zero64)
  where
    small : (b : Bool) → cond b 1 0 ≤ 1
    small true = omega arith
    small false = omega arith

-- ---- what a step keeps to

module _ (m : ℕ) (v : Float) where
  pub trained-frames : Frames m (trained_at m v) (Cell m)
  unfolding trained_at
  trained-frames r c i s p =
      let inside : i < m = omega (arith, p.bin, p.held) in
      record {
        reals-below = λ lo hi h. same-on nan lo hi _ _ _ (same-set-above nan lo hi _ _ _ (omega arith)) (same-on nan lo hi _ _ _ (same-set-above nan lo hi _ _ _ (omega arith))
            (same-on nan lo hi _ _ _ (same-set-above nan lo hi _ _ _ (omega arith)) (same-set-above nan lo hi _ _ _ (omega arith))));
        reals-above = λ lo hi h. same-on nan lo hi _ _ _ (same-set-below nan lo hi _ _ _ (omega arith)) (same-on nan lo hi _ _ _ (same-set-below nan lo hi _ _ _ (omega arith))
            (same-on nan lo hi _ _ _ (same-set-below nan lo hi _ _ _ (omega arith)) (same-set-below nan lo hi _ _ _ (omega arith))));
        counts-below = λ lo hi h. same-on 0 lo hi _ _ _ (same-set-above 0 lo hi _ _ _ (omega arith)) (same-set-above 0 lo hi _ _ _ (omega arith));
        counts-above = λ lo hi h. same-on 0 lo hi _ _ _ (same-set-below 0 lo hi _ _ _ (omega arith)) (same-set-below 0 lo hi _ _ _ (omega arith));
      }

  pub trained-local : Local m (trained_at m v) (Cell m)
  trained-local r c i s s' a b p =
      let inside : i < m = omega (arith, p.bin, p.held) in
      let held : get_or s'.counts c 0 ≡ get_or s.counts c 0 = b.cells c (omega arith) (omega arith) in
      record {
        bin = omega (arith, p.bin, held);
        held = omega (arith, p.held, held);
        room = omega (arith, p.room, a.size);
        places = omega (arith, p.places, b.size);
        waiting = omega (arith, p.waiting, b.cells (c + 2 + i) (omega arith) (omega arith));
        zeros = omega (arith, p.zeros, b.cells (c + (m + 2) + i) (omega arith) (omega arith));
      }

-- ---- the given bins that are left from axis d on

module _ (m k : ℕ) (v : Float) (spots : List ℕ) (d r c : ℕ) (s : Memory) where
  abbrev given : List ℕ
  given = entries 0 spots d (k - d)

  pub trained-out : k ≤ d → over_axes (trained_at m v) m given r c s ≡ s
  unfolding over_axes
  trained-out h = ap (λ (is : List ℕ). over_axes (trained_at m v) m is r c s) (none_left 0 spots d k h)

  module _ (h : d < k) (a : Asked (Cell m) m given r c s) where
    abbrev others : List ℕ
    others = entries 0 spots (d + 1) (k - (d + 1))

    first-asked : Asked (Cell m) m (get_or spots d 0 ∷ others) r c s
    first-asked = subst (λ (is : List ℕ). Asked (Cell m) m is r c s) (one_left 0 spots d k h) a

    pub given-cell : Cell m r c (get_or spots d 0) s
    unfolding Asked
    given-cell = first-asked.0

    pub given-on : Asked (Cell m) m others (r + (6 * m + 1)) (c + (3 * m + 2)) (trained_at m v r c (get_or spots d 0) s)
    given-on = asked-next m (trained_at m v) (Cell m) (trained-local m v) (trained-frames m v) (get_or spots d 0) others r c s first-asked

    pub trained-on : over_axes (trained_at m v) m others (r + (6 * m + 1)) (c + (3 * m + 2)) (trained_at m v r c (get_or spots d 0) s) ≡ over_axes (trained_at m v) m given r c s
    unfolding over_axes axis_reals axis_counts
    trained-on = sym (ap (λ (is : List ℕ). over_axes (trained_at m v) m is r c s) (one_left 0 spots d k h))
