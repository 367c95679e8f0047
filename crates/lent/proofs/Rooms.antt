-- Room in lent memory as a test: what it tells, and what a call that asks it itself comes to where there is room.
use mathlib.Core.Path.{◌≡◌, refl, ap, ◌∙◌}
use mathlib.Core.Bool.{Bool, true, ◌&&◌, and_assoc, and-true}
use mathlib.Core.List.{List, [], ◌∷◌}
use Prim.Native.Nat.{ℕ, zero, suc, ◌+◌, ◌*◌, ◌≤◌, ◌<◌}
use native.Mathlib.Nat.{mul-le-mul}
use native.Mathlib.Numerals.{add-one}
use native.Mathlib.Omega.{arith}
use borrow.Author.Tests.{leb-true, le-leb}
use lib.Dec.{leb}
use lib.ListN.{length, drop, get_or, drop_of_length-le}
use lib.Seq.{drop-cons}
use lib.Ieee.{Float}
use Rattle.doubles.proofs.Truth.{both}
use Rattle.lent.specs.Layout.{axis_reals, axis_counts, roomy_axes}
use Rattle.lent.specs.Memory.{Memory}
use Rattle.lent.specs.Laid.{Roomy, roomy, where_roomy, waitless_at, waitless_of, empty_at, empty_of}
use Rattle.lent.specs.Judged.{axes_fit, AllUpto, all_upto, axes_fit_of}

-- ---- axes

-- what the room of all axes comes to: no product of these overflows
pub few-axes : (k m : ℕ) → k ≤ 8 → m ≤ 1024 → (k * (6 * m + 1) ≤ 49160) × (k * (3 * m + 2) ≤ 24592)
few-axes k m few most =
    let r : 6 * m + 1 ≤ 6145 = omega arith in
    let c : 3 * m + 2 ≤ 3074 = omega arith in
    let a : k * (6 * m + 1) ≤ 8 * 6145 = mul-le-mul few r in
    let b : k * (3 * m + 2) ≤ 8 * 3074 = mul-le-mul few c in
    (omega arith, omega arith)

module _ (m k r c R C : ℕ) where
  pub axes-have : m ≤ 1024 → k ≤ 8 → r + k * axis_reals m ≤ R → c + k * axis_counts m ≤ C → roomy_axes m k r c R C ≡ true
  unfolding roomy_axes
  axes-have a b d e = rw (le-leb _ _ a, le-leb _ _ b, le-leb _ _ d, le-leb _ _ e)

  pub axes-had : roomy_axes m k r c R C ≡ true → (m ≤ 1024) × (k ≤ 8) × (r + k * axis_reals m ≤ R) × (c + k * axis_counts m ≤ C)
  unfolding roomy_axes
  axes-had e =
      let a = both (leb m 1024) _ e in
      let b = both (leb k 8) _ a.1 in
      let d = both (leb (r + k * axis_reals m) R) _ b.1 in
      (leb-true _ _ a.0, leb-true _ _ b.0, leb-true _ _ d.0, leb-true _ _ d.1)

-- ---- an axis

module _ (m n r c : ℕ) (reals : List Float) (counts : List ℕ) where
  pub roomy-had : roomy m n r c (length reals) (length counts) ≡ true → Roomy m n r c reals counts
  unfolding roomy
  roomy-had e =
      let a = both (leb n m) _ e in
      let h = axes-had m 1 r c (length reals) (length counts) a.1 in
      (leb-true n m a.0, h.0, omega arith, omega arith)

  roomy-has : Roomy m n r c reals counts → roomy m n r c (length reals) (length counts) ≡ true
  unfolding roomy
  roomy-has h = rw (le-leb n m h.0) (axes-have m 1 r c (length reals) (length counts) h.1 (omega arith) (omega arith) (omega arith))

where-known : (m n r c : ℕ) (f : Memory → Memory) (s : Memory) → Roomy m n r c s.reals s.counts → where_roomy m n r c f s ≡ f s
unfolding where_roomy
where-known m n r c f s h = rw (roomy-has m n r c s.reals s.counts h)

pub waitless-known : (m n r c : ℕ) (s : Memory) → Roomy m n r c s.reals s.counts → waitless_of m r c n s ≡ waitless_at m r c n s
unfolding waitless_of
waitless-known m n r c s h = where-known m n r c (waitless_at m r c n) s h

pub empty-known : (m n r c recuts : ℕ) (s : Memory) → Roomy m n r c s.reals s.counts → empty_of m r c n recuts s ≡ empty_at m r c n recuts s
unfolding empty_of
empty-known m n r c recuts s h = where-known m n r c (empty_at m r c n recuts) s h

-- ---- numbers of bins

pub upto-on : (m : ℕ) (vs : List ℕ) (i : ℕ) (ok : Bool) → i < length vs
    → ((ok && (leb 1 (get_or vs i 0) && leb (get_or vs i 0) m)) && all_upto m (drop (i + 1) vs)) ≡ (ok && all_upto m (drop i vs))
unfolding all_upto
upto-on m vs i ok h = rw (and_assoc, add-one, drop-cons vs i 0 h)

pub upto-out : (m : ℕ) (vs : List ℕ) (i : ℕ) (ok : Bool) → length vs ≤ i → (ok && all_upto m (drop i vs)) ≡ ok
unfolding all_upto
upto-out m vs i ok h = ap (λ (l : List ℕ). ok && all_upto m l) (drop_of_length-le vs h) ∙ and-true ok

pub upto-had : (m : ℕ) (ns : List ℕ) → all_upto m ns ≡ true → AllUpto m ns
unfolding all_upto AllUpto
upto-had m [] e i h = absurd (omega arith)
upto-had m (n ∷ ns) e zero h =
    let a = both (leb 1 n && leb n m) _ e in
    let b = both (leb 1 n) (leb n m) a.0 in
    (leb-true 1 n b.0, leb-true n m b.1)
upto-had m (n ∷ ns) e (suc i) h = upto-had m ns (both (leb 1 n && leb n m) _ e).1 i (omega arith)

upto-has : (m : ℕ) (ns : List ℕ) → AllUpto m ns → all_upto m ns ≡ true
unfolding all_upto AllUpto
upto-has m [] a = refl
upto-has m (n ∷ ns) a =
    let h = a 0 (omega arith) in
    rw (le-leb 1 n h.0, le-leb n m h.1) (upto-has m ns (λ i k. a (suc i) (omega arith)))

-- ---- axes that fit

module _ (numbers : List ℕ) (m : ℕ) (reals : List Float) (counts : List ℕ) (k r c : ℕ) where
  pub fit-known : m ≤ 1024 → k ≤ 8 → AllUpto m numbers → r + k * axis_reals m ≤ length reals → c + k * axis_counts m ≤ length counts
      → axes_fit_of numbers m reals counts k r c ≡ axes_fit numbers m reals counts k r c
  unfolding axes_fit_of
  fit-known most few upto room places = rw (axes-have m k r c (length reals) (length counts) most few room places, upto-has m numbers upto)
