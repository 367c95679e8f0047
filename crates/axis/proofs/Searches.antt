-- The search by halves: enough steps are enough, and on well-formed edges it finds the bin of the rule.
use mathlib.Core.Path.{◌≡◌, refl, ap, ◌∙◌, subst}
use mathlib.Core.Logic.{inl, inr}
use mathlib.Core.List.{List}
use mathlib.Core.Bool.{true, false, cond, ◌&&◌, ◌||◌}
use Prim.Native.Nat.{ℕ, zero, suc, ◌+◌, ◌-◌, ◌/◌, ◌≤◌, ◌<◌}
use native.Mathlib.Nat.{add-zero, zero-add, le_refl, eq-or-lt_of_le}
use native.Mathlib.Decide.{le_ind}
use native.Mathlib.Omega.{arith}
use lib.ListN.{length, get_or}
use lib.Dec.{ltb, eqb}
use lib.Ieee.{Float, nan, lt, le, eq}
use borrow.Author.Tests.{lt-ltb, le-ltb, ltb-true, ltb-false}
use Rattle.doubles.specs.Numbers.{zero64, one64}
use Rattle.doubles.proofs.Truth.{either, both}
use Rattle.doubles.proofs.Order.{le-trans-float, eq-ge}
use Rattle.axis.specs.Edges.{well_formed, in_unit, bins_of, bin_of, InBin}
use Rattle.axis.specs.Search.{searched, search_of}
use Rattle.axis.proofs.Bins.{Formed, formed, rises-le, edge-low, one-bin, found, or_left, first_above, upto-not}

-- where the search goes from `base` among `size` bins
abbrev next_base : List Float → Float → ℕ → ℕ → ℕ
next_base es x base size = base + cond (lt (get_or es (base + size / 2) nan) x) (size / 2) 0

one_more : (k : ℕ) (es : List Float) (x : Float) (base size : ℕ) → size ≤ k → searched (suc k) es x base size ≡ searched k es x base size
unfolding searched
one_more zero es x base size h = rw (le-ltb 1 size (omega arith))
one_more (suc k) es x base size h = elim (either (ltb 1 size)) [
  | inl t ↦
      let p : 1 < size = ltb-true 1 size t in
      rw t (one_more k es x (next_base es x base size) (size - size / 2) (omega arith))
  | inr f ↦ rw f
]

enough : (k : ℕ) (es : List Float) (x : Float) (base size : ℕ) → size ≤ k → searched k es x base size ≡ searched size es x base size
enough k es x base size h =
    le_ind (λ (m : ℕ). searched m es x base size ≡ searched size es x base size) refl (λ m l e. one_more m es x base size l ∙ e) k h

-- one halving
pub search-on : (es : List Float) (x : Float) (base size : ℕ) → 1 < size
    → searched size es x base size ≡ searched (size - size / 2) es x (next_base es x base size) (size - size / 2)
unfolding searched
search-on es x base size h =
    let e : size ≡ suc (size - 1) = omega arith in
    ap (λ (k : ℕ). searched k es x base size) e
    ∙ rw (lt-ltb 1 size h) (enough (size - 1) es x (next_base es x base size) (size - size / 2) (omega arith))

pub search-out : (es : List Float) (x : Float) (base size : ℕ) → size ≤ 1 → searched size es x base size ≡ base
unfolding searched
search-out es x base zero h = refl
search-out es x base (suc size) h = rw (le-ltb 1 (suc size) h)

-- ---- on well-formed edges
module _ (es : List Float) (x : Float) (f : Formed es) (u : in_unit x ≡ true) where
  low : le zero64 x ≡ true
  unfolding in_unit
  low = (both (le zero64 x) (le x one64) u).0

  top : le x (get_or es (0 + (length es - 1)) nan) ≡ true
  unfolding in_unit
  top =
      rw zero-add
      (le-trans-float x one64 (get_or es (length es - 1) nan) (both (le zero64 x) (le x one64) u).1 (eq-ge (get_or es (length es - 1) nan) one64 f.last))

  -- the bins from base on, size of them, hold x
  record Held (base size : ℕ) : Type 0 where
    some : 0 < size
    inside : base + size < length es
    above : (lt (get_or es base nan) x || (eqb base 0 && eq x zero64)) ≡ true
    upto : le x (get_or es (base + size) nan) ≡ true

  held_up : (base size : ℕ) → Held base size → 1 < size → lt (get_or es (base + size / 2) nan) x ≡ true → Held (base + size / 2) (size - size / 2)
  held_up base size h p t =
      let e : base + size / 2 + (size - size / 2) ≡ base + size = omega arith in
      record {
        some = omega arith;
        inside = let i = h.inside in omega arith;
        above = or_left (lt (get_or es (base + size / 2) nan) x) (eqb (base + size / 2) 0 && eq x zero64) t;
        upto = rw e h.upto;
      }

  held_down : (base size : ℕ) → Held base size → 1 < size → lt (get_or es (base + size / 2) nan) x ≡ false → Held (base + 0) (size - size / 2)
  held_down base size h p t =
      let i = h.inside in
      let mid : le x (get_or es (base + size / 2) nan) ≡ true = upto-not (get_or es (base + size / 2) nan) x (edge-low es x f (base + size / 2) (omega arith)) low t in
      let s : base + size / 2 ≤ base + (size - size / 2) = omega arith in
      rw add-zero
      (record {
        some = omega arith;
        inside = omega arith;
        above = h.above;
        upto = elim (eq-or-lt_of_le s) [
          | inl e ↦ subst (λ (n : ℕ). le x (get_or es n nan) ≡ true) e mid
          | inr l ↦ le-trans-float x (get_or es (base + size / 2) nan) (get_or es (base + (size - size / 2)) nan) mid (rises-le es f.up (base + size / 2) (base + (size - size / 2)) l (omega arith))
        ];
      })

  held_in : (k base size : ℕ) → size ≤ k → Held base size → InBin es x (searched k es x base size)
  unfolding searched
  held_in zero base size h b = let s = b.some in absurd (omega arith)
  held_in (suc k) base size h b = elim (either (ltb 1 size)) [
    | inl t ↦
        let p : 1 < size = ltb-true 1 size t in
        elim (either (lt (get_or es (base + size / 2) nan) x)) [
          | inl c ↦ rw (t, c) (held_in k (base + size / 2) (size - size / 2) (omega arith) (held_up base size b p c))
          | inr c ↦ rw (t, c) (held_in k (base + 0) (size - size / 2) (omega arith) (held_down base size b p c))
        ]
    | inr n ↦
        let q : size ≤ 1 = ltb-false 1 size n in
        let s = b.some in
        let one : base + size ≡ suc base = omega arith in
        rw n (record { there = let i = b.inside in omega arith; above = b.above; upto = rw one at b.upto })
  ]

-- the search finds the bin of the rule
pub search_is : (es : List Float) (x : Float) → well_formed es ≡ true → in_unit x ≡ true → search_of es x ≡ bin_of es x
unfolding search_of bins_of
search_is es x w u =
    let f = formed es w in
    let n = f.few in
    let start : Held es x f u 0 (length es - 1) = record {
      some = omega arith;
      inside = omega arith;
      above = first_above (get_or es 0 nan) x f.first (low es x f u);
      upto = top es x f u;
    } in
    let fuel : length es - 1 ≤ length es - 1 = le_refl (length es - 1) in
    one-bin es x f (searched (length es - 1) es x 0 (length es - 1)) (bin_of es x) (held_in es x f u (length es - 1) 0 (length es - 1) fuel start) (found es x f u)
