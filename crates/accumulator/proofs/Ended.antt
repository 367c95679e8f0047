-- An iteration's end, judged by a record's sums and counts alone: what plainly may end, what is refused, and what is answered then.
-- Assumes nothing.
use mathlib.Core.Path.{◌≡◌, refl, sym, ap, ◌∙◌}
use mathlib.Core.Logic.{inl, inr}
use mathlib.Core.Bool.{Bool, true, false, cond, ◌&&◌}
use Prim.Native.Nat.{ℕ, ◌+◌, ◌^◌, ◌<◌}
use native.Mathlib.Omega.{arith}
use borrow.Author.Tests.{le-leb, eqb-true}
use lib.Dec.{eqb}
use lib.Ieee.{Float, nan, binary64, of_bits, add, sub, le}
use Rattle.doubles.specs.Numbers.{zero64}
use Rattle.doubles.specs.Finite.{finite_of}
use Rattle.doubles.specs.Paper.{Paper, gives, refuses}
use Rattle.doubles.specs.Refusal.{number_of}
use Rattle.doubles.specs.declared.refusal.Refusal.{Refusal}
use Rattle.doubles.proofs.Refusals.{nonzero}
use Rattle.doubles.proofs.Truth.{either}
use Rattle.doubles.proofs.Finites.{add-finite, less-itself}
use Rattle.accumulator.specs.declared.StatisticsAccumulator.{StatisticsAccumulator}
use Rattle.accumulator.specs.declared.steps.Figures.{Figures}
use Rattle.accumulator.specs.Record.{bounded, finite_sums, bounded_counts, well_formed, raised}
use Rattle.accumulator.specs.Update.{figures_for, without_of, processed_of, enough, updated_of}
use Rattle.accumulator.specs.Calls.{sound, kept}
use Rattle.accumulator.proofs.Processed.{judged-before}
use Rattle.accumulator.specs.Ended.{Plain, tallied_of, refusal_of, ended_of}

-- ---- finite sums by one comparison

two-zero : (p q : Bool) → le (add binary64 (cond p zero64 nan) (cond q zero64 nan)) zero64 ≡ (p && q)
unfolding le add of_bits
two-zero false q = refl
two-zero true false = refl
two-zero true true = refl

-- two numbers, each less itself, add up to zero exactly where both are finite
pub two-finite : (a b : Float) → le (add binary64 (sub binary64 a a) (sub binary64 b b)) zero64 ≡ (finite_of a && finite_of b)
two-finite a b = rw (less-itself a, less-itself b) (two-zero (finite_of a) (finite_of b))

-- ---- the judge looks at no estimate

updated-judged : (w : Bool) (a : StatisticsAccumulator) → well_formed (updated_of w a) ≡ well_formed (updated_of false a)
unfolding updated_of
updated-judged w a = elim (either (enough a)) [
  | inl e ↦ rw e (sym (judged-before w a) ∙ judged-before false a)
  | inr e ↦ rw e
]

-- ---- a record's sums and counts alone

abbrev pub tally : StatisticsAccumulator → StatisticsAccumulator
tally a =
    tallied_of a.sum a.new_samples a.sum_sq a.new_zero_evaluations a.total_sum a.processed_samples a.total_sum_sq a.num_zero_evaluations
    a.weight_sum a.cur_iter

module _ (a : StatisticsAccumulator) where
  before : well_formed (tally a) ≡ well_formed a
  unfolding well_formed finite_sums bounded_counts tallied_of
  before = refl

  waits : enough (tally a) ≡ enough a
  unfolding enough tallied_of
  waits = refl

  processed-tally : well_formed (processed_of false (tally a)) ≡ well_formed (processed_of false a)
  unfolding well_formed finite_sums bounded_counts processed_of tallied_of
  processed-tally = refl

  raised-tally : well_formed (raised (tally a)) ≡ well_formed (raised a)
  unfolding well_formed finite_sums bounded_counts raised tallied_of
  raised-tally = refl

  afterwards : well_formed (updated_of false (tally a)) ≡ well_formed (updated_of false a)
  unfolding updated_of
  afterwards = elim (either (enough a)) [
    | inl e ↦ rw (waits, e) processed-tally
    | inr e ↦ rw (waits, e) raised-tally
  ]

  refusal-tally : refusal_of (tally a) ≡ refusal_of a
  unfolding refusal_of
  refusal-tally = rw (before, afterwards)

  figures-tally : (w : Bool) → figures_for w (tally a) ≡ figures_for w a
  unfolding figures_for tallied_of
  figures-tally w = refl

  pub ended-tally : (w : Bool) → ended_of w (tally a) ≡ ended_of w a
  unfolding ended_of
  ended-tally w = rw (refusal-tally, waits, figures-tally w)

-- ---- refused, and not

module _ (w : Bool) (a : StatisticsAccumulator) where
  -- as the calls have it: n is the refusal of the iteration of a, f what it comes to
  pub ended-refused : (n : ℕ) → refuses n ≡ ended_of w a → (n ≡ refusal_of a) × (refusal_of a ≡ 0 → ⊥)
  unfolding ended_of
  ended-refused n h = elim (either (eqb (refusal_of a) 0)) [
    | inl e ↦ let x = rw e at h in absurd cc
    | inr e ↦ let x = rw e at h in (cc, λ z. let y = rw z at e in absurd cc)
  ]

  pub ended-given : (f : Figures) → gives f ≡ ended_of w a → (refusal_of a ≡ 0) × (f ≡ cond (enough a) (figures_for w a) without_of)
  unfolding ended_of
  ended-given f h = elim (either (eqb (refusal_of a) 0)) [
    | inl e ↦ let x = rw e at h in (eqb-true (refusal_of a) 0 e, cc)
    | inr e ↦ let x = rw e at h in absurd cc
  ]

  pub ended-fails : (refusal_of a ≡ 0 → ⊥) → ended_of w a ≡ refuses (refusal_of a)
  unfolding ended_of
  ended-fails h = elim (either (eqb (refusal_of a) 0)) [
    | inl e ↦ absurd (h (eqb-true (refusal_of a) 0 e))
    | inr e ↦ rw e
  ]

  pub ended-err : (r : Refusal) → number_of r ≡ refusal_of a → refuses (number_of r) ≡ ended_of w a
  ended-err r e = rw e (sym (ended-fails (nonzero r (refusal_of a) e)))

  -- the figures of an iteration that may end
  pub figures-there : refusal_of a ≡ 0 → enough a ≡ true → ended_of w a ≡ gives (figures_for w a)
  unfolding ended_of
  figures-there h e = rw (h, e)

  pub figures-missing : refusal_of a ≡ 0 → enough a ≡ false → ended_of w a ≡ gives without_of
  unfolding ended_of
  figures-missing h e = rw (h, e)

  -- what may end was well formed and is so afterwards
  pub may-end : refusal_of a ≡ 0 → (well_formed a ≡ true) × (well_formed (updated_of w a) ≡ true)
  unfolding refusal_of
  may-end h = elim (either (well_formed a)) [
    | inl e ↦ elim (either (well_formed (updated_of false a))) [
      | inl f ↦ (e, updated-judged w a ∙ f)
      | inr f ↦ let x = rw (e, f) at h in absurd (omega arith)
    ]
    | inr e ↦ let x = rw e at h in absurd (omega arith)
  ]

  pub allowed : {A : Type 0} (p : Paper A) → refusal_of a ≡ 0 → sound a (kept (updated_of w a) p) ≡ p
  allowed p h = let both = may-end h in rw (both.0, both.1)

  pub refused : {A : Type 0} (p : Paper A) → (refusal_of a ≡ 0 → ⊥) → sound a (kept (updated_of w a) p) ≡ refuses (refusal_of a)
  unfolding refusal_of
  refused p h = elim (either (well_formed a)) [
    | inl e ↦ elim (either (well_formed (updated_of false a))) [
      | inl f ↦ absurd (h (rw (e, f)))
      | inr f ↦ rw (updated-judged w a, e, f)
    ]
    | inr e ↦ rw e
  ]

module _ (w : Bool) (a : StatisticsAccumulator) where
  -- a call that ends as the iteration does
  pub stops : {A : Type 0} (p : Paper A) (n : ℕ) → refuses n ≡ ended_of w a → refuses n ≡ sound a (kept (updated_of w a) p)
  stops p n h = let e = ended-refused w a n h in rw e.0 (sym (refused w a p e.1))

  pub goes : {A : Type 0} (p : Paper A) (f : Figures) → gives f ≡ ended_of w a → p ≡ sound a (kept (updated_of w a) p)
  goes p f h = sym (allowed w a p (ended-given w a f h).0)

  pub figures : (f : Figures) → gives f ≡ ended_of w a → enough a ≡ true → f ≡ figures_for w a
  figures f h e = let x = (ended-given w a f h).1 in x ∙ ap (λ b. cond b (figures_for w a) without_of) e

-- ---- what plainly may end

zero-finite : finite_of zero64 ≡ true
unfolding finite_of of_bits
zero-finite = refl

-- a count far from its bound, and two of them together
small : (n : ℕ) → n < 2 ^ 52 → bounded n ≡ true
unfolding bounded
small n h = le-leb n (2 ^ 53) (omega arith)

both_small : (n m : ℕ) → n < 2 ^ 52 → m < 2 ^ 52 → bounded (n + m) ≡ true
unfolding bounded
both_small n m h i = le-leb (n + m) (2 ^ 53) (omega arith)

module _ (sum : Float) (n : ℕ) (sum_sq : Float) (zeros : ℕ) (total : Float) (processed : ℕ) (total_sq : Float) (num_zeros : ℕ) (weights : Float) (iterations : ℕ)
    (p : Plain n zeros processed num_zeros iterations (add binary64 total sum) (add binary64 total_sq sum_sq)) where
  abbrev a : StatisticsAccumulator
  a = tallied_of sum n sum_sq zeros total processed total_sq num_zeros weights iterations

  -- sums that are finite afterwards were so before
  finite-before : finite_sums a ≡ true
  unfolding finite_sums tallied_of
  finite-before =
      let sums = add-finite total sum p.sums in
      let squares = add-finite total_sq sum_sq p.squares in
      rw (sums.0, sums.1, squares.0, squares.1)

  well-formed : well_formed a ≡ true
  unfolding well_formed bounded_counts tallied_of
  well-formed =
      rw (finite-before, small n p.waiting, small zeros p.waiting_zeros, small iterations p.before, small processed p.all, small num_zeros p.all_zeros)

  processed-formed : well_formed (processed_of false a) ≡ true
  unfolding well_formed finite_sums bounded_counts processed_of tallied_of
  processed-formed =
      rw (p.sums, p.squares, zero-finite, small 0 (omega arith), both_small iterations 1 p.before (omega arith), both_small processed n p.all p.waiting, both_small num_zeros zeros p.all_zeros p.waiting_zeros)

  raised-formed : well_formed (raised a) ≡ true
  unfolding well_formed bounded_counts raised tallied_of finite_sums
  raised-formed =
      rw (finite-before, small n p.waiting, small zeros p.waiting_zeros, both_small iterations 1 p.before (omega arith), small processed p.all, small num_zeros p.all_zeros)

  pub plainly : refusal_of a ≡ 0
  unfolding refusal_of updated_of
  plainly = elim (either (enough a)) [
    | inl e ↦ rw (well-formed, e, processed-formed)
    | inr e ↦ rw (well-formed, e, raised-formed)
  ]
