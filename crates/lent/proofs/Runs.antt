-- Runs of entries written over others as far as there is room, and entries read past the last one.
use mathlib.Core.Path.{◌≡◌, refl, sym, ap, ap₂, ◌∙◌}
use mathlib.Core.List.{List, [], ◌∷◌, ◌++◌, append_assoc, append-nil}
use Prim.Native.Nat.{ℕ, zero, suc, ◌+◌, ◌-◌, ◌≤◌, ◌<◌}
use native.Mathlib.Omega.{arith}
use lib.ListN.{length, take, drop, get_or, set, replicate, get_or-replicate, drop_of_length-le, length-drop}
use lib.Seq.{sets, sets-eq, drop-drop, drop-length, get_or-drop, take_all}
use lib.Ieee.{Float, nan}
use Rattle.doubles.specs.Numbers.{zero64}
use Rattle.lent.specs.Memory.{Memory, memory, put, from_on, record_at, record_from}
use Rattle.lent.specs.Cleared.{cleared_at}

module _ {A : Type 0} where
  -- ---- writing

  -- where there is room the run stands between what was before and behind it
  pub sets-put : (at : ℕ) (vs l : List A) → at + length vs ≤ length l → sets l at vs ≡ put at (length vs) vs l
  unfolding put
  sets-put at vs l h = sets-eq vs l at h ∙ append_assoc (take at l) vs (drop (at + length vs) l) ∙ ap (λ (r : List A). take at l ++ (vs ++ r)) (sym (drop-drop (length vs) at l))

  -- as many as there are replace all
  pub sets-all : (vs l : List A) → length vs ≡ length l → sets l 0 vs ≡ vs
  sets-all vs l e =
      let f : 0 + length vs ≡ length l = omega (arith, e) in
      sets-eq vs l 0 (omega (arith, e))
      ∙ ap (λ (k : ℕ). take 0 l ++ vs ++ drop k l) f
      ∙ ap (λ (r : List A). vs ++ r) (drop-length l)
      ∙ append-nil vs

  -- ---- reading

  sets-cons : (x : A) (vs l : List A) (i : ℕ) → sets (x ∷ l) (suc i) vs ≡ x ∷ sets l i vs
  sets-cons x [] l i = refl
  sets-cons x (a ∷ vs) l i = sets-cons x vs (set l i a) (suc i)

  front : (d : A) (n : ℕ) (ys : List A) (k : ℕ) → k < n → get_or (sets (replicate n d) 0 ys) k d ≡ get_or ys k d
  front d n [] k h = get_or-replicate n k d d h
  front d zero (y ∷ ys) k h = absurd (omega arith)
  front d (suc n) (y ∷ ys) zero h = ap (λ (r : List A). get_or r zero d) (sets-cons y ys (replicate n d) 0)
  front d (suc n) (y ∷ ys) (suc k) h = ap (λ (r : List A). get_or r (suc k) d) (sets-cons y ys (replicate n d) 0) ∙ front d n ys k (omega arith)

  pub from_at : (n : ℕ) (d : A) (at : ℕ) (xs : List A) (k : ℕ) → k < n → get_or (from_on n d at xs) k d ≡ get_or xs (at + k) d
  unfolding from_on
  from_at n d at xs k h = front d n (drop at xs) k h ∙ get_or-drop at xs k d

  first-at : (n : ℕ) (d : A) (at : ℕ) (xs : List A) → 0 < n → get_or (from_on n d at xs) 0 d ≡ get_or xs at d
  first-at n d at xs h = let e : at + 0 ≡ at = omega arith in from_at n d at xs 0 h ∙ ap (λ (k : ℕ). get_or xs k d) e

  -- a part up to the end is all that is left
  pub rest-whole : (at : ℕ) (xs : List A) → take (length xs - at) (drop at xs) ≡ drop at xs
  rest-whole at xs = take_all (length xs - at) (drop at xs) (omega (arith, length-drop at xs))

  -- from a place past the last entry on there is nothing
  pub from_out : (n : ℕ) (d : A) (at : ℕ) (xs : List A) → length xs ≤ at → replicate n d ≡ from_on n d at xs
  unfolding from_on
  from_out n d at xs h = sym (ap (λ (r : List A). sets (replicate n d) 0 r) (drop_of_length-le xs h))

-- the record that its 14 reals and 7 counts make is the one that stands there
pub record-from : (reals : List Float) (counts : List ℕ) (r c : ℕ) → record_from (from_on 14 nan r reals) (from_on 7 0 c counts) ≡ record_at reals counts r c
unfolding record_from record_at
record-from reals counts r c =
    λ i. record {
      sum = first-at 14 nan r reals (omega arith) i;
      sum_sq = from_at 14 nan r reals 1 (omega arith) i;
      total_sum = from_at 14 nan r reals 2 (omega arith) i;
      total_sum_sq = from_at 14 nan r reals 3 (omega arith) i;
      weight_sum = from_at 14 nan r reals 4 (omega arith) i;
      avg_sum = from_at 14 nan r reals 5 (omega arith) i;
      avg = from_at 14 nan r reals 6 (omega arith) i;
      err = from_at 14 nan r reals 7 (omega arith) i;
      guess = from_at 14 nan r reals 8 (omega arith) i;
      chi_sq = from_at 14 nan r reals 9 (omega arith) i;
      chi_sum = from_at 14 nan r reals 10 (omega arith) i;
      chi_sq_sum = from_at 14 nan r reals 11 (omega arith) i;
      new_samples = first-at 7 0 c counts (omega arith) i;
      new_zero_evaluations = from_at 7 0 c counts 1 (omega arith) i;
      cur_iter = from_at 7 0 c counts 2 (omega arith) i;
      processed_samples = from_at 7 0 c counts 3 (omega arith) i;
      max_eval_positive = from_at 14 nan r reals 12 (omega arith) i;
      max_eval_positive_number = from_at 7 0 c counts 4 (omega arith) i;
      max_eval_negative = from_at 14 nan r reals 13 (omega arith) i;
      max_eval_negative_number = from_at 7 0 c counts 5 (omega arith) i;
      num_zero_evaluations = from_at 7 0 c counts 6 (omega arith) i;
    }

-- two zeros over the sums and over the counts: nothing waits in the record
pub cleared-run : (r c : ℕ) (s : Memory) → memory (sets s.reals r (replicate 2 zero64)) (sets s.counts c (replicate 2 0)) ≡ cleared_at r c s
unfolding cleared_at
cleared-run r c s =
    let e : suc r ≡ r + 1 = omega arith in
    let f : suc c ≡ c + 1 = omega arith in
    ap₂ (λ (i j : ℕ). memory (set (set s.reals r zero64) i zero64) (set (set s.counts c 0) j 0)) e f
