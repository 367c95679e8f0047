-- Bytes with others behind them: what stands in front stays.
use Rattle.std.proofs.Common.{◌≡◌, ℕ, zero, suc, ◌+◌, ◌-◌, ◌*◌, ◌<◌, ◌≤◌, Bool, true, false, cond, not, ◌&&◌, eqb, ltb, leb, List, ◌∷◌, ◌++◌, length, get_or, drop, sym, refl, ap, ◌∙◌, arith, length-append, length-drop, get_or-drop, ltb-false, le-ltb, le-leb, leb-false, leb-true}
use borrow.Author.Tests.{lt-leb}
use lib.ListN.{get_or-append}
use lib.Ieee.{Float, binary64, of_bits}
use Rattle.doubles.proofs.Truth.{both}
use Rattle.plan.specs.Numbers.{number_at}
use Rattle.feed.specs.declared.fields.Standing.TheVariants as standing
use Rattle.feed.specs.Fields.{double_at, missing_of, standing_of, is_sample, row_from}
use Rattle.feed.proofs.Rows.{sample-whole, row-none, row_one}

module _ (xs ys : List ℕ) where
  longer : length xs ≤ length (xs ++ ys)
  longer = omega (arith, length-append xs ys)

  -- ---- numbers

  pub number-front : (k at : ℕ) → at + k ≤ length xs → number_at (xs ++ ys) at k ≡ number_at xs at k
  unfolding number_at
  number-front zero at h = refl
  number-front (suc k) at h =
      let here : get_or (xs ++ ys) at 0 ≡ get_or xs at 0 = get_or-append xs ys 0 at (omega arith) in
      let rest : number_at (xs ++ ys) (at + 1) k ≡ number_at xs (at + 1) k = number-front k (at + 1) (omega arith) in
      rw (here, rest)

  pub double-front : (at : ℕ) → at + 8 ≤ length xs → double_at (xs ++ ys) at ≡ double_at xs at
  unfolding double_at
  double-front at h = ap (of_bits binary64) (number-front 8 at h)

  -- ---- a field: where it does not wait, more bytes change nothing

  module _ (tag size : ℕ) (last : Bool) where
    same : (a b c d : Bool) → ltb (length xs) 3 ≡ a → eqb (get_or xs 0 0) tag ≡ b → eqb (number_at xs 1 2) size ≡ c → ltb (length xs) (3 + size) ≡ d
        → (cond a (missing_of false) (cond (not b) standing.Wrong (cond (not c) standing.Wrong (cond d (missing_of false) standing.Whole))) ≡ standing.Waiting → ⊥)
        → standing_of (xs ++ ys) tag size last ≡ cond a (missing_of false) (cond (not b) standing.Wrong (cond (not c) standing.Wrong (cond d (missing_of false) standing.Whole)))
    unfolding standing_of missing_of
    same true b c d p q r s not_so = absurd (not_so refl)
    same false false c d p q r s not_so =
        let h : 3 ≤ length xs = ltb-false (length xs) 3 p in
        let l : 3 ≤ length (xs ++ ys) = omega (arith, longer) in
        let t : eqb (get_or (xs ++ ys) 0 0) tag ≡ false = ap (λ (x : ℕ). eqb x tag) (get_or-append xs ys 0 0 (omega arith)) ∙ q in
        rw (le-ltb (length (xs ++ ys)) 3 l, t)
    same false true false d p q r s not_so =
        let h : 3 ≤ length xs = ltb-false (length xs) 3 p in
        let l : 3 ≤ length (xs ++ ys) = omega (arith, longer) in
        let t : eqb (get_or (xs ++ ys) 0 0) tag ≡ true = ap (λ (x : ℕ). eqb x tag) (get_or-append xs ys 0 0 (omega arith)) ∙ q in
        let u : eqb (number_at (xs ++ ys) 1 2) size ≡ false = ap (λ (x : ℕ). eqb x size) (number-front 2 1 (omega arith)) ∙ r in
        rw (le-ltb (length (xs ++ ys)) 3 l, t, u)
    same false true true true p q r s not_so = absurd (not_so refl)
    same false true true false p q r s not_so =
        let h : 3 ≤ length xs = ltb-false (length xs) 3 p in
        let l : 3 ≤ length (xs ++ ys) = omega (arith, longer) in
        let t : eqb (get_or (xs ++ ys) 0 0) tag ≡ true = ap (λ (x : ℕ). eqb x tag) (get_or-append xs ys 0 0 (omega arith)) ∙ q in
        let u : eqb (number_at (xs ++ ys) 1 2) size ≡ true = ap (λ (x : ℕ). eqb x size) (number-front 2 1 (omega arith)) ∙ r in
        let w : 3 + size ≤ length (xs ++ ys) = omega (arith, longer, ltb-false (length xs) (3 + size) s) in
        rw (le-ltb (length (xs ++ ys)) 3 l, t, u, le-ltb (length (xs ++ ys)) (3 + size) w)

    pub standing-stays : (standing_of xs tag size false ≡ standing.Waiting → ⊥) → standing_of (xs ++ ys) tag size last ≡ standing_of xs tag size false
    unfolding standing_of
    standing-stays not_so = same (ltb (length xs) 3) (eqb (get_or xs 0 0) tag) (eqb (number_at xs 1 2) size) (ltb (length xs) (3 + size)) refl refl refl refl not_so

  -- ---- a row: it goes on behind what was its end

  pub sample-front : (at : ℕ) → is_sample xs at ≡ true → is_sample (xs ++ ys) at ≡ true
  unfolding is_sample
  sample-front at e =
      let p = both (leb (at + 11) (length xs)) (eqb (get_or xs at 0) 0x11 && eqb (number_at xs (at + 1) 2) 8) e in
      let q = both (eqb (get_or xs at 0) 0x11) (eqb (number_at xs (at + 1) 2) 8) p.1 in
      let h : at + 11 ≤ length xs = leb-true (at + 11) (length xs) p.0 in
      let l : at + 11 ≤ length (xs ++ ys) = omega (arith, longer) in
      rw (le-leb (at + 11) (length (xs ++ ys)) l, get_or-append xs ys 0 at (omega arith), q.0, number-front 2 (at + 1) (omega arith), q.1)

  more : (at n : ℕ) (b : Bool) → is_sample xs at ≡ b
      → (row_from (xs ++ ys) (at + 11) n ≡ row_from xs (at + 11) n ++ row_from (xs ++ ys) (at + 11 + 11 * length (row_from xs (at + 11) n)) (n - length (row_from xs (at + 11) n)))
      → row_from (xs ++ ys) at (suc n) ≡ row_from xs at (suc n) ++ row_from (xs ++ ys) (at + 11 * length (row_from xs at (suc n))) (suc n - length (row_from xs at (suc n)))
  more at n true e ih =
      let row = row_from xs (at + 11) n in
      let d : double_at (xs ++ ys) (at + 3) ≡ double_at xs (at + 3) = double-front (at + 3) (omega (arith, sample-whole xs at e)) in
      let i : at + 11 + 11 * length row ≡ at + 11 * suc (length row) = omega arith in
      let k : n - length row ≡ suc n - suc (length row) = omega arith in
      row_one (xs ++ ys) at n (sample-front at e)
      ∙ ap (λ (x : Float). x ∷ row_from (xs ++ ys) (at + 11) n) d
      ∙ ap (λ (l : List Float). double_at xs (at + 3) ∷ l) ih
      ∙ ap (λ (j : ℕ). double_at xs (at + 3) ∷ (row ++ row_from (xs ++ ys) j (n - length row))) i
      ∙ ap (λ (j : ℕ). double_at xs (at + 3) ∷ (row ++ row_from (xs ++ ys) (at + 11 * suc (length row)) j)) k
      ∙ ap (λ (l : List Float). l ++ row_from (xs ++ ys) (at + 11 * length l) (suc n - length l)) (sym (row_one xs at n e))
  more at n false e ih =
      let i : at ≡ at + 11 * 0 = omega arith in
      let k : suc n ≡ suc n - 0 = omega arith in
      ap (λ (j : ℕ). row_from (xs ++ ys) j (suc n)) i
      ∙ ap (row_from (xs ++ ys) (at + 11 * 0)) k
      ∙ ap (λ (l : List Float). l ++ row_from (xs ++ ys) (at + 11 * length l) (suc n - length l)) (sym (row-none xs at (suc n) e))

  pub row-longer : (n at : ℕ) → row_from (xs ++ ys) at n ≡ row_from xs at n ++ row_from (xs ++ ys) (at + 11 * length (row_from xs at n)) (n - length (row_from xs at n))
  unfolding row_from
  row-longer zero at = refl
  row-longer (suc n) at = more at n (is_sample xs at) refl (row-longer n (at + 11))

-- ---- what is left of some bytes

module _ (bs : List ℕ) (k : ℕ) where
  number-drop : (n at : ℕ) → number_at (drop k bs) at n ≡ number_at bs (k + at) n
  unfolding number_at
  number-drop zero at = refl
  number-drop (suc n) at =
      let i : k + at + 1 ≡ k + (at + 1) = omega arith in
      rw (get_or-drop k bs at 0, i, number-drop n (at + 1))

  there-drop : (at : ℕ) (b : Bool) → leb (k + at + 11) (length bs) ≡ b → leb (at + 11) (length (drop k bs)) ≡ b
  there-drop at true e =
      let h : k + at + 11 ≤ length bs = leb-true (k + at + 11) (length bs) e in
      le-leb (at + 11) (length (drop k bs)) (omega (arith, length-drop k bs))
  there-drop at false e =
      let h : length bs < k + at + 11 = leb-false (k + at + 11) (length bs) e in
      lt-leb (at + 11) (length (drop k bs)) (omega (arith, length-drop k bs))

  pub sample-drop : (at : ℕ) → is_sample (drop k bs) at ≡ is_sample bs (k + at)
  unfolding is_sample
  sample-drop at =
      let i : k + (at + 1) ≡ k + at + 1 = omega arith in
      rw (there-drop at (leb (k + at + 11) (length bs)) refl, get_or-drop k bs at 0, number-drop 2 (at + 1), i)

  double-drop : (at : ℕ) → double_at (drop k bs) at ≡ double_at bs (k + at)
  unfolding double_at
  double-drop at = ap (of_bits binary64) (number-drop 8 at)

  pub row_drop : (n at : ℕ) → row_from (drop k bs) at n ≡ row_from bs (k + at) n
  unfolding row_from
  row_drop zero at = refl
  row_drop (suc n) at =
      let i : k + (at + 11) ≡ k + at + 11 = omega arith in
      let j : k + (at + 3) ≡ k + at + 3 = omega arith in
      rw (sample-drop at, double-drop (at + 3), j, row_drop n (at + 11), i)
