-- Memory that is the same on an interval: what a write elsewhere leaves, and what reads the same there.
use mathlib.Core.Path.{◌≡◌, refl, sym, ap, ap₂, ◌∙◌}
use mathlib.Core.List.{List, [], ◌∷◌, ◌++◌}
use Prim.Native.Nat.{ℕ, zero, suc, ◌+◌, ◌-◌, ◌≤◌, ◌<◌, min}
use native.Mathlib.Nat.{min-le_left}
use mathlib.Core.Logic.{◌≢◌}
use native.Mathlib.Omega.{arith}
use lib.ListN.{length, take, drop, set, get_or, length-append, length-take, length-drop, length-set, get_or-append}
use lib.Seq.{get_or-take, get_or-set_same, get_or-drop, get_or-set_other, get_or-append-add, length-take-le, ext_get_or, take_at, drop_at, sets}
use Rattle.lent.specs.Layout.{stretch}
use Rattle.lent.specs.Memory.{put}

module _ {A : Type 0} where
  -- two lists of one length whose entries from lo up to below hi agree
  pub record Same (d : A) (lo hi : ℕ) (xs ys : List A) : Type 0 where
    pub size : length xs ≡ length ys
    pub cells : (p : ℕ) → lo ≤ p → p < hi → get_or xs p d ≡ get_or ys p d

  pub same_refl : (d : A) (lo hi : ℕ) (xs : List A) → Same d lo hi xs xs
  same_refl d lo hi xs = record { size = refl; cells = λ p h k. refl }

  pub same-sym : (d : A) (lo hi : ℕ) (xs ys : List A) → Same d lo hi xs ys → Same d lo hi ys xs
  same-sym d lo hi xs ys s = record { size = sym s.size; cells = λ p h k. sym (s.cells p h k) }

  pub same-on : (d : A) (lo hi : ℕ) (xs ys zs : List A) → Same d lo hi xs ys → Same d lo hi ys zs → Same d lo hi xs zs
  same-on d lo hi xs ys zs s t = record { size = s.size ∙ t.size; cells = λ p h k. s.cells p h k ∙ t.cells p h k }

  pub same-within : (d : A) (lo hi lo' hi' : ℕ) (xs ys : List A) → lo ≤ lo' → hi' ≤ hi → Same d lo hi xs ys → Same d lo' hi' xs ys
  same-within d lo hi lo' hi' xs ys h k s = record { size = s.size; cells = λ p i j. s.cells p (omega arith) (omega arith) }

  -- a write elsewhere
  pub same_set : (d : A) (lo hi p : ℕ) (v : A) (xs : List A) → ((q : ℕ) → lo ≤ q → q < hi → q ≢ p) → Same d lo hi (set xs p v) xs
  same_set d lo hi p v xs h = record { size = length-set xs p v; cells = λ q i j. get_or-set_other xs p q v d (h q i j) }

  pub same-set-below : (d : A) (lo hi p : ℕ) (v : A) (xs : List A) → p < lo → Same d lo hi (set xs p v) xs
  same-set-below d lo hi p v xs h = same_set d lo hi p v xs (λ q i j e. absurd (omega arith))

  pub same-set-above : (d : A) (lo hi p : ℕ) (v : A) (xs : List A) → hi ≤ p → Same d lo hi (set xs p v) xs
  same-set-above d lo hi p v xs h = same_set d lo hi p v xs (λ q i j e. absurd (omega arith))

  -- ---- a part replaced

  pub length-put : (at n : ℕ) (ys xs : List A) → at + n ≤ length xs → length ys ≡ n → length (put at n ys xs) ≡ length xs
  unfolding put
  length-put at n ys xs h e =
      length-append (take at xs) (ys ++ drop n (drop at xs))
      ∙ ap₂ (λ (a b : ℕ). a + b) (length-take-le at xs (omega arith)) (length-append ys (drop n (drop at xs)) ∙ ap₂ (λ (a b : ℕ). a + b) e (length-drop n (drop at xs) ∙ ap (λ (k : ℕ). k - n) (length-drop at xs)))
      ∙ omega arith

  pub get_d-put-below : (d : A) (at n p : ℕ) (ys xs : List A) → at ≤ length xs → p < at → get_or (put at n ys xs) p d ≡ get_or xs p d
  unfolding put
  get_d-put-below d at n p ys xs h k =
      get_or-append (take at xs) (ys ++ drop n (drop at xs)) d p (omega (arith, length-take-le at xs h)) ∙ get_or-take at xs p d k

  -- q entries into what was put, or q past it
  pub get_d-put-in : (d : A) (at n q : ℕ) (ys xs : List A) → at ≤ length xs → q < length ys → get_or (put at n ys xs) (at + q) d ≡ get_or ys q d
  unfolding put
  get_d-put-in d at n q ys xs h k =
      ap (λ (j : ℕ). get_or (take at xs ++ (ys ++ drop n (drop at xs))) (j + q) d) (sym (length-take-le at xs h))
      ∙ get_or-append-add (take at xs) (ys ++ drop n (drop at xs)) q d
      ∙ get_or-append ys (drop n (drop at xs)) d q k

  pub get_d-put-past : (d : A) (at n q : ℕ) (ys xs : List A) → at ≤ length xs → length ys ≡ n → get_or (put at n ys xs) (at + (n + q)) d ≡ get_or xs (at + (n + q)) d
  unfolding put
  get_d-put-past d at n q ys xs h e =
      ap (λ (j : ℕ). get_or (take at xs ++ (ys ++ drop n (drop at xs))) (j + (n + q)) d) (sym (length-take-le at xs h))
      ∙ get_or-append-add (take at xs) (ys ++ drop n (drop at xs)) (n + q) d
      ∙ ap (λ (j : ℕ). get_or (ys ++ drop n (drop at xs)) (j + q) d) (sym e)
      ∙ get_or-append-add ys (drop n (drop at xs)) q d
      ∙ get_or-drop n (drop at xs) q d
      ∙ get_or-drop at xs (n + q) d

  pub same-put-below : (d : A) (lo hi at n : ℕ) (ys xs : List A) → at + n ≤ length xs → length ys ≡ n → at + n ≤ lo → Same d lo hi (put at n ys xs) xs
  same-put-below d lo hi at n ys xs h e k =
      record {
        size = length-put at n ys xs h e;
        cells = λ p i j. let f : p ≡ at + (n + (p - (at + n))) = omega arith in
            ap (λ (q : ℕ). get_or (put at n ys xs) q d) f ∙ get_d-put-past d at n (p - (at + n)) ys xs (omega arith) e ∙ ap (λ (q : ℕ). get_or xs q d) (sym f);
      }

  pub same-put-above : (d : A) (lo hi at n : ℕ) (ys xs : List A) → at + n ≤ length xs → length ys ≡ n → hi ≤ at → Same d lo hi (put at n ys xs) xs
  same-put-above d lo hi at n ys xs h e k =
      record { size = length-put at n ys xs h e; cells = λ p i j. get_d-put-below d at n p ys xs (omega arith) (omega arith) }

  pub stretch-put : (at n : ℕ) (ys xs : List A) → at ≤ length xs → length ys ≡ n → stretch at n (put at n ys xs) ≡ ys
  unfolding put stretch
  stretch-put at n ys xs h e =
      ap (take n) (drop_at (take at xs) (ys ++ drop n (drop at xs)) at (length-take-le at xs h)) ∙ take_at ys (drop n (drop at xs)) n e

  -- ---- a run of stores

  pub same-sets-below : (d : A) (lo hi i : ℕ) (vs xs : List A) → i + length vs ≤ lo → Same d lo hi (sets xs i vs) xs
  same-sets-below d lo hi i [] xs h = same_refl d lo hi xs
  same-sets-below d lo hi i (v ∷ vs) xs h =
      same-on d lo hi (sets (set xs i v) (suc i) vs) (set xs i v) xs (same-sets-below d lo hi (suc i) vs (set xs i v) (omega arith)) (same-set-below d lo hi i v xs (omega arith))

  pub same-sets-above : (d : A) (lo hi i : ℕ) (vs xs : List A) → hi ≤ i → Same d lo hi (sets xs i vs) xs
  same-sets-above d lo hi i [] xs h = same_refl d lo hi xs
  same-sets-above d lo hi i (v ∷ vs) xs h =
      same-on d lo hi (sets (set xs i v) (suc i) vs) (set xs i v) xs (same-sets-above d lo hi (suc i) vs (set xs i v) (omega arith)) (same-set-above d lo hi i v xs h)

  -- what was stored: the entry j of vs
  pub get_d_sets : (d : A) (i j : ℕ) (vs xs : List A) → i + length vs ≤ length xs → j < length vs → get_or (sets xs i vs) (i + j) d ≡ get_or vs j d
  get_d_sets d i j [] xs h k = absurd (omega arith)
  get_d_sets d i zero (v ∷ vs) xs h k =
      let e : i + 0 ≡ i = omega arith in
      ap (λ (p : ℕ). get_or (sets (set xs i v) (suc i) vs) p d) e
      ∙ (same-sets-above d 0 (suc i) (suc i) vs (set xs i v) (omega arith)).cells i (omega arith) (omega arith)
      ∙ get_or-set_same xs i v d (omega arith)
  get_d_sets d i (suc j) (v ∷ vs) xs h k =
      let e : i + suc j ≡ suc i + j = omega arith in
      ap (λ (p : ℕ). get_or (sets (set xs i v) (suc i) vs) p d) e ∙ get_d_sets d (suc i) j vs (set xs i v) (omega (arith, length-set xs i v)) (omega arith)

  -- ---- what reads the same

  length-stretch : (at n : ℕ) (xs ys : List A) → length xs ≡ length ys → length (stretch at n xs) ≡ length (stretch at n ys)
  unfolding stretch
  length-stretch at n xs ys e =
      length-take n (drop at xs) ∙ ap (min n) (length-drop at xs ∙ ap (λ (k : ℕ). k - at) e ∙ sym (length-drop at ys)) ∙ sym (length-take n (drop at ys))

  stretch-short : (at n i : ℕ) (xs : List A) → i < length (stretch at n xs) → i < n
  unfolding stretch
  stretch-short at n i xs h = omega (arith, length-take n (drop at xs), min-le_left n (length (drop at xs)))

  pub get_d-stretch : (d : A) (at n i : ℕ) (xs : List A) → i < n → get_or (stretch at n xs) i d ≡ get_or xs (at + i) d
  unfolding stretch
  get_d-stretch d at n i xs h = get_or-take n (drop at xs) i d h ∙ get_or-drop at xs i d

  pub stretch-same : (d : A) (lo hi at n : ℕ) (xs ys : List A) → Same d lo hi xs ys → lo ≤ at → at + n ≤ hi → stretch at n xs ≡ stretch at n ys
  stretch-same d lo hi at n xs ys s h k =
      ext_get_or d (stretch at n xs) (stretch at n ys) (length-stretch at n xs ys s.size) (λ i j.
      let below : i < n = stretch-short at n i xs j in
      get_d-stretch d at n i xs below ∙ s.cells (at + i) (omega arith) (omega arith) ∙ sym (get_d-stretch d at n i ys below))

  -- ---- lists that read alike from lo up to below hi, whatever lies past it

  pub record Alike (d : A) (lo hi : ℕ) (xs ys : List A) : Type 0 where
    pub cells : (p : ℕ) → lo ≤ p → p < hi → get_or xs p d ≡ get_or ys p d
    pub parts : (at n : ℕ) → lo ≤ at → at + n ≤ hi → stretch at n xs ≡ stretch at n ys

  pub same_alike : (d : A) (lo hi : ℕ) (xs ys : List A) → Same d lo hi xs ys → Alike d lo hi xs ys
  same_alike d lo hi xs ys s = record { cells = s.cells; parts = λ at n h k. stretch-same d lo hi at n xs ys s h k }

  length-inside : (at n hi : ℕ) (xs : List A) → hi ≤ length xs → at + n ≤ hi → length (stretch at n xs) ≡ n
  unfolding stretch
  length-inside at n hi xs h k = length-take-le n (drop at xs) (omega (arith, length-drop at xs))

  pub inside-alike : (d : A) (lo hi : ℕ) (xs ys : List A) → hi ≤ length xs → hi ≤ length ys → ((p : ℕ) → lo ≤ p → p < hi → get_or xs p d ≡ get_or ys p d) → Alike d lo hi xs ys
  inside-alike d lo hi xs ys h k e =
      record {
        cells = e;
        parts = λ at n i j.
            let size = length-inside at n hi xs h j in
            ext_get_or d (stretch at n xs) (stretch at n ys) (size ∙ sym (length-inside at n hi ys k j)) (λ q l.
            get_d-stretch d at n q xs (omega (arith, size)) ∙ e (at + q) (omega arith) (omega (arith, size)) ∙ sym (get_d-stretch d at n q ys (omega (arith, size))));
      }

  pub alike-within : (d : A) (lo hi lo' hi' : ℕ) (xs ys : List A) → lo ≤ lo' → hi' ≤ hi → Alike d lo hi xs ys → Alike d lo' hi' xs ys
  alike-within d lo hi lo' hi' xs ys h k s = record { cells = λ p i j. s.cells p (omega arith) (omega arith); parts = λ at n i j. s.parts at n (omega arith) (omega arith) }
