-- Numbers in bytes: two short ones side by side are a long one; bytes spell the number that they were made of.
use mathlib.Core.Path.{◌≡◌, refl, sym, ap, ◌∙◌}
use mathlib.Core.Bool.{true}
use mathlib.Core.List.{List, [], ◌∷◌, ◌++◌, append_assoc}
use Prim.Native.Nat.{ℕ, zero, suc, ◌+◌, ◌-◌, ◌*◌, ◌/◌, ◌%◌, ◌^◌, ◌<◌, ◌≤◌}
use native.Mathlib.Nat.{add-zero, pow-succ'}
use native.Mathlib.Numerals.{add-one}
use native.Mathlib.Omega.{arith}
use lib.ListN.{length, get_or, drop, length-drop, length-append}
use lib.Seq.{drop-cons, drop-drop, get_or-drop}
use Rattle.plan.specs.Numbers.{number_at, bytes_of, run_of, values_at, words_at}
use Rattle.plan.specs.Ranges.{within, bounded}
use Rattle.plan.specs.Bytes.{pairs, evolution_bytes}
use Rattle.plan.specs.Bounds.{Bytes}
use Rattle.plan.proofs.Flags.{and_left, and_right, at_most}

pub two_bytes : (bs : List ℕ) (at : ℕ) → get_or bs at 0 + 256 * get_or bs (at + 1) 0 ≡ number_at bs at 2
unfolding number_at
two_bytes bs at = omega arith

pub four_bytes : (bs : List ℕ) (at : ℕ) → number_at bs at 2 + 0x1_0000 * number_at bs (at + 2) 2 ≡ number_at bs at 4
unfolding number_at
four_bytes bs at = let e : at + 1 + 1 ≡ at + 2 = omega arith in rw e (omega arith)

pub eight-bytes : (bs : List ℕ) (at : ℕ) → number_at bs at 4 + 0x1_0000_0000 * number_at bs (at + 4) 4 ≡ number_at bs at 8
unfolding number_at
eight-bytes bs at = let e : at + 1 + 1 + 1 + 1 ≡ at + 4 = omega arith in rw e (omega arith)

-- 1. Bytes that stand there ---------------------------------------------------------------------------

pub spell_one : (bs : List ℕ) (at to : ℕ) → to ≡ at + 1 → to ≤ length bs → drop at bs ≡ get_or bs at 0 ∷ drop to bs
spell_one bs at to e h = drop-cons bs at 0 (omega arith) ∙ rw (e, add-one)

module _ (bs : List ℕ) (small : Bytes bs) where
  pub below-four : (at : ℕ) → number_at bs at 4 < 0x1_0000_0000
  unfolding number_at
  below-four at = omega (arith, small at, small (at + 1), small (at + 1 + 1), small (at + 1 + 1 + 1))

  pub below-eight : (at : ℕ) → number_at bs at 8 < 0x1_0000_0000_0000_0000
  below-eight at = let a = below-four at in let b = below-four (at + 4) in let e = eight-bytes bs at in omega arith

  pub spell-number : (n at to : ℕ) → to ≡ at + n → to ≤ length bs → drop at bs ≡ bytes_of n (number_at bs at n) ++ drop to bs
  unfolding bytes_of number_at
  spell-number zero at to e h = rw (e, add-zero)
  spell-number (suc n) at to e h =
      let g = small at in
      let low : (get_or bs at 0 + 256 * number_at bs (at + 1) n) % 256 ≡ get_or bs at 0 = omega arith in
      let high : (get_or bs at 0 + 256 * number_at bs (at + 1) n) / 256 ≡ number_at bs (at + 1) n = omega arith in
      let f : to ≡ at + 1 + n = omega arith in
      rw (low, high) (spell_one bs at (at + 1) refl (omega arith) ∙ ap (λ (l : List ℕ). get_or bs at 0 ∷ l) (spell-number n (at + 1) to f h))

  pub spell-values : (k at to : ℕ) → to ≡ at + 2 * k → to ≤ length bs → drop at bs ≡ pairs (values_at bs at k) ++ drop to bs
  unfolding values_at run_of pairs
  spell-values zero at to e h = let z : to ≡ at = omega arith in rw z
  spell-values (suc k) at to e h =
      let f : to ≡ at + 2 + 2 * k = omega arith in
      spell-number 2 at (at + 2) refl (omega arith)
      ∙ ap (λ (l : List ℕ). bytes_of 2 (number_at bs at 2) ++ l) (spell-values k (at + 2) to f h)
      ∙ sym (append_assoc (bytes_of 2 (number_at bs at 2)) (pairs (run_of (λ i. number_at bs i 2) 2 (at + 2) k)) (drop to bs))

pub evolution-bytes : (vs : List ℕ) → 0 < length vs → evolution_bytes vs ≡ 2 ∷ (bytes_of 2 (2 * length vs) ++ pairs vs)
unfolding evolution_bytes
evolution-bytes [] h = absurd (omega arith)
evolution-bytes (v ∷ vs) h = refl

pub run_length : (g : ℕ → ℕ) (apart at k : ℕ) → length (run_of g apart at k) ≡ k
unfolding run_of
run_length g apart at zero = refl
run_length g apart at (suc k) = ap suc (run_length g apart (at + apart) k)

pub values_length : (bs : List ℕ) (at k : ℕ) → length (values_at bs at k) ≡ k
unfolding values_at
values_length bs at k = run_length _ 2 at k

pub words-length : (xs : List ℕ) (w k : ℕ) → length (words_at xs w k) ≡ k
unfolding words_at
words-length xs w k = run_length _ 1 w k

-- 2. Bytes that are to be read --------------------------------------------------------------------------

-- the element that a list begins with, and what follows
pub record Read (bs : List ℕ) (at to x : ℕ) (rest : List ℕ) : Type 0 where
  pub value : get_or bs at 0 ≡ x
  pub next : drop to bs ≡ rest

pub read_one : (bs : List ℕ) (at to x : ℕ) (rest : List ℕ) → to ≡ at + 1 → drop at bs ≡ x ∷ rest → Read bs at to x rest
read_one bs at to x rest e d =
    let z : at + 0 ≡ at = add-zero at in
    record { value = ap (λ (i : ℕ). get_or bs i 0) (sym z) ∙ sym (get_or-drop at bs 0 0) ∙ ap (λ (l : List ℕ). get_or l 0 0) d; next = rw e (sym (drop-drop 1 at bs) ∙ ap (drop 1) d) }

-- the same of a number
pub record ReadNumber (bs : List ℕ) (at to n v : ℕ) (rest : List ℕ) : Type 0 where
  pub value : number_at bs at n ≡ v
  pub next : drop to bs ≡ rest

pub read_number : (bs : List ℕ) (n at to v : ℕ) (rest : List ℕ) → to ≡ at + n → v < 256 ^ n → drop at bs ≡ bytes_of n v ++ rest → ReadNumber bs at to n v rest
unfolding number_at bytes_of
read_number bs zero at to v rest e h d =
    let z : to ≡ at = e ∙ add-zero at in
    record { value = let y : v < 1 = h in omega arith; next = rw z d }
read_number bs (suc n) at to v rest e h d =
    let p : v < 256 * 256 ^ n = rw pow-succ' at h in
    let r = read_one bs at (at + 1) (v % 256) (bytes_of n (v / 256) ++ rest) refl d in
    let k = read_number bs n (at + 1) to (v / 256) rest (omega arith) (omega arith) r.next in
    record { value = rw (r.value, k.value) (omega arith); next = k.next }

pub record ReadValues (bs : List ℕ) (at to : ℕ) (vs rest : List ℕ) : Type 0 where
  pub value : values_at bs at (length vs) ≡ vs
  pub next : drop to bs ≡ rest

pub read-values : (bs : List ℕ) (vs : List ℕ) (at to : ℕ) (rest : List ℕ) → to ≡ at + 2 * length vs → bounded vs ≡ true → drop at bs ≡ pairs vs ++ rest → ReadValues bs at to vs rest
unfolding values_at run_of pairs bounded
read-values bs [] at to rest e b d = let z : to ≡ at = omega arith in record { value = refl; next = rw z d }
read-values bs (v ∷ vs) at to rest e b d =
    let small : v < 65536 = omega (arith, at_most 1 1024 v (and_left (within 1 1024 v) (bounded vs) b)) in
    let r = read_number bs 2 at (at + 2) v (pairs vs ++ rest) refl small (d ∙ append_assoc (bytes_of 2 v) (pairs vs) rest) in
    let k = read-values bs vs (at + 2) to rest (omega arith) (and_right (within 1 1024 v) (bounded vs) b) r.next in
    record { value = rw (r.value, k.value); next = k.next }

-- how far the bytes reach that a place begins with
pub long : (bs : List ℕ) (at n : ℕ) (enc : List ℕ) → drop at bs ≡ enc → 0 < n → n ≤ length enc → at + n ≤ length bs
long bs at n enc e z h = let l : length bs - at ≡ length enc = sym (length-drop at bs) ∙ ap length e in omega arith

pub bytes-length : (n v : ℕ) → length (bytes_of n v) ≡ n
unfolding bytes_of
bytes-length zero v = refl
bytes-length (suc n) v = ap suc (bytes-length n (v / 256))

pub pairs-length : (vs : List ℕ) → length (pairs vs) ≡ 2 * length vs
unfolding pairs
pairs-length [] = refl
pairs-length (v ∷ vs) = simp (length-append, bytes-length) (omega (arith, pairs-length vs))

-- the lengths of 01 and 03 as bytes
pub sixteen : bytes_of 2 16 ≡ 16 ∷ (0 ∷ [])
unfolding bytes_of
sixteen = refl

pub eleven : bytes_of 2 11 ≡ 11 ∷ (0 ∷ [])
unfolding bytes_of
eleven = refl
