-- Words of a list by number: past the last all are 0, so a number that is cut to a word's greatest tells the same; and words and bytes in a row.
use Rattle.std.proofs.Common.{◌≡◌, ℕ, suc, ◌+◌, ◌-◌, ◌/◌, ◌^◌, ◌<◌, ◌≤◌, Bool, true, false, ◌&&◌, ◌==◌, ltb, min, List, ◌++◌, length, get_or, take, drop, set, refl, ap, arith, drop-cons, append_assoc, append-nil, take_all, drop_of_length-le, le-leb, ltb-true, ltb-false}
use Rattle.std.proofs.Math.Bool.{and-true}
use Rattle.std.proofs.lemmas.List.{take_more_set}
use Rattle.answers.specs.List.{words_of, word_of, holds_of, byte_in, bytes_from}

module _ (l : List ℕ) (small : length l < 2 ^ 64) where
  pub word-near : (i j : ℕ) → j ≡ min i (2 ^ 64 - 1) → word_of l j ≡ word_of l i
  unfolding word_of words_of
  word-near i j e = go (ltb i (2 ^ 64)) refl
    where
      go : (b : Bool) → ltb i (2 ^ 64) ≡ b → word_of l j ≡ word_of l i
      go true t = let h = ltb-true i (2 ^ 64) t in let q : j ≡ i = omega arith in ap (word_of l) q
      go false t =
          let h = ltb-false i (2 ^ 64) t in
          let there : length l / 17 ≤ i = omega arith in
          let here : length l / 17 ≤ j = omega arith in
          rw (le-leb _ _ there, le-leb _ _ here)

-- one word more, tested behind what is known
pub holds-on : (a : Bool) (l vs : List ℕ) (at i w : ℕ) → i < length vs → w ≡ word_of l (at + i)
    → (a && w == get_or vs i 0 && holds_of l (at + (i + 1)) (drop (i + 1) vs)) ≡ (a && holds_of l (at + i) (drop i vs))
unfolding holds_of
holds-on false l vs at i w h e = refl
holds-on true l vs at i w h e =
    let next : at + (i + 1) ≡ at + i + 1 = omega arith in
    let one : i + 1 ≡ suc i = omega arith in
    rw (e, next, one, drop-cons vs i 0)

-- no word more
pub holds-done : (a : Bool) (l vs : List ℕ) (at i : ℕ) → length vs ≤ i → (a && holds_of l (at + i) (drop i vs)) ≡ a
unfolding holds_of
holds-done a l vs at i h = rw (drop_of_length-le vs h) (and-true a)

-- one byte more, of n in all
pub load-on : (l room : List ℕ) (at i n b : ℕ) → i < length room → i < n → b ≡ byte_in l at i
    → take (i + 1) (set room i b) ++ bytes_from l at (i + 1) (n - (i + 1)) ≡ take i room ++ bytes_from l at i (n - i)
unfolding bytes_from
load-on l room at i n b h m e =
    let k : n - i ≡ suc (n - (i + 1)) = omega arith in
    rw (take_more_set room i b h, k, e, append_assoc)

-- no byte more
pub load-done : (l room : List ℕ) (at i n : ℕ) → length room ≡ n → n ≤ i → take i room ++ bytes_from l at i (n - i) ≡ room
unfolding bytes_from
load-done l room at i n e h =
    let z : n - i ≡ 0 = omega arith in
    let all : length room ≤ i = omega arith in
    rw (z, append-nil) (take_all i room all)
