-- What a sample changes in a record, put into memory: those cells are as they were put, and all others as they were.
use mathlib.Core.Path.{◌≡◌, refl, ◌∙◌}
use mathlib.Core.Logic.{◌≢◌}
use mathlib.Core.List.{List}
use Prim.Native.Nat.{ℕ, ◌+◌, ◌≤◌, ◌<◌}
use native.Mathlib.Omega.{arith}
use lib.ListN.{length, get_or, set, length-set}
use lib.Seq.{get_or-set_same, get_or-set_other}
use lib.Ieee.{Float, nan}
use Rattle.accumulator.specs.declared.StatisticsAccumulator.{StatisticsAccumulator}
use Rattle.accumulator.specs.Record.{with_waiting, with_extremes}
use Rattle.accumulator.specs.Steps.{added_of}
use Rattle.lent.specs.declared.Gain.{Gain}
use Rattle.lent.specs.Memory.{Memory, record_at}
use Rattle.lent.specs.Absorbed.{gain_of, gained}
use Rattle.lent.proofs.Same.{Same}
use Rattle.lent.proofs.FoundedOwn.{Within}

-- ---- four stores: at p, behind it, and at two places further on
module _ {A : Type 0} (d : A) (p j k : ℕ) (x y z u : A) (xs : List A) (after : 1 < j) (last : j < k) where
  abbrev one : List A
  one = set xs p x

  abbrev two : List A
  two = set one (p + 1) y

  abbrev three : List A
  three = set two (p + j) z

  abbrev four : List A
  four = set three (p + k) u

  size : length four ≡ length xs
  size = length-set three (p + k) u ∙ length-set two (p + j) z ∙ length-set one (p + 1) y ∙ length-set xs p x

  pub elsewhere : (q : ℕ) → q ≢ p → q ≢ p + 1 → q ≢ p + j → q ≢ p + k → get_or four q d ≡ get_or xs q d
  elsewhere q a b c e = get_or-set_other three (p + k) q u d e ∙ get_or-set_other two (p + j) q z d c ∙ get_or-set_other one (p + 1) q y d b ∙ get_or-set_other xs p q x d a

  pub four_below : (lo hi : ℕ) → hi ≤ p → Same d lo hi four xs
  four_below lo hi h =
      record { size = size; cells = λ q a b. elsewhere q (λ e. absurd (omega arith)) (λ e. absurd (omega arith)) (λ e. absurd (omega arith)) (λ e. absurd (omega arith)) }

  pub four-above : (lo hi : ℕ) → p + k < lo → Same d lo hi four xs
  four-above lo hi h =
      record { size = size; cells = λ q a b. elsewhere q (λ e. absurd (omega arith)) (λ e. absurd (omega arith)) (λ e. absurd (omega arith)) (λ e. absurd (omega arith)) }

  module _ (room : p + k < length xs) where
    pub at_first : get_or four p d ≡ x
    at_first =
        get_or-set_other three (p + k) p u d (λ e. absurd (omega arith)) ∙ get_or-set_other two (p + j) p z d (λ e. absurd (omega arith))
        ∙ get_or-set_other one (p + 1) p y d (λ e. absurd (omega arith)) ∙ get_or-set_same xs p x d (omega arith)

    pub at_second : get_or four (p + 1) d ≡ y
    at_second =
        get_or-set_other three (p + k) (p + 1) u d (λ e. absurd (omega arith)) ∙ get_or-set_other two (p + j) (p + 1) z d (λ e. absurd (omega arith))
        ∙ get_or-set_same one (p + 1) y d (omega (arith, length-set xs p x))

    pub at-third : get_or four (p + j) d ≡ z
    at-third =
        get_or-set_other three (p + k) (p + j) u d (λ e. absurd (omega arith))
        ∙ get_or-set_same two (p + j) z d (omega (arith, length-set xs p x, length-set one (p + 1) y))

    pub at_last : get_or four (p + k) d ≡ u
    at_last = get_or-set_same three (p + k) u d (omega (arith, length-set xs p x, length-set one (p + 1) y, length-set two (p + j) z))

-- ---- a record

-- the record with these values in it
unfoldable pub with_gain : StatisticsAccumulator → Gain → StatisticsAccumulator
with_gain a g =
    with_extremes (with_waiting a g.sum g.sum_sq g.new_samples g.new_zero_evaluations) g.max_eval_positive g.max_eval_positive_number g.max_eval_negative g.max_eval_negative_number

-- a sample changes no others
pub gain-all : (a : StatisticsAccumulator) (v : Float) (k : ℕ) → with_gain a (gain_of (added_of a v k)) ≡ added_of a v k
unfolding with_gain gain_of added_of with_extremes with_waiting
gain-all a v k = refl

module _ (r c : ℕ) (g : Gain) (s : Memory) where
  pub gained-within : Within r (r + 14) c (c + 7) s (gained r c g s)
  unfolding gained
  gained-within =
      record {
        low = λ lo hi h. four_below nan r 12 13 _ _ _ _ s.reals (omega arith) (omega arith) lo hi h;
        high = λ lo hi h. four-above nan r 12 13 _ _ _ _ s.reals (omega arith) (omega arith) lo hi (omega arith);
        few = λ lo hi h. four_below 0 c 4 5 _ _ _ _ s.counts (omega arith) (omega arith) lo hi h;
        many = λ lo hi h. four-above 0 c 4 5 _ _ _ _ s.counts (omega arith) (omega arith) lo hi (omega arith);
      }

  pub gained-record : r + 14 ≤ length s.reals → c + 7 ≤ length s.counts
      → record_at (gained r c g s).reals (gained r c g s).counts r c ≡ with_gain (record_at s.reals s.counts r c) g
  unfolding gained record_at with_gain with_extremes with_waiting
  gained-record h k =
      let t = gained r c g s in
      let x : (i : ℕ) → 1 < i → i < 12 → get_or t.reals (r + i) nan ≡ get_or s.reals (r + i) nan = λ i a b. elsewhere nan r 12 13 _ _ _ _ s.reals (omega arith) (omega arith) (r + i)
      (λ e. absurd (omega arith)) (λ e. absurd (omega arith)) (λ e. absurd (omega arith)) (λ e. absurd (omega arith)) in
      let n : (i : ℕ) → 1 < i → i ≢ 4 → i ≢ 5 → get_or t.counts (c + i) 0 ≡ get_or s.counts (c + i) 0 = λ i a b f. elsewhere 0 c 4 5 _ _ _ _ s.counts (omega arith) (omega arith) (c + i)
      (λ e. absurd (omega arith)) (λ e. absurd (omega arith)) (λ e. b (omega arith)) (λ e. f (omega arith)) in
      rw (
        at_first nan r 12 13 _ _ _ _ s.reals (omega arith) (omega arith) (omega arith),
        at_second nan r 12 13 _ _ _ _ s.reals (omega arith) (omega arith) (omega arith),
        x 2 (omega arith) (omega arith),
        x 3 (omega arith) (omega arith),
        x 4 (omega arith) (omega arith),
        x 5 (omega arith) (omega arith),
        x 6 (omega arith) (omega arith),
        x 7 (omega arith) (omega arith),
        x 8 (omega arith) (omega arith),
        x 9 (omega arith) (omega arith),
        x 10 (omega arith) (omega arith),
        x 11 (omega arith) (omega arith),
        at_first 0 c 4 5 _ _ _ _ s.counts (omega arith) (omega arith) (omega arith),
        at_second 0 c 4 5 _ _ _ _ s.counts (omega arith) (omega arith) (omega arith),
        n 2 (omega arith) (λ e. absurd (omega arith)) (λ e. absurd (omega arith)),
        n 3 (omega arith) (λ e. absurd (omega arith)) (λ e. absurd (omega arith)),
        at-third nan r 12 13 _ _ _ _ s.reals (omega arith) (omega arith) (omega arith),
        at-third 0 c 4 5 _ _ _ _ s.counts (omega arith) (omega arith) (omega arith),
        at_last nan r 12 13 _ _ _ _ s.reals (omega arith) (omega arith) (omega arith),
        at_last 0 c 4 5 _ _ _ _ s.counts (omega arith) (omega arith) (omega arith),
        n 6 (omega arith) (λ e. absurd (omega arith)) (λ e. absurd (omega arith)),
      )
