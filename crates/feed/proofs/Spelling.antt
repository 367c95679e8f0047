-- A number by its bytes, highest first: one byte more, and seven bytes leave room for it.
use Rattle.std.proofs.Common.{◌≡◌, ℕ, zero, suc, ◌+◌, ◌-◌, ◌*◌, ◌^◌, ◌<◌, ◌≤◌, List, get_or, ap, ◌∙◌, arith}
use native.Mathlib.Nat.{pow-succ', pow-le-pow_right}
use Rattle.plan.specs.Bounds.{Bytes}
use Rattle.plan.specs.Numbers.{number_at}

module _ (bs : List ℕ) where
  pub number_more : (at left many v : ℕ) → 0 < left → left ≤ many → v ≡ number_at bs (at + left) (many - left)
      → 256 * v + get_or bs (at + (left - 1)) 0 ≡ number_at bs (at + (left - 1)) (many - (left - 1))
  unfolding number_at
  number_more at left many v z h e =
      let k : many - (left - 1) ≡ suc (many - left) = omega arith in
      let i : at + left ≡ at + (left - 1) + 1 = omega arith in
      rw (k, e, i) (omega arith)

  -- no byte yet, and all of them
  pub number-none : (at many : ℕ) → 0 ≡ number_at bs (at + many) (many - many)
  unfolding number_at
  number-none at many = let z : many - many ≡ 0 = omega arith in rw z

  pub number-all : (at left many v : ℕ) → left ≤ 0 → v ≡ number_at bs (at + left) (many - left) → v ≡ number_at bs at many
  number-all at left many v h e =
      let i : at + left ≡ at = omega arith in
      let k : many - left ≡ many = omega arith in
      e ∙ ap (λ (j : ℕ). number_at bs j (many - left)) i ∙ ap (number_at bs at) k

  pub below : Bytes bs → (n at : ℕ) → number_at bs at n < 256 ^ n
  unfolding number_at
  below small zero at = omega arith
  below small (suc n) at = rw pow-succ' (omega (arith, small at, below small n (at + 1)))

  pub room-for-more : Bytes bs → (n at : ℕ) → n ≤ 7 → number_at bs at n < 0x100_0000_0000_0000
  room-for-more small n at h = omega (arith, below small n at, pow-le-pow_right {n = 256} (omega arith) h)
