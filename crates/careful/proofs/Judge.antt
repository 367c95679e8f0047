-- The whole number nearest to a root: it exists, a q whose upper product falls short lies below it, and one whose lower product does not
-- lies above it. Assumes nothing.
use mathlib.Core.Path.{◌≡◌, sym, subst}
use Prim.Native.Nat.{ℕ, zero, suc, ◌+◌, ◌-◌, ◌*◌, ◌^◌, ◌≤◌, ◌<◌}
use native.Mathlib.Nat.{lt_of_not-le, not-le_of_lt, le_trans, mul-le-mul, mul-le-mul_right, add-le-add, zero-lt-suc}
use native.Mathlib.Omega.{arith}
use mathlib.Core.Bool.{Bool, true, false, not, cond}
use lib.Dec.{T, leb, leb→le, nleb→lt, lit≤}
use Rattle.careful.specs.Root.{isqrt}
use Rattle.careful.specs.Digits.{Radicand, NearRoot}
use Rattle.careful.proofs.Roots.{Rooted, isqrt-is}

-- ---- it exists
unfoldable pub near_of : ℕ → ℕ
near_of d = let s = isqrt 53 (d * 2 ^ 52) in cond (leb (d * 2 ^ 52) (s * s + s)) s (suc s)

pub record Target (d t : ℕ) : Type 0 where
  pub near : NearRoot (d * 2 ^ 52) t
  pub some : 1 ≤ t
  pub short : t < 2 ^ 53

module _ (d : ℕ) (r : Radicand d) where
  digits-pos : 0 < d * 2 ^ 52
  digits-pos = let l = r.long in omega arith

  positive-root : (t : ℕ) → NearRoot (d * 2 ^ 52) t → 1 ≤ t
  positive-root zero n = let h : d * 2 ^ 52 ≤ 0 = n.high in let p = digits-pos in absurd (omega arith)
  positive-root (suc t) n = zero-lt-suc t

  short-root : (t : ℕ) → NearRoot (d * 2 ^ 52) t → t < 2 ^ 53
  short-root t n = lt_of_not-le (λ (b : 2 ^ 53 ≤ t). let i : 2 ^ 53 + (t - 2 ^ 53) ≡ t = omega arith in beyond (2 ^ 53) (t - 2 ^ 53) (d * 2 ^ 52) (lit≤ tt) top (subst (λ (z : ℕ). z * z < d * 2 ^ 52 + z) (sym i) n.low))
    where
      top : d * 2 ^ 52 + 2 ^ 53 ≤ 2 ^ 53 * 2 ^ 53
      top = let h = r.short in omega arith

      beyond : (B e A : ℕ) → 1 ≤ B → A + B ≤ B * B → (B + e) * (B + e) < A + (B + e) → ⊥
      beyond B e A b h l =
          let i : 1 * e ≤ B * e = mul-le-mul_right e b in
          let j : 0 ≤ e * e = omega arith in
          omega arith

  picked : (s : ℕ) → Rooted s (d * 2 ^ 52) → NearRoot (d * 2 ^ 52) (cond (leb (d * 2 ^ 52) (s * s + s)) s (suc s))
  picked s i = go (leb (d * 2 ^ 52) (s * s + s)) (leb→le (d * 2 ^ 52) (s * s + s)) (nleb→lt (d * 2 ^ 52) (s * s + s))
    where
      some : (s A : ℕ) → 0 < A → A ≤ s * s + s → 0 < s
      some zero A a h = absurd (omega arith)
      some (suc s) A a h = zero-lt-suc s

      go : (b : Bool) → (T b → d * 2 ^ 52 ≤ s * s + s) → (T (not b) → s * s + s < d * 2 ^ 52) → NearRoot (d * 2 ^ 52) (cond b s (suc s))
      go true y f = record { high = y tt; low = (let l = i.low in let p = some s (d * 2 ^ 52) digits-pos (y tt) in omega arith) }
      go false y f = let u = f tt in record { high = (let h = i.high in omega arith); low = omega arith }

  pub near-root : Target d (near_of d)
  unfolding near_of
  near-root =
      let a : d * 2 ^ 52 < 4 ^ 53 = let h = r.short in omega arith in
      let n = picked (isqrt 53 (d * 2 ^ 52)) (isqrt-is 53 (d * 2 ^ 52) a) in
      record { near = n; some = positive-root _ n; short = short-root _ n }

-- ---- either side of it
pub too-low : (q t A : ℕ) → NearRoot A t → q * q + q < A → q < t
too-low q t A n h = lt_of_not-le (λ (g : t ≤ q). not-le_of_lt h (le_trans n.high (add-le-add (mul-le-mul g g) g)))

pub too-high : (q t A : ℕ) → 1 ≤ q → NearRoot A t → A + q ≤ q * q → t < q
too-high q t A p n h = lt_of_not-le (λ (g : q ≤ t). let i : q + (t - q) ≡ t = omega arith in over q (t - q) p h (subst (λ (z : ℕ). z * z < A + z) (sym i) n.low))
  where
    over : (q e : ℕ) → 1 ≤ q → A + q ≤ q * q → (q + e) * (q + e) < A + (q + e) → ⊥
    over q e p h l =
        let i : 1 * e ≤ q * e = mul-le-mul_right e p in
        let j : 0 ≤ e * e = omega arith in
        omega arith
