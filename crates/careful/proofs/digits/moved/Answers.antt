-- `moved` goes up where the upper product falls short, and otherwise down: q is not nearest, so the lower product does not fall short.
-- Assumes nothing.
use mathlib.Core.Path.{◌≡◌}
use Prim.Native.Nat.{ℕ, suc, ◌+◌, ◌-◌, ◌*◌, ◌^◌, ◌≤◌, ◌<◌}
use native.Mathlib.Nat.{lt_of_not-le}
use native.Mathlib.Omega.{arith}
use Rattle.careful.specs.Digits.{Words, NearRoot, Wrong, Closer}
use Rattle.careful.proofs.Judge.{near_of, near-root, too-low, too-high}
use Rattle.careful.proofs.digits.moved.Goals as goal

up : (q d h l : ℕ) → Wrong d q → Words (q * (q + 1)) h l → h < d → Closer d q (q + 1)
up q d h l w p b =
    let e = p.sum in
    let z = p.short in
    let s : q * q + q < d * 2 ^ 52 = omega arith in
    let t = near-root d w.digits in
    let k : q < near_of d = too-low q (near_of d) (d * 2 ^ 52) t.near s in
    let m = t.short in
    record { some = omega arith; short = omega arith; nearer = λ t n. (let j = too-low q t (d * 2 ^ 52) n s in nearer q t j) }
  where
    nearer : (q t : ℕ) → q < t → q + 1 - t + (t - (q + 1)) < q - t + (t - q)
    nearer q t h = omega arith

down : (q d h l : ℕ) → Wrong d q → Words (q * (q + 1)) h l → d ≤ h → Closer d q (q - 1)
down q d h l w p b =
    let e = p.sum in
    let s : d * 2 ^ 52 + q ≤ q * q = above w.far (reached e) in
    let t = near-root d w.digits in
    let k : near_of d < q = too-high q (near_of d) (d * 2 ^ 52) w.some t.near s in
    let o = t.some in
    let z = w.short in
    record { some = omega arith; short = omega arith; nearer = λ t n. (let j = too-high q t (d * 2 ^ 52) w.some n s in nearer q t j) }
  where
    reached : h * 2 ^ 52 + l ≡ q * (q + 1) → d * 2 ^ 52 ≤ q * q + q
    reached e = omega arith

    above : (NearRoot (d * 2 ^ 52) q → ⊥) → d * 2 ^ 52 ≤ q * q + q → d * 2 ^ 52 + q ≤ q * q
    above f r = last (lt_of_not-le (λ (g : q * q < d * 2 ^ 52 + q). f (record { high = r; low = g })))
      where
        last : d * 2 ^ 52 + q < suc (q * q) → d * 2 ^ 52 + q ≤ q * q
        last g = omega arith

    nearer : (q t : ℕ) → t < q → q - 1 - t + (t - (q - 1)) < q - t + (t - q)
    nearer q t h = omega arith

pub returns-then-p-d : goal.returns-then-p-d
returns-then-p-d c = up c.args.q c.args.d c.product-p.result.high c.product-p.result.low c.requires c.product-p.ensures c.if-p-d.true

pub returns : goal.returns
returns c = down c.args.q c.args.d c.product-p.result.high c.product-p.result.low c.requires c.product-p.ensures c.if-p-d.false
