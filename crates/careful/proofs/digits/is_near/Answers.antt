-- `is_near`: the high word of a product is its quotient by 2 ^ 52, which decides how it compares with d * 2 ^ 52. Assumes nothing.
use mathlib.Core.Path.{◌≡◌, sym, ap₂, ◌∙◌}
use Prim.Native.Nat.{ℕ, ◌+◌, ◌-◌, ◌*◌, ◌/◌, ◌^◌, ◌≤◌, ◌<◌}
use native.Mathlib.Omega.{arith}
use mathlib.Core.Bool.{Bool, ◌&&◌, true≢false}
use lib.Dec.{leb, ltb}
use borrow.Author.Tests.{leb-true, ltb-true, le-leb, lt-ltb}
use Rattle.careful.specs.Digits.{Words, NearRoot, Tells}
use Rattle.doubles.proofs.Truth.{both}
use Rattle.careful.proofs.digits.is_near.Goals as goal

-- the high word of the lower product, and 4 more
abbrev lower_of : ℕ → ℕ → ℕ → ℕ
lower_of q h l = h + (l + 2 ^ 54 - 2 * q) / 2 ^ 52

module _ (q d h l : ℕ) (s : q < 2 ^ 53) (w : Words (q * (q + 1)) h l) where
  square : h * 2 ^ 52 + l ≡ q * q + q
  square = let e = w.sum in omega arith

  accepted : d ≤ h → lower_of q h l < d + 4 → NearRoot (d * 2 ^ 52) q
  accepted a b = let e = square in let z = w.short in record { high = omega arith; low = omega arith }

  reaches : NearRoot (d * 2 ^ 52) q → (d ≤ h) × (lower_of q h l < d + 4)
  reaches n = let e = square in let z = w.short in let u = n.high in let v = n.low in (omega arith, omega arith)

  told : Tells (leb d h && ltb (lower_of q h l) (d + 4)) (NearRoot (d * 2 ^ 52) q)
  told = record {
    yes = λ t. (let b = both (leb d h) (ltb (lower_of q h l) (d + 4)) t in accepted (leb-true d h b.0) (ltb-true (lower_of q h l) (d + 4) b.1));
    no = λ f n. (let r = reaches n in true≢false (sym (ap₂ (λ (x y : Bool). x && y) (le-leb d h r.0) (lt-ltb (lower_of q h l) (d + 4) r.1)) ∙ f));
  }

pub returns : goal.returns
returns c = told c.args.q c.args.d c.product-p.result.high c.product-p.result.low c.requires.0 c.product-p.ensures
