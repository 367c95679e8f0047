-- `product`: with q = a * 2 ^ 26 + b, q * (q + 1) is a * a * 2 ^ 52 + 2 * a * b * 2 ^ 26 + (b * b + q), and each part fits a word.
-- Assumes nothing.
use mathlib.Core.Path.{◌≡◌, sym, ap, ◌∙◌}
use Prim.Native.Nat.{ℕ, ◌+◌, ◌-◌, ◌*◌, ◌/◌, ◌%◌, ◌^◌, ◌≤◌, ◌<◌}
use native.Mathlib.Nat.{mul-le-mul}
use native.Mathlib.Omega.{arith}
use Rattle.careful.specs.Digits.{Words}
use Rattle.careful.proofs.Halves.{halves}
use Rattle.careful.proofs.digits.product.Goals as goal

abbrev last_of : ℕ → ℕ → ℕ
last_of q b = b * b + q

abbrev middle_of : ℕ → ℕ → ℕ → ℕ
middle_of q a b = 2 * a * b + last_of q b / 2 ^ 26

joined : (a b : ℕ)
    → (a * a + middle_of (a * 2 ^ 26 + b) a b / 2 ^ 26) * 2 ^ 52 + (middle_of (a * 2 ^ 26 + b) a b % 2 ^ 26 * 2 ^ 26 + last_of (a * 2 ^ 26 + b) b % 2 ^ 26) ≡ (a * 2 ^ 26 + b) * (a * 2 ^ 26 + b + 1)
joined a b = omega arith

words : (q a b : ℕ) → q < 2 ^ 53 → q ≡ a * 2 ^ 26 + b → Words (q * (q + 1)) (a * a + middle_of q a b / 2 ^ 26) (middle_of q a b % 2 ^ 26 * 2 ^ 26 + last_of q b % 2 ^ 26)
words q a b h e =
    let s = sums in
    let t : q * (q + 1) ≤ (2 ^ 53 - 1) * 2 ^ 53 = mul-le-mul (below q h) (above q h) in
    record { sum = s; short = omega arith; small = top _ _ (q * (q + 1)) s t }
  where
    sums : (a * a + middle_of q a b / 2 ^ 26) * 2 ^ 52 + (middle_of q a b % 2 ^ 26 * 2 ^ 26 + last_of q b % 2 ^ 26) ≡ q * (q + 1)
    sums =
        ap (λ (q : ℕ). (a * a + middle_of q a b / 2 ^ 26) * 2 ^ 52 + (middle_of q a b % 2 ^ 26 * 2 ^ 26 + last_of q b % 2 ^ 26)) e ∙ joined a b ∙ ap (λ (q : ℕ). q * (q + 1)) (sym e)

    below : (q : ℕ) → q < 2 ^ 53 → q ≤ 2 ^ 53 - 1
    below q h = omega arith

    above : (q : ℕ) → q < 2 ^ 53 → q + 1 ≤ 2 ^ 53
    above q h = omega arith

    top : (x y n : ℕ) → x * 2 ^ 52 + y ≡ n → n ≤ (2 ^ 53 - 1) * 2 ^ 53 → x < 2 ^ 54
    top x y n i j = omega arith

pub overflow_mul-last : goal.overflow_mul-last
overflow_mul-last c = let h = halves c.args.q c.requires in omega arith

pub overflow_add-last : goal.overflow_add-last
overflow_add-last c = let h = halves c.args.q c.requires in omega arith

pub overflow_mul-middle-2 : goal.overflow_mul-middle-2
overflow_mul-middle-2 c = let h = halves c.args.q c.requires in omega arith

pub overflow_add-middle : goal.overflow_add-middle
overflow_add-middle c = let h = halves c.args.q c.requires in omega arith

pub overflow_mul-high : goal.overflow_mul-high
overflow_mul-high c = let h = halves c.args.q c.requires in omega arith

pub overflow_add-high : goal.overflow_add-high
overflow_add-high c = let h = halves c.args.q c.requires in omega arith

pub returns : goal.returns
returns c = words c.args.q (c.args.q / 2 ^ 26) (c.args.q % 2 ^ 26) c.requires (omega arith)
