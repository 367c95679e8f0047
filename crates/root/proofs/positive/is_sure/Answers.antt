-- `is_sure`: three words, each small beside 2 ^ 64, so that what was wrapped is known, are the digits of the difference. Assumes nothing.
use Rattle.std.proofs.Common.{◌≡◌, ℕ, ◌+◌, ◌-◌, ◌*◌, ◌/◌, ◌%◌, ◌^◌, ◌<◌, ◌≤◌, true, ◌&&◌, ltb, refl, ap, ◌∙◌, subst, inl, inr, arith, ltb-false, ltb-true}
use Rattle.careful.specs.Digits.{NearRoot}
use Rattle.doubles.proofs.Truth.{either, both}
use Rattle.careful.proofs.Halves.{halves}
use Rattle.root.proofs.positive.is_sure.Goals as goal

-- a word that was moved up and did not wrap
unwrapped : (w n k : ℕ) → w < 2 ^ 29 → n ≤ 2 ^ 54 → (w * 2 ^ 26 % 2 ^ 64 + n) % 2 ^ 64 < k → w * 2 ^ 26 + n < k
unwrapped w n k h l r = let i : w * 2 ^ 26 % 2 ^ 64 ≡ w * 2 ^ 26 = omega arith in omega (arith, i)

-- with A, M and C for the products of the halves of q: what the words v and w and the last one say
module _ (A M C q d v w : ℕ) (la : A ≤ 2 ^ 54) (lm : M ≤ 2 ^ 53) (lc : C ≤ 2 ^ 52) (lq : q < 2 ^ 53) (ld : d ≤ 2 ^ 54) (word : w < 2 ^ 64)
    (is-v : (v + A) % 2 ^ 64 ≡ d) (is-w : (w + v * 2 ^ 26 % 2 ^ 64) % 2 ^ 64 ≡ 2 * M)
    (few : v < 2 ^ 29) (small : (w + 2 ^ 29) % 2 ^ 64 < 2 ^ 30) (rest : (w * 2 ^ 26 % 2 ^ 64 + (C + q)) % 2 ^ 64 < 2 * q) where
  first : v + A ≡ d
  first = omega arith

  -- w is no negative number
  module _ (h : w < 2 ^ 29) where
    plain-w : w + v * 2 ^ 26 ≡ 2 * M
    plain-w = omega arith

    plain-rest : w * 2 ^ 26 + (C + q) < 2 * q
    plain-rest = unwrapped w (C + q) (2 * q) h (omega arith) rest

  -- it is -u, wrapped
  module _ (u : ℕ) (h : w + u ≡ 2 ^ 64) (l : u ≤ 2 ^ 29) (some : 1 ≤ u) where
    minus-w : v * 2 ^ 26 ≡ 2 * M + u
    minus-w = omega arith

    minus-rest : (u * 2 ^ 26 ≤ C + q) × (C + q < 2 * q + u * 2 ^ 26)
    minus-rest =
        let i : w * 2 ^ 26 % 2 ^ 64 + u * 2 ^ 26 ≡ 2 ^ 64 = omega arith in
        (omega (arith, i), omega (arith, i))

  -- so the difference of the square and q to d * 2 ^ 52 is what the last word says
  near : (d * 2 ^ 52 ≤ A * 2 ^ 52 + M * 2 ^ 27 + C + q) × (A * 2 ^ 52 + M * 2 ^ 27 + C < d * 2 ^ 52 + q)
  near = elim (either (ltb w (2 ^ 29))) [
    | inl e ↦ let h : w < 2 ^ 29 = ltb-true w (2 ^ 29) e in
        let i = plain-w h in let j = plain-rest h in (omega (arith, first, i, j), omega (arith, first, i, j))
    | inr e ↦ let h : 2 ^ 29 ≤ w = ltb-false w (2 ^ 29) e in
        let k : w + (2 ^ 64 - w) ≡ 2 ^ 64 = omega arith in let l : 2 ^ 64 - w ≤ 2 ^ 29 = omega arith in let o : 1 ≤ 2 ^ 64 - w = omega arith in
        let i = minus-w (2 ^ 64 - w) k l o in let j = minus-rest (2 ^ 64 - w) k l o in (omega (arith, first, i, j), omega (arith, first, i, j))
  ]

-- q from its halves
square-of : (a b : ℕ) → a * a * 2 ^ 52 + a * b * 2 ^ 27 + b * b ≡ (a * 2 ^ 26 + b) * (a * 2 ^ 26 + b)
square-of a b = omega arith

square-is : (q : ℕ) → q / 2 ^ 26 * (q / 2 ^ 26) * 2 ^ 52 + q / 2 ^ 26 * (q % 2 ^ 26) * 2 ^ 27 + q % 2 ^ 26 * (q % 2 ^ 26) ≡ q * q
square-is q = let e : q / 2 ^ 26 * 2 ^ 26 + q % 2 ^ 26 ≡ q = omega arith in square-of (q / 2 ^ 26) (q % 2 ^ 26) ∙ ap (λ (z : ℕ). z * z) e

-- what the code's words and tests say
tells : (q d v w t z : ℕ) → q < 2 ^ 53 → d ≤ 2 ^ 54 → w < 2 ^ 64 → (v + q / 2 ^ 26 * (q / 2 ^ 26)) % 2 ^ 64 ≡ d
    → (w + v * 2 ^ 26 % 2 ^ 64) % 2 ^ 64 ≡ 2 * (q / 2 ^ 26) * (q % 2 ^ 26) → t ≡ (w + 2 ^ 29) % 2 ^ 64 → z ≡ (w * 2 ^ 26 % 2 ^ 64 + (q % 2 ^ 26 * (q % 2 ^ 26) + q)) % 2 ^ 64
    → (ltb v (2 ^ 29) && ltb t (2 ^ 30) && ltb z (2 * q)) ≡ true → NearRoot (d * 2 ^ 52) q
tells q d v w t z lq ld word is-v is-w is-t is-z y =
    let a = q / 2 ^ 26 in
    let b = q % 2 ^ 26 in
    let p = halves q lq in
    let f = both _ _ y in
    let g = both _ _ f.0 in
    let few = ltb-true v (2 ^ 29) g.0 in
    let small = subst (λ (i : ℕ). i < 2 ^ 30) is-t (ltb-true t (2 ^ 30) g.1) in
    let rest = subst (λ (i : ℕ). i < 2 * q) is-z (ltb-true z (2 * q) f.1) in
    let i : 2 * a * b ≡ 2 * (a * b) = omega arith in
    let n = near (a * a) (a * b) (b * b) q d v w p.upper p.cross p.lower lq ld word is-v (is-w ∙ i) few small rest in
    let s = square-is q in
    record { high = subst (λ (k : ℕ). d * 2 ^ 52 ≤ k + q) s n.0; low = subst (λ (k : ℕ). k < d * 2 ^ 52 + q) s n.1 }

-- what is taken away, wrapping, gives the number back
wrapped : (x y : ℕ) → x < 2 ^ 64 → y ≤ 2 ^ 64 → ((x + (2 ^ 64 - y)) % 2 ^ 64 + y) % 2 ^ 64 ≡ x
wrapped x y h l = omega arith

pub returns : goal.returns
returns c =
    let p = halves c.args.q c.requires.0 in
    tells c.args.q c.args.d _ _ _ _ c.requires.0 c.requires.1 (omega arith) (wrapped _ _ (omega arith) (omega arith)) (wrapped _ _ (omega arith) (omega arith)) refl refl
