-- A draw axis by axis: what is set and what is to come make the model's draw.
use mathlib.Core.Path.{◌≡◌, refl, sym, ap, ◌∙◌, subst}
use mathlib.Core.List.{List, ◌++◌, append-nil, append_assoc}
use mathlib.Core.Bool.{Bool, true}
use Prim.Native.Nat.{ℕ, ◌+◌, ◌-◌, ◌*◌, ◌≤◌, ◌<◌}
use native.Mathlib.Numerals.{add-one}
use native.Mathlib.Omega.{arith}
use lib.ListN.{length, take, drop, set, get_or, take-append-drop}
use lib.Seq.{take-suc-set, drop-set-lt, drop-drop, length-take-le, sets, sets-eq}
use lib.Ieee.{Float, binary64, mul}
use Rattle.stream.specs.declared.MonteCarloRng.{MonteCarloRng}
use Rattle.stream.specs.declared.Next.{Next}
use Rattle.stream.specs.Xoshiro.{word_of, step_of}
use Rattle.stream.specs.Calls.{drawn_of, unit_of}
use Rattle.axis.specs.declared.Point.{Point}
use Rattle.axis.specs.Edges.{well_formed, in_unit}
use Rattle.model.specs.Draw.{Placed, unit_at, place_on, walked}
use Rattle.model.proofs.Drawn.{word_below, unit-in}
use Rattle.lent.specs.Layout.{stretch, axis_at, axes_from}
use Rattle.lent.specs.Drawn.{Places}
use Rattle.lent.proofs.Standing.{left-on}

-- coordinates in front of a draw
abbrev pub behind : List Float → Placed → Placed
behind xs p = record { coordinates = xs ++ p.coordinates; weight = p.weight; stream = p.stream }

module _ (m : ℕ) (reals : List Float) (counts : List ℕ) (evenly : Bool) where
  walked_on : (k d r c : ℕ) (cs : List Float) (w : Float) (s : MonteCarloRng) (p : Point) → d < k → d < length cs
      → p ≡ place_on evenly (stretch r (get_or counts c 0 + 1) reals) (unit_at s)
      → behind (take (d + 1) (set cs d p.at)) (walked evenly (axes_from m reals counts (k - (d + 1)) (r + (6 * m + 1)) (c + (3 * m + 2))) (mul binary64 w p.weight) (step_of s))
      ≡ behind (take d cs) (walked evenly (axes_from m reals counts (k - d) r c) w s)
  unfolding walked axis_at
  walked_on k d r c cs w s p h i e = rw (left-on m reals counts k d r c h, e, add-one, take-suc-set cs d, append_assoc)

  -- the same from what the code draws: the word, its unit draw, and the point on the part of the edges that is lent
  pub drawn-on : (k d r c : ℕ) (cs : List Float) (w : Float) (s : MonteCarloRng) (word : Next ℕ) (unit : Float) (p : Point) → d < k → d < length cs
      → word ≡ drawn_of s → unit ≡ unit_of word.value → p ≡ place_on evenly (take (r + get_or counts c 0 + 1 - r) (drop r reals)) unit
      → behind (take (d + 1) (set cs d p.at)) (walked evenly (axes_from m reals counts (k - (d + 1)) (r + (6 * m + 1)) (c + (3 * m + 2))) (mul binary64 w p.weight) word.stream)
      ≡ behind (take d cs) (walked evenly (axes_from m reals counts (k - d) r c) w s)
  unfolding drawn_of unit_at stretch
  drawn-on k d r c cs w s word unit p h i drawn read point =
      let e : r + get_or counts c 0 + 1 - r ≡ get_or counts c 0 + 1 = omega arith in
      let there : p ≡ place_on evenly (stretch r (get_or counts c 0 + 1) reals) (unit_at s) = rw (read, drawn, e) at point in
      rw drawn (walked_on k d r c cs w s p h i there)

  -- no axis left
  pub drawn-out : (k d r c : ℕ) (cs : List Float) (w : Float) (s : MonteCarloRng) → d ≤ k → k ≤ d
      → behind (take d cs) (walked evenly (axes_from m reals counts (k - d) r c) w s) ≡ record { coordinates = take k cs; weight = w; stream = s }
  unfolding walked axes_from
  drawn-out k d r c cs w s h i =
      let e : k - d ≡ 0 = omega arith in
      let same : d ≡ k = omega arith in
      rw (e, same) (ap (λ (xs : List Float). record { coordinates = xs; weight = w; stream = s }) (append-nil (take k cs)))

-- what a place on the next axis asks: its edges are well formed, and the unit draw lies on it
pub asked-part : (r n : ℕ) (reals : List Float) → well_formed (stretch r (n + 1) reals) ≡ true → well_formed (take (r + n + 1 - r) (drop r reals)) ≡ true
unfolding stretch
asked-part r n reals f = let e : r + n + 1 - r ≡ n + 1 = omega arith in rw e f

pub asked-unit : (s : MonteCarloRng) (word : Next ℕ) (unit : Float) → word ≡ drawn_of s → unit ≡ unit_of word.value → in_unit unit ≡ true
unfolding drawn_of
asked-unit s word unit drawn read = rw (read, drawn) (unit-in (word_of s) (word_below s))

-- ---- coordinates that are not set yet are as they were

pub kept_on : (xs cs : List Float) (d : ℕ) (x : Float) → drop d cs ≡ drop d xs → drop (d + 1) (set cs d x) ≡ drop (d + 1) xs
kept_on xs cs d x e = drop-set-lt (d + 1) cs d x (omega arith) ∙ sym (drop-drop 1 d cs) ∙ ap (drop 1) e ∙ drop-drop 1 d xs

-- all of a walk's coordinates are set
pub walk-made : (xs cs : List Float) (k d : ℕ) (w : Float) (s : MonteCarloRng) (p : Placed) → d ≡ k → k ≤ 8 → length cs ≡ 8 → length xs ≡ 8 → drop d cs ≡ drop d xs
    → record { coordinates = take k cs; weight = w; stream = s } ≡ p → Places k p (record { weight = w; stream = s }) xs cs
walk-made xs cs k d w s p same h size room kept e =
    let n : length (take k cs) ≡ k = length-take-le k cs (omega arith) in
    let z : k ≡ 0 + length (take k cs) = omega (arith, n) in
    let rest : drop k cs ≡ drop k xs = rw (sym same) kept in
    let whole : cs ≡ sets xs 0 (take k cs) =
    sym (take-append-drop k cs) ∙ ap (λ (l : List Float). take k cs ++ l) (rest ∙ ap (λ (j : ℕ). drop j xs) z) ∙ sym (sets-eq (take k cs) xs 0 (omega (arith, n))) in
    subst (λ (q : Placed). Places k q (record { weight = w; stream = s }) xs cs) e (refl, whole, n)
