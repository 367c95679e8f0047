-- A step at each axis, from axis to axis: where every step keeps to its own axis and reads as the model's, so do all of them.
use mathlib.Core.Path.{◌≡◌, refl, sym, ap, ap₂, ◌∙◌}
use mathlib.Core.List.{List, [], ◌∷◌}
use Prim.Native.Nat.{ℕ, suc, ◌+◌, ◌*◌, ◌≤◌}
use native.Mathlib.Omega.{arith}
use lib.ListN.{length, get_or}
use lib.Ieee.{nan}
use Rattle.model.specs.Axes.{Axis}
use Rattle.lent.specs.Layout.{axis_reals, axis_counts, axis_at, axes_from}
use Rattle.lent.specs.Memory.{Memory, over_axes, Asked}
use Rattle.lent.proofs.Same.{Same, same_refl, same-sym, same-on}
use Rattle.lent.proofs.Reading.{Holding, axis-same, axes-same}

-- s' is s outside the axis at r and c
pub record Apart (m r c : ℕ) (s' s : Memory) : Type 0 where
  pub reals-below : (lo hi : ℕ) → hi ≤ r → Same nan lo hi s'.reals s.reals
  pub reals-above : (lo hi : ℕ) → r + (6 * m + 1) ≤ lo → Same nan lo hi s'.reals s.reals
  pub counts-below : (lo hi : ℕ) → hi ≤ c → Same 0 lo hi s'.counts s.counts
  pub counts-above : (lo hi : ℕ) → c + (3 * m + 2) ≤ lo → Same 0 lo hi s'.counts s.counts

-- the model's step at each axis with its argument
unfoldable pub each_axis : {X : Type 0} → (Axis → X → Axis) → List Axis → List X → List Axis
each_axis h [] xs = []
each_axis h (a ∷ rest) [] = a ∷ rest
each_axis h (a ∷ rest) (x ∷ xs) = h a x ∷ each_axis h rest xs

module _ {X : Type 0} (m : ℕ) (f : ℕ → ℕ → X → Memory → Memory) (P : ℕ → ℕ → X → Memory → Type 0) where
  -- what a step asks is of its axis alone
  abbrev pub Local : Type 0
  Local = (r c : ℕ) (x : X) (s s' : Memory) → Same nan r (r + (6 * m + 1)) s'.reals s.reals → Same 0 c (c + (3 * m + 2)) s'.counts s.counts → P r c x s → P r c x s'

  abbrev pub Frames : Type 0
  Frames = (r c : ℕ) (x : X) (s : Memory) → P r c x s → Apart m r c (f r c x s) s

  module _ (loc : Local) (frames : Frames) where
    asked-on : (xs : List X) (r c : ℕ) (s s' : Memory) → ((lo hi : ℕ) → r ≤ lo → Same nan lo hi s'.reals s.reals)
        → ((lo hi : ℕ) → c ≤ lo → Same 0 lo hi s'.counts s.counts) → Asked P m xs r c s → Asked P m xs r c s'
    unfolding Asked axis_reals axis_counts
    asked-on [] r c s s' u v a = tt
    asked-on (x ∷ xs) r c s s' u v a = (
      loc r c x s s' (u r (r + (6 * m + 1)) (omega arith)) (v c (c + (3 * m + 2)) (omega arith)) a.0,
      asked-on xs (r + (6 * m + 1)) (c + (3 * m + 2)) s s' (λ lo hi h. u lo hi (omega arith)) (λ lo hi h. v lo hi (omega arith)) a.1,
    )

    -- after the first step the others' are asked still
    pub asked-next : (x : X) (xs : List X) (r c : ℕ) (s : Memory) → Asked P m (x ∷ xs) r c s → Asked P m xs (r + (6 * m + 1)) (c + (3 * m + 2)) (f r c x s)
    unfolding Asked axis_reals axis_counts
    asked-next x xs r c s a =
        let p = frames r c x s a.0 in
        asked-on xs (r + (6 * m + 1)) (c + (3 * m + 2)) s (f r c x s) (λ lo hi h. p.reals-above lo hi h) (λ lo hi h. p.counts-above lo hi h) a.1

    -- nothing below the first axis is touched, and nothing above the last
    pub over_below : (xs : List X) (r c : ℕ) (s : Memory) → Asked P m xs r c s → (lo hi lo' hi' : ℕ) → hi ≤ r → hi' ≤ c
        → Same nan lo hi (over_axes f m xs r c s).reals s.reals × Same 0 lo' hi' (over_axes f m xs r c s).counts s.counts
    unfolding over_axes axis_reals axis_counts Asked
    over_below [] r c s a lo hi lo' hi' h k = (same_refl nan lo hi s.reals, same_refl 0 lo' hi' s.counts)
    over_below (x ∷ xs) r c s a lo hi lo' hi' h k =
        let p = frames r c x s a.0 in
        let t = over_below xs (r + (6 * m + 1)) (c + (3 * m + 2)) (f r c x s) (asked-next x xs r c s a) lo hi lo' hi' (omega arith) (omega arith) in
        (same-on nan lo hi _ _ _ t.0 (p.reals-below lo hi h), same-on 0 lo' hi' _ _ _ t.1 (p.counts-below lo' hi' k))

    pub over-above : (xs : List X) (r c : ℕ) (s : Memory) → Asked P m xs r c s → (lo hi lo' hi' : ℕ) → r + length xs * (6 * m + 1) ≤ lo → c + length xs * (3 * m + 2) ≤ lo'
        → Same nan lo hi (over_axes f m xs r c s).reals s.reals × Same 0 lo' hi' (over_axes f m xs r c s).counts s.counts
    unfolding over_axes axis_reals axis_counts Asked
    over-above [] r c s a lo hi lo' hi' h k = (same_refl nan lo hi s.reals, same_refl 0 lo' hi' s.counts)
    over-above (x ∷ xs) r c s a lo hi lo' hi' h k =
        let p = frames r c x s a.0 in
        let e : suc (length xs) * (6 * m + 1) ≡ (6 * m + 1) + length xs * (6 * m + 1) = omega arith in
        let g : suc (length xs) * (3 * m + 2) ≡ (3 * m + 2) + length xs * (3 * m + 2) = omega arith in
        let t = over-above xs (r + (6 * m + 1)) (c + (3 * m + 2)) (f r c x s) (asked-next x xs r c s a) lo hi lo' hi' (omega arith) (omega arith) in
        (same-on nan lo hi _ _ _ t.0 (p.reals-above lo hi (omega arith)), same-on 0 lo' hi' _ _ _ t.1 (p.counts-above lo' hi' (omega arith)))

    holding-on : (xs : List X) (c : ℕ) (s s' : Memory) → ((lo hi : ℕ) → c ≤ lo → Same 0 lo hi s'.counts s.counts) → Holding m s.counts (length xs) c → Holding m s'.counts (length xs) c
    unfolding Holding axis_counts
    holding-on [] c s s' v d = tt
    holding-on (x ∷ xs) c s s' v d =
        (omega (arith, (v c (c + 1) (omega arith)).cells c (omega arith) (omega arith), d.0), holding-on xs (c + (3 * m + 2)) s s' (λ lo hi h. v lo hi (omega arith)) d.1)

    -- the tie: each axis is read as the model's step of what it was
    module _ (h : Axis → X → Axis)
        (tie : (r c : ℕ) (x : X) (s : Memory) → P r c x s → axis_at m (f r c x s).reals (f r c x s).counts r c ≡ h (axis_at m s.reals s.counts r c) x)
        (holds : (r c : ℕ) (x : X) (s : Memory) → P r c x s → get_or (f r c x s).counts c 0 ≤ m) where
      pub over-tied : (xs : List X) (r c : ℕ) (s : Memory) → Holding m s.counts (length xs) c → Asked P m xs r c s
          → axes_from m (over_axes f m xs r c s).reals (over_axes f m xs r c s).counts (length xs) r c ≡ each_axis h (axes_from m s.reals s.counts (length xs) r c) xs
      unfolding over_axes axis_reals axis_counts Asked axes_from each_axis Holding
      over-tied [] r c s d a = refl
      over-tied (x ∷ xs) r c s d a =
          let p = frames r c x s a.0 in
          let s₁ = f r c x s in
          let r₁ = r + (6 * m + 1) in
          let c₁ = c + (3 * m + 2) in
          let next = asked-next x xs r c s a in
          let end = over_axes f m xs r₁ c₁ s₁ in
          let low = over_below xs r₁ c₁ s₁ next r r₁ c c₁ (omega arith) (omega arith) in
          let first = sym (axis-same m s₁.reals end.reals s₁.counts end.counts r c (holds r c x s a.0) (same-sym nan r r₁ _ _ low.0) (same-sym 0 c c₁ _ _ low.1)) ∙ tie r c x s a.0 in
          let up = axes-same m s.reals s₁.reals s.counts s₁.counts (length xs) r₁ c₁ d.1
          (same-sym nan r₁ _ _ _ (p.reals-above r₁ _ (omega arith))) (same-sym 0 c₁ _ _ _ (p.counts-above c₁ _ (omega arith))) in
          let held = holding-on xs c₁ s s₁ (λ lo hi i. p.counts-above lo hi i) d.1 in
          ap₂ (λ (b : Axis) (bs : List Axis). b ∷ bs) first (over-tied xs r₁ c₁ s₁ held next ∙ ap (λ (bs : List Axis). each_axis h bs xs) (sym up))
