-- The walk over the old bins as the loop does it: past a bin, into one, at the last.
use mathlib.Core.Path.{◌≡◌, ap, ◌∙◌}
use mathlib.Core.Bool.{true, false}
use mathlib.Core.List.{List, [], ◌∷◌}
use Prim.Native.Nat.{ℕ, suc, ◌+◌, ◌≤◌, ◌<◌}
use native.Mathlib.Nat.{not-suc-le-zero}
use native.Mathlib.Numerals.{add-one}
use native.Mathlib.Omega.{arith}
use lib.ListN.{length, get_or, drop, drop_of_length-le, length-drop}
use lib.Seq.{drop-cons}
use lib.Ieee.{Float, nan, binary64, add, lt}
use Rattle.recut.specs.Cut.{spot, walk}

module _ (qs : List Float) (t a : Float) (j : ℕ) where
  pub walk-next : j + 1 < length qs → lt (add binary64 a (get_or qs j nan)) t ≡ true
      → walk t a j (drop j qs) ≡ walk t (add binary64 a (get_or qs j nan)) (j + 1) (drop (j + 1) qs)
  unfolding walk
  walk-next h e =
      let k : j < length qs = omega arith in
      let s : drop (suc j) qs ≡ drop (j + 1) qs = rw add-one in
      let m : 0 < length (drop (suc j) qs) = simp length-drop (omega arith) in
      rw (drop-cons qs j nan k) (goes (get_or qs j nan) (drop (suc j) qs) m e ∙ ap (walk t (add binary64 a (get_or qs j nan)) (j + 1)) s)
    where
      goes : (q : Float) (l : List Float) → 0 < length l → lt (add binary64 a q) t ≡ true → walk t a j (q ∷ l) ≡ walk t (add binary64 a q) (j + 1) l
      goes q [] m e = absurd (not-suc-le-zero m)
      goes q (r ∷ l) m e = rw e

  pub walk-stop : j < length qs → lt (add binary64 a (get_or qs j nan)) t ≡ false → walk t a j (drop j qs) ≡ spot a j
  unfolding walk
  walk-stop h e = rw (drop-cons qs j nan h) (stops (get_or qs j nan) (drop (suc j) qs) e)
    where
      stops : (q : Float) (l : List Float) → lt (add binary64 a q) t ≡ false → walk t a j (q ∷ l) ≡ spot a j
      stops q [] e = rw e
      stops q (r ∷ l) e = rw e

  pub walk-last : j < length qs → length qs ≤ j + 1 → lt (add binary64 a (get_or qs j nan)) t ≡ true → walk t a j (drop j qs) ≡ spot (add binary64 a (get_or qs j nan)) j
  unfolding walk
  walk-last h m e =
      let k : length qs ≤ suc j = omega arith in
      rw (drop-cons qs j nan h, drop_of_length-le qs k, e)
