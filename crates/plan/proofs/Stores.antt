-- Runs of stores: one after the other is one run, and two apart change places.
use mathlib.Core.Path.{◌≡◌, refl, ap, ◌∙◌}
use mathlib.Core.List.{List, [], ◌∷◌, ◌++◌}
use Prim.Native.Nat.{ℕ, suc, ◌+◌, ◌≤◌, ◌<◌}
use native.Mathlib.Nat.{add-zero}
use native.Mathlib.Omega.{arith}
use lib.ListN.{length, set}
use lib.Seq.{sets, set_comm}

pub sets-append : (T : List ℕ) (a : ℕ) (xs ys : List ℕ) → sets T a (xs ++ ys) ≡ sets (sets T a xs) (a + length xs) ys
sets-append T a [] ys = rw add-zero
sets-append T a (x ∷ xs) ys = let e : a + suc (length xs) ≡ suc a + length xs = omega arith in rw e (sets-append (set T a x) (suc a) xs ys)

pub set-sets : (T : List ℕ) (i v a : ℕ) (xs : List ℕ) → i < a → set (sets T a xs) i v ≡ sets (set T i v) a xs
set-sets T i v a [] h = refl
set-sets T i v a (x ∷ xs) h =
    set-sets (set T a x) i v (suc a) xs (omega arith)
    ∙ ap (λ (S : List ℕ). sets S (suc a) xs) (set_comm T a i x v (λ e. absurd (omega arith)))

pub sets-comm : (T : List ℕ) (a : ℕ) (xs : List ℕ) (b : ℕ) (ys : List ℕ) → b + length ys ≤ a → sets (sets T a xs) b ys ≡ sets (sets T b ys) a xs
sets-comm T a xs b [] h = refl
sets-comm T a xs b (y ∷ ys) h =
    ap (λ (S : List ℕ). sets S (suc b) ys) (set-sets T b y a xs (omega arith))
    ∙ sets-comm (set T b y) a xs (suc b) ys (omega arith)
