-- A loop that writes a slice from the front: what is written, and what is still to be made of the rest, stay the same whole.
use mathlib.Core.Path.{◌≡◌, sym, ap, ◌∙◌}
use mathlib.Core.List.{List, ◌∷◌, ◌++◌}
use Prim.Native.Nat.{ℕ, suc, ◌+◌, ◌<◌}
use native.Mathlib.Numerals.{add-one}
use native.Mathlib.Omega.{arith}
use lib.ListN.{length, get_or, take, drop, set, take-append-drop}
use lib.Seq.{drop-cons, drop-set-lt}
use Rattle.axis.proofs.Lists.{write-next}

-- `rest` makes what is to come of the elements from i on, `rest'` of those from i + 1 on
pub rest-next : {A : Type 0} (d : A) (l : List A) (i : ℕ) (v : A) (rest rest' : List A → List A) → i < length l
    → rest (get_or l i d ∷ drop (suc i) l) ≡ v ∷ rest' (drop (suc i) l)
    → take (i + 1) (set l i v) ++ rest' (drop (i + 1) (set l i v)) ≡ take i l ++ rest (drop i l)
rest-next {A} d l i v rest rest' h e =
    let after : drop (i + 1) (set l i v) ≡ drop (suc i) l = rw add-one (drop-set-lt (suc i) l i v (omega arith)) in
    write-next d l i v (rest (drop i l)) (rest' (drop (i + 1) (set l i v))) h
    (ap rest (drop-cons l i d h) ∙ e ∙ ap (λ (t : List A). v ∷ rest' t) (sym after))

-- nothing is left to make
pub rest-done : {A : Type 0} (l : List A) (i : ℕ) (rest : List A → List A) → rest (drop i l) ≡ drop i l → take i l ++ rest (drop i l) ≡ l
rest-done l i rest e = rw e (take-append-drop i l)
