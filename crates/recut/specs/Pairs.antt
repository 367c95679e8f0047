-- Two lists, element by element.
use Rattle.std.specs.Prelude.{List, [], ◌∷◌}

-- f on each pair, over the shorter length; what is left of the first list stays
unfoldable pub pairwise : {A B : Type 0} → (A → B → A) → List A → List B → List A
pairwise f [] ys = []
pairwise f (x ∷ xs) [] = x ∷ xs
pairwise f (x ∷ xs) (y ∷ ys) = f x y ∷ pairwise f xs ys
