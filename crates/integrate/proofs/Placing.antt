-- Parts put one behind the other.
use Prim.Native.Nat.{ℕ}
use mathlib.Core.Path.{◌≡◌, ap, ◌∙◌}
use mathlib.Core.List.{List, [], ◌∷◌, ◌++◌, append_assoc}

-- a part put behind what stands there
pub behind : (part : List ℕ) {all before text : List ℕ} → all ≡ before ++ part → before ≡ text → all ≡ text ++ part
behind part p q = p ∙ ap (λ (l : List ℕ). l ++ part) q

-- a blank, then digits that spell a text
pub blank-behind : (start digits : List ℕ) {all before text : List ℕ} → all ≡ before ++ digits → before ≡ start ++ (32 ∷ []) → digits ≡ text → all ≡ start ++ (32 ∷ text)
blank-behind start digits p q e =
    p ∙ ap (λ (l : List ℕ). l ++ digits) q ∙ append_assoc start (32 ∷ []) digits ∙ ap (λ (l : List ℕ). start ++ (32 ∷ l)) e
