-- An answer in the document's words: a value, or a refusal's number.
use Rattle.std.specs.Prelude.{ℕ}

pub data Paper (A : Type 0) : Type 0 where
  gives : A → Paper A
  refuses : ℕ → Paper A
