-- Where the bytes of an input are known, what `read_full` promises of an answer allows one count, one text in front and one rest. That it
-- answers on every input needs no theorem: it asks nothing.
use Rattle.std.proofs.Common.{◌≡◌, ℕ, ◌+◌, ◌<◌, ◌≤◌, List, length, take, drop, sym, ap, ◌∙◌, arith, length-append, length-take-le, take_at, drop_at}
use Rattle.std.specs.Prelude.{Option, Some, None}
use Rattle.std.specs.Io.KnownBytes.{Consumes, IsAtEnd}

-- what is promised of a count n, where xs is what the input had
pub record Filled (xs text : List ℕ) (new : Option (List ℕ)) (n : ℕ) : Type 0 where
  pub in_bounds : n ≤ length text
  pub bytes : Consumes (Some xs) new (take n text)
  pub end : n < length text → IsAtEnd new

-- the count is as much as there is and as there is room for
record Counted (xs text : List ℕ) (n : ℕ) : Type 0 where
  room : n ≤ length text
  there : n ≤ length xs
  all : n < length text → n ≡ length xs

counted : (xs text : List ℕ) (new : Option (List ℕ)) (n : ℕ) → Filled xs text new n → Counted xs text n
counted xs text None n f = absurd f.bytes
counted xs text (Some ys) n f =
    let e : length xs ≡ n + length ys = ap length f.bytes ∙ length-append (take n text) ys ∙ ap (λ (k : ℕ). k + length ys) (length-take-le n text f.in_bounds) in
    record { room = f.in_bounds; there = omega arith; all = λ h. let z : length ys ≡ 0 = ap length (f.end h) in omega arith }

same_count : (xs text text' : List ℕ) (n n' : ℕ) → length text ≡ length text' → Counted xs text n → Counted xs text' n' → n ≡ n'
same_count xs text text' n n' l a b = grind (arith, l, a.room, a.there, a.all, b.room, b.there, b.all)

pub read_full-unique : (xs text text' : List ℕ) (new new' : Option (List ℕ)) (n n' : ℕ) → length text ≡ length text' → Filled xs text new n → Filled xs text' new' n'
    → (n ≡ n') × (take n text ≡ take n' text') × (new ≡ new')
read_full-unique xs text text' None new' n n' l a b = absurd a.bytes
read_full-unique xs text text' (Some ys) None n n' l a b = absurd b.bytes
read_full-unique xs text text' (Some ys) (Some zs) n n' l a b =
    let e = same_count xs text text' n n' l (counted xs text (Some ys) n a) (counted xs text' (Some zs) n' b) in
    let p = length-take-le n text a.in_bounds in
    let q = length-take-le n' text' b.in_bounds in
    let front : take n xs ≡ take n text = ap (take n) a.bytes ∙ take_at (take n text) ys n p in
    let front' : take n' xs ≡ take n' text' = ap (take n') b.bytes ∙ take_at (take n' text') zs n' q in
    let rest : drop n xs ≡ ys = ap (drop n) a.bytes ∙ drop_at (take n text) ys n p in
    let rest' : drop n' xs ≡ zs = ap (drop n') b.bytes ∙ drop_at (take n' text') zs n' q in (
      e,
      sym front ∙ ap (λ (k : ℕ). take k xs) e ∙ front',
      ap Some (sym rest ∙ ap (λ (k : ℕ). drop k xs) e ∙ rest'),
    )
