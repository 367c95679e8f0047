-- What a read puts behind the bytes that stand there is what it took of the input.
use Rattle.std.proofs.Common.{◌≡◌, ℕ, ◌+◌, ◌≤◌, List, ◌++◌, rules, length, take, sym, ap, ◌∙◌, subst, length-take-le}
use Rattle.std.proofs.KnownBytes.{Consumes-trans}
use Rattle.std.proofs.Math.Seq.{take-append-add}
use Rattle.std.proofs.lemmas.List.{take-append-le}
use Rattle.std.specs.Io.KnownBytes.{Consumes}
use borrow.Rule.Slice.PartMut.{put_mid, post_of}
use Rattle.input.proofs.read_full.Goals as goal

-- n of the bytes put at a, behind the first a
front : (a k n : ℕ) (xs ys : List ℕ) → a ≤ length xs → n ≤ length ys → take (a + n) (put_mid a k xs ys) ≡ take a xs ++ take n ys
front a k n xs ys h f =
    let rest = post_of a k xs in
    subst (λ (m : ℕ). take (m + n) (take a xs ++ (ys ++ rest)) ≡ take a xs ++ take n ys) (length-take-le a xs h)
    (take-append-add (take a xs) (ys ++ rest) n ∙ ap (λ (l : List ℕ). take a xs ++ l) (take-append-le n ys rest f))

pub loop-got-preserved : goal.loop-got-preserved
loop-got-preserved g c =
    let i = c.loop-got.invariant in
    let read = c.in_ok-more.ensures in
    (search rules, subst (Consumes _ _) (sym (front _ _ _ _ _ i.0 read.bound.0)) (Consumes-trans _ _ _ _ _ i.1 read.bytes.0))
