-- A row of 11s: gathered one by one it is the row, and its bytes are there.
use Rattle.std.proofs.Common.{◌≡◌, ℕ, zero, suc, ◌+◌, ◌-◌, ◌*◌, ◌<◌, ◌≤◌, Bool, true, false, cond, ◌&&◌, eqb, leb, List, [], ◌∷◌, ◌++◌, length, get_or, take, set, sym, refl, ap, ◌∙◌, append-nil, add-one, arith, take-suc-set, le-leb, leb-true}
use lib.Seq.{append_snoc}
use lib.Ieee.{Float}
use Rattle.doubles.proofs.Truth.{both}
use Rattle.plan.specs.Numbers.{number_at}
use Rattle.feed.specs.declared.fields.Standing.TheVariants as standing
use Rattle.feed.specs.Fields.{double_at, standing_of, is_sample, row_from}
use Rattle.feed.proofs.Standings.{Whole, whole_is}

pub sample-whole : (bs : List ℕ) (at : ℕ) → is_sample bs at ≡ true → at + 11 ≤ length bs
unfolding is_sample
sample-whole bs at e =
    leb-true (at + 11) (length bs) (both (leb (at + 11) (length bs)) (eqb (get_or bs at 0) 0x11 && eqb (number_at bs (at + 1) 2) 8) e).0

pub row-none : (bs : List ℕ) (at n : ℕ) → is_sample bs at ≡ false → row_from bs at n ≡ []
unfolding row_from
row-none bs at zero e = refl
row-none bs at (suc n) e = rw e

pub row_one : (bs : List ℕ) (at n : ℕ) → is_sample bs at ≡ true → row_from bs at (suc n) ≡ double_at bs (at + 3) ∷ row_from bs (at + 11) n
unfolding row_from
row_one bs at n e = rw e

-- none is left to gather, or no room
pub row-stop : (bs : List ℕ) (es whole : List Float) (at n : ℕ) → is_sample bs at ≡ false → es ++ row_from bs at n ≡ whole → es ≡ whole
row-stop bs es whole at n e d = sym (append-nil es) ∙ ap (λ (l : List Float). es ++ l) (sym (row-none bs at n e)) ∙ d

pub row-full : (bs : List ℕ) (es whole : List Float) (at n i : ℕ) → n ≤ i → es ++ row_from bs at (n - i) ≡ whole → es ≡ whole
unfolding row_from
row-full bs es whole at n i h d =
    let z : n - i ≡ 0 = omega arith in sym (append-nil es) ∙ ap (λ (k : ℕ). es ++ row_from bs at k) (sym z) ∙ d

-- one more is gathered
pub row_next : (bs : List ℕ) (es : List Float) (i at n : ℕ) (v : Float) → i < length es → i < n → is_sample bs at ≡ true → v ≡ double_at bs (at + 3)
    → take (i + 1) (set es i v) ++ row_from bs (at + 11) (n - (i + 1)) ≡ take i es ++ row_from bs at (n - i)
row_next bs es i at n v h m e d =
    let k : n - i ≡ suc (n - (i + 1)) = omega arith in
    let taken : take (i + 1) (set es i v) ≡ take i es ++ (v ∷ []) = rw add-one (take-suc-set es i v h) in
    ap (λ (l : List Float). l ++ row_from bs (at + 11) (n - (i + 1))) taken
    ∙ append_snoc (take i es) v (row_from bs (at + 11) (n - (i + 1)))
    ∙ ap (λ (x : Float). take i es ++ x ∷ row_from bs (at + 11) (n - (i + 1))) d
    ∙ ap (λ (l : List Float). take i es ++ l) (sym (row_one bs at (n - (i + 1)) e) ∙ ap (row_from bs at) (sym k))

-- ---- its bytes

fits-here : (L at : ℕ) (x : Float) (rest : List Float) (b : Bool) → at ≤ L → (b ≡ true → at + 11 + 11 * length rest ≤ L) → at + 11 * length (cond b (x ∷ rest) []) ≤ L
fits-here L at x rest true h k = omega (arith, k refl)
fits-here L at x rest false h k = omega arith

pub row_fits : (bs : List ℕ) (n at : ℕ) → at ≤ length bs → at + 11 * length (row_from bs at n) ≤ length bs
unfolding row_from
row_fits bs zero at h = omega arith
row_fits bs (suc n) at h = fits-here (length bs) at (double_at bs (at + 3)) (row_from bs (at + 11) n) (is_sample bs at) h (λ e. row_fits bs n (at + 11) (sample-whole bs at e))

-- ---- a whole 11 at the front

pub sample-is : (bs : List ℕ) → is_sample bs 0 ≡ true → Whole bs 0x11 8
unfolding is_sample
sample-is bs e =
    let p = both (leb 11 (length bs)) (eqb (get_or bs 0 0) 0x11 && eqb (number_at bs 1 2) 8) e in
    let q = both (eqb (get_or bs 0 0) 0x11) (eqb (number_at bs 1 2) 8) p.1 in
    record { tagged = q.0; sized = q.1; there = leb-true 11 (length bs) p.0 }

pub is-sample : (bs : List ℕ) → Whole bs 0x11 8 → is_sample bs 0 ≡ true
unfolding is_sample
is-sample bs w = rw (le-leb 11 (length bs) w.there, w.tagged, w.sized)

pub row-some : (bs : List ℕ) (last : Bool) (n : ℕ) → standing_of bs 0x11 8 last ≡ standing.Whole → 0 < length (row_from bs 0 (suc n))
row-some bs last n e = rw (row_one bs 0 n (is-sample bs (whole_is bs 0x11 8 last e))) (omega arith)
