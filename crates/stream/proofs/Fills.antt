-- Bytes of words: what a word's bytes are by number, and how `fill_bytes` goes on word by word.
use Rattle.std.proofs.Common.{◌≡◌, ℕ, zero, suc, ◌+◌, ◌-◌, ◌*◌, ◌/◌, ◌%◌, ◌<◌, ◌≤◌, Bool, true, false, ◌&&◌, ◌==◌, w64, ltb, List, [], ◌∷◌, ◌++◌, length, take, drop, set, get_or-take, lit<, sym, refl, ap, ◌∙◌, append_assoc, append-nil, arith, length-append, length-set, length-take-le, take_all, take_at, ltb-false, ltb-true}
use Rattle.std.specs.List.{list_all}
use Rattle.std.specs.Int.{from_le_bytes, to_le_bytes}
use borrow.Rule.Slice.PartMut.{put_mid}
use lib.Seq.{drop-drop, set_out, sets, sets-eq, length-sets, take-nil, take-append-add}
use Rattle.stream.specs.declared.MonteCarloRng.{MonteCarloRng}
use Rattle.stream.specs.declared.Next.{Next}
use Rattle.stream.specs.Xoshiro.{word_of, step_of, steps_of}
use Rattle.stream.specs.Bytes.{bytes_of, word_in, all_zero, stream_bytes}
use Rattle.stream.specs.Calls.{drawn_of, Filled, filled, filled_of, words_for}

pub length-bytes : (n w : ℕ) → length (bytes_of n w) ≡ n
unfolding bytes_of
length-bytes zero w = refl
length-bytes (suc n) w = ap suc (length-bytes n (w / 256))

-- fewer bytes are the first of more
pub take-bytes : (m n w : ℕ) → m ≤ n → take m (bytes_of n w) ≡ bytes_of m w
unfolding bytes_of
take-bytes zero n w h = refl
take-bytes (suc m) zero w h = absurd (omega arith)
take-bytes (suc m) (suc n) w h = ap (λ (l : List ℕ). w % 256 ∷ l) (take-bytes m n (w / 256) (omega arith))

-- the zero test, as a test of each byte
pub all-zero-each : (l : List ℕ) → list_all (λ b. b == 0) l ≡ all_zero l
unfolding all_zero
all-zero-each [] = refl
all-zero-each (b ∷ l) = ap (λ (z : Bool). b == 0 && z) (all-zero-each l)

-- eight bytes are the word that stands first in a list which begins with them
pub word-of-eight : (eight l : List ℕ) → eight ≡ take 8 l → from_le_bytes w64 eight ≡ word_in l
unfolding word_in
word-of-eight eight l e =
    let at = λ (k : ℕ) (h : k < 8). get_or-take 8 l k 0 h in
    rw e (omega (arith, at 0 (lit< tt), at 1 (lit< tt), at 2 (lit< tt), at 3 (lit< tt), at 4 (lit< tt), at 5 (lit< tt), at 6 (lit< tt), at 7 (lit< tt)))

-- std's bytes of a word are the definition's: to divide by 256 again and again is to divide by its powers
pub le-bytes : (w : ℕ) → to_le_bytes w64 w ≡ bytes_of 8 w
unfolding bytes_of
le-bytes w =
    let two : w / 256 / 256 ≡ w / 65536 = omega arith in
    let three : w / 65536 / 256 ≡ w / 16777216 = omega arith in
    let four : w / 16777216 / 256 ≡ w / 4294967296 = omega arith in
    let five : w / 4294967296 / 256 ≡ w / 1099511627776 = omega arith in
    let six : w / 1099511627776 / 256 ≡ w / 281474976710656 = omega arith in
    let seven : w / 281474976710656 / 256 ≡ w / 72057594037927936 = omega arith in
    rw (two, three, four, five, six, seven)

-- stores past the end change nothing
pub sets-out : (vs l : List ℕ) (i : ℕ) → length l ≤ i → sets l i vs ≡ l
sets-out [] l i h = refl
sets-out (v ∷ vs) l i h = let e = set_out l i v h in rw e (sets-out vs l (suc i) (omega arith))

-- what `fill_bytes` leaves, with `at` bytes of d done and the stream at s
unfoldable pub onward : List ℕ → ℕ → MonteCarloRng → Filled
unfolding words_for steps_of stream_bytes
onward d at s = filled (steps_of (words_for (length d - at)) s) (take at d ++ take (length d - at) (stream_bytes (words_for (length d - at)) s))

pub onward-starts : (d : List ℕ) (s : MonteCarloRng) → onward d 0 s ≡ filled_of (length d) s
unfolding onward filled_of
onward-starts d s = let e : length d - 0 ≡ length d = omega arith in rw e

-- d with n values stored at `at`, up to their end
stored : (d vs : List ℕ) (at : ℕ) → at + length vs ≤ length d → take (at + length vs) (sets d at vs) ≡ take at d ++ vs
stored d vs at h =
    ap (take (at + length vs)) (sets-eq vs d at h)
    ∙ take_at (take at d ++ vs) (drop (at + length vs) d) (at + length vs)
    (length-append (take at d) vs ∙ ap (λ (k : ℕ). k + length vs) (length-take-le at d (omega arith)))

-- eight values stored are eight bytes fewer to come
stored-eight : (d bs rest : List ℕ) (at : ℕ) → length bs ≡ 8 → at + 8 ≤ length d
    → take at d ++ take (length d - at) (bs ++ rest) ≡ take (at + 8) (sets d at bs) ++ take (length d - (at + 8)) rest
stored-eight d bs rest at e h =
    let left : length d - at ≡ length bs + (length d - (at + 8)) = omega arith in
    let within : at + length bs ≤ length d = omega arith in
    let eight : at + 8 ≡ at + length bs = omega arith in
    ap (λ (n : ℕ). take at d ++ take n (bs ++ rest)) left
    ∙ ap (λ (l : List ℕ). take at d ++ l) (take-append-add bs rest (length d - (at + 8)))
    ∙ sym (append_assoc (take at d) bs (take (length d - (at + 8)) rest))
    ∙ ap (λ (l : List ℕ). l ++ take (length d - (at + 8)) rest) (sym (stored d bs at within) ∙ ap (λ (n : ℕ). take n (sets d at bs)) (sym eight))

-- a whole word more
onward-word : (d : List ℕ) (at : ℕ) (s : MonteCarloRng) → at + 8 ≤ length d
    → onward d at s ≡ onward (sets d at (bytes_of 8 (word_of s))) (at + 8) (step_of s)
unfolding onward words_for steps_of stream_bytes
onward-word d at s h =
    let words : (length d - at + 7) / 8 ≡ suc ((length d - (at + 8) + 7) / 8) = omega arith in
    let rest = stream_bytes ((length d - (at + 8) + 7) / 8) (step_of s) in
    rw (length-sets, words)
    (ap (filled (steps_of ((length d - (at + 8) + 7) / 8) (step_of s))) (stored-eight d (bytes_of 8 (word_of s)) rest at (length-bytes 8 (word_of s)) h))

-- nothing left
pub onward-done : (d : List ℕ) (at : ℕ) (s : MonteCarloRng) → length d ≤ at → onward d at s ≡ filled s d
unfolding onward words_for steps_of stream_bytes
onward-done d at s h =
    let left : length d - at ≡ 0 = omega arith in
    rw left (ap (filled s) (append-nil (take at d) ∙ take_all at d h))

-- of a word's bytes only those that there is room for are stored
short_on : (v : ℕ) (vs l : List ℕ) (i n : ℕ) → length l - i ≡ n → sets (set l i v) (suc i) vs ≡ sets (set l i v) (suc i) (take (length l - suc i) vs)
    → sets l i (v ∷ vs) ≡ sets l i (take n (v ∷ vs))
short_on v vs l i zero e h = sets-out (v ∷ vs) l i (omega arith)
short_on v vs l i (suc n) e h = let m : length l - suc i ≡ n = omega arith in rw m at h

stored_short : (vs l : List ℕ) (i : ℕ) → sets l i vs ≡ sets l i (take (length l - i) vs)
stored_short [] l i = simp take-nil
stored_short (v ∷ vs) l i = short_on v vs l i (length l - i) refl (rw length-set at (stored_short vs (set l i v) (suc i)))

-- the first k of the values, where the rest of them has no room
within-room : (d vs : List ℕ) (at k : ℕ) → at + k ≤ length d → (k < length d - at → length vs ≤ k) → take (length d - at) vs ≡ take k vs
within-room d vs at k h rest = go (ltb k (length d - at)) refl
  where
    go : (b : Bool) → ltb k (length d - at) ≡ b → take (length d - at) vs ≡ take k vs
    go true e =
        let few = rest (ltb-true k (length d - at) e) in
        take_all (length d - at) vs (omega (arith, ltb-true k (length d - at) e)) ∙ sym (take_all k vs few)
    go false e = let all : length d - at ≡ k = omega (arith, ltb-false k (length d - at) e) in rw all

-- k of the values copied to the part at `at`, where the rest of them has no room
pub copied : (d vs ys : List ℕ) (at k : ℕ) → at + k ≤ length d → k ≤ length vs → (k < length d - at → length vs ≤ k) → ys ≡ take k vs
    → put_mid at k d ys ≡ sets d at vs
copied d vs ys at k h some rest e =
    let n : length (take k vs) ≡ k = length-take-le k vs some in
    let fits : at + length (take k vs) ≤ length d = omega arith in
    rw (e, drop-drop)
    (sym (append_assoc (take at d) (take k vs) (drop (at + k) d))
    ∙ ap (λ (j : ℕ). take at d ++ take k vs ++ drop (at + j) d) (sym n)
    ∙ sym (sets-eq (take k vs) d at fits)
    ∙ ap (sets d at) (sym (within-room d vs at k h rest))
    ∙ sym (stored_short vs d at))

-- a short rest
onward-rest : (d : List ℕ) (at : ℕ) (s : MonteCarloRng) → at < length d → length d < at + 8
    → onward d at s ≡ filled (step_of s) (sets d at (bytes_of 8 (word_of s)))
unfolding onward words_for steps_of stream_bytes
onward-rest d at s h k =
    let words : (length d - at + 7) / 8 ≡ 1 = omega arith in
    let bs = bytes_of (length d - at) (word_of s) in
    let whole : at + length bs ≡ length d = omega (arith, length-bytes (length d - at) (word_of s)) in
    rw words
    (ap (filled (step_of s))
    (ap (λ (l : List ℕ). take at d ++ take (length d - at) l) (append-nil (bytes_of 8 (word_of s)))
    ∙ ap (λ (l : List ℕ). take at d ++ l) (take-bytes (length d - at) 8 (word_of s) (omega arith))
    ∙ sym (stored d bs at (omega arith))
    ∙ take_all (at + length bs) (sets d at bs) (omega (arith, length-sets d at bs))
    ∙ ap (sets d at) (sym (take-bytes (length d - at) 8 (word_of s) (omega arith)))
    ∙ sym (stored_short (bytes_of 8 (word_of s)) d at)))

-- a word more, whole or not
onward-on : (d : List ℕ) (at : ℕ) (s : MonteCarloRng) → at < length d
    → onward (sets d at (bytes_of 8 (word_of s))) (at + 8) (step_of s) ≡ onward d at s
onward-on d at s h = go (ltb (length d) (at + 8)) refl
  where
    go : (b : Bool) → ltb (length d) (at + 8) ≡ b → onward (sets d at (bytes_of 8 (word_of s))) (at + 8) (step_of s) ≡ onward d at s
    go true e =
        let k = ltb-true (length d) (at + 8) e in
        onward-done (sets d at (bytes_of 8 (word_of s))) (at + 8) (step_of s) (omega (arith, length-sets d at (bytes_of 8 (word_of s)))) ∙ sym (onward-rest d at s h k)
    go false e = sym (onward-word d at s (ltb-false (length d) (at + 8) e))

-- n bytes spend m words: a word before the last begins within them, and after m nothing is left
pub begins : (k m n : ℕ) → m ≡ words_for n → k < m → k * 8 < n
unfolding words_for
begins k m n e h = omega arith

pub spent : (k m n : ℕ) → m ≡ words_for n → m ≤ k → n ≤ k * 8
unfolding words_for
spent k m n e h = omega arith

-- from what the code draws and writes at the k-th word
pub fills-word : (d e : List ℕ) (k : ℕ) (s : MonteCarloRng) (w : Next ℕ) → w ≡ drawn_of s → e ≡ sets d (k * 8) (bytes_of 8 w.value) → k * 8 < length d
    → onward e ((k + 1) * 8) w.stream ≡ onward d (k * 8) s
unfolding drawn_of
fills-word d e k s w drawn put h =
    let next : (k + 1) * 8 ≡ k * 8 + 8 = omega arith in
    rw (put, drawn, next) (onward-on d (k * 8) s h)
