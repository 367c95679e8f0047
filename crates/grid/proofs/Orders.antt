-- Tests in their order: from a ladder of refusals to the first test that holds, and back.
use mathlib.Core.Path.{◌≡◌, refl, sym, ap, ◌∙◌, subst}
use mathlib.Core.Logic.{◌⊎◌, inl, inr}
use mathlib.Core.Bool.{Bool, true, false, not, cond, true≢false, false≢true}
use mathlib.Core.List.{List, [], ◌∷◌, ◌++◌, append-nil}
use Prim.Native.Nat.{ℕ, zero, suc}
use native.Mathlib.Omega.{arith}
use borrow.Author.Tests.{ne_eqb, eqb-false}
use lib.Dec.{eqb}
use Rattle.doubles.specs.Paper.{Paper, gives, refuses}
use Rattle.grid.specs.History.{Word, done, numbered}
use Rattle.grid.specs.Order.{Test, test, First, NoneHolds, Ordered}
use Rattle.grid.proofs.Kept.{refused_none, numbered-refuses}

same_number : {A : Type 0} (n m : ℕ) → ◌≡◌ {A = Paper A} (refuses n) (refuses m) → n ≡ m
same_number n m e = cc

-- no test: answered
pub given-last : {A : Type 0} (x : A) → Ordered [] (gives x)
unfolding First NoneHolds
given-last x = record { refused = λ n. (λ e. absurd (refused_none n x (sym e)), λ f. absurd f); answered = λ w. (x, refl) }

-- a test that holds
pub held : {A : Type 0} (n : ℕ) (ts : List Test) → Ordered {A = A} (test true n ∷ ts) (refuses n)
unfolding First NoneHolds
held {A} n ts = record { refused = λ m. (λ e. inl (refl, same_number n m e), back m); answered = λ w. absurd (true≢false w.0) }
  where
    back : (m : ℕ) → ((true ≡ true) × (n ≡ m)) ⊎ ((true ≡ false) × First ts m) → ◌≡◌ {A = Paper A} (refuses n) (refuses m)
    back m (inl h) = ap refuses h.1
    back m (inr h) = absurd (true≢false h.0)

-- a test that does not
pub passed : {A : Type 0} (n : ℕ) (ts : List Test) (p : Paper A) → Ordered ts p → Ordered (test false n ∷ ts) p
unfolding First NoneHolds
passed n ts p o = record { refused = λ m. (λ e. inr (refl, (o.refused m).0 e), back m); answered = λ w. o.answered w.1 }
  where
    back : (m : ℕ) → ((false ≡ true) × (n ≡ m)) ⊎ ((false ≡ false) × First ts m) → p ≡ refuses m
    back m (inl h) = absurd (false≢true h.0)
    back m (inr h) = (o.refused m).1 h.1

-- a step of a ladder, whose rest matters only where the test does not hold
pub step : {A : Type 0} (b : Bool) (n : ℕ) (ts : List Test) (p : Paper A) → (b ≡ false → Ordered ts p) → Ordered (test b n ∷ ts) (cond b (refuses n) p)
step true n ts p o = held n ts
step false n ts p o = passed n ts p (o refl)

-- the same number where a test fails
pub unless : {A : Type 0} (b : Bool) (n : ℕ) (ts : List Test) (p : Paper A) → (b ≡ true → Ordered ts p) → Ordered (test (not b) n ∷ ts) (cond b p (refuses n))
unless true n ts p o = passed n ts p (o refl)
unless false n ts p o = held n ts

-- ---- a number that is 0 where no test holds

unfoldable pub first_of : List Test → ℕ
first_of [] = 0
first_of (t ∷ ts) = cond t.holds t.number (first_of ts)

unfoldable pub Above : List Test → Type 0
Above [] = Unit
Above (t ∷ ts) = (t.number ≡ 0 → ⊥) × Above ts

pub numbers : {A : Type 0} (ts us : List Test) (p : Paper A) → Above ts → (first_of ts ≡ 0 → Ordered us p) → Ordered (ts ++ us) (cond (not (eqb (first_of ts) 0)) (refuses (first_of ts)) p)
unfolding first_of Above
numbers [] us p a o = o refl
numbers (t ∷ ts) us p a o = pick t.holds (λ q. numbers ts us p a.1 q) o
  where
    pick : (b : Bool) → ((first_of ts ≡ 0 → Ordered us p) → Ordered (ts ++ us) (cond (not (eqb (first_of ts) 0)) (refuses (first_of ts)) p)) → (cond b t.number (first_of ts) ≡ 0 → Ordered us p)
        → Ordered (test b t.number ∷ (ts ++ us)) (cond (not (eqb (cond b t.number (first_of ts)) 0)) (refuses (cond b t.number (first_of ts))) p)
    pick true rest q = rw (ne_eqb t.number 0 a.0) (held t.number (ts ++ us))
    pick false rest q = passed t.number (ts ++ us) _ (rest q)

-- the same with the number under another name
pub by_number : {A : Type 0} (ts us : List Test) (p : Paper A) (n : ℕ) → n ≡ first_of ts → Above ts → (n ≡ 0 → Ordered us p) → Ordered (ts ++ us) (cond (not (eqb n 0)) (refuses n) p)
by_number ts us p n e a o = subst (λ (k : ℕ). Ordered (ts ++ us) (cond (not (eqb k 0)) (refuses k) p)) (sym e) (numbers ts us p a (λ z. o (e ∙ z)))

-- ---- an answer changed, its refusals not

pub changed : {A B : Type 0} (ts : List Test) (p : Paper A) (q : Paper B) → Ordered ts p → ((n : ℕ) → p ≡ refuses n → q ≡ refuses n) → ((x : A) → p ≡ gives x → (y : B) × (q ≡ gives y)) → Ordered ts q
changed {A} {B} ts p q o r g = record { refused = λ n. (λ e. (o.refused n).0 (back n e p refl), λ f. r n ((o.refused n).1 f)); answered = λ w. let x = o.answered w in g x.0 x.1 }
  where
    back : (n : ℕ) → q ≡ refuses n → (p' : Paper A) → p ≡ p' → p ≡ refuses n
    back n e (gives x) h = let y = g x h in absurd (refused_none n y.0 (sym e ∙ y.1))
    back n e (refuses k) h = h ∙ ap refuses (same_number k n (sym (r k h) ∙ e))

-- the number of a first test is none that is 0
pub first_above : (ts : List Test) (n : ℕ) → Above ts → First ts n → n ≡ 0 → ⊥
unfolding Above First
first_above [] n a f z = f
first_above (t ∷ ts) n a (inl h) z = a.0 (h.1 ∙ z)
first_above (t ∷ ts) n a (inr h) z = first_above ts n a.1 h.1 z

pub above-append : (ts us : List Test) → Above ts → Above us → Above (ts ++ us)
unfolding Above
above-append [] us a b = b
above-append (t ∷ ts) us a b = (a.0, above-append ts us a.1 b)

-- a ladder's two ways round
pub turned : (b : Bool) (x y : ℕ) → cond b x y ≡ cond (not b) y x
turned true x y = refl
turned false x y = refl

-- the first test's number, and 0 where none holds
pub first-is : (ts : List Test) (n : ℕ) → First ts n → first_of ts ≡ n
unfolding First first_of
first-is [] n f = absurd f
first-is (t ∷ ts) n (inl h) = rw h.0 h.1
first-is (t ∷ ts) n (inr h) = rw h.0 (first-is ts n h.1)

pub none_is : (ts : List Test) → NoneHolds ts → first_of ts ≡ 0
unfolding NoneHolds first_of
none_is [] w = refl
none_is (t ∷ ts) w = rw w.0 (none_is ts w.1)

-- ---- a number, 0 for none

pub alone : {A : Type 0} (ts : List Test) (p : Paper A) → Ordered (ts ++ []) p → Ordered ts p
alone ts p o = subst (λ (l : List Test). Ordered l p) (append-nil ts) o

-- a number is a refusal where it is not 0
pub numbered-by : (f : ℕ) (n : ℕ) → numbered (cond (not (eqb f 0)) f n) ≡ cond (not (eqb f 0)) (refuses f) (numbered n)
numbered-by f n = pick (eqb f 0) refl
  where
    pick : (b : Bool) → eqb f 0 ≡ b → numbered (cond (not b) f n) ≡ cond (not b) (refuses f) (numbered n)
    pick true h = refl
    pick false h = numbered-refuses f (eqb-false f 0 h)

numbered-cond : (k : ℕ) → numbered k ≡ cond (not (eqb k 0)) (refuses k) (gives done)
unfolding numbered
numbered-cond zero = refl
numbered-cond (suc k) = let z : suc k ≡ 0 → ⊥ = λ e. absurd (omega (arith, e)) in rw (ne_eqb (suc k) 0 z)

pub numbered-ordered : (ts : List Test) (k : ℕ) → k ≡ first_of ts → Above ts → Ordered ts (numbered k)
numbered-ordered ts k e a = subst (λ (p : Paper Word). Ordered ts p) (sym (numbered-cond k)) (alone ts _ (by_number ts [] (gives done) k e a (λ z. given-last done)))
