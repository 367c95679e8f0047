-- A copy without samples: each step of the code as the definitions have it.
use mathlib.Core.Path.{◌≡◌, sym, ap, ap₂, ◌∙◌}
use mathlib.Core.Bool.{true, not}
use mathlib.Core.List.{List}
use Prim.Native.Nat.{ℕ, suc, ◌+◌, ◌-◌, ◌*◌, ◌≤◌, ◌<◌}
use native.Mathlib.Omega.{arith}
use borrow.Author.Tests.{ltb-false, not-false, ne_eqb}
use lib.Dec.{ltb}
use lib.ListN.{length, take, drop, get_or, length-append, length-drop, get_or-append}
use lib.Seq.{get_or-take, length-take-le}
use lib.Ieee.{Float, nan}
use Rattle.doubles.proofs.Truth.{both}
use Rattle.plan.specs.declared.Needs.{Needs}
use Rattle.std.specs.Prelude.{Result, Ok, Err}
use Rattle.doubles.specs.declared.refusal.Refusal.{Refusal}
use Rattle.plan.specs.Paper.{paper_sized}
use Rattle.plan.specs.Paper as plan
use Rattle.plan.specs.Needs.{after, untaken, needs_of}
use Rattle.plan.specs.Calls.{sizes_of}
use Rattle.plan.proofs.Tables.{Words}
use Rattle.plan.proofs.Records.{passed-stands}
use Rattle.model.specs.Sound.{sound, formed_grid, kept_grid}
use Rattle.lent.specs.declared.AxesAt.{AxesAt}
use Rattle.lent.specs.Memory.{Memory, memory, put}
use Rattle.lent.specs.Tree.{axes_place, Laid}
use Rattle.lent.specs.Cleared.{cleared_memory, cleared_at, cleared_axes, cleared_from, cleared_own, cleared_root}
use Rattle.lent.specs.State.{root_of, judged_to}
use Rattle.lent.specs.Calls.{CloneEnd, clone_end, over_front, copied_to, cloned_by, clone_by, clone_of}
use Rattle.lent.proofs.Same.{inside-alike}
use Rattle.lent.proofs.Laid.{root-laid}
use Rattle.lent.proofs.States.{passes}
use Rattle.lent.proofs.Alike.{grid-alike}

-- ---- the root's samples

pub axes-emptied : (table : List ℕ) (w : ℕ) (g : AxesAt) (s t u : Memory) → g ≡ axes_place table w → t ≡ cleared_memory g s
    → u ≡ cleared_at (get_or table (w + 9) 0) (get_or table (w + 10) 0) t → u ≡ cleared_axes table w s
unfolding cleared_axes
axes-emptied table w g s t u p e o = o ∙ ap (cleared_at (get_or table (w + 9) 0) (get_or table (w + 10) 0)) (e ∙ ap (λ (h : AxesAt). cleared_memory h s) p)

module _ (table : List ℕ) (w n : ℕ) where
  pub bins-on : (i : ℕ) (s t : Memory) → i < n → t ≡ cleared_at (get_or table (w + 5) 0 + 14 + get_or table (w + 2) 0 + 14 * i) (get_or table (w + 6) 0 + 7 + 7 * i) s
      → cleared_from table w (i + 1) (n - (i + 1)) t ≡ cleared_from table w i (n - i) s
  unfolding cleared_from
  bins-on i s t h e = let g : n - i ≡ suc (n - (i + 1)) = omega arith in rw (e, g)

  pub bins-out : (i : ℕ) (s : Memory) → n ≤ i → cleared_from table w i (n - i) s ≡ s
  unfolding cleared_from
  bins-out i s h = let g : n - i ≡ 0 = omega arith in rw g

pub own-emptied : (table : List ℕ) (w : ℕ) (s t u : Memory) → t ≡ cleared_from table w 0 (get_or table (w + 2) 0) s
    → u ≡ cleared_at (get_or table (w + 5) 0) (get_or table (w + 6) 0) t → u ≡ cleared_own table w s
unfolding cleared_own
own-emptied table w s t u e o = o ∙ ap (cleared_at (get_or table (w + 5) 0) (get_or table (w + 6) 0)) e

pub root-axes : (table : List ℕ) (s : Memory) → get_or table 0 0 ≡ 1 → cleared_axes table 0 s ≡ cleared_root table s
unfolding cleared_root
root-axes table s e = rw e

pub root-bins : (table : List ℕ) (s : Memory) → (get_or table 0 0 ≡ 1 → ⊥) → cleared_own table 0 s ≡ cleared_root table s
unfolding cleared_root
root-bins table s n = rw (ne_eqb (get_or table 0 0) 1 n)

-- ---- the front of the destination

module _ {A : Type 0} where
  front-part : (n : ℕ) (ys : List A) → n ≤ length ys → length (take (n - 0) (drop 0 ys)) ≡ n
  front-part n ys h = let e : n - 0 ≡ n = omega arith in rw e (length-take-le n ys h)

  pub front_fits : (n : ℕ) (ys xs : List A) → n ≤ length ys → n ≤ length xs → 0 + length (take (n - 0) (drop 0 ys)) ≤ length xs
  front_fits n ys xs h k = omega (arith, front-part n ys h)

  pub front-put : (n : ℕ) (ys xs : List A) → n ≤ length ys → put 0 (length (take (n - 0) (drop 0 ys))) (take (n - 0) (drop 0 ys)) xs ≡ over_front n ys xs
  unfolding put over_front
  front-put n ys xs h = let e : n - 0 ≡ n = omega arith in rw (front-part n ys h, e)

  pub front_length : (n : ℕ) (ys xs : List A) → n ≤ length ys → n ≤ length xs → length (over_front n ys xs) ≡ length xs
  unfolding over_front
  front_length n ys xs h k = length-append (take n ys) (drop n xs) ∙ ap₂ (λ (a b : ℕ). a + b) (length-take-le n ys h) (length-drop n xs) ∙ omega arith

  pub front-cells : (d : A) (n : ℕ) (ys xs : List A) → n ≤ length ys → (p : ℕ) → p < n → get_or ys p d ≡ get_or (over_front n ys xs) p d
  unfolding over_front
  front-cells d n ys xs h p k = sym (get_or-append (take n ys) (drop n xs) d p (omega (arith, length-take-le n ys h)) ∙ get_or-take n ys p d k)

-- ---- nothing stands against the copy

pub record Ready (table : List ℕ) (s to : Memory) (n : Needs) : Type 0 where
  pub reals : n.reals ≤ length s.reals
  pub counts : n.counts ≤ length s.counts
  pub places : n.reals ≤ length to.reals
  pub tallies : n.counts ≤ length to.counts
  pub well : sound (root_of table s.reals s.counts) ≡ true

pub ready : (table : List ℕ) (s to : Memory) (n : Needs) → judged_to table s.reals s.counts (length to.reals) (length to.counts) n ≡ 0 → Ready table s to n
unfolding judged_to
ready table s to n f =
    let a = passes (ltb (length s.reals) n.reals) 10 _ (λ z. omega (arith, z)) f in
    let b = passes (ltb (length s.counts) n.counts) 10 _ (λ z. omega (arith, z)) a.1 in
    let c = passes (ltb (length to.reals) n.reals) 10 _ (λ z. omega (arith, z)) b.1 in
    let d = passes (ltb (length to.counts) n.counts) 10 _ (λ z. omega (arith, z)) c.1 in
    let e = passes (not (sound (root_of table s.reals s.counts))) 12 0 (λ z. omega (arith, z)) d.1 in
    record {
      reals = ltb-false (length s.reals) n.reals a.0;
      counts = ltb-false (length s.counts) n.counts b.0;
      places = ltb-false (length to.reals) n.reals c.0;
      tallies = ltb-false (length to.counts) n.counts d.0;
      well = not-false (sound (root_of table s.reals s.counts)) e.0;
    }

module _ (table : List ℕ) (s to : Memory) (n : Needs) (large : Words table) (planned : sizes_of table ≡ plan.gives n) (r : Ready table s to n) where
  abbrev copy : Memory
  copy = copied_to n s to

  -- the copy reads as the source
  pub copy-reads : root_of table s.reals s.counts ≡ root_of table copy.reals copy.counts
  unfolding copied_to needs_of sound
  copy-reads =
      let p = passed-stands table n large planned in
      let rr : n.reals ≡ (after p.tree untaken).reals = ap (λ (m : Needs). m.reals) p.needs in
      let cc : n.counts ≡ (after p.tree untaken).counts = ap (λ (m : Needs). m.counts) p.needs in
      let a = r.reals in
      let b = r.counts in
      let x = r.places in
      let y = r.tallies in
      let lr = front_length n.reals s.reals to.reals a x in
      let lc = front_length n.counts s.counts to.counts b y in
      grid-alike table s.reals (over_front n.reals s.reals to.reals) s.counts (over_front n.counts s.counts to.counts) 4 p.tree untaken p.grid p.stands
      (both (formed_grid (root_of table s.reals s.counts)) (kept_grid (root_of table s.reals s.counts)) r.well).0
      (inside-alike nan untaken.reals (after p.tree untaken).reals s.reals (over_front n.reals s.reals to.reals) (omega arith) (omega arith)
      (λ q i j. front-cells nan n.reals s.reals to.reals a q (omega arith)))
      (inside-alike 0 untaken.counts (after p.tree untaken).counts s.counts (over_front n.counts s.counts to.counts) (omega arith) (omega arith)
      (λ q i j. front-cells 0 n.counts s.counts to.counts b q (omega arith)))

  pub copy-sound : (t : Memory) → t ≡ copy → sound (root_of table t.reals t.counts) ≡ true
  copy-sound t e = ap (λ (m : Memory). sound (root_of table m.reals m.counts)) e ∙ sym (ap sound copy-reads) ∙ r.well

  pub copy-laid : (R C : ℕ) → R ≡ length to.reals → C ≡ length to.counts → Laid 4 table R C 0
  copy-laid R C e f = root-laid table n R C large planned (omega (arith, r.places)) (omega (arith, r.tallies))

-- what is put where it goes, as the code has it
pub copy-put : (n : Needs) (s to : Memory) (ys : List Float) (zs : List ℕ) → n.reals ≤ length s.reals → n.counts ≤ length s.counts
    → ys ≡ put 0 (length (take (n.reals - 0) (drop 0 s.reals))) (take (n.reals - 0) (drop 0 s.reals)) to.reals
    → zs ≡ put 0 (length (take (n.counts - 0) (drop 0 s.counts))) (take (n.counts - 0) (drop 0 s.counts)) to.counts
    → memory ys zs ≡ copied_to n s to
unfolding copied_to
copy-put n s to ys zs h k e f = ap₂ memory (e ∙ front-put n.reals s.reals to.reals h) (f ∙ front-put n.counts s.counts to.counts k)

-- ---- the call

module _ (table : List ℕ) (s to : Memory) (n : Needs) (fault : ℕ) (judged : fault ≡ judged_to table s.reals s.counts (length to.reals) (length to.counts) n) where
  pub clone-refused : (fault ≡ 0 → ⊥) → clone_end fault to ≡ cloned_by table s to n
  unfolding cloned_by
  clone-refused z = rw (sym judged, ne_eqb fault 0 z)

  pub clone-made : (t u : Memory) → fault ≡ 0 → t ≡ copied_to n s to → u ≡ cleared_root table t → clone_end 0 u ≡ cloned_by table s to n
  unfolding cloned_by
  clone-made t u z e f = rw (sym judged, z) (ap (clone_end 0) (f ∙ ap (cleared_root table) e))

pub clone-planned : (table : List ℕ) (s to : Memory) (r : Result Needs Refusal) (n : Needs) (e : CloneEnd) → paper_sized r ≡ sizes_of table → Ok n ≡ r → e ≡ cloned_by table s to n → e ≡ clone_of table s to
unfolding clone_of
clone-planned table s to r n e p q j = j ∙ ap (λ (o : plan.Paper Needs). clone_by table s to o) (ap paper_sized q ∙ p)

pub clone-strayed : (table : List ℕ) (s to : Memory) (r : Result Needs Refusal) (n : Refusal) → paper_sized r ≡ sizes_of table → Err n ≡ r → clone_end 12 to ≡ clone_of table s to
unfolding clone_of
clone-strayed table s to r n p q = ap (λ (o : plan.Paper Needs). clone_by table s to o) (ap paper_sized q ∙ p)
