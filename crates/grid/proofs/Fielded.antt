-- A plan's answer against its tests in order, field by field.
use mathlib.Core.Path.{◌≡◌, refl, sym, ap, subst}
use mathlib.Core.Logic.{◌⊎◌, inl, inr}
use mathlib.Core.Bool.{Bool, true, false, not, cond}
use mathlib.Core.List.{List, [], ◌∷◌, ◌++◌, append-nil}
use Prim.Native.Nat.{ℕ, zero, suc, ◌+◌, ◌-◌, ◌%◌}
use native.Mathlib.Omega.{arith}
use lib.Dec.{leb, eqb}
use lib.ListN.{length, get_or}
use Rattle.doubles.specs.Paper.{Paper, gives, refuses}
use Rattle.plan.specs.declared.Place.{Place}
use Rattle.plan.specs.declared.AxesPlan.{AxesPlan}
use Rattle.plan.specs.declared.BinsPlan.{BinsPlan}
use Rattle.plan.specs.declared.BinPlan.{BinPlan}
use Rattle.plan.specs.declared.Child.{Child}
use Rattle.plan.specs.declared.Child.TheVariants as child
use Rattle.plan.specs.Judged.{Field}
use Rattle.plan.specs.Judged as field
use Rattle.plan.specs.Numbers.{number_at, values_at}
use Rattle.plan.specs.Ranges.{within, floor_fits, ratio_fits, bounded}
use Rattle.plan.specs.Fields.{formed, values_in, evolution_fault, axes_at, axes_fault, axes_field, bins_at, bins_fault, bins_field, nothing_field, field_of}
use Rattle.plan.specs.Plan.{Tree}
use Rattle.plan.specs.Reading.{Out, Outs, cons_to, then, bins_to, trees_of, hung, opened, tree_of, from_bytes}
use Rattle.plan.specs.Calls.{begin, grid_of}
use Rattle.grid.specs.Order.{Test, test, First, NoneHolds, Ordered}
use Rattle.grid.specs.Fields.{axes_ranges, evolution_tests, bins_ranges, field_tests, behind, field_paper, out_paper, many_tests, child_tests, tree_tests, grid_tests}
use Rattle.grid.proofs.Kept.{refused_none}
use Rattle.grid.proofs.Orders.{given-last, held, passed, step, first_of, Above, by_number, changed, turned}

-- ---- one answer, then what comes behind it

-- some test is the first, or none holds
which : (ts : List Test) → ((n : ℕ) × First ts n) ⊎ NoneHolds ts
unfolding First NoneHolds
which [] = inr tt
which (t ∷ ts) = pick t.holds refl (which ts)
  where
    pick : (b : Bool) → t.holds ≡ b → ((n : ℕ) × First ts n) ⊎ NoneHolds ts → ((n : ℕ) × First (t ∷ ts) n) ⊎ NoneHolds (t ∷ ts)
    pick true h r = inl (t.number, inl (h, refl))
    pick false h (inl f) = inl (f.0, inr (h, f.1))
    pick false h (inr w) = inr (h, w)

pass_all : {A : Type 0} (ts us : List Test) (q : Paper A) → NoneHolds ts → Ordered us q → Ordered (ts ++ us) q
unfolding NoneHolds
pass_all [] us q w o = o
pass_all (t ∷ ts) us q w o = subst (λ (b : Bool). Ordered (test b t.number ∷ (ts ++ us)) q) (sym w.0) (passed t.number (ts ++ us) q (pass_all ts us q w.1 o))

unfoldable pub then_paper : {A B : Type 0} → Paper A → (A → Paper B) → Paper B
then_paper (gives x) q = q x
then_paper (refuses n) q = refuses n

-- an answer that was given has passed its tests
gave-none : {A : Type 0} (ts : List Test) (x : A) → Ordered ts (gives x) → NoneHolds ts
gave-none ts x o = pick (which ts)
  where
    pick : ((n : ℕ) × First ts n) ⊎ NoneHolds ts → NoneHolds ts
    pick (inl f) = absurd (refused_none f.0 x (sym ((o.refused f.0).1 f.1)))
    pick (inr w) = w

ordered-then : {A B : Type 0} (ts : List Test) (p : Paper A) (us : A → List Test) (q : A → Paper B) → Ordered ts p → ((x : A) → p ≡ gives x → Ordered (us x) (q x)) → Ordered (ts ++ behind p us) (then_paper p q)
unfolding behind then_paper
ordered-then ts (gives x) us q o r = pass_all ts (us x) (q x) (gave-none ts x o) (r x refl)
ordered-then {A} {B} ts (refuses n) us q o r =
    subst (λ (l : List Test). Ordered {A = B} l (refuses n)) (sym (append-nil ts)) (changed ts (refuses n) (refuses n) o (λ k e. same_number k e) (λ x e. absurd (refused_none n x e)))
  where
    same_number : (k : ℕ) → ◌≡◌ {A = Paper A} (refuses n) (refuses k) → ◌≡◌ {A = Paper B} (refuses n) (refuses k)
    same_number k e = let z : n ≡ k = cc in ap refuses z

-- ---- a field

no : (n : ℕ) → suc n ≡ 0 → ⊥
no n z = omega (arith, z)

push : (b : Bool) (x y : Field) → cond b (field_paper x) (field_paper y) ≡ field_paper (cond b x y)
push true x y = refl
push false x y = refl

-- a step of a field's ladder
stops : (b : Bool) (n at : ℕ) (ts : List Test) (x : Field) → Ordered ts (field_paper x) → Ordered (test b n ∷ ts) (field_paper (cond b (field.Stop n at) x))
unfolding field_paper
stops b n at ts x o = subst (λ (p : Paper BinPlan). Ordered (test b n ∷ ts) p) (push b (field.Stop n at) x) (step b n ts (field_paper x) (λ z. o))

-- and one by a number
numbered : (ts us : List Test) (n at : ℕ) (x : Field) → n ≡ first_of ts → Above ts → Ordered us (field_paper x) → Ordered (ts ++ us) (field_paper (cond (not (eqb n 0)) (field.Stop n at) x))
unfolding field_paper
numbered ts us n at x e a o = subst (λ (p : Paper BinPlan). Ordered (ts ++ us) p) (push (not (eqb n 0)) (field.Stop n at) x) (by_number ts us (field_paper x) n e a (λ z. o))

two_ways : (b : Bool) (ts us : List Test) (x y : Field) → Ordered ts (field_paper x) → Ordered us (field_paper y) → Ordered (cond b ts us) (field_paper (cond b x y))
two_ways true ts us x y o r = o
two_ways false ts us x y o r = r

axes-first : (a : AxesPlan) (left : ℕ) → axes_fault a left ≡ first_of (axes_ranges a left)
unfolding axes_fault axes_ranges first_of
axes-first a left =
    ap (λ (n : ℕ). cond (eqb left 0) 2 (cond (not (within 1 8 a.axes)) 2 (cond (not (within 1 1024 a.bins)) 2 (cond (not (leb a.flag 1)) 3 n)))) (turned (floor_fits a.floor) 0 3)

axes-above : (a : AxesPlan) (left : ℕ) → Above (axes_ranges a left)
unfolding axes_ranges Above
axes-above a left = (no 1, (no 1, (no 1, (no 2, (no 2, tt)))))

bins-first : (b : BinsPlan) (left level : ℕ) → bins_fault b left level ≡ first_of (bins_ranges b left level)
unfolding bins_fault bins_ranges first_of
bins-first b left level =
    ap (λ (n : ℕ). cond (eqb left 0) 2 (cond (eqb level 0) 2 (cond (not (within 1 256 b.bins)) 2 (cond (not (leb b.flag 1)) 3 n)))) (turned (ratio_fits b.ratio) 0 3)

bins-above : (b : BinsPlan) (left level : ℕ) → Above (bins_ranges b left level)
unfolding bins_ranges Above
bins-above b left level = (no 1, (no 1, (no 1, (no 2, (no 2, tt)))))

first-cond : (b : Bool) (us : List Test) (n : ℕ) → n ≡ first_of us → cond b 0 n ≡ first_of (cond b [] us)
unfolding first_of
first-cond true us n e = refl
first-cond false us n e = e

above-cond : (b : Bool) (us : List Test) → Above us → Above (cond b [] us)
unfolding Above
above-cond true us a = tt
above-cond false us a = a

evolution-first : (bs : List ℕ) (at : ℕ) → evolution_fault bs at ≡ first_of (evolution_tests bs at)
unfolding evolution_fault evolution_tests first_of
evolution-first bs at =
    first-cond (not (eqb (get_or bs at 0) 2)) _ _
    (ap (λ (n : ℕ). cond (not (leb (at + 3 + number_at bs (at + 1) 2) (length bs))) 1 (cond (not (eqb (number_at bs (at + 1) 2 % 2) 0)) 1 (cond (not (within 1 16 (values_in bs at))) 2 n))) (turned (bounded (values_at bs (at + 3) (values_in bs at))) 0 2))

evolution-above : (bs : List ℕ) (at : ℕ) → Above (evolution_tests bs at)
unfolding evolution_tests Above
evolution-above bs at = above-cond (not (eqb (get_or bs at 0) 2)) _ (no 0, (no 0, (no 1, (no 1, tt))))

nothing-ordered : (bs : List ℕ) (p : Place) → Ordered (test (not (formed bs p.at 0)) 1 ∷ []) (field_paper (nothing_field bs p))
unfolding nothing_field field_paper
nothing-ordered bs p = pick (formed bs p.at 0)
  where
    x : BinPlan
    x = record { child = child.Nothing; past = record { at = p.at + 3; tally = p.tally } }

    pick : (b : Bool) → Ordered (test (not b) 1 ∷ []) (field_paper (cond b (field.Found x) (field.Stop 1 p.at)))
    pick true = passed 1 [] (gives x) (given-last x)
    pick false = held 1 []

field-ordered : (bs : List ℕ) (level : ℕ) (p : Place) → Ordered (field_tests bs level p) (field_paper (field_of bs level p))
unfolding field_tests field_of axes_field bins_field field_paper
field-ordered bs level p =
    let at = p.at in
    let a = axes_at bs at in
    let b = bins_at bs at in
    two_ways (eqb (get_or bs at 0) 1) _ _ (axes_field bs p) _
    (stops (not (formed bs at 16)) 1 at _ _ (numbered (axes_ranges a p.tally.left) _ (axes_fault a p.tally.left) at _ (axes-first a p.tally.left) (axes-above a p.tally.left)
    (numbered (evolution_tests bs (at + 19)) [] (evolution_fault bs (at + 19)) (at + 19) _ (evolution-first bs (at + 19)) (evolution-above bs (at + 19)) (given-last _))))
    (two_ways (eqb (get_or bs at 0) 3) _ _ (bins_field bs level p) _
    (stops (not (formed bs at 11)) 1 at _ _ (numbered (bins_ranges b p.tally.left level) [] (bins_fault b p.tally.left level) at _ (bins-first b p.tally.left level) (bins-above b p.tally.left level) (given-last _)))
    (two_ways (eqb (get_or bs at 0) 4) _ _ (nothing_field bs p) (field.Stop 1 at) (nothing-ordered bs p) (held 1 [])))

-- ---- what hangs in a bins grid

outs_paper : Outs → Paper Place
outs_paper (Outs.stops n at) = refuses n
outs_paper (Outs.reads ts q) = gives q

cons-paper : (t : Tree) (o : Outs) → outs_paper o ≡ outs_paper (cons_to t o)
unfolding outs_paper
cons-paper t (Outs.stops n at) = refl
cons-paper t (Outs.reads ts q) = refl

then-paper : (o : Out) (k : Place → Outs) → then_paper (out_paper o) (λ (q : Place). outs_paper (k q)) ≡ outs_paper (then o k)
unfolding then_paper out_paper outs_paper
then-paper (Out.stops n at) k = refl
then-paper (Out.reads t q) k = cons-paper t (k q)

bins-paper : (b : BinsPlan) (o : Outs) → outs_paper o ≡ out_paper (bins_to b o)
unfolding outs_paper out_paper
bins-paper b (Outs.stops n at) = refl
bins-paper b (Outs.reads ts q) = refl

module _ (T : Place → List Test) (R : Place → Out) (each : (q : Place) → Ordered (T q) (out_paper (R q))) where
  trees-ordered : (n s : ℕ) (p : Place) → Ordered (many_tests T R n p) (outs_paper (trees_of (λ (s : ℕ) (q : Place). R q) s n p))
  unfolding many_tests trees_of outs_paper
  trees-ordered zero s p = given-last p
  trees-ordered (suc n) s p =
      subst (λ (a : Paper Place). Ordered (many_tests T R (suc n) p) a) (then-paper (R p) (λ (q : Place). trees_of (λ (s : ℕ) (q : Place). R q) (s + 1) n q))
      (ordered-then (T p) (out_paper (R p)) (λ (q : Place). many_tests T R n q) (λ (q : Place). outs_paper (trees_of (λ (s : ℕ) (q : Place). R q) (s + 1) n q)) (each p) (λ q e. trees-ordered n (s + 1) q))

  hung-ordered : (evolution : AxesPlan → List ℕ) (c : Child) (q : Place) → Ordered (child_tests T R c q) (out_paper (hung evolution (λ (s : ℕ) (q : Place). R q) c q))
  unfolding child_tests out_paper
  hung-ordered evolution child.Nothing q = given-last q
  hung-ordered evolution (child.Axes a) q = given-last q
  hung-ordered evolution (child.Bins b) q = subst (λ (a : Paper Place). Ordered (many_tests T R b.bins q) a) (bins-paper b (trees_of (λ (s : ℕ) (q : Place). R q) (q.tally.words - b.bins) b.bins q)) (trees-ordered b.bins (q.tally.words - b.bins) q)

  opened-paper : (evolution : AxesPlan → List ℕ) (x : Field) → then_paper (field_paper x) (λ (b : BinPlan). out_paper (hung evolution (λ (s : ℕ) (q : Place). R q) b.child b.past)) ≡ out_paper (opened evolution (λ (s : ℕ) (q : Place). R q) x)
  unfolding then_paper field_paper out_paper
  opened-paper evolution (field.Stop n at) = refl
  opened-paper evolution (field.Found b) = refl

  opened-ordered : (evolution : AxesPlan → List ℕ) (bs : List ℕ) (level : ℕ) (p : Place)
      → Ordered (field_tests bs level p ++ behind (field_paper (field_of bs level p)) (λ (x : BinPlan). child_tests T R x.child x.past)) (out_paper (opened evolution (λ (s : ℕ) (q : Place). R q) (field_of bs level p)))
  opened-ordered evolution bs level p =
      let ts = field_tests bs level p ++ behind (field_paper (field_of bs level p)) (λ (x : BinPlan). child_tests T R x.child x.past) in
      subst (λ (a : Paper Place). Ordered ts a) (opened-paper evolution (field_of bs level p))
      (ordered-then (field_tests bs level p) (field_paper (field_of bs level p)) (λ (x : BinPlan). child_tests T R x.child x.past) _ (field-ordered bs level p) (λ x e. hung-ordered evolution x.child x.past))

tree-ordered : (bs : List ℕ) (l : ℕ) (p : Place) → Ordered (tree_tests bs l p) (out_paper (tree_of (from_bytes bs) l p))
unfolding tree_tests tree_of out_paper
tree-ordered bs zero p = opened-ordered (λ (q : Place). test true 2 ∷ []) (λ (q : Place). Out.stops 2 q.at) (λ q. held 2 []) (λ a. values_at bs (p.at + 22) a.values) bs 0 p
tree-ordered bs (suc l) p = opened-ordered (tree_tests bs l) (tree_of (from_bytes bs) l) (λ q. tree-ordered bs l q) (λ a. values_at bs (p.at + 22) a.values) bs (suc l) p

-- a plan is one grid and no 04; then what comes behind it
pub grid-ordered : {B : Type 0} (bs : List ℕ) (us : Place → List Test) (q : Place → Paper B) → ((p : Place) → Ordered (us p) (q p))
    → Ordered (grid_tests bs us) (then_paper (out_paper (grid_of bs)) q)
unfolding grid_tests grid_of out_paper then_paper
grid-ordered {B} bs us q o = pick (eqb (get_or bs 0 0) 4)
  where
    tree : Out
    tree = tree_of (from_bytes bs) 4 begin

    ts : List Test
    ts = tree_tests bs 4 begin ++ behind (out_paper tree) us

    all : Ordered ts (then_paper (out_paper tree) q)
    all = ordered-then (tree_tests bs 4 begin) (out_paper tree) us q (tree-ordered bs 4 begin) (λ p e. o p)

    pick : (b : Bool) → Ordered (test b 1 ∷ ts) (then_paper (out_paper (cond b (Out.stops 1 0) tree)) q)
    pick true = held 1 ts
    pick false = passed 1 ts _ all
