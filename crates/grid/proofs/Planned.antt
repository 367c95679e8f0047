-- What `fresh` lays is the fresh grid of a plan whose sizes are within their bounds: the one that its table says.
use mathlib.Core.Path.{◌≡◌, refl, ap, ap₂}
use mathlib.Core.Logic.{inl, inr}
use mathlib.Core.Bool.{Bool, true, false, cond}
use mathlib.Core.List.{List, [], ◌∷◌}
use Prim.Native.Nat.{ℕ, zero, suc, ◌+◌, ◌≤◌, ◌<◌}
use native.Mathlib.Omega.{arith}
use borrow.Author.Tests.{ne_eqb, le-leb}
use lib.Dec.{eqb}
use lib.ListN.{get_or}
use lib.Ieee.{Float, binary64, of_bits}
use Rattle.plan.specs.Numbers.{words_at}
use Rattle.model.specs.Axes.{fresh_axes}
use Rattle.model.specs.Grid.{Grid, Child, axes, nothing, grid, fresh_grid}
use Rattle.lent.specs.Tree.{axes_plan_at, child_in, AxesLaid, Laid}
use Rattle.lent.specs.Judged.{AllUpto}
use Rattle.lent.specs.Founded.{fresh_children, fresh_node, fresh_at}
use Rattle.lent.proofs.Sounds.{numbers-upto}
use Rattle.lent.proofs.Reformed.{all_two}
use Rattle.grid.specs.Fresh.{Plan, Plans, tree, bare, under, many, bins_fit, sized, sized_all, fresh, children}
use Rattle.grid.specs.Lent.{hung, plans_at, flat_at, plan_at}

-- ---- the same grid

children-are : (f : ℕ → Grid) (q : ℕ → Plan) (table : List ℕ) (w : ℕ) → ((v : ℕ) → f v ≡ fresh (q v)) → (n i : ℕ) → fresh_children f table w i n ≡ children (plans_at q table w i n)
unfolding fresh_children children plans_at hung child_in
children-are f q table w e zero i = refl
children-are f q table w e (suc n) i = pick (children-are f q table w e n (i + 1)) (get_or table (w + 7 + i) 0) (eqb (get_or table (w + 7 + i) 0) 0)
  where
    pick : fresh_children f table w (i + 1) n ≡ children (plans_at q table w (i + 1) n) → (link : ℕ) (b : Bool)
        → cond b nothing (grid (f link)) ∷ fresh_children f table w (i + 1) n ≡ children (cond b (bare (plans_at q table w (i + 1) n)) (under (q link) (plans_at q table w (i + 1) n)))
    pick rest link true = ap (λ (l : List Child). nothing ∷ l) rest
    pick rest link false = ap₂ (λ (g : Grid) (l : List Child). grid g ∷ l) (e link) rest

pub fresh-planned : (l : ℕ) (table : List ℕ) (w : ℕ) → fresh_at l table w ≡ fresh (plan_at l table w)
unfolding fresh_at fresh_node plan_at flat_at fresh
fresh-planned zero table w = refl
fresh-planned (suc l) table w = pick (λ v. fresh-planned l table v) (eqb (get_or table w 0) 1)
  where
    n : ℕ
    n = get_or table (w + 2) 0

    flat-one : Grid
    flat-one = axes (fresh_axes n (axes_plan_at table w))

    ratio : Float
    ratio = of_bits binary64 (get_or table (w + 3) 0)

    flag : Bool
    flag = eqb (get_or table (w + 4) 0) 1

    pick : ((v : ℕ) → fresh_at l table v ≡ fresh (plan_at l table v)) → (b : Bool)
        → cond b flat-one (fresh_grid ratio flag (fresh_children (fresh_at l table) table w 0 n)) ≡ fresh (cond b (flat_at table w) (tree ratio flag (plans_at (plan_at l table) table w 0 n)))
    pick e true = refl
    pick e false = ap (fresh_grid ratio flag) (children-are (fresh_at l table) (plan_at l table) table w e n 0)

-- ---- its sizes

upto-fits : (m : ℕ) (ns : List ℕ) → m ≤ 1024 → AllUpto m ns → bins_fit ns ≡ true
unfolding bins_fit AllUpto
upto-fits m [] h u = refl
upto-fits m (n ∷ ns) h u =
    let a = u 0 (omega arith) in
    all_two (all_two (le-leb 1 n a.0) (le-leb n 1024 (omega (arith, a.1)))) (upto-fits m ns h (λ i j. u (suc i) (omega arith)))

flat-sized : (table : List ℕ) (R C w : ℕ) → AxesLaid table R C w → sized (flat_at table w) ≡ true
unfolding sized flat_at axes_plan_at
flat-sized table R C w a = upto-fits (get_or table (w + 7) 0) (get_or table (w + 3) 0 ∷ words_at table (w + 11) (get_or table (w + 8) 0)) a.most (numbers-upto table R C w a)

many-at : (q : ℕ → Plan) (table : List ℕ) (w n i : ℕ) → many (plans_at q table w i n) ≡ n
unfolding many plans_at hung
many-at q table w zero i = refl
many-at q table w (suc n) i = pick (many-at q table w n (i + 1)) (eqb (get_or table (w + 7 + i) 0) 0)
  where
    pick : many (plans_at q table w (i + 1) n) ≡ n → (b : Bool) → many (cond b (bare (plans_at q table w (i + 1) n)) (under (q (get_or table (w + 7 + i) 0)) (plans_at q table w (i + 1) n))) ≡ suc n
    pick rest true = ap suc rest
    pick rest false = ap suc rest

-- what hangs at each of n links is sized
Fitting : (ℕ → Plan) → List ℕ → ℕ → ℕ → ℕ → Type 0
Fitting q table w i n = (j : ℕ) → i ≤ j → j < i + n → (get_or table (w + 7 + j) 0 ≡ 0 → ⊥) → sized (q (get_or table (w + 7 + j) 0)) ≡ true

hung-sized : (q : ℕ → Plan) (link : ℕ) (ps : Plans) → ((link ≡ 0 → ⊥) → sized (q link) ≡ true) → sized_all ps ≡ true → sized_all (hung q link ps) ≡ true
unfolding hung sized_all
hung-sized q zero ps h e = e
hung-sized q (suc n) ps h e =
    let z : suc n ≡ 0 → ⊥ = λ y. absurd (omega arith) in
    rw (ne_eqb (suc n) 0 z) (all_two (h z) e)

all-sized : (q : ℕ → Plan) (table : List ℕ) (w n i : ℕ) → Fitting q table w i n → sized_all (plans_at q table w i n) ≡ true
unfolding plans_at Fitting sized_all
all-sized q table w zero i h = refl
all-sized q table w (suc n) i h = hung-sized q (get_or table (w + 7 + i) 0) _ (h i (omega arith) (omega arith)) (all-sized q table w n (i + 1) (λ j x y. h j (omega arith) (omega arith)))

pub planned-sized : (l : ℕ) (table : List ℕ) (R C w : ℕ) → Laid l table R C w → sized (plan_at l table w) ≡ true
unfolding Laid plan_at sized Fitting
planned-sized zero table R C w a = flat-sized table R C w a
planned-sized (suc l) table R C w (inl a) = let k = a.kind in rw k (flat-sized table R C w a)
planned-sized (suc l) table R C w (inr b) =
    let z : get_or table w 0 ≡ 1 → ⊥ = λ e. absurd (omega (arith, b.kind)) in
    let n = get_or table (w + 2) 0 in
    let all = all-sized (plan_at l table) table w n 0 (λ j x y q. planned-sized l table R C (get_or table (w + 7 + j) 0) (b.children j (omega arith) q)) in
    rw (ne_eqb (get_or table w 0) 1 z, many-at (plan_at l table) table w n 0) (all_two (all_two (le-leb 1 n b.some) (le-leb n 256 b.most)) all)
