-- A plan's tests in their order: its fields one by one, in each its form (1), then its sizes (2), then its ranges (3); a bins grid's children
-- behind it; surplus bytes (1) last.
use Rattle.std.specs.Prelude.{not, cond, true, List, [], ◌∷◌, ◌++◌, ℕ, zero, suc, ◌+◌, ◌%◌, leb, ltb, eqb, length, get_or}
use Rattle.doubles.specs.Paper.{Paper, gives, refuses}
use Rattle.plan.specs.declared.Place.{Place}
use Rattle.plan.specs.declared.AxesPlan.{AxesPlan}
use Rattle.plan.specs.declared.BinsPlan.{BinsPlan}
use Rattle.plan.specs.declared.BinPlan.{BinPlan}
use Rattle.plan.specs.declared.Child.{Child}
use Rattle.plan.specs.declared.Child.TheVariants as child
use Rattle.plan.specs.Judged.{Field}
use Rattle.plan.specs.Judged as field
use Rattle.plan.specs.Numbers.{number_at, values_at}
use Rattle.plan.specs.Ranges.{within, floor_fits, ratio_fits, bounded}
use Rattle.plan.specs.Fields.{formed, values_in, axes_at, bins_at, field_of}
use Rattle.plan.specs.Needs.{needs_of}
use Rattle.plan.specs.Reading.{Out, tree_of, from_bytes}
use Rattle.plan.specs.Calls.{begin}
use Rattle.lent.specs.Memory.{Memory}
use Rattle.grid.specs.Order.{Test, test}

-- ---- a field

-- sizes before ranges; a grid too many is a size
unfoldable pub axes_ranges : AxesPlan → ℕ → List Test
axes_ranges a left =
    test (eqb left 0) 2 ∷ (test (not (within 1 8 a.axes)) 2 ∷ (test (not (within 1 1024 a.bins)) 2 ∷ (test (not (leb a.flag 1)) 3
    ∷ (test (not (floor_fits a.floor)) 3 ∷ []))))

-- 02, where one stands behind its 01: cut, of odd length; its number of values, and each of them
unfoldable pub evolution_tests : List ℕ → ℕ → List Test
evolution_tests bs at =
    cond (not (eqb (get_or bs at 0) 2)) []
    (test (not (leb (at + 3 + number_at bs (at + 1) 2) (length bs))) 1 ∷ (test (not (eqb (number_at bs (at + 1) 2 % 2) 0)) 1
    ∷ (test (not (within 1 16 (values_in bs at))) 2 ∷ (test (not (bounded (values_at bs (at + 3) (values_in bs at)))) 2 ∷ []))))

-- a grid or a level too many is a size
unfoldable pub bins_ranges : BinsPlan → ℕ → ℕ → List Test
bins_ranges b left level =
    test (eqb left 0) 2 ∷ (test (eqb level 0) 2 ∷ (test (not (within 1 256 b.bins)) 2 ∷ (test (not (leb b.flag 1)) 3 ∷ (test (not (ratio_fits b.ratio)) 3 ∷ []))))

-- 01 with its 02, 03, 04; another tag is 1
unfoldable pub field_tests : List ℕ → ℕ → Place → List Test
field_tests bs level p =
    cond (eqb (get_or bs p.at 0) 1)
    (test (not (formed bs p.at 16)) 1 ∷ (axes_ranges (axes_at bs p.at) p.tally.left ++ (evolution_tests bs (p.at + 19) ++ [])))
    (cond (eqb (get_or bs p.at 0) 3) (test (not (formed bs p.at 11)) 1 ∷ (bins_ranges (bins_at bs p.at) p.tally.left level ++ []))
    (cond (eqb (get_or bs p.at 0) 4) (test (not (formed bs p.at 0)) 1 ∷ []) (test true 1 ∷ [])))

-- ---- what comes behind what was read

unfoldable pub behind : {A : Type 0} → Paper A → (A → List Test) → List Test
behind (gives x) us = us x
behind (refuses n) us = []

-- an answer without the tree and without the offset
unfoldable pub field_paper : Field → Paper BinPlan
field_paper (field.Stop n at) = refuses n
field_paper (field.Found x) = gives x

unfoldable pub out_paper : Out → Paper Place
out_paper (Out.stops n at) = refuses n
out_paper (Out.reads t q) = gives q

-- ---- a grid, and what hangs in its bins

-- n children one after the other, R reading one
unfoldable pub many_tests : (Place → List Test) → (Place → Out) → ℕ → Place → List Test
many_tests T R zero p = []
many_tests T R (suc n) p = T p ++ behind (out_paper (R p)) (λ (q : Place). many_tests T R n q)

unfoldable pub child_tests : (Place → List Test) → (Place → Out) → Child → Place → List Test
child_tests T R child.Nothing q = []
child_tests T R (child.Axes a) q = []
child_tests T R (child.Bins b) q = many_tests T R b.bins q

-- with so many levels of bins grids left; below the last a bins grid is 2
unfoldable pub tree_tests : List ℕ → ℕ → Place → List Test
tree_tests bs zero p =
    field_tests bs 0 p ++ behind (field_paper (field_of bs 0 p)) (λ (x : BinPlan). child_tests (λ (q : Place). test true 2 ∷ []) (λ (q : Place). Out.stops 2 q.at) x.child x.past)
tree_tests bs (suc l) p =
    field_tests bs (suc l) p ++ behind (field_paper (field_of bs (suc l) p)) (λ (x : BinPlan). child_tests (tree_tests bs l) (tree_of (from_bytes bs) l) x.child x.past)

-- ---- the whole plan: one grid and no 04, then what comes behind it

unfoldable pub grid_tests : List ℕ → (Place → List Test) → List Test
grid_tests bs us = test (eqb (get_or bs 0 0) 4) 1 ∷ (tree_tests bs 4 begin ++ behind (out_paper (tree_of (from_bytes bs) 4 begin)) us)

-- fresh: surplus bytes; then room for its table and its grid
unfoldable pub whole_tests : List ℕ → List ℕ → Memory → Place → List Test
whole_tests bs table m q =
    test (ltb q.at (length bs)) 1 ∷ (test (ltb (length table) (needs_of q.tally).words) 10 ∷ (test (ltb (length m.reals) (needs_of q.tally).reals) 10
    ∷ (test (ltb (length m.counts) (needs_of q.tally).counts) 10 ∷ [])))

unfoldable pub fresh_tests : List ℕ → List ℕ → Memory → List Test
fresh_tests bs table m = grid_tests bs (whole_tests bs table m)
