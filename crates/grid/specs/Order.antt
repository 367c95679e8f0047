-- Tests in their order, each with the number of its refusal; and the tests of each public call, in the document's order: 10, 12, 1, 2, 3, 4,
-- 11, 6, 5, 7, 8, 9; where a plan is read, 1 to 3 first; along a path 6 before 4 at each level.
use Rattle.std.specs.Prelude.{◌≡◌, ◌⊎◌, ◌↔◌, Bool, true, false, not, ◌&&◌, List, [], ◌∷◌, ◌++◌, ℕ, zero, suc, ltb, eqb, length, Float}
use Rattle.doubles.specs.Finite.{finite_of}
use Rattle.doubles.specs.Total.{all_finite}
use Rattle.doubles.specs.Paper.{Paper, gives, refuses}
use Rattle.accumulator.specs.declared.StatisticsAccumulator.{StatisticsAccumulator}
use Rattle.accumulator.specs.Record.{well_formed}
use Rattle.accumulator.specs.Update.{updated_of}
use Rattle.axis.specs.Edges.{in_unit}
use Rattle.plan.specs.declared.Needs.{Needs}
use Rattle.plan.specs.Paper as plan
use Rattle.plan.specs.Calls.{sizes_of}
use Rattle.model.specs.Axes.{AxesGrid}
use Rattle.model.specs.Grid.{Grid, Bins, Child, axes, bins, none, more, nothing, grid, many}
use Rattle.model.specs.Sound.{sound, kept_grid}
use Rattle.model.specs.Draw.{Sample}
use Rattle.model.specs.Probe.{Coordinate, open', given}
use Rattle.model.specs.Train.{train_grid, numbered}
use Rattle.model.specs.Merge.{same_shape, equal_grid, merge_grid}
use Rattle.model.specs.Update.{rate_fits, update_grid}
use Rattle.lent.specs.Memory.{Memory}
use Rattle.lent.specs.State.{root_of}

pub record Test : Type 0 where
  pub holds : Bool
  pub number : ℕ

abbrev pub test : Bool → ℕ → Test
test b n = record { holds = b; number = n }

-- n is the number of the first test that holds
unfoldable pub First : List Test → ℕ → Type 0
First [] n = ⊥
First (t ∷ ts) n = ((t.holds ≡ true) × (t.number ≡ n)) ⊎ ((t.holds ≡ false) × First ts n)

unfoldable pub NoneHolds : List Test → Type 0
NoneHolds [] = Unit
NoneHolds (t ∷ ts) = (t.holds ≡ false) × NoneHolds ts

-- refused with n exactly when n is the first test that holds, and answered where none does
pub record Ordered {A : Type 0} (ts : List Test) (p : Paper A) : Type 0 where
  pub refused : (n : ℕ) → (p ≡ refuses n) ↔ First ts n
  pub answered : NoneHolds ts → (x : A) × (p ≡ gives x)

-- ---- lent state

-- a table that is no plan's is 12; then too little room, 10; then a state that is not well formed, 12
unfoldable pub state_tests_by : List ℕ → Memory → plan.Paper Needs → List Test
state_tests_by table m (plan.gives n) =
    test (ltb (length m.reals) n.reals) 10 ∷ (test (ltb (length m.counts) n.counts) 10 ∷ (test (not (sound (root_of table m.reals m.counts))) 12 ∷ []))
state_tests_by table m (plan.refuses k) = test true 12 ∷ []
state_tests_by table m (plan.refuses_at k at) = test true 12 ∷ []

unfoldable pub state_tests : List ℕ → Memory → List Test
state_tests table m = state_tests_by table m (sizes_of table)

-- with a spare or a destination of R reals and C counts, whose room comes behind the state's own
unfoldable pub room_tests_by : List ℕ → Memory → ℕ → ℕ → plan.Paper Needs → List Test
room_tests_by table m R C (plan.gives n) =
    test (ltb (length m.reals) n.reals) 10 ∷ (test (ltb (length m.counts) n.counts) 10 ∷ (test (ltb R n.reals) 10 ∷ (test (ltb C n.counts) 10
    ∷ (test (not (sound (root_of table m.reals m.counts))) 12 ∷ []))))
room_tests_by table m R C (plan.refuses k) = test true 12 ∷ []
room_tests_by table m R C (plan.refuses_at k at) = test true 12 ∷ []

unfoldable pub room_tests : List ℕ → Memory → ℕ → ℕ → List Test
room_tests table m R C = room_tests_by table m R C (sizes_of table)

-- two states: of both the table, then of both the room, then of both the state
unfoldable pub second_tests : List ℕ → Memory → Needs → List ℕ → Memory → plan.Paper Needs → List Test
second_tests table m n other o (plan.gives k) =
    test (ltb (length m.reals) n.reals) 10 ∷ (test (ltb (length m.counts) n.counts) 10 ∷ (test (ltb (length o.reals) k.reals) 10 ∷ (test (ltb (length o.counts) k.counts) 10
    ∷ (test (not (sound (root_of table m.reals m.counts))) 12 ∷ (test (not (sound (root_of other o.reals o.counts))) 12 ∷ [])))))
second_tests table m n other o (plan.refuses k) = test true 12 ∷ []
second_tests table m n other o (plan.refuses_at k at) = test true 12 ∷ []

unfoldable pub first_tests : List ℕ → Memory → plan.Paper Needs → List ℕ → Memory → List Test
first_tests table m (plan.gives n) other o = second_tests table m n other o (sizes_of other)
first_tests table m (plan.refuses k) other o = test true 12 ∷ []
first_tests table m (plan.refuses_at k at) other o = test true 12 ∷ []

unfoldable pub pair_tests : List ℕ → Memory → List ℕ → Memory → List Test
pair_tests table m other o = first_tests table m (sizes_of table) other o

-- ---- estimates: what would be kept, 8; that of a bin along its path, 6 and 4

unfoldable pub live_tests : StatisticsAccumulator → List Test
live_tests a = test (not (well_formed (updated_of false a))) 8 ∷ []

unfoldable mutual
  pub along_tests : Grid → List ℕ → List Test
  along_tests (axes g) path = test true 4 ∷ []
  along_tests (bins h bs) [] = test true 4 ∷ []
  along_tests (bins h bs) (i ∷ path) = test (not (ltb i (many bs))) 6 ∷ along_bin bs i path

  pub along_bin : Bins → ℕ → List ℕ → List Test
  along_bin none i path = test true 6 ∷ []
  along_bin (more b c bs) zero path = along_child c b.own path
  along_bin (more b c bs) (suc i) path = along_bin bs i path

  pub along_child : Child → StatisticsAccumulator → List ℕ → List Test
  along_child nothing a [] = live_tests a
  along_child nothing a (i ∷ path) = test true 4 ∷ []
  along_child (grid g) a [] = live_tests a
  along_child (grid g) a (i ∷ path) = along_tests g (i ∷ path)

-- ---- a probe: 6 and 4 along the path, the number of coordinates (4), each in order (5)

unfoldable pub given_tests : List Coordinate → List Test
given_tests [] = []
given_tests (open' ∷ xs) = given_tests xs
given_tests (given x ∷ xs) = test (not (in_unit x)) 5 ∷ given_tests xs

unfoldable mutual
  pub probe_tests : Grid → List ℕ → List Coordinate → List Test
  probe_tests (axes g) [] xs = test (not (eqb (length xs) (length g.axes))) 4 ∷ given_tests xs
  probe_tests (axes g) (i ∷ path) xs = test true 4 ∷ []
  probe_tests (bins h bs) [] xs = test true 4 ∷ []
  probe_tests (bins h bs) (i ∷ path) xs = test (not (ltb i (many bs))) 6 ∷ probe_bin_tests bs i path xs

  pub probe_bin_tests : Bins → ℕ → List ℕ → List Coordinate → List Test
  probe_bin_tests none i path xs = test true 6 ∷ []
  probe_bin_tests (more b c bs) zero path xs = probe_child_tests c path xs
  probe_bin_tests (more b c bs) (suc i) path xs = probe_bin_tests bs i path xs

  pub probe_child_tests : Child → List ℕ → List Coordinate → List Test
  probe_child_tests nothing [] [] = []
  probe_child_tests nothing [] (x ∷ xs) = test true 4 ∷ []
  probe_child_tests nothing (i ∷ path) xs = test true 4 ∷ []
  probe_child_tests (grid g) [] [] = []
  probe_child_tests (grid g) [] (x ∷ xs) = probe_tests g [] (x ∷ xs)
  probe_child_tests (grid g) (i ∷ path) xs = probe_tests g (i ∷ path) xs

-- ---- a training: the number (3), 6 and 4 along the path, the numbers of weights and coordinates (4), each coordinate (5), evaluation and
-- weights (7), what would be kept (8)

unfoldable pub unit_tests : List Float → List Test
unit_tests [] = []
unit_tests (x ∷ xs) = test (not (in_unit x)) 5 ∷ unit_tests xs

unfoldable pub axes_tests : AxesGrid → List ℕ → List Float → List Float → List Test
axes_tests g (i ∷ path) ws xs = test true 4 ∷ []
axes_tests g [] ws xs = test (not (eqb (length ws) 1)) 4 ∷ (test (not (eqb (length xs) (length g.axes))) 4 ∷ unit_tests xs)

unfoldable mutual
  pub form_tests : Grid → List ℕ → List Float → List Float → List Test
  form_tests (axes g) path ws xs = axes_tests g path ws xs
  form_tests (bins h bs) [] ws xs = test true 4 ∷ []
  form_tests (bins h bs) (i ∷ path) [] xs = test (not (ltb i (many bs))) 6 ∷ (test true 4 ∷ [])
  form_tests (bins h bs) (i ∷ path) (w ∷ ws) xs = test (not (ltb i (many bs))) 6 ∷ form_bin_tests bs i path ws xs

  pub form_bin_tests : Bins → ℕ → List ℕ → List Float → List Float → List Test
  form_bin_tests none i path ws xs = test true 6 ∷ []
  form_bin_tests (more b c bs) zero path ws xs = form_child_tests c path ws xs
  form_bin_tests (more b c bs) (suc i) path ws xs = form_bin_tests bs i path ws xs

  pub form_child_tests : Child → List ℕ → List Float → List Float → List Test
  form_child_tests nothing [] [] [] = []
  form_child_tests nothing [] [] (x ∷ xs) = test true 4 ∷ []
  form_child_tests nothing [] (w ∷ ws) xs = test true 4 ∷ []
  form_child_tests nothing (i ∷ path) ws xs = test true 4 ∷ []
  form_child_tests (grid g) path ws xs = form_tests g path ws xs

unfoldable pub train_tests : Grid → Sample → Float → ℕ → List Test
train_tests g s e k =
    test (not (numbered k)) 3 ∷ (form_tests g s.path s.weights s.coordinates ++ (test (not (finite_of e && all_finite s.weights)) 7
    ∷ (test (not (kept_grid (train_grid g s.path s.weights s.coordinates e k))) 8 ∷ [])))

-- ---- an update: the rates (3), 8 anywhere, 9 anywhere

unfoldable pub update_tests : Float → Float → Grid → List Test
update_tests bins_rate axes_rate g =
    test (not (rate_fits bins_rate && rate_fits axes_rate)) 3 ∷ (test (update_grid bins_rate axes_rate g).eight 8 ∷ (test (update_grid bins_rate axes_rate g).nine 9 ∷ []))

-- ---- two grids: shapes (4), edges, probabilities and floors (11), and for a merge what would be kept (8)

unfoldable pub match_tests : Grid → Grid → List Test
match_tests g o = test (not (same_shape g o)) 4 ∷ (test (not (equal_grid g o)) 11 ∷ [])

unfoldable pub merge_tests : Grid → Grid → List Test
merge_tests g o = test (not (same_shape g o)) 4 ∷ (test (not (equal_grid g o)) 11 ∷ (test (not (kept_grid (merge_grid g o))) 8 ∷ []))
