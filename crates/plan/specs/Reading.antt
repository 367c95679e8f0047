-- Reading a grid, from bytes or from a table: one field at a time, a bins grid's children behind it.
use Rattle.std.specs.Prelude.{ℕ, zero, suc, ◌+◌, ◌-◌, List}
use Rattle.plan.specs.declared.Place.{Place}
use Rattle.plan.specs.declared.AxesPlan.{AxesPlan}
use Rattle.plan.specs.declared.BinsPlan.{BinsPlan}
use Rattle.plan.specs.declared.Child.{Child}
use Rattle.plan.specs.declared.Child.TheVariants as child
use Rattle.plan.specs.Judged.{Field, Step, Stop, Found}
use Rattle.plan.specs.Numbers.{values_at}
use Rattle.plan.specs.Plan.{Tree, Trees, nothing, axes, bins, none, more}
use Rattle.plan.specs.Fields.{field_of}

-- what reading finds: a refusal's number and its field's offset, or what was read and where reading then stands
pub data Out : Type 0 where
  stops : ℕ → ℕ → Out
  reads : Tree → Place → Out

pub data Outs : Type 0 where
  stops : ℕ → ℕ → Outs
  reads : Trees → Place → Outs

-- how to read: the field at a place; the bin evolution of the axes grid there; a child, whose link is at a slot
pub record Reader : Type 0 where
  pub field : ℕ → Place → Field
  pub evolution : Place → AxesPlan → List ℕ
  pub child : (Place → Out) → ℕ → Place → Out

-- one more child in front
abbrev pub cons_to : Tree → Outs → Outs
cons_to t (Outs.stops n at) = Outs.stops n at
cons_to t (Outs.reads ts q) = Outs.reads (more t ts) q

-- goes on where a child was read
abbrev pub then : Out → (Place → Outs) → Outs
then (Out.stops n at) k = Outs.stops n at
then (Out.reads t q) k = cons_to t (k q)

abbrev pub bins_to : BinsPlan → Outs → Out
bins_to b (Outs.stops n at) = Out.stops n at
bins_to b (Outs.reads ts q) = Out.reads (bins b ts) q

-- n children one after the other, f reading one, whose link is at the slot s
unfoldable pub trees_of : (ℕ → Place → Out) → ℕ → ℕ → Place → Outs
trees_of f s zero p = Outs.reads none p
trees_of f s (suc n) p = then (f s p) (λ q. trees_of f (s + 1) n q)

-- what hangs there; the links are the last words that a bins grid's record takes
abbrev pub hung : (AxesPlan → List ℕ) → (ℕ → Place → Out) → Child → Place → Out
hung evolution f child.Nothing q = Out.reads nothing q
hung evolution f (child.Axes a) q = Out.reads (axes a (evolution a)) q
hung evolution f (child.Bins b) q = bins_to b (trees_of f (q.tally.words - b.bins) b.bins q)

abbrev pub opened : (AxesPlan → List ℕ) → (ℕ → Place → Out) → Field → Out
opened evolution f (Stop n at) = Out.stops n at
opened evolution f (Found x) = hung evolution f x.child x.past

-- what hangs at a place, with so many levels of bins grids left
unfoldable pub tree_of : Reader → ℕ → Place → Out
tree_of R zero p = opened (R.evolution p) (λ s q. Out.stops 2 q.at) (R.field 0 p)
tree_of R (suc l) p = opened (R.evolution p) (λ s q. R.child (tree_of R l) s q) (R.field (suc l) p)

-- reading bytes: the 02's values stand behind its 01 and its own tag and length; a child follows where the last one ended
abbrev pub from_bytes : List ℕ → Reader
from_bytes bs = record { field = field_of bs; evolution = λ p a. values_at bs (p.at + 22) a.values; child = λ f s q. f q }

-- the same without what was read
abbrev pub step_of : Out → Step
step_of (Out.stops n at) = Stop n at
step_of (Out.reads t q) = Found q

abbrev pub steps_of : Outs → Step
steps_of (Outs.stops n at) = Stop n at
steps_of (Outs.reads ts q) = Found q
