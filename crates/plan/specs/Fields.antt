-- The fields of a plan, judged one by one: in each its form (1), then its sizes (2), then its ranges (3).
use Rattle.std.specs.Prelude.{ℕ, ◌+◌, ◌*◌, ◌/◌, ◌%◌, Bool, not, ◌&&◌, cond, List, length, get_or, leb, eqb}
use Rattle.plan.specs.declared.Place.{Place}
use Rattle.plan.specs.declared.AxesPlan.{AxesPlan}
use Rattle.plan.specs.declared.BinsPlan.{BinsPlan}
use Rattle.plan.specs.declared.Child.TheVariants as child
use Rattle.plan.specs.Judged.{Field, Stop, Found}
use Rattle.plan.specs.Numbers.{number_at, values_at}
use Rattle.plan.specs.Ranges.{within, floor_fits, ratio_fits, bounded, scanned}
use Rattle.plan.specs.Needs.{axes_taken, bins_taken}

-- a field of this length, all of it there
unfoldable pub formed : List ℕ → ℕ → ℕ → Bool
formed bs at n = eqb (number_at bs (at + 1) 2) n && leb (at + 3 + n) (length bs)

-- 02, right behind its 01: how many values it has, none where no 02 stands there
unfoldable pub values_in : List ℕ → ℕ → ℕ
values_in bs at = cond (eqb (get_or bs at 0) 2) (number_at bs (at + 1) 2 / 2) 0

-- cut or of odd length: 1; none or more than 16 values, or one that is 0 or above 1,024: 2; no fault: 0
unfoldable pub evolution_fault : List ℕ → ℕ → ℕ
evolution_fault bs at =
    cond (not (eqb (get_or bs at 0) 2)) 0
    (cond (not (leb (at + 3 + number_at bs (at + 1) 2) (length bs))) 1
    (cond (not (eqb (number_at bs (at + 1) 2 % 2) 0)) 1
    (cond (not (within 1 16 (values_in bs at))) 2
    (cond (bounded (values_at bs (at + 3) (values_in bs at))) 0 2))))

-- the bytes that an axes grid takes, its 02 with it
unfoldable pub span_of : ℕ → ℕ
span_of values = cond (eqb values 0) 19 (22 + 2 * values)

-- 01: axes, bins, least samples, train flag, floor; and of its 02 the number of values and the largest bin number
unfoldable pub axes_at : List ℕ → ℕ → AxesPlan
axes_at bs at = record {
  axes = get_or bs (at + 3) 0;
  bins = number_at bs (at + 4) 2;
  least = number_at bs (at + 6) 4;
  flag = get_or bs (at + 10) 0;
  floor = number_at bs (at + 11) 8;
  most = scanned (number_at bs (at + 4) 2) (values_at bs (at + 22) (values_in bs (at + 19)));
  values = values_in bs (at + 19);
}

-- a grid too many, or a size out of its bounds: 2; a flag or a floor out of its range: 3; no fault: 0
unfoldable pub axes_fault : AxesPlan → ℕ → ℕ
axes_fault a left =
    cond (eqb left 0) 2
    (cond (not (within 1 8 a.axes)) 2
    (cond (not (within 1 1024 a.bins)) 2
    (cond (not (leb a.flag 1)) 3
    (cond (floor_fits a.floor) 0 3))))

unfoldable pub axes_field : List ℕ → Place → Field
axes_field bs p =
    cond (not (formed bs p.at 16)) (Stop 1 p.at)
    (cond (not (eqb (axes_fault (axes_at bs p.at) p.tally.left) 0)) (Stop (axes_fault (axes_at bs p.at) p.tally.left) p.at)
    (cond (not (eqb (evolution_fault bs (p.at + 19)) 0)) (Stop (evolution_fault bs (p.at + 19)) (p.at + 19))
    (Found (record {
      child = child.Axes (axes_at bs p.at);
      past = record { at = p.at + span_of (axes_at bs p.at).values; tally = axes_taken (axes_at bs p.at) p.tally };
    }))))

-- 03: bins, ratio, train flag
unfoldable pub bins_at : List ℕ → ℕ → BinsPlan
bins_at bs at = record { bins = number_at bs (at + 3) 2; ratio = number_at bs (at + 5) 8; flag = get_or bs (at + 13) 0 }

-- a grid or a level too many, or bins out of their bounds: 2; a flag or a ratio out of its range: 3; no fault: 0
unfoldable pub bins_fault : BinsPlan → ℕ → ℕ → ℕ
bins_fault b left level =
    cond (eqb left 0) 2
    (cond (eqb level 0) 2
    (cond (not (within 1 256 b.bins)) 2
    (cond (not (leb b.flag 1)) 3
    (cond (ratio_fits b.ratio) 0 3))))

unfoldable pub bins_field : List ℕ → ℕ → Place → Field
bins_field bs level p =
    cond (not (formed bs p.at 11)) (Stop 1 p.at)
    (cond (not (eqb (bins_fault (bins_at bs p.at) p.tally.left level) 0)) (Stop (bins_fault (bins_at bs p.at) p.tally.left level) p.at)
    (Found (record {
      child = child.Bins (bins_at bs p.at);
      past = record { at = p.at + 14; tally = bins_taken (bins_at bs p.at) p.tally };
    })))

-- 04: no child
unfoldable pub nothing_field : List ℕ → Place → Field
nothing_field bs p =
    cond (formed bs p.at 0) (Found (record { child = child.Nothing; past = record { at = p.at + 3; tally = p.tally } }))
    (Stop 1 p.at)

-- the field at a place, with so many levels of bins grids left; a wrong tag is 1
unfoldable pub field_of : List ℕ → ℕ → Place → Field
field_of bs level p =
    cond (eqb (get_or bs p.at 0) 1) (axes_field bs p)
    (cond (eqb (get_or bs p.at 0) 3) (bins_field bs level p)
    (cond (eqb (get_or bs p.at 0) 4) (nothing_field bs p) (Stop 1 p.at)))
