-- Reading a plan back from a table. A table that is not exactly what reading some plan writes is 12.
use Rattle.std.specs.Prelude.{ℕ, ◌+◌, Bool, not, ◌&&◌, cond, List, get_or, leb, ltb, eqb}
use Rattle.plan.specs.declared.Place.{Place}
use Rattle.plan.specs.declared.Tally.{Tally}
use Rattle.plan.specs.declared.AxesPlan.{AxesPlan}
use Rattle.plan.specs.declared.BinsPlan.{BinsPlan}
use Rattle.plan.specs.declared.Child.TheVariants as child
use Rattle.plan.specs.Judged.{Field, Stop, Found}
use Rattle.plan.specs.Numbers.{words_at}
use Rattle.plan.specs.Ranges.{bounded, most_of}
use Rattle.plan.specs.Plan.{nothing}
use Rattle.plan.specs.Needs.{axes_taken, bins_taken}
use Rattle.plan.specs.Fields.{axes_fault, bins_fault}
use Rattle.plan.specs.Reading.{Out, Reader}

unfoldable pub axes_row : List ℕ → ℕ → AxesPlan
axes_row xs w = record {
  axes = get_or xs (w + 2) 0;
  bins = get_or xs (w + 3) 0;
  least = get_or xs (w + 4) 0;
  flag = get_or xs (w + 5) 0;
  floor = get_or xs (w + 6) 0;
  most = get_or xs (w + 7) 0;
  values = get_or xs (w + 8) 0;
}

unfoldable pub bins_row : List ℕ → ℕ → BinsPlan
bins_row xs w = record { bins = get_or xs (w + 2) 0; ratio = get_or xs (w + 3) 0; flag = get_or xs (w + 4) 0 }

-- the words that the plan does not choose: the levels left, and where the stretches begin, at the k-th word and the next
unfoldable pub placed : List ℕ → ℕ → Tally → ℕ → Bool
placed xs l y k =
    eqb (get_or xs (y.words + 1) 0) l && (eqb (get_or xs (y.words + k) 0) y.reals && eqb (get_or xs (y.words + (k + 1)) 0) y.counts)

-- the words that 01's bytes or its 02 bound
unfoldable pub evolved : List ℕ → ℕ → AxesPlan → Bool
evolved xs w a =
    ltb a.least 0x1_0000_0000 && (leb a.values 16 && (bounded (words_at xs (w + 11) a.values) && eqb a.most (most_of a.bins (words_at xs (w + 11) a.values))))

abbrev pub strayed : Field
strayed = Stop 12 0

unfoldable pub axes_at_word : List ℕ → ℕ → Place → Field
axes_at_word xs l p =
    cond (not (placed xs l p.tally 9)) strayed
    (cond (not (eqb (axes_fault (axes_row xs p.tally.words) p.tally.left) 0)) strayed
    (cond (evolved xs p.tally.words (axes_row xs p.tally.words))
    (Found (record {
      child = child.Axes (axes_row xs p.tally.words);
      past = record { at = p.at; tally = axes_taken (axes_row xs p.tally.words) p.tally };
    }))
    strayed))

unfoldable pub bins_at_word : List ℕ → ℕ → Place → Field
bins_at_word xs l p =
    cond (not (placed xs l p.tally 5)) strayed
    (cond (eqb (bins_fault (bins_row xs p.tally.words) p.tally.left l) 0)
    (Found (record {
      child = child.Bins (bins_row xs p.tally.words);
      past = record { at = p.at; tally = bins_taken (bins_row xs p.tally.words) p.tally };
    }))
    strayed)

unfoldable pub row_of : List ℕ → ℕ → Place → Field
row_of xs l p =
    cond (eqb (get_or xs p.tally.words 0) 1) (axes_at_word xs l p)
    (cond (eqb (get_or xs p.tally.words 0) 2) (bins_at_word xs l p) strayed)

-- a child: none where its link is 0; else its link is where the next run begins
unfoldable pub child_of : List ℕ → (Place → Out) → ℕ → Place → Out
child_of xs f s p =
    cond (eqb (get_or xs s 0) 0) (Out.reads nothing p)
    (cond (eqb (get_or xs s 0) p.tally.words) (f p) (Out.stops 12 0))

abbrev pub from_table : List ℕ → Reader
from_table xs = record { field = row_of xs; evolution = λ p a. words_at xs (p.tally.words + 11) a.values; child = child_of xs }
