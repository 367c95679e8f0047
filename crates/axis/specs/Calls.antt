-- What the calls on an axis's edges answer: the refusals in their order, then the answer.
use Rattle.std.specs.Prelude.{ℕ, not, cond, List, get_or, Float}
use Rattle.std.specs.Float.{nan, binary64}
use Rattle.std.specs.Float.Ieee.{add, sub, mul}
use Rattle.doubles.specs.Count.{count_of}
use Rattle.doubles.specs.Whole.{whole_of}
use Rattle.doubles.specs.Paper.{Paper, gives, refuses}
use Rattle.axis.specs.declared.Point.{Point}
use Rattle.axis.specs.declared.Spot.{Spot}
use Rattle.axis.specs.Edges.{well_formed, in_unit, bins_of, bin_of, width_of, weight_of}

-- probe: 12, 5, then the weight of the coordinate's bin
unfoldable pub probe_of : List Float → Float → Paper Float
probe_of es x =
    cond (not (well_formed es)) (refuses 12)
    (cond (not (in_unit x)) (refuses 5)
    (gives (weight_of es (bin_of es x))))

-- the bin that the unit draw r falls to
unfoldable pub drawn_bin : List Float → Float → ℕ
drawn_bin es r = whole_of (mul binary64 (count_of (bins_of es)) r)

-- the draw of r: with n·r rounded once, its whole part is the bin, and the rest the way into it
unfoldable pub point_of : List Float → Float → Point
point_of es r =
    let scaled = mul binary64 (count_of (bins_of es)) r in
    let i = whole_of scaled in
    record {
      at = add binary64 (get_or es i nan) (mul binary64 (sub binary64 scaled (count_of i)) (width_of es i));
      weight = weight_of es i;
    }

-- the point, and the bin that the unit draw falls to
unfoldable pub spot_of : List Float → Float → Spot
spot_of es r = record { point = point_of es r; bin = drawn_bin es r }

-- draw: 12, then the point of the unit draw r
unfoldable pub draw_of : List Float → Float → Paper Point
draw_of es r = cond (not (well_formed es)) (refuses 12) (gives (point_of es r))
