-- From axis to axis: the axes of a grid without the first of them.
use Rattle.std.specs.Prelude.{◌+◌, ◌-◌}
use Rattle.lent.specs.declared.AxesAt.{AxesAt}
use Rattle.lent.specs.Layout.{axis_reals, axis_counts}

-- the axes after the first, where they begin
unfoldable pub onward : AxesAt → AxesAt
onward g =
    record { axes = g.axes - 1; most = g.most; floor = g.floor; reals = g.reals + axis_reals g.most; counts = g.counts + axis_counts g.most }
