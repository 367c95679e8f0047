-- What refuses an update before it is worked out.
use Rattle.std.specs.Prelude.{ℕ, not, ◌&&◌, cond, eqb, Float}
use Rattle.model.specs.Update.{rate_fits}

-- what stands against the state and its spare; then 3 for a rate; 0 where nothing does
unfoldable pub refused_for : ℕ → Float → Float → ℕ
refused_for fault bins_rate axes_rate = cond (not (eqb fault 0)) fault (cond (not (rate_fits bins_rate && rate_fits axes_rate)) 3 0)
