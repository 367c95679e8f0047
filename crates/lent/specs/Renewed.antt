-- The update of axes in lent memory, in the model's order of refusals. An axis that is refused stays as it was.
use Rattle.std.specs.Prelude.{ℕ, zero, suc, ◌+◌, ◌*◌, ◌≤◌, Bool, false, true, not, ◌&&◌, ◌||◌, cond, List, eqb, length, get_or, Float}
use Rattle.std.specs.Float.Ieee.{eq}
use Rattle.doubles.specs.Numbers.{zero64}
use Rattle.doubles.specs.Total.{all_finite}
use Rattle.doubles.specs.Paper.{Paper, gives, refuses}
use Rattle.accumulator.specs.Record.{bounded}
use Rattle.axis.specs.Scans.{all_bounded}
use Rattle.recut.specs.Gather.{gathered_of, joined_counts, reaches_of}
use Rattle.recut.specs.Renew.{renew_of}
use Rattle.model.specs.Axes.{AxesPlan}
use Rattle.model.specs.Update.{Outcome, last_or}
use Rattle.lent.specs.declared.Rule.{Rule}
use Rattle.lent.specs.declared.Found.{Found}
use Rattle.lent.specs.Layout.{stretch, axis_reals, axis_counts}
use Rattle.lent.specs.Memory.{Memory, memory, put}
use Rattle.lent.specs.Laid.{waitless_at, empty_at, edged_at}

-- what a rule and the values of the evolution list say of a plan; a floor says nothing of an update
unfoldable pub plan_of : Rule → List ℕ → Float → AxesPlan
plan_of rule values floor = record { bins = rule.bins; least = rule.least; averages = rule.averages; evolution = values; floor = floor }

-- the number of bins after so many re-cuts, and that every such number is at most m
unfoldable pub bins_to : Rule → List ℕ → ℕ → ℕ
bins_to rule values recuts = get_or values recuts (last_or rule.bins values)

unfoldable pub Within : ℕ → Rule → List ℕ → Type 0
Within m rule values = (k : ℕ) → bins_to rule values k ≤ m

-- the column trained on: the sums on averages, the squares else
unfoldable pub trained_from : Bool → ℕ → ℕ
trained_from averages m = cond averages (2 * m + 1) (3 * m + 1)

-- the gathered importances and counters of n bins
unfoldable pub importances_at : Bool → ℕ → ℕ → ℕ → List Float → List Float
importances_at averages m r n reals = gathered_of (stretch (r + (m + 1)) n reals) (stretch (r + trained_from averages m) n reals)

unfoldable pub counters_at : ℕ → ℕ → ℕ → List ℕ → List ℕ
counters_at m c n counts = joined_counts (stretch (c + (2 * m + 2)) n counts) (stretch (c + 2) n counts)

-- these importances and counters kept, nothing waiting
unfoldable pub kept_at : ℕ → ℕ → ℕ → List Float → List ℕ → Memory → Memory
kept_at m r c qs ns s =
    waitless_at m r c (length qs) (memory (put (r + (m + 1)) (length qs) qs s.reals) (put (c + (2 * m + 2)) (length ns) ns s.counts))

-- what was found, and the memory after it
abbrev pub finding : Bool → Bool → Memory → Outcome Memory
finding eight nine s = record { eight = eight; nine = nine; after = s }

abbrev pub found : Found → Memory → Outcome Memory
found f s = finding f.eight f.nine s

-- n bins on new edges, nothing trained in them; or a refusal
unfoldable pub recut_into : ℕ → ℕ → ℕ → ℕ → ℕ → Paper (List Float) → Memory → Outcome Memory
recut_into m r c n recuts (gives es) s = finding false false (empty_at m r c n recuts (edged_at r (n + 1) es s))
recut_into m r c n recuts (refuses k) s = finding (eqb k 8) (eqb k 9) s

unfoldable pub recut_at : Rule → List ℕ → Float → ℕ → ℕ → ℕ → List Float → List ℕ → Memory → Outcome Memory
recut_at rule values rate m r c qs ns s =
    let recuts = get_or s.counts (c + 1) 0 in
    let n = bins_to rule values recuts in
    cond (not (bounded (recuts + 1))) (finding true false s)
    (recut_into m r c n (recuts + 1) (renew_of (stretch r (length qs + 1) s.reals) qs ns rate (n + 1)) s)

-- from the gathered importances and counters on: 8; kept where the least samples are not reached; a reset at rate 0; a re-cut
unfoldable pub adapted_at : Rule → List ℕ → Float → ℕ → ℕ → ℕ → List Float → List ℕ → Memory → Outcome Memory
adapted_at rule values rate m r c qs ns s =
    cond (not (all_finite qs && all_bounded ns)) (finding true false s)
    (cond (not (reaches_of rule.least ns)) (finding false false (kept_at m r c qs ns s))
    (cond (eq rate zero64) (finding false false (empty_at m r c (length qs) (get_or s.counts (c + 1) 0) s))
    (recut_at rule values rate m r c qs ns s)))

-- one axis
unfoldable pub update_at : Rule → List ℕ → Float → ℕ → ℕ → ℕ → Memory → Outcome Memory
update_at rule values rate m r c s =
    let n = get_or s.counts c 0 in
    adapted_at rule values rate m r c (importances_at rule.averages m r n s.reals) (counters_at m c n s.counts) s

-- k axes one after the other
unfoldable pub update_all_at : Rule → List ℕ → Float → ℕ → ℕ → ℕ → ℕ → Memory → Outcome Memory
update_all_at rule values rate m zero r c s = finding false false s
update_all_at rule values rate m (suc k) r c s =
    let o = update_at rule values rate m r c s in
    let q = update_all_at rule values rate m k (r + axis_reals m) (c + axis_counts m) o.after in
    finding (o.eight || q.eight) (o.nine || q.nine) q.after
