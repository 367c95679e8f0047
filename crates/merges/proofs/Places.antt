-- A bin at its place: it lies in memory, and what stands there is what the definitions read.
use mathlib.Core.Path.{◌≡◌, ap, ap₂, ◌∙◌}
use mathlib.Core.Bool.{Bool, true}
use mathlib.Core.List.{List}
use Prim.Native.Nat.{ℕ, ◌+◌, ◌*◌, ◌≤◌, ◌<◌}
use native.Mathlib.Omega.{arith}
use lib.ListN.{get_or}
use lib.Ieee.{Float, nan, eq}
use Rattle.accumulator.specs.Record.{well_formed}
use Rattle.accumulator.specs.Steps.{merged_of}
use Rattle.lent.specs.Memory.{Memory, record_at}
use Rattle.lent.specs.Tree.{bin_in}
use Rattle.lent.specs.Matched.{obstacle}
use Rattle.lent.specs.United.{joined_record, united_bin}
use Rattle.merges.specs.declared.bins.BinAt.{BinAt}
use Rattle.merges.specs.Bins.{bin_place}

pub bin-there : (table : List ℕ) (R C w i : ℕ) (b : BinAt) → b ≡ bin_place table w i → i < get_or table (w + 2) 0 → get_or table (w + 5) 0 + 14 + 15 * get_or table (w + 2) 0 ≤ R
    → get_or table (w + 6) 0 + 7 + 7 * get_or table (w + 2) 0 ≤ C → (b.chance < R) × (b.reals + 14 ≤ R) × (b.counts + 7 ≤ C)
unfolding bin_place
bin-there table R C w i b e h room places = rw e (omega arith, omega arith, omega arith)

pub bin-own : (table : List ℕ) (reals : List Float) (counts : List ℕ) (w i : ℕ) (b : BinAt) → b ≡ bin_place table w i
    → well_formed (bin_in table reals counts w i).own ≡ true → well_formed (record_at reals counts b.reals b.counts) ≡ true
unfolding bin_place bin_in
bin-own table reals counts w i b e h = ap (λ (x : BinAt). well_formed (record_at reals counts x.reals x.counts)) e ∙ h

module _ (table : List ℕ) (w : ℕ) (other : List ℕ) (v i : ℕ) (b o : BinAt) (e : b ≡ bin_place table w i) (f : o ≡ bin_place other v i) where
  pub bins-told : (reals : List Float) (counts : List ℕ) (theirs : List Float) (tallies : List ℕ) (fits : Bool)
      → fits ≡ well_formed (merged_of (record_at reals counts b.reals b.counts) (record_at theirs tallies o.reals o.counts))
      → obstacle true (eq (get_or reals b.chance nan) (get_or theirs o.chance nan)) fits
      ≡ obstacle true (eq (bin_in table reals counts w i).probability (bin_in other theirs tallies v i).probability) (well_formed (merged_of (bin_in table reals counts w i).own (bin_in other theirs tallies v i).own))
  unfolding bin_place bin_in
  bins-told reals counts theirs tallies fits d =
      ap (obstacle true (eq (get_or reals b.chance nan) (get_or theirs o.chance nan))) d
      ∙ ap₂ (λ (x y : BinAt). obstacle true (eq (get_or reals x.chance nan) (get_or theirs y.chance nan)) (well_formed (merged_of (record_at reals counts x.reals x.counts) (record_at theirs tallies y.reals y.counts)))) e f

  pub bin-united : (others s t : Memory) → t ≡ joined_record b.reals b.counts o.reals o.counts others s → t ≡ united_bin table other others w v i s
  unfolding bin_place united_bin
  bin-united others s t d = d ∙ ap₂ (λ (x y : BinAt). joined_record x.reals x.counts y.reals y.counts others s) e f
