-- How the two calls end: at what stands against the states, at what stands against the merge, or merged.
use mathlib.Core.Path.{◌≡◌, refl, sym, ap, ◌∙◌}
use mathlib.Core.List.{List}
use Prim.Native.Nat.{ℕ}
use Rattle.doubles.specs.Paper.{Paper}
use Rattle.model.specs.Grid.{Grid}
use Rattle.model.specs.Merge.{merge_of}
use Rattle.lent.specs.Memory.{Memory}
use Rattle.lent.specs.State.{root_of, pair_fault}
use Rattle.lent.specs.Matched.{grid_obstacle}
use Rattle.lent.specs.United.{united_grid}
use Rattle.lent.specs.Calls.{StateEnd, state_end, united_by, merge_into_of}
use Rattle.lent.proofs.States.{stopped, went_on}
use Rattle.lent.proofs.Unites.{merge-refused, merge-given}

module _ (table : List ℕ) (s : Memory) (other : List ℕ) (others : Memory) where
  abbrev fault : ℕ
  fault = pair_fault table s.reals s.counts other others.reals others.counts

  abbrev root : Grid
  root = root_of table s.reals s.counts

  abbrev theirs : Grid
  theirs = root_of other others.reals others.counts

  -- what the merge leaves, as the model's answer says
  abbrev left : Paper Grid → StateEnd
  left p = united_by p (united_grid table other others 4 0 0 s) s

  pub end-stopped : (n : ℕ) → n ≡ fault → (fault ≡ 0 → ⊥) → state_end n s ≡ merge_into_of table s other others
  unfolding merge_into_of
  end-stopped n e z = ap (λ (k : ℕ). state_end k s) e ∙ sym (stopped fault (state_end fault s) (left (merge_of root theirs)) z)

  pub end-met : (n : ℕ) → fault ≡ 0 → n ≡ grid_obstacle root theirs → (n ≡ 0 → ⊥) → state_end n s ≡ merge_into_of table s other others
  unfolding merge_into_of united_by
  end-met n f e z = sym (ap left (merge-refused root theirs n e z)) ∙ sym (went_on fault (state_end fault s) (left (merge_of root theirs)) f)

  pub end-merged : (t : Memory) → fault ≡ 0 → grid_obstacle root theirs ≡ 0 → t ≡ united_grid table other others 4 0 0 s → state_end 0 t ≡ merge_into_of table s other others
  unfolding merge_into_of united_by
  end-merged t f e m = ap (state_end 0) m ∙ sym (ap left (merge-given root theirs 0 (sym e) refl)) ∙ sym (went_on fault (state_end fault s) (left (merge_of root theirs)) f)
