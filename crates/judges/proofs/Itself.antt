-- A state is its own destination: the room that it has is judged once more, and alike.
use Rattle.std.proofs.Common.{◌≡◌, ℕ, List, length, refl, Bool, true, false, cond}
use Rattle.std.specs.Prelude.{Float, ltb, not}
use Rattle.plan.specs.declared.Needs.{Needs}
use Rattle.plan.specs.Paper as plan
use Rattle.plan.specs.Calls.{sizes_of}
use Rattle.model.specs.Sound.{sound}
use Rattle.lent.specs.State.{root_of, judged_by, judged_to, fault_by, state_fault, fault_to_by, fault_to}

twice : (a b : Bool) (n x : ℕ) → cond a n (cond b n (cond a n (cond b n x))) ≡ cond a n (cond b n x)
twice true b n x = refl
twice false true n x = refl
twice false false n x = refl

by-plan : (table : List ℕ) (reals : List Float) (counts : List ℕ) (p : plan.Paper Needs) → fault_to_by table reals counts (length reals) (length counts) p ≡ fault_by table reals counts p
unfolding fault_to_by fault_by judged_to judged_by
by-plan table reals counts (plan.gives n) = twice (ltb (length reals) n.reals) (ltb (length counts) n.counts) 10 (cond (not (sound (root_of table reals counts))) 12 0)
by-plan table reals counts (plan.refuses k) = refl
by-plan table reals counts (plan.refuses_at k at) = refl

pub fault-itself : (table : List ℕ) (reals : List Float) (counts : List ℕ) → fault_to table reals counts (length reals) (length counts) ≡ state_fault table reals counts
unfolding fault_to state_fault
fault-itself table reals counts = by-plan table reals counts (sizes_of table)
