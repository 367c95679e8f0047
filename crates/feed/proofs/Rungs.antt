-- What a measured plan is and what is due, in the form in which the code meets them.
use Rattle.std.proofs.Common.{◌≡◌, ℕ, ◌≤◌, Bool, List, length, sym, ap, ◌∙◌}
use Rattle.std.specs.Prelude.{Result, Ok}
use Rattle.plan.specs.declared.Read.{Read}
use Rattle.plan.specs.declared.Misread.{Misread}
use Rattle.plan.specs.Bounds.{Bytes}
use Rattle.plan.specs.Paper.{plan_read, paper_read}
use Rattle.plan.specs.Calls.{measure_prefix_of}
use Rattle.lent.specs.Memory.{Memory}
use Rattle.feed.specs.declared.Phase.{Phase}
use Rattle.feed.specs.declared.Run.{Run}
use Rattle.feed.specs.Turns.{TurnEnd, turn_by, turn_of}
use Rattle.feed.proofs.Prefixes.{prefix-reach}

-- ---- the plan

pub found_inside : (bs : List ℕ) (x : Result Read Misread) (r : Read) → Bytes bs → paper_read x ≡ measure_prefix_of bs → x ≡ Ok r → r.end ≤ length bs
found_inside bs x r small q e = prefix-reach bs (plan_read r.end r.needs) small (sym q ∙ ap paper_read e)

-- ---- what is due

pub turn-due : (run : Run) (bs : List ℕ) (last : Bool) (table : List ℕ) (m : Memory) (R C : ℕ) (p : Phase) (o : TurnEnd) → run.phase ≡ p → o ≡ turn_by p run bs last table m R C → o ≡ turn_of run bs last table m R C
unfolding turn_of
turn-due run bs last table m R C p o e d = d ∙ sym (ap (λ (x : Phase). turn_by x run bs last table m R C) e)
