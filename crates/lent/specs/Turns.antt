-- Steps over a tree in lent memory: what hangs below a bins grid, child after child, and what was found on the way.
use Rattle.std.specs.Prelude.{ℕ, zero, suc, ◌+◌, false, ◌||◌, cond, List, eqb, get_or}
use Rattle.model.specs.Update.{Outcome}
use Rattle.lent.specs.Memory.{Memory}
use Rattle.lent.specs.Renewed.{finding}

-- what hangs at a link: nothing at 0
unfoldable pub child_turned : (ℕ → Memory → Outcome Memory) → ℕ → Memory → Outcome Memory
child_turned f link s = cond (eqb link 0) (finding false false s) (f link s)

-- at n links from link i on
unfoldable pub children_turned : (ℕ → Memory → Outcome Memory) → List ℕ → ℕ → ℕ → ℕ → Memory → Outcome Memory
children_turned f table w i zero s = finding false false s
children_turned f table w i (suc n) s =
    let o = child_turned f (get_or table (w + 7 + i) 0) s in
    let q = children_turned f table w (i + 1) n o.after in
    finding (o.eight || q.eight) (o.nine || q.nine) q.after
