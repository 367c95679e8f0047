-- The scan of the whole is the scan of what is left, with the largest value so far.
use Rattle.std.proofs.Common.{ℕ, ◌≡◌, ◌+◌, ◌*◌, ◌<◌}
use Rattle.plan.proofs.Runs.{Scanning}
use Rattle.plan.proofs.fields.most_of.Given as goal

abbrev pub invariant-loop-i : goal.invariant-loop-i
invariant-loop-i g l = (f : ℕ → ℕ) (apart at : ℕ) → ((i x : ℕ) → i < l.values → g.F.Fn.post l.value (i, tt) x → x ≡ f (at + apart * i))
    → Scanning f apart at l.values l.least l.most (at + apart * l.i) l.i
