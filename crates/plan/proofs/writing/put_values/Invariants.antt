-- What is stored and what is left to store are the whole run.
use Prim.Native.Nat.{◌+◌, ◌*◌}
use Rattle.plan.specs.Numbers.{number_at}
use Rattle.plan.proofs.Runs.{Copying}
use Rattle.plan.proofs.writing.put_values.Given as goal

abbrev pub invariant-loop-i : goal.invariant-loop-i
invariant-loop-i l = Copying (λ j. number_at l.bytes j 2) 2 l.at l.values l.w l.initial.table l.table (l.at + 2 * l.i) l.i
