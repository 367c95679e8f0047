-- The records loaded are those that the definition reads, so the accumulator decides alike; a refusal stores nothing.
use mathlib.Core.Path.{sym}
use Rattle.lent.proofs.Unites.{record-joined, record-stays}
use Rattle.merges.proofs.uniting.join_account.Goals as goal

pub returns-in_default : goal.returns-in_default
returns-in_default c = record-stays _ _ _ _ _ _ _ _ _ _ c.load-mine.ensures c.load-joining.ensures c.merge_samples_no_reset.ensures (sym c.in_default.is)

pub returns-in-Ok : goal.returns-in-Ok
returns-in-Ok c = record-joined _ _ _ _ _ _ _ _ _ _ _ c.load-mine.ensures c.load-joining.ensures c.merge_samples_no_reset.ensures (sym c.in-Ok.is) c.store.ensures
