-- The part comes back with the value in each place.
use mathlib.Core.Path.{sym, ap, ◌∙◌}
use mathlib.Core.List.{List}
use Prim.Native.Nat.{ℕ, ◌≤◌}
use native.Mathlib.Omega.{arith}
use lib.ListN.{length, replicate, drop_of_length-le}
use Rattle.recut.proofs.Writes.{rest-done}
use Rattle.lent.proofs.Lays.{lent_length, lent_back}
use Rattle.ground.proofs.clearing.clear.Goals as goal

pub returns : goal.returns
returns g c = let part = c.loop-entry.entry-items in
    let done : length part ≤ c.loop-entry.entry-index = omega arith in
    let all = λ (l : List g.row.T.Denot). replicate (length l) c.args.value in
    lent_back c.args.start c.args.n part _ c.args.entries.now
    (sym (rest-done part c.loop-entry.entry-index all (rw (drop_of_length-le part done))) ∙ c.loop-entry.invariant
    ∙ ap (λ (k : ℕ). replicate k c.args.value) (lent_length c.args.start c.args.n c.args.entries.now c.requires))
