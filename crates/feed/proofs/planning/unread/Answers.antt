-- The test, then the refusal.
use Rattle.std.proofs.Common.{sym, ap, ◌∙◌}
use Rattle.doubles.specs.declared.refusal.Refusal.TheVariants as refusal
use Rattle.doubles.specs.Refusal.{number_of}
use Rattle.doubles.proofs.Refusals.{same-number}
use Rattle.feed.specs.Said.{Said, refusing_at}
use Rattle.feed.specs.Turns.{unread_of}
use Rattle.feed.proofs.planning.unread.Goals as goal

pub returns-then-all-eq : goal.returns-then-all-eq
unfolding unread_of
returns-then-all-eq c = let e = same-number c.args.misread.why refusal.Malformed c.eq.result c.eq.ensures in rw (sym e, c.if-all-eq.true) c.waits.ensures

pub returns : goal.returns
unfolding unread_of
returns c = let e = same-number c.args.misread.why refusal.Malformed c.eq.result c.eq.ensures in
    rw (sym e, c.if-all-eq.false) (c.refuses.ensures ∙ ap (λ (o : Said). refusing_at o (number_of c.args.misread.why) c.args.misread.at) c.waits-2.ensures)
