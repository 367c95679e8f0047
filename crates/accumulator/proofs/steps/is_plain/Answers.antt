-- Six tests, and each is one of the facts.
use mathlib.Core.Path.{sym, ◌∙◌}
use borrow.Author.Tests.{ltb-true}
use Rattle.doubles.proofs.Truth.{both}
use Rattle.accumulator.proofs.Ended.{two-finite}
use Rattle.accumulator.proofs.steps.is_plain.Goals as goal

pub returns : goal.returns
returns c h = let f = both _ _ h in
    let e = both _ _ f.0 in
    let d = both _ _ e.0 in
    let b = both _ _ d.0 in
    let a = both _ _ b.0 in
    let finite = both _ _ (sym (two-finite c.args.total c.args.total_sq) ∙ f.1) in
    record {
      waiting = ltb-true _ _ a.0;
      waiting_zeros = ltb-true _ _ a.1;
      all = ltb-true _ _ b.1;
      all_zeros = ltb-true _ _ d.1;
      before = ltb-true _ _ e.1;
      sums = finite.0;
      squares = finite.1;
    }
