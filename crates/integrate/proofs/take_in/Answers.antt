-- `take_in`: what the turns leave is what is kept, and lies within the text.
use mathlib.Core.Path.{sym, ◌∙◌}
use lib.Dec.{ltb}
use borrow.Author.Tests.{not-true}
use Rattle.integrate.proofs.Full.{left-short}
use Rattle.integrate.proofs.Turning.{first_holds, last-holds}
use Rattle.integrate.proofs.take_in.Goals as goal

pub returns : goal.returns
returns c = let k = c.keep-rest.ensures in record {
  taken_in = record { taken = c.pour-poured.result.taken; many = k.0; kept = k.1; turns = λ h. c.pour-poured.ensures.turns (first_holds _ _ _ h) };
  held_bound = λ h. let d = sym c.is_over.ensures ∙ not-true _ (last-holds c.pour-poured.result.written (ltb c.args.held c.args.full) _ h) in left-short c.args.text.now c.args.full c.pour-poured.result.taken _ c.requires k.0 (c.pour-poured.ensures.bytes_len_bound (first_holds _ _ _ h) d);
}
