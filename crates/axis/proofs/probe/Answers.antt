-- The tests give 12, then 5, as in the definition; past both, the search by halves finds the rule's bin (`search_is`).
use Rattle.doubles.proofs.Truth.{failed, passed}
use Rattle.axis.specs.Calls.{probe_of}
use Rattle.axis.proofs.Searches.{search_is}
use Rattle.axis.proofs.probe.Goals as goal

pub returns-then-not-is_well_formed : goal.returns-then-not-is_well_formed
unfolding probe_of
returns-then-not-is_well_formed c = rw (failed c.is_well_formed.ensures c.if-not-is_well_formed.true)

pub returns-then-not-in_unit : goal.returns-then-not-in_unit
unfolding probe_of
returns-then-not-in_unit c = rw (passed c.is_well_formed.ensures c.if-not-is_well_formed.false, failed c.in_unit.ensures c.if-not-in_unit.true)

pub returns : goal.returns
unfolding probe_of
returns c = rw (passed c.is_well_formed.ensures c.if-not-is_well_formed.false, passed c.in_unit.ensures c.if-not-in_unit.false, c.weight_of.ensures, c.bin_of.ensures, search_is _ _ (passed c.is_well_formed.ensures c.if-not-is_well_formed.false) (passed c.in_unit.ensures c.if-not-in_unit.false))
