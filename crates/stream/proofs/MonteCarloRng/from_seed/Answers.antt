-- `from_seed`: the zero test chooses, as in the definition.
use Rattle.std.proofs.Common.{sym}
use Rattle.stream.specs.Calls.{import_of}
use Rattle.stream.proofs.MonteCarloRng.from_seed.Goals as goal

pub returns-then-is_all_zero : goal.returns-then-is_all_zero
unfolding import_of
returns-then-is_all_zero c = rw (c.seed_from_u64.ensures, sym c.is_all_zero.ensures, c.if-is_all_zero.true)

pub returns : goal.returns
unfolding import_of
returns c = rw (c.state_in.ensures, sym c.is_all_zero.ensures, c.if-is_all_zero.false)
