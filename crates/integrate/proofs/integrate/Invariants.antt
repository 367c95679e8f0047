-- `integrate`: the bytes held lie within the text.
use Rattle.std.proofs.Common.{◌<◌, length}
use Rattle.integrate.proofs.integrate.Given as goal

abbrev pub invariant-loop : goal.invariant-loop
invariant-loop l = l.held < length l.text
