-- How the field stands decides, and a whole one has its bytes.
use Rattle.std.proofs.Common.{sym, ◌∙◌}
use Rattle.feed.proofs.Standings.{whole-there}
use Rattle.feed.proofs.turns.read_stream.Goals as goal

pub make_stream-requires : goal.make_stream-requires
make_stream-requires c = whole-there _ 0x10 10 _ (sym c.stands.ensures ∙ c.in-Whole.is)
