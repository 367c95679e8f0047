-- How the field stands decides, and a whole one has its bytes.
use Rattle.std.proofs.Common.{sym, ◌∙◌}
use Rattle.feed.proofs.Standings.{whole-there}
use Rattle.feed.proofs.updating.read_update.Goals as goal

pub update-requires : goal.update-requires
update-requires c = whole-there _ 0x12 16 _ (sym c.stands.ensures ∙ c.in-Whole.is)
