-- `recut::joined_count` meets its contract: two counts that a record may hold have a sum that fits.
use borrow.Author.Tests.{le-leb, lt-leb}
use Rattle.recut.specs.Gather.{joined_count}
use Rattle.recut.proofs.joined_count.Goals as goal

pub returns-then-waiting-le9007199254740992 : goal.returns-then-waiting-le9007199254740992
unfolding joined_count
returns-then-waiting-le9007199254740992 c = rw (le-leb _ _ c.if-n-le9007199254740992.true, le-leb _ _ c.if-waiting-le9007199254740992.true)

pub returns-else-waiting-le9007199254740992 : goal.returns-else-waiting-le9007199254740992
unfolding joined_count
returns-else-waiting-le9007199254740992 c = rw (le-leb _ _ c.if-n-le9007199254740992.true, lt-leb _ _ c.if-waiting-le9007199254740992.false)

pub returns-else-n-le9007199254740992 : goal.returns-else-n-le9007199254740992
unfolding joined_count
returns-else-n-le9007199254740992 c = rw (lt-leb _ _ c.if-n-le9007199254740992.false)
