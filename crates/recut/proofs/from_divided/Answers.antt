-- `recut::from_divided` meets its contract: each return by the law of its stage.
use Rattle.recut.specs.Renew.{paper_renewed}
use Rattle.recut.proofs.Stages.{divided-8, divided-on}
use borrow.Author.Rules.{rules}
use Rattle.recut.proofs.from_divided.Goals as goal

pub returns-then-not-finite : goal.returns-then-not-finite
unfolding paper_renewed
returns-then-not-finite c = search (divided-8, rules)

pub returns : goal.returns
returns c = search (divided-on, rules)
