-- `recut::from_damped` meets its contract: each return by the law of its stage.
use Rattle.recut.specs.Renew.{paper_renewed}
use Rattle.recut.proofs.Stages.{damped-8, damped-9, damped-done}
use borrow.Author.Rules.{rules}
use Rattle.recut.proofs.from_damped.Goals as goal

pub returns-then-not-finite : goal.returns-then-not-finite
unfolding paper_renewed
returns-then-not-finite c = search (damped-8, rules)

pub returns-then-not-is_well_formed : goal.returns-then-not-is_well_formed
unfolding paper_renewed
returns-then-not-is_well_formed c = search (damped-9, rules)

pub returns : goal.returns
unfolding paper_renewed
returns c = search (damped-done, rules)
