-- The test of each byte is the definition's, byte by byte.
use Rattle.std.proofs.Common.{◌==◌, ◌∙◌, rules, tests}
use Rattle.std.proofs.lemmas.Iterator.{YieldsList-from_slice}
use Rattle.std.proofs.lemmas.Iterator.Search.{all_from_yields_List}
use Rattle.stream.proofs.Fills.{all-zero-each}
use Rattle.stream.proofs.bytes.is_all_zero.Goals as goal

pub returns : goal.returns
returns c =
    all_from_yields_List (λ b. b == 0) _ _ _ c.all.ensures.ran (YieldsList-from_slice c.args.bytes.now cc) (λ x b q k. search (rules, tests))
    ∙ all-zero-each _
