-- `word_at`: the eight bytes at `at`, lowest first.
use Rattle.std.proofs.Common.{◌≡◌, ◌+◌, ◌-◌, ◌∙◌, arith}
use Rattle.stream.proofs.Fills.{word-of-eight}
use Rattle.stream.proofs.bytes.word_at.Goals as goal

pub returns : goal.returns
returns c =
    let e : c.args.at + 8 - c.args.at ≡ 8 = omega arith in
    c.from_le_bytes.ensures ∙ word-of-eight _ _ (rw e at c.copy_from_slice.ensures.after)
