-- The word at the number that is cut is the word itself (`word-near`).
use Rattle.std.proofs.Common.{ℕ, ◌*◌, ◌/◌, ◌%◌, ◌^◌, ap, ◌∙◌, arith}
use Rattle.answers.specs.List.{byte_in}
use Rattle.answers.proofs.Rows.{word-near}
use Rattle.answers.proofs.byte_of.Goals as goal

pub returns : goal.returns
unfolding byte_in
returns c = ap (λ (w : ℕ). w / 2 ^ (c.args.i % 8 * 8) % 256) (c.word.ensures ∙ word-near _ (omega arith) _ _ c.saturating_add.ensures)
