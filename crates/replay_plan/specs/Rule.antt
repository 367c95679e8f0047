-- The numbers of the rules.
use Rattle.std.specs.Prelude.{◌≡◌, ℕ, Result, MatchResult}
use Rattle.replay_plan.specs.declared.rule.Rule.{Rule}
use Rattle.replay_plan.specs.declared.rule.Rule.TheVariants.{Cut, Change, Row, Table}
use Rattle.replay_plan.specs.declared.rule.UnknownRule.{UnknownRule}

-- a rule's number
abbrev pub number_of : Rule → ℕ
number_of Cut = 1
number_of Change = 2
number_of Row = 3
number_of Table = 4

-- the result is the rule of this number, or the number that is no rule's
abbrev pub Decodes : ℕ → Result Rule UnknownRule → Type 0
Decodes n r = MatchResult r (λ rule. number_of rule ≡ n) (λ e. (e.0 ≡ n) × ((rule : Rule) → number_of rule ≡ n → ⊥))
