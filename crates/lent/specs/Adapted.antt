-- The update of a tree in lent memory: children first, then the bins' accumulators, then the bins grid's own and its probabilities. What is
-- found on the way does not keep the rest from its update: memory counts only where nothing was found.
use Rattle.std.specs.Prelude.{ℕ, zero, suc, ◌+◌, ◌*◌, Bool, true, false, not, ◌&&◌, ◌||◌, cond, List, [], ◌∷◌, eqb, length, get_or, Float}
use Rattle.std.specs.Float.{binary64}
use Rattle.std.specs.Float.Ieee.{of_bits, eq}
use Rattle.doubles.specs.Numbers.{zero64}
use Rattle.doubles.specs.Paper.{Paper, gives, refuses}
use Rattle.accumulator.specs.Calls.{Stepped, stepped}
use Rattle.accumulator.specs.Calls as account
use Rattle.recut.specs.Chances.{all_chances, adapted_to}
use Rattle.model.specs.Update.{Outcome, idle, raw_of}
use Rattle.plan.specs.Numbers.{words_at}
use Rattle.lent.specs.declared.Rule.{Rule}
use Rattle.lent.specs.Memory.{Memory, memory, put, record_at, stored}
use Rattle.lent.specs.Judged.{axes_fit}
use Rattle.lent.specs.Tree.{bin_in}
use Rattle.lent.specs.Renewed.{finding, update_all_at}
use Rattle.lent.specs.Turns.{children_turned}

-- one step after another, both findings together
unfoldable pub followed : Outcome Memory → (Memory → Outcome Memory) → Outcome Memory
followed o f = let q = f o.after in finding (o.eight || q.eight) (o.nine || q.nine) q.after

-- ---- accumulators

-- the record at r and c after its update, or 8 where that is refused
unfoldable pub account_stepped : ℕ → ℕ → Paper Stepped → Memory → Outcome Memory
account_stepped r c (gives (stepped b a)) s = finding false false (stored r c a s)
account_stepped r c (refuses n) s = finding true false s

unfoldable pub account_updated : ℕ → ℕ → Memory → Outcome Memory
account_updated r c s = account_stepped r c (account.update_of false (record_at s.reals s.counts r c)) s

-- the accumulators of n bins from bin i on
unfoldable pub accounts_updated : List ℕ → ℕ → ℕ → ℕ → Memory → Outcome Memory
accounts_updated table w i zero s = finding false false s
accounts_updated table w i (suc n) s =
    followed (account_updated (get_or table (w + 5) 0 + 14 + get_or table (w + 2) 0 + 14 * i) (get_or table (w + 6) 0 + 7 + 7 * i) s) (accounts_updated table w (i + 1) n)

-- ---- an axes grid

unfoldable pub rule_at : List ℕ → ℕ → Rule
rule_at table w = record { bins = get_or table (w + 3) 0; least = get_or table (w + 4) 0; averages = eqb (get_or table (w + 5) 0) 1 }

-- its axes, where they are well formed, then its own accumulator
unfoldable pub axes_updated : List ℕ → Float → ℕ → Memory → Outcome Memory
axes_updated table rate w s =
    let values = words_at table (w + 11) (get_or table (w + 8) 0) in
    cond (axes_fit (get_or table (w + 3) 0 ∷ values) (get_or table (w + 7) 0) s.reals s.counts (get_or table (w + 2) 0) (get_or table (w + 9) 0 + 14) (get_or table (w + 10) 0 + 7))
    (followed (update_all_at (rule_at table w) values rate (get_or table (w + 7) 0) (get_or table (w + 2) 0) (get_or table (w + 9) 0 + 14) (get_or table (w + 10) 0 + 7) s)
    (account_updated (get_or table (w + 9) 0) (get_or table (w + 10) 0)))
    (finding true false s)

-- ---- a bins grid's own

-- whether its flag says averages
abbrev pub averages_at : List ℕ → ℕ → Bool
averages_at table w = eqb (get_or table (w + 4) 0) 1

-- of n bins from bin i on: whether they leave nothing to adapt to, and their raw probabilities
unfoldable pub idle_in : List ℕ → Memory → ℕ → ℕ → ℕ → Bool
idle_in table s w i zero = true
idle_in table s w i (suc n) = idle (averages_at table w) (bin_in table s.reals s.counts w i).own && idle_in table s w (i + 1) n

unfoldable pub raws_in : List ℕ → Memory → ℕ → ℕ → ℕ → List Float
raws_in table s w i zero = []
raws_in table s w i (suc n) = raw_of (averages_at table w) (bin_in table s.reals s.counts w i).own ∷ raws_in table s w (i + 1) n

-- probabilities laid down, and 9 where one is not finite and above 0
unfoldable pub chances_laid : List ℕ → ℕ → List Float → Memory → Outcome Memory
chances_laid table w ps s = finding false (not (all_chances ps)) (memory (put (get_or table (w + 5) 0 + 14) (length ps) ps s.reals) s.counts)

unfoldable pub chances_adapted : List ℕ → ℕ → Memory → Outcome Memory
chances_adapted table w s = chances_laid table w (adapted_to (of_bits binary64 (get_or table (w + 3) 0)) (raws_in table s w 0 (get_or table (w + 2) 0))) s

-- an early return leaves probabilities and the own accumulator as they were
unfoldable pub bins_adapted : List ℕ → Float → ℕ → Memory → Outcome Memory
bins_adapted table rate w s =
    cond (eq rate zero64 || idle_in table s w 0 (get_or table (w + 2) 0)) (finding false false s)
    (followed (chances_adapted table w s) (account_updated (get_or table (w + 5) 0) (get_or table (w + 6) 0)))

-- ---- the tree

unfoldable pub node_updated : (ℕ → Memory → Outcome Memory) → List ℕ → Float → Float → ℕ → Memory → Outcome Memory
node_updated f table bins_rate axes_rate w s =
    cond (eqb (get_or table w 0) 1) (axes_updated table axes_rate w s)
    (followed (followed (children_turned f table w 0 (get_or table (w + 2) 0) s) (accounts_updated table w 0 (get_or table (w + 2) 0))) (bins_adapted table bins_rate w))

-- the grid whose run begins at word w, with so many levels left
unfoldable pub updated_in : ℕ → List ℕ → Float → Float → ℕ → Memory → Outcome Memory
updated_in zero table bins_rate axes_rate w s = axes_updated table axes_rate w s
updated_in (suc l) table bins_rate axes_rate w s = node_updated (updated_in l table bins_rate axes_rate) table bins_rate axes_rate w s
