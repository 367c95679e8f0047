-- The right program meets the three demands as they are stated of any program.
use mathlib.Core.Path.{◌≡◌, refl, sym, ap, ap₂, subst}
use mathlib.Core.Bool.{Bool, true, not}
use mathlib.Core.List.{List, [], ◌∷◌}
use Prim.Native.Nat.{ℕ}
use Rattle.doubles.specs.Paper.{Paper, gives, refuses}
use Rattle.doubles.proofs.Truth.{both}
use Rattle.accumulator.specs.declared.Summary.{Summary}
use Rattle.accumulator.specs.Calls as account
use Rattle.accumulator.specs.Calls.{summarize_of, live_estimate_of}
use Rattle.model.specs.Grid.{Grid, copy_grid}
use Rattle.model.specs.Sound.{sound, formed_grid, kept_grid}
use Rattle.model.specs.Draw.{draw_grid}
use Rattle.model.specs.Probe.{probe_grid}
use Rattle.model.specs.Train.{train_of}
use Rattle.model.specs.Merge.{merge_fault, merge_of}
use Rattle.model.specs.Update.{update_of}
use Rattle.lent.specs.State.{own_of}
use Rattle.lent.specs.Bins.{estimate_by, bin_along, estimate_along}
use Rattle.lent.proofs.Formed.{own-kept}
use Rattle.grid.specs.Fresh.{fresh}
use Rattle.grid.specs.History.{Call, draws, probes, sums, estimates, estimates_bin, trains, updates, matches, merges, copies, lacks, Word, done, drawing, weight, summary, estimate, Told, telling, reading, leaving, numbered, matched, told, onward, after, run, Entry, entry, log}
use Rattle.grid.specs.Lent.{worded, words}
use Rattle.grid.specs.Order.{Test, Ordered, match_tests, merge_tests}
use Rattle.grid.specs.Programs.{right, end_of, words_of, log_of, tests_of, Meets1, Meets2, Meets3}
use Rattle.grid.specs.Demand3.{Demand3}
use Rattle.grid.proofs.Kept.{refused_none}
use Rattle.grid.proofs.Orders.{given-last, held, step, changed, numbered-ordered}
use Rattle.grid.proofs.Ladders.{train-ordered, update-ordered, merge-ordered, match-first, match-above, probe-ordered, live-ordered, along-ordered}
use Rattle.grid.proofs.Second.{granted-is}
use Rattle.grid.proofs.Third.{demand-3}

-- ---- demand 1

worded-ordered : (ts : List Test) (p : Paper Told) → Ordered ts p → Ordered ts (worded p)
unfolding worded
worded-ordered ts p o = changed ts p (worded p) o (λ n e. ap worded e) (λ t e. (t.word, ap worded e))

reading-ordered : {A : Type 0} (f : A → Word) (g : Grid) (ts : List Test) (p : Paper A) → Ordered ts p → Ordered ts (reading f g p)
unfolding reading
reading-ordered f g ts p o = changed ts p (reading f g p) o (λ n e. ap (reading f g) e) (λ x e. (telling (f x) g, ap (reading f g) e))

leaving-ordered : (ts : List Test) (p : Paper Grid) → Ordered ts p → Ordered ts (leaving p)
unfolding leaving
leaving-ordered ts p o = changed ts p (leaving p) o (λ n e. ap leaving e) (λ g e. (telling done g, ap leaving e))

matched-ordered : (g : Grid) (ts : List Test) (p : Paper Word) → Ordered ts p → Ordered ts (matched g p)
unfolding matched
matched-ordered g ts p o = changed ts p (matched g p) o (λ n e. ap (matched g) e) (λ w e. (telling w g, ap (matched g) e))

summarized : (g : Grid) → sound g ≡ true → gives (account.summary_of (own_of g)) ≡ summarize_of (own_of g)
unfolding summarize_of
summarized g w = rw (own-kept g w)

told-ordered : (g : Grid) (c : Call) → sound g ≡ true → Ordered (tests_of g c) (told g c)
unfolding tests_of told estimate_along sound
told-ordered g (draws s) w = given-last (telling (drawing (draw_grid g s)) g)
told-ordered g (probes path xs) w = reading-ordered weight g _ (probe_grid g path xs) (probe-ordered g path xs)
told-ordered g sums w = reading-ordered summary g [] (summarize_of (own_of g)) (subst (λ (p : Paper Summary). Ordered [] p) (summarized g w) (given-last (account.summary_of (own_of g))))
told-ordered g estimates w = reading-ordered estimate g _ (live_estimate_of (own_of g)) (live-ordered (own_of g) (own-kept g w))
told-ordered g (estimates_bin path) w = reading-ordered estimate g _ (estimate_by (bin_along g path)) (along-ordered g path (both (formed_grid g) (kept_grid g) w).1)
told-ordered g (trains s e k) w = leaving-ordered _ (train_of g s e k) (train-ordered g s e k)
told-ordered g (updates bins_rate axes_rate) w = leaving-ordered _ (update_of bins_rate axes_rate g) (update-ordered bins_rate axes_rate g)
told-ordered g (matches o) w = step (not (sound o)) 12 (match_tests g o) _ (λ z. matched-ordered g _ (numbered (merge_fault g o)) (numbered-ordered (match_tests g o) (merge_fault g o) (match-first g o) (match-above g o)))
told-ordered g (merges o) w = step (not (sound o)) 12 (merge_tests g o) _ (λ z. leaving-ordered _ (merge_of g o) (merge-ordered g o))
told-ordered g copies w = given-last (telling done (copy_grid g))
told-ordered g (lacks n) w = held n []

-- a refused call leaves the grid
refused-stays : (g : Grid) (p : Paper Told) (n : ℕ) → worded p ≡ refuses n → onward g p ≡ g
unfolding worded onward
refused-stays g (gives t) n e = absurd (refused_none n t.word (sym e))
refused-stays g (refuses k) n e = refl

pub right-meets-1 : Meets1 right
unfolding right after
right-meets-1 = record { ordered = λ g c w. worded-ordered (tests_of g c) (told g c) (told-ordered g c w); stays = λ g c n w e. refused-stays g (told g c) n e }

-- ---- demand 2

right-words : (cs : List Call) (g : Grid) → words_of right g cs ≡ words g cs
unfolding words_of words right
right-words [] g = refl
right-words (c ∷ cs) g = ap (λ (ps : List (Paper Word)). worded (told g c) ∷ ps) (right-words cs (after g c))

right_end : (cs : List Call) (g : Grid) → end_of right g cs ≡ run g cs
unfolding end_of run right
right_end [] g = refl
right_end (c ∷ cs) g = right_end cs (after g c)

pub right-meets-2 : Meets2 right
right-meets-2 = record { answers = λ q cs z. right-words cs (fresh q); leaves = λ q cs z. right_end cs (fresh q) }

-- ---- demand 3

right-log : (cs : List Call) (g : Grid) → log_of right g cs ≡ log g cs
unfolding log_of log right
right-log [] g = refl
right-log (c ∷ cs) g = ap₂ (λ (b : Bool) (es : List Entry). entry c b ∷ es) (granted-is (told g c)) (right-log cs (after g c))

pub right-meets-3 : Meets3 right
right-meets-3 q cs z =
    subst (λ (g : Grid). Demand3 g (log_of right (fresh q) cs)) (sym (right_end cs (fresh q)))
    (subst (λ (es : List Entry). Demand3 (run (fresh q) cs) es) (sym (right-log cs (fresh q))) (demand-3 q z cs))
