-- The plan's turn with more bytes behind it: where it did not wait it stays.
use Rattle.std.proofs.Common.{◌≡◌, ℕ, ◌<◌, ◌≤◌, Bool, true, false, not, ◌&&◌, eqb, ltb, leb, List, ◌++◌, length, sym, refl, ap, ◌∙◌, subst, arith, length-append, ltb-false, ltb-true, eq-eqb, ne_eqb, le-leb, leb-false, leb-true}
use borrow.Author.Tests.{lt-leb}
use lib.Seq.{take-append-le}
use Rattle.plan.specs.declared.Place.{Place}
use Rattle.plan.specs.Bounds.{Bytes}
use Rattle.plan.specs.Plan.{Tree}
use Rattle.plan.specs.Needs.{needs_of}
use Rattle.plan.specs.Reading.{Out}
use Rattle.plan.specs.Paper as plan
use Rattle.plan.specs.Calls.{begin, grid_of, measured_prefix, measure_prefix_of}
use Rattle.plan.proofs.Accepts.{sound, sound-inside}
use Rattle.plan.proofs.Calls.{begin-inside, grid-read}
use Rattle.lent.specs.Memory.{Memory}
use Rattle.feed.specs.declared.Phase.{Phase}
use Rattle.feed.specs.declared.Phase.TheVariants as phase
use Rattle.feed.specs.declared.Run.{Run}
use Rattle.feed.specs.Said.{Said, is_over_in, is_over_of, waiting, refusing_at}
use Rattle.feed.specs.Turns.{TurnEnd, turn_end, all_in, unread_of, found_of, plan_by, plan_turn, turn_by, turn_of}
use Rattle.feed.proofs.Waits.{Waits, waiting-waits}
use Rattle.feed.proofs.Prefixes.{prefix-reach}
use Rattle.feed.proofs.Decided.{grid-near}
use Rattle.feed.proofs.SettledPlan.{Settles, grid-stays}

unread-refuses : (run : Run) (all : Bool) (n at : ℕ) → (n ≡ 1 → ⊥) → unread_of run all n at ≡ refusing_at (waiting run) n at
unfolding unread_of
unread-refuses run true n at h = refl
unread-refuses run false n at h = rw (ne_eqb n 1 h)

all_in_lem : (bs : List ℕ) (last : Bool) → 131072 ≤ length bs → all_in bs last ≡ true
unfolding all_in
all_in_lem bs true h = refl
all_in_lem bs false h = le-leb 131072 (length bs) h

no_end : (all : Bool) (a b : ℕ) → a < b → (not all && eqb a b) ≡ false
no_end true a b h = refl
no_end false a b h = ne_eqb a b (λ z. absurd (omega arith))

module _ (run : Run) (table : List ℕ) (m : Memory) (xs ys : List ℕ) where
  -- ---- a settled plan's turn is the same

  found-same : (all : Bool) (r : plan.PlanRead) → r.end < length xs → found_of run (xs ++ ys) all r table m ≡ found_of run xs false r table m
  unfolding found_of
  found-same all r h =
      let l : r.end < length (xs ++ ys) = omega (arith, length-append xs ys) in
      rw (no_end all r.end (length (xs ++ ys)) l, no_end false r.end (length xs) h, take-append-le r.end xs ys (omega arith))

  by_out : (all : Bool) (o : Out) → Settles xs ys o → plan_by run (xs ++ ys) all table m (measured_prefix o) ≡ plan_by run xs false table m (measured_prefix o)
  unfolding plan_by Settles
  by_out all (Out.stops n at) h = ap (λ (o : Said). turn_end o table m) (unread-refuses run all n at h ∙ sym (unread-refuses run false n at h))
  by_out all (Out.reads t q) h = found-same all (plan.plan_read q.at (needs_of q.tally)) h

  -- ---- a turn that did not wait is settled

  module _ (small : Bytes xs) (few : length xs < 131072) (due : is_over_of run ≡ false) where
    undecided : all_in xs false ≡ false
    unfolding all_in
    undecided = lt-leb 131072 (length xs) few

    stopped-waits : (at : ℕ) → grid_of xs ≡ Out.stops 1 at → (plan_turn run xs false table m).answer ≡ waiting run
    unfolding plan_turn plan_by measure_prefix_of unread_of
    stopped-waits at g = rw (g, undecided)

    ended-waits : (t : Tree) (q : Place) → grid_of xs ≡ Out.reads t q → length xs ≤ q.at → (plan_turn run xs false table m).answer ≡ waiting run
    unfolding plan_turn plan_by measure_prefix_of found_of
    ended-waits t q g h =
        let i = sound-inside (begin-inside xs small refl) (sound xs small 4 begin t q (grid-read xs t q g).read) in
        let e : q.at ≡ length xs = omega (arith, i.reach) in
        rw (g, undecided, eq-eqb q.at (length xs) e)

    module _ (goes : Waits (plan_turn run xs false table m).answer → ⊥) where
      waits : (plan_turn run xs false table m).answer ≡ waiting run → ⊥
      waits e = goes (subst Waits (sym e) (waiting-waits run due))

      read-settled : (t : Tree) (q : Place) → grid_of xs ≡ Out.reads t q → (b : Bool) → ltb q.at (length xs) ≡ b → q.at < length xs
      read-settled t q g true e = ltb-true q.at (length xs) e
      read-settled t q g false e = absurd (waits (ended-waits t q g (ltb-false q.at (length xs) e)))

      settled : (o : Out) → grid_of xs ≡ o → Settles xs ys o
      unfolding Settles
      settled (Out.stops n at) g = λ z. waits (stopped-waits at (g ∙ ap (λ (k : ℕ). Out.stops k at) z))
      settled (Out.reads t q) g = read-settled t q g (ltb q.at (length xs)) refl

      plan-same : (last : Bool) → plan_turn run (xs ++ ys) last table m ≡ plan_turn run xs false table m
      unfolding plan_turn measure_prefix_of
      plan-same last =
          let h = settled (grid_of xs) refl in
          ap (λ (o : Out). plan_by run (xs ++ ys) (all_in (xs ++ ys) last) table m (measured_prefix o)) (grid-stays xs ys h)
          ∙ by_out (all_in (xs ++ ys) last) (grid_of xs) h
          ∙ ap (λ (b : Bool). plan_by run xs b table m (measured_prefix (grid_of xs))) (sym undecided)

  -- ---- bytes that decide it

  module _ (small : Bytes xs) (many : 131072 ≤ length xs) where
    decided-by : (p : plan.Paper plan.PlanRead) → measure_prefix_of xs ≡ p → plan_by run (xs ++ ys) true table m p ≡ plan_by run xs true table m p
    unfolding plan_by found_of
    decided-by (plan.gives r) e = rw (take-append-le r.end xs ys (prefix-reach xs r small e))
    decided-by (plan.refuses n) e = refl
    decided-by (plan.refuses_at n at) e = refl

    decided-same : (last : Bool) → plan_turn run (xs ++ ys) last table m ≡ plan_turn run xs false table m
    unfolding plan_turn measure_prefix_of
    decided-same last =
        let l : 131072 ≤ length (xs ++ ys) = omega (arith, length-append xs ys) in
        let e = measured_prefix (grid_of xs) in
        ap (λ (o : Out). plan_by run (xs ++ ys) (all_in (xs ++ ys) last) table m (measured_prefix o)) (grid-near xs ys small many)
        ∙ ap (λ (b : Bool). plan_by run (xs ++ ys) b table m e) (all_in_lem (xs ++ ys) last l)
        ∙ decided-by e refl
        ∙ ap (λ (b : Bool). plan_by run xs b table m e) (sym (all_in_lem xs false many))

  -- ---- both

  by_length : Bytes xs → is_over_of run ≡ false → (Waits (plan_turn run xs false table m).answer → ⊥) → (last b : Bool) → leb 131072 (length xs) ≡ b → plan_turn run (xs ++ ys) last table m ≡ plan_turn run xs false table m
  by_length small due goes last true e = decided-same small (leb-true 131072 (length xs) e) last
  by_length small due goes last false e = plan-same small (leb-false 131072 (length xs) e) due goes last

  pub plan-chunks : (R C : ℕ) (last : Bool) → Bytes xs → run.phase ≡ phase.Plan → (Waits (turn_of run xs false table m R C).answer → ⊥)
      → turn_of run (xs ++ ys) last table m R C ≡ turn_of run xs false table m R C
  unfolding turn_of turn_by is_over_of is_over_in
  plan-chunks R C last small p goes =
      let due : (bs : List ℕ) (b : Bool) → turn_of run bs b table m R C ≡ plan_turn run bs b table m = λ bs b. ap (λ (x : Phase). turn_by x run bs b table m R C) p in
      due (xs ++ ys) last
      ∙ by_length small (ap is_over_in p) (λ w. goes (subst (λ (o : TurnEnd). Waits o.answer) (sym (due xs false)) w)) last (leb 131072 (length xs)) refl
      ∙ sym (due xs false)
