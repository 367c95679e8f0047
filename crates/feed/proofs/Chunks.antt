-- How the input is cut does not matter: a row of 11s is a turn for each of them, and what a turn took or refused it takes or refuses as well
-- with more bytes behind it.
use Rattle.std.proofs.Common.{◌≡◌, ℕ, zero, suc, ◌+◌, ◌-◌, ◌*◌, ◌^◌, ◌<◌, Bool, true, false, ◌&&◌, eqb, List, [], ◌∷◌, ◌++◌, length, get_or, sym, refl, ap, ◌∙◌, subst, append_assoc, append-nil, arith, length-append, eq-eqb, ne_eqb}
use lib.ListN.{get_or-append}
use lib.Ieee.{Float}
use Rattle.plan.proofs.Tables.{Words}
use Rattle.lent.specs.Memory.{Memory}
use Rattle.feed.specs.declared.Phase.{Phase}
use Rattle.feed.specs.declared.Phase.TheVariants as phase
use Rattle.feed.specs.declared.Run.{Run}
use Rattle.feed.specs.declared.fields.Standing.{Standing}
use Rattle.feed.specs.declared.fields.Standing.TheVariants as standing
use Rattle.feed.specs.Said.{Said, is_over_in, is_over_of, waiting, refusing}
use Rattle.feed.specs.Fields.{double_at, missing_of, standing_of, is_sample, row_from}
use Rattle.feed.specs.Turns.{TurnEnd, turn_end, stream_by, stream_turn, train_of, row_by, row_turn, renew_of, update_by, update_turn, samples_turn, turn_by, turn_of}
use Rattle.feed.proofs.Rows.{sample-is, row-none, row_one}
use Rattle.feed.proofs.Standings.{wrong-waiting, is_whole, whole-there}
use Rattle.feed.proofs.Splits.{behind, row-split}
use Rattle.feed.proofs.Waits.{Waits, waiting-waits}
use Rattle.feed.proofs.Joined.{number-front, double-front, standing-stays, sample-front, row-longer}

-- ---- a row is a turn for each of its 11s

-- behind a turn, a turn for each evaluation
unfoldable pub singly : List ℕ → TurnEnd → List Float → TurnEnd
singly table o [] = o
singly table o (e ∷ es) = singly table (behind table o (e ∷ [])) es

module _ (table : List ℕ) (large : Words table) (run : Run) (word : run.number < 2 ^ 64) (m : Memory) where
  one_by_one : (ds es : List Float) → singly table (train_of run table ds m) es ≡ train_of run table (ds ++ es) m
  unfolding singly
  one_by_one ds [] = ap (λ (l : List Float). train_of run table l m) (sym (append-nil ds))
  one_by_one ds (e ∷ es) =
      ap (λ (o : TurnEnd). singly table o es) (sym (row-split table large run word ds (e ∷ []) m))
      ∙ one_by_one (ds ++ (e ∷ [])) es
      ∙ ap (λ (l : List Float). train_of run table l m) (append_assoc ds (e ∷ []) es)

  pub row-singly : (e : Float) (es : List Float) → train_of run table (e ∷ es) m ≡ singly table (train_of run table (e ∷ []) m) es
  row-singly e es = sym (one_by_one (e ∷ []) es)

-- ---- samples and updates

no_end : (last : Bool) (n : ℕ) → 0 < n → (last && eqb n 0) ≡ false
no_end true n h = ne_eqb n 0 (λ z. absurd (omega arith))
no_end false n h = refl

module _ (run : Run) (table : List ℕ) (m : Memory) (R C : ℕ) where
  -- whole 11s at the front: their row is the turn
  pub turn-row : (bs : List ℕ) (last : Bool) → run.phase ≡ phase.Samples → is_sample bs 0 ≡ true → turn_of run bs last table m R C ≡ train_of run table (row_from bs 0 256) m
  unfolding turn_of turn_by samples_turn row_turn row_by
  turn-row bs last p s =
      let w = sample-is bs s in
      ap (λ (x : Phase). turn_by x run bs last table m R C) p ∙ rw (no_end last (length bs) (omega (arith, w.there)), w.tagged, is_whole bs 0x11 8 last w)

  -- one 11 alone
  pub turn_one : (bs : List ℕ) (last : Bool) → run.phase ≡ phase.Samples → is_sample bs 0 ≡ true → is_sample bs 11 ≡ false → turn_of run bs last table m R C ≡ train_of run table (double_at bs 3 ∷ []) m
  turn_one bs last p s n =
      turn-row bs last p s
      ∙ ap (λ (l : List Float). train_of run table l m) (row_one bs 0 255 s ∙ ap (λ (l : List Float). double_at bs 3 ∷ l) (row-none bs 11 255 n))

  -- so the turn of a row is the turn of its first 11, then a turn for each of the others
  pub turn-singly : (bs : List ℕ) (last : Bool) → Words table → run.number < 2 ^ 64 → run.phase ≡ phase.Samples → is_sample bs 0 ≡ true
      → turn_of run bs last table m R C ≡ singly table (train_of run table (double_at bs 3 ∷ []) m) (row_from bs 11 255)
  turn-singly bs last large word p s =
      turn-row bs last p s ∙ ap (λ (l : List Float). train_of run table l m) (row_one bs 0 255 s) ∙ row-singly table large run word m (double_at bs 3) (row_from bs 11 255)

  module _ (xs ys : List ℕ) (last : Bool) where
    -- with more bytes behind them, the row of those that were there, then the 11s that follow
    pub row-chunks : Words table → run.number < 2 ^ 64 → run.phase ≡ phase.Samples → is_sample xs 0 ≡ true
        → turn_of run (xs ++ ys) last table m R C ≡ behind table (turn_of run xs false table m R C) (row_from (xs ++ ys) (11 * length (row_from xs 0 256)) (256 - length (row_from xs 0 256)))
    row-chunks large word p s =
        let row = row_from xs 0 256 in
        let rest = row_from (xs ++ ys) (11 * length row) (256 - length row) in
        let at : 0 + 11 * length row ≡ 11 * length row = omega arith in
        turn-row (xs ++ ys) last p (sample-front xs ys 0 s)
        ∙ ap (λ (l : List Float). train_of run table l m) (row-longer xs ys 256 0 ∙ ap (λ (j : ℕ). row ++ row_from (xs ++ ys) j (256 - length row)) at)
        ∙ row-split table large run word row rest m
        ∙ ap (λ (o : TurnEnd). behind table o rest) (sym (turn-row xs false p s))

    -- ---- the stream's field

    stream-same : (o : Standing) → standing_of xs 0x10 10 false ≡ o → (o ≡ standing.Waiting → ⊥) → stream_turn run (xs ++ ys) last ≡ stream_turn run xs false
    unfolding stream_turn stream_by
    stream-same standing.Whole e not_so =
        let h = whole-there xs 0x10 10 false e in
        rw (standing-stays xs ys 0x10 10 last (λ z. not_so (sym e ∙ z)), e, number-front xs ys 8 3 (omega arith), number-front xs ys 2 11 (omega arith))
    stream-same standing.Waiting e not_so = absurd (not_so refl)
    stream-same standing.Wrong e not_so = rw (standing-stays xs ys 0x10 10 last (λ z. not_so (sym e ∙ z)), e)

    stream-waits : run.phase ≡ phase.Stream → standing_of xs 0x10 10 false ≡ standing.Waiting → Waits (stream_turn run xs false)
    unfolding stream_turn stream_by is_over_of is_over_in
    stream-waits p e = rw e (waiting-waits run (ap is_over_in p))

    pub stream-chunks : run.phase ≡ phase.Stream → (Waits (turn_of run xs false table m R C).answer → ⊥) → turn_of run (xs ++ ys) last table m R C ≡ turn_of run xs false table m R C
    unfolding turn_of turn_by
    stream-chunks p not_so =
        let due : (bs : List ℕ) (b : Bool) → turn_of run bs b table m R C ≡ turn_end (stream_turn run bs b) table m = λ bs b. ap (λ (x : Phase). turn_by x run bs b table m R C) p in
        let waits : standing_of xs 0x10 10 false ≡ standing.Waiting → ⊥ = λ e. not_so (subst (λ (o : TurnEnd). Waits o.answer) (sym (due xs false)) (stream-waits p e)) in
        due (xs ++ ys) last ∙ ap (λ (o : Said). turn_end o table m) (stream-same (standing_of xs 0x10 10 false) refl waits) ∙ sym (due xs false)

    -- ---- a 12

    update_same : (o : Standing) → standing_of xs 0x12 16 false ≡ o → (o ≡ standing.Waiting → ⊥) → update_turn run (xs ++ ys) last table m R C ≡ update_turn run xs false table m R C
    unfolding update_turn update_by renew_of
    update_same standing.Whole e not_so =
        let h = whole-there xs 0x12 16 false e in
        rw (standing-stays xs ys 0x12 16 last (λ z. not_so (sym e ∙ z)), e, double-front xs ys 3 (omega arith), double-front xs ys 11 (omega arith))
    update_same standing.Waiting e not_so = absurd (not_so refl)
    update_same standing.Wrong e not_so = rw (standing-stays xs ys 0x12 16 last (λ z. not_so (sym e ∙ z)), e)

    update-waits : run.phase ≡ phase.Samples → standing_of xs 0x12 16 false ≡ standing.Waiting → Waits (update_turn run xs false table m R C).answer
    unfolding update_turn update_by is_over_of is_over_in
    update-waits p e = rw e (waiting-waits run (ap is_over_in p))

    -- no bytes wait too
    some-there : (standing_of xs 0x12 16 false ≡ standing.Waiting → ⊥) → 0 < length xs
    unfolding standing_of missing_of
    some-there not_so = by_length (length xs) refl
      where
        by_length : (n : ℕ) → length xs ≡ n → 0 < length xs
        by_length zero e = absurd (not_so (rw e))
        by_length (suc n) e = omega arith

    -- an 11 of a wrong length
    pub wrong-chunks : run.phase ≡ phase.Samples → get_or xs 0 0 ≡ 0x11 → standing_of xs 0x11 8 false ≡ standing.Wrong → 0 < length xs → turn_of run (xs ++ ys) last table m R C ≡ turn_of run xs false table m R C
    unfolding turn_of turn_by samples_turn row_turn row_by
    wrong-chunks p t e some =
        let l : 0 < length (xs ++ ys) = omega (arith, length-append xs ys) in
        let tag : eqb (get_or (xs ++ ys) 0 0) 0x11 ≡ true = ap (λ (x : ℕ). eqb x 0x11) (get_or-append xs ys 0 0 some) ∙ eq-eqb (get_or xs 0 0) 0x11 t in
        let stays = standing-stays xs ys 0x11 8 last (λ z. wrong-waiting (sym e ∙ z)) in
        let refused = turn_end (refusing (waiting run) 1) table m in
        let longer : turn_of run (xs ++ ys) last table m R C ≡ refused = ap (λ (x : Phase). turn_by x run (xs ++ ys) last table m R C) p ∙ rw (no_end last (length (xs ++ ys)) l, tag, stays, e) in
        let shorter : turn_of run xs false table m R C ≡ refused = ap (λ (x : Phase). turn_by x run xs false table m R C) p ∙ rw (eq-eqb (get_or xs 0 0) 0x11 t, e) in
        longer ∙ sym shorter

    -- what stands at the front is no 11: the same turn
    pub update-chunks : run.phase ≡ phase.Samples → (get_or xs 0 0 ≡ 0x11 → ⊥) → (Waits (turn_of run xs false table m R C).answer → ⊥) → turn_of run (xs ++ ys) last table m R C ≡ turn_of run xs false table m R C
    unfolding turn_of turn_by samples_turn
    update-chunks p other not_so =
        let first : turn_of run xs false table m R C ≡ update_turn run xs false table m R C =
        ap (λ (x : Phase). turn_by x run xs false table m R C) p ∙ rw (ne_eqb (get_or xs 0 0) 0x11 other) in
        let waits : standing_of xs 0x12 16 false ≡ standing.Waiting → ⊥ = λ e. not_so (subst (λ (o : TurnEnd). Waits o.answer) (sym first) (update-waits p e)) in
        let some = some-there waits in
        let l : 0 < length (xs ++ ys) = omega (arith, length-append xs ys) in
        let tag : eqb (get_or (xs ++ ys) 0 0) 0x11 ≡ false = ap (λ (x : ℕ). eqb x 0x11) (get_or-append xs ys 0 0 some) ∙ ne_eqb (get_or xs 0 0) 0x11 other in
        ap (λ (x : Phase). turn_by x run (xs ++ ys) last table m R C) p ∙ rw (no_end last (length (xs ++ ys)) l, tag) (update_same (standing_of xs 0x12 16 false) refl waits) ∙ sym first
