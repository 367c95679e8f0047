-- The input alone decides: fed field by field, a run comes to the same however the input is cut into chunks.
use Rattle.std.proofs.Common.{◌≡◌, ℕ, zero, suc, ◌+◌, ◌-◌, ◌*◌, ◌<◌, ◌≤◌, Bool, true, false, cond, ◌&&◌, eqb, ltb, List, [], ◌∷◌, ◌++◌, length, get_or, drop, sym, refl, ap, ◌∙◌, subst, append_assoc, append-nil, arith, get_or-append-add, ltb-false, ltb-true, eq-eqb, eqb-true}
use borrow.Author.Tests.{eqb-false}
use lib.ListN.{get_or-append, get_or-eq_default}
use lib.Seq.{drop-append-le}
use lib.Ieee.{Float}
use Rattle.doubles.proofs.Truth.{both}
use Rattle.plan.specs.Bounds.{Bytes}
use Rattle.plan.proofs.Flags.{never}
use Rattle.plan.proofs.Here.{pick}
use Rattle.plan.specs.Paper.{Paper, gives, refuses, refuses_at}
use Rattle.lent.specs.Memory.{Memory}
use Rattle.feed.specs.declared.Phase.{Phase}
use Rattle.feed.specs.declared.Phase.TheVariants as phase
use Rattle.feed.specs.declared.Run.{Run}
use Rattle.feed.specs.declared.fields.Standing.{Standing}
use Rattle.feed.specs.declared.fields.Standing.TheVariants as standing
use Rattle.feed.specs.Said.{Line, none, line, is_over_in, is_over_of, waiting}
use Rattle.feed.specs.Fields.{double_at, missing_of, standing_of, is_sample}
use Rattle.feed.specs.Turns.{TurnEnd, turn_end, train_of, row_by, row_turn, update_by, update_turn, samples_turn, turn_by, turn_of}
use Rattle.feed.proofs.Rows.{sample-is, is-sample}
use Rattle.feed.proofs.Standings.{wrong-waiting, wrong-whole, whole_is, is_whole}
use Rattle.feed.proofs.Within.{train-within, turn-within}
use Rattle.feed.proofs.Waits.{Waits, waiting-waits}
use Rattle.feed.proofs.Joined.{double-front, standing-stays, sample-front}
use Rattle.feed.proofs.Chunks.{update-chunks, wrong-chunks, stream-chunks}
use Rattle.feed.proofs.PlanChunks.{plan-chunks}

-- where a feeding stands: the run, the bytes that are left, the table and the grid's memory, and what was told, the last first
pub record Stand : Type 0 where
  pub run : Run
  pub bytes : List ℕ
  pub table : List ℕ
  pub state : Memory
  pub told : List (Paper Line)

unfoldable pub heard : Paper Line → List (Paper Line) → List (Paper Line)
heard (gives none) ls = ls
heard (gives (line s)) ls = gives (line s) ∷ ls
heard (refuses n) ls = refuses n ∷ ls
heard (refuses_at n at) ls = refuses_at n at ∷ ls

abbrev pub after : Stand → TurnEnd → Stand
after s e = record { run = e.answer.run; bytes = drop e.answer.taken s.bytes; table = e.table; state = e.state; told = heard e.answer.told s.told }

-- more bytes behind those that are left
abbrev pub with : Stand → List ℕ → Stand
with s ys = record { run = s.run; bytes = s.bytes ++ ys; table = s.table; state = s.state; told = s.told }

unfoldable pub samples_due : Phase → Bool
samples_due phase.Plan = false
samples_due phase.Stream = false
samples_due phase.Samples = true
samples_due phase.Over = false

over-due : (run : Run) → run.phase ≡ phase.Over → is_over_of run ≡ true
unfolding is_over_of is_over_in
over-due run p = ap is_over_in p

small-append : (xs ys : List ℕ) → Bytes xs → Bytes ys → Bytes (xs ++ ys)
small-append xs ys p q i = by_place (ltb i (length xs)) refl
  where
    by_place : (b : Bool) → ltb i (length xs) ≡ b → get_or (xs ++ ys) i 0 < 256
    by_place true e = rw (get_or-append xs ys 0 i (ltb-true i (length xs) e)) (p i)
    by_place false e =
        let k : length xs + (i - length xs) ≡ i = omega (arith, ltb-false i (length xs) e) in
        let g : get_or (xs ++ ys) i 0 ≡ get_or ys (i - length xs) 0 = ap (λ (j : ℕ). get_or (xs ++ ys) j 0) (sym k) ∙ get_or-append-add xs ys (i - length xs) 0 in
        rw g (q (i - length xs))

-- the chunks as one
unfoldable pub joined : List (List ℕ) → List ℕ
joined [] = []
joined (y ∷ ys) = y ++ joined ys

module _ (R C : ℕ) where
  -- a turn of one field: of a row its first 11
  unfoldable pub single : Bool → Stand → TurnEnd
  single last s =
      cond (samples_due s.run.phase && is_sample s.bytes 0) (train_of s.run s.table (double_at s.bytes 3 ∷ []) s.state)
      (turn_of s.run s.bytes last s.table s.state R C)

  -- field after field, each taken or refused and none waiting
  pub data Fed (last : Bool) : Stand → Stand → Type 0 where
    here : (s : Stand) → Fed last s s
    on : (s t : Stand) → Bytes s.bytes → is_over_of s.run ≡ false → (Waits (single last s).answer → ⊥)
        → Fed last (after s (single last s)) t → Fed last s t

  -- ---- one field with more bytes behind it

  single-other : (last : Bool) (s : Stand) → samples_due s.run.phase ≡ false → single last s ≡ turn_of s.run s.bytes last s.table s.state R C
  unfolding single
  single-other last s e = rw e

  single-none : (last : Bool) (s : Stand) → samples_due s.run.phase ≡ true → is_sample s.bytes 0 ≡ false → single last s ≡ turn_of s.run s.bytes last s.table s.state R C
  unfolding single
  single-none last s e n = rw (e, n)

  single-one : (last : Bool) (s : Stand) → samples_due s.run.phase ≡ true → is_sample s.bytes 0 ≡ true → single last s ≡ train_of s.run s.table (double_at s.bytes 3 ∷ []) s.state
  unfolding single
  single-one last s e n = rw (e, n)

  module _ (s : Stand) (ys : List ℕ) (live : is_over_of s.run ≡ false) where
    abbrev xs : List ℕ
    xs = s.bytes

    abbrev zs : List ℕ
    zs = xs ++ ys

    abbrev turned : Bool → List ℕ → TurnEnd
    turned last bs = turn_of s.run bs last s.table s.state R C

    other-stays : samples_due s.run.phase ≡ false → (Waits (single false s).answer → ⊥) → ((Waits (turned false xs).answer → ⊥) → turned true zs ≡ turned false xs) → single true (with s ys) ≡ single false s
    other-stays e goes same =
        let first = single-other false s e in
        single-other true (with s ys) e ∙ same (λ w. goes (subst (λ (o : TurnEnd). Waits o.answer) (sym first) w)) ∙ sym first

    -- of samples: a whole 11; another field
    module _ (p : s.run.phase ≡ phase.Samples) (due : samples_due s.run.phase ≡ true) where
      one-stays : is_sample xs 0 ≡ true → single true (with s ys) ≡ single false s
      one-stays e =
          single-one true (with s ys) due (sample-front xs ys 0 e)
          ∙ ap (λ (x : Float). train_of s.run s.table (x ∷ []) s.state) (double-front xs ys 3 (omega (arith, (sample-is xs e).there)))
          ∙ sym (single-one false s due e)

      module _ (none_here : is_sample xs 0 ≡ false) (goes : Waits (single false s).answer → ⊥) where
        first : single false s ≡ turned false xs
        first = single-none false s due none_here

        moves : Waits (turned false xs).answer → ⊥
        moves w = goes (subst (λ (o : TurnEnd). Waits o.answer) (sym first) w)

        no-sample : (b : Bool) → is_sample zs 0 ≡ b → (is_sample zs 0 ≡ true → ⊥) → is_sample zs 0 ≡ false
        no-sample true e h = absurd (h e)
        no-sample false e h = e

        both-turn : (is_sample zs 0 ≡ true → ⊥) → turned true zs ≡ turned false xs → single true (with s ys) ≡ single false s
        both-turn h same = single-none true (with s ys) due (no-sample (is_sample zs 0) refl h) ∙ same ∙ sym first

        -- nothing there waits, and so does an 11 that is cut
        empty-waits : length xs ≡ 0 → turned false xs ≡ turn_end (waiting s.run) s.table s.state
        unfolding turn_of turn_by samples_turn update_turn update_by standing_of missing_of
        empty-waits e = ap (λ (x : Phase). turn_by x s.run xs false s.table s.state R C) p ∙ rw (get_or-eq_default xs 0 {n = 0} (omega arith), e)

        cut-waits : get_or xs 0 0 ≡ 0x11 → standing_of xs 0x11 8 false ≡ standing.Waiting → turned false xs ≡ turn_end (waiting s.run) s.table s.state
        unfolding turn_of turn_by samples_turn row_turn row_by
        cut-waits t e = ap (λ (x : Phase). turn_by x s.run xs false s.table s.state R C) p ∙ rw (eq-eqb (get_or xs 0 0) 0x11 t, e)

        not-waiting : turned false xs ≡ turn_end (waiting s.run) s.table s.state → ⊥
        not-waiting e = moves (subst (λ (o : TurnEnd). Waits o.answer) (sym e) (waiting-waits s.run live))

        some_left : (n : ℕ) → length xs ≡ n → 0 < length xs
        some_left zero e = absurd (not-waiting (empty-waits e))
        some_left (suc n) e = omega arith

        some : 0 < length xs
        some = some_left (length xs) refl

        eleven-stays : get_or xs 0 0 ≡ 0x11 → (o : Standing) → standing_of xs 0x11 8 false ≡ o → single true (with s ys) ≡ single false s
        eleven-stays t standing.Whole e = never (sym (is-sample xs (whole_is xs 0x11 8 false e)) ∙ none_here)
        eleven-stays t standing.Waiting e = absurd (not-waiting (cut-waits t e))
        eleven-stays t standing.Wrong e =
            let stays = standing-stays xs ys 0x11 8 true (λ z. wrong-waiting (sym e ∙ z)) in
            both-turn (λ z. wrong-whole (sym e ∙ sym stays ∙ is_whole zs 0x11 8 true (sample-is zs z))) (wrong-chunks s.run s.table s.state R C xs ys true p t e some)

        none_stays : (b : Bool) → eqb (get_or xs 0 0) 0x11 ≡ b → single true (with s ys) ≡ single false s
        none_stays true e = eleven-stays (eqb-true (get_or xs 0 0) 0x11 e) (standing_of xs 0x11 8 false) refl
        none_stays false e =
            let other = eqb-false (get_or xs 0 0) 0x11 e in
            both-turn (λ z. other (sym (get_or-append xs ys 0 0 some) ∙ eqb-true (get_or zs 0 0) 0x11 (sample-is zs z).tagged)) (update-chunks s.run s.table s.state R C xs ys true p other moves)

      samples-stay : (b : Bool) → is_sample xs 0 ≡ b → (Waits (single false s).answer → ⊥) → single true (with s ys) ≡ single false s
      samples-stay true e goes = one-stays e
      samples-stay false e goes = none_stays e goes (eqb (get_or xs 0 0) 0x11) refl

    single-stays : (d : Phase) → s.run.phase ≡ d → Bytes xs → (Waits (single false s).answer → ⊥) → single true (with s ys) ≡ single false s
    unfolding samples_due
    single-stays phase.Plan p small goes =
        other-stays (ap samples_due p) goes (λ h. plan-chunks s.run s.table s.state xs ys R C true small p h)
    single-stays phase.Stream p small goes = other-stays (ap samples_due p) goes (λ h. stream-chunks s.run s.table s.state R C xs ys true p h)
    single-stays phase.Samples p small goes = samples-stay p (ap samples_due p) (is_sample xs 0) refl goes
    single-stays phase.Over p small goes = never (sym (over-due s.run p) ∙ live)

  -- ---- how many bytes a field takes

  single-within : (last : Bool) (s : Stand) → Bytes s.bytes → (single last s).answer.taken ≤ length s.bytes
  unfolding single
  single-within last s small =
      pick (λ (o : TurnEnd). o.answer.taken ≤ length s.bytes) (samples_due s.run.phase && is_sample s.bytes 0)
      (λ e. train-within s.run s.table (double_at s.bytes 3 ∷ []) s.state (length s.bytes) (one-fits (sample-is s.bytes (both (samples_due s.run.phase) (is_sample s.bytes 0) e).1).there))
      (λ e. turn-within s.run s.bytes last s.table s.state R C small)
    where
      one-fits : {n : ℕ} → 11 ≤ n → 11 * length (double_at s.bytes 3 ∷ []) ≤ n
      one-fits h = omega arith

  -- ---- chunks

  -- what was fed is fed as well with the rest of the input behind it
  pub fed-longer : (s t : Stand) (ys : List ℕ) → Bytes ys → Fed false s t → Fed true (with s ys) (with t ys)
  fed-longer s t ys small (here u) = here (with s ys)
  fed-longer s t ys small (on u v bytes live goes rest) =
      let e = single-stays u ys live u.run.phase refl bytes goes in
      let o = single false u in
      let next : after (with u ys) (single true (with u ys)) ≡ with (after u o) ys =
      ap (after (with u ys)) e
      ∙ ap (λ (l : List ℕ). record { run = o.answer.run; bytes = l; table = o.table; state = o.state; told = heard o.answer.told u.told })
      (drop-append-le o.answer.taken u.bytes ys (single-within false u bytes)) in
      on (with u ys) (with v ys) (small-append u.bytes ys bytes small) live (λ w. goes (subst (λ (x : TurnEnd). Waits x.answer) e w))
      (subst (λ (x : Stand). Fed true x (with v ys)) (sym next) (fed-longer (after u o) v ys small rest))

  pub fed-on : (last : Bool) (s t u : Stand) → Fed last s t → Fed last t u → Fed last s u
  fed-on last s t u (here x) k = k
  fed-on last s t u (on x y bytes live goes rest) k = on x u bytes live goes (fed-on last (after x (single last x)) y u rest k)

  -- a program's reading: what is there is fed as far as it goes, then a chunk comes; behind the last one the input ends
  pub data Chunked : Stand → List (List ℕ) → Stand → Type 0 where
    ends : (s t : Stand) → Fed true s t → Chunked s [] t
    more : (s u t : Stand) (y : List ℕ) (ys : List (List ℕ)) → Bytes y → Fed false s u → Chunked (with u y) ys t → Chunked s (y ∷ ys) t

  chunks-small : (s t : Stand) (ys : List (List ℕ)) → Chunked s ys t → Bytes (joined ys)
  unfolding joined
  chunks-small s t ys (ends u v f) = λ i. omega arith
  chunks-small s t ys (more u v w y rest small f k) = small-append y (joined rest) small (chunks-small (with v y) w rest k)

  -- it comes to what the whole input at once comes to
  pub chunked-whole : (s t : Stand) (ys : List (List ℕ)) → Chunked s ys t → Fed true (with s (joined ys)) t
  unfolding joined
  chunked-whole s t ys (ends u v f) = subst (λ (l : List ℕ). Fed true (record { run = u.run; bytes = l; table = u.table; state = u.state; told = u.told }) v) (sym (append-nil u.bytes)) f
  chunked-whole s t ys (more u v w y rest small f k) =
      let all = joined rest in
      let first = fed-longer u v (y ++ all) (small-append y all small (chunks-small (with v y) w rest k)) f in
      let second = subst (λ (l : List ℕ). Fed true (record { run = v.run; bytes = l; table = v.table; state = v.state; told = v.told }) w) (append_assoc v.bytes y all) (chunked-whole (with v y) w rest k) in
      fed-on true (with u (y ++ all)) (with v (y ++ all)) w first second

  -- ---- one end

  -- nothing more is taken
  abbrev pub Ended : Stand → Type 0
  Ended s = is_over_of s.run ≡ false → Waits (single true s).answer

  fed-one : (s t u : Stand) → Fed true s t → Fed true s u → Ended t → Ended u → t ≡ u
  fed-one s t u (here x) (here y) p q = refl
  fed-one s t u (here x) (on y z bytes live goes rest) p q = absurd (goes (p live))
  fed-one s t u (on x y bytes live goes rest) (here z) p q = absurd (goes (q live))
  fed-one s t u (on x y bytes live goes rest) (on z w bytes' live' goes' rest') p q = fed-one (after x (single true x)) y w rest rest' p q

  -- however the same input is cut, the end is the same: the run, the memory, and all that was told
  pub chunks-one : (s t u : Stand) (ys zs : List (List ℕ)) → joined ys ≡ joined zs → Chunked s ys t → Chunked s zs u → Ended t → Ended u → t ≡ u
  chunks-one s t u ys zs e f g p q =
      fed-one (with s (joined zs)) t u (subst (λ (l : List ℕ). Fed true (with s l) t) e (chunked-whole s t ys f)) (chunked-whole s u zs g) p q
