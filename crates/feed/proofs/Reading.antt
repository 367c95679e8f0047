-- A program that reads chunk by chunk and turns as far as it goes: its end, and all that it tells, depend on the input alone.
use Rattle.std.proofs.Common.{◌≡◌, ℕ, ◌^◌, ◌<◌, Bool, true, false, ◌&&◌, List, [], ◌∷◌, subst}
use Rattle.doubles.proofs.Truth.{both}
use Rattle.plan.specs.Bounds.{Bytes}
use Rattle.plan.proofs.Here.{pick}
use Rattle.plan.proofs.Tables.{Words}
use Rattle.feed.specs.Said.{is_over_of}
use Rattle.feed.specs.Fields.{is_sample, row_from}
use Rattle.feed.specs.Turns.{TurnEnd, turn_of}
use Rattle.feed.proofs.Rows.{sample-is, row-some}
use Rattle.feed.proofs.Standings.{is_whole}
use Rattle.feed.proofs.Waits.{Waits, train-not}
use Rattle.feed.proofs.Chunks.{turn-row}
use Rattle.feed.proofs.Feeding.{Stand, after, with, samples_due, single, Fed, here, fed-on, Chunked, ends, more, joined, Ended, chunks-one}
use Rattle.feed.proofs.Turning.{due-samples, turn-fed}

-- what is known of what is lent: bytes and words
pub record Lent (s : Stand) : Type 0 where
  pub small : Bytes s.bytes
  pub words : Words s.table
  pub word : s.run.number < 2 ^ 64

module _ (R C : ℕ) where
  abbrev pub turned : Bool → Stand → TurnEnd
  turned last s = turn_of s.run s.bytes last s.table s.state R C

  -- turn after turn, none waiting
  pub data Poured (last : Bool) : Stand → Stand → Type 0 where
    stays : (s : Stand) → Poured last s s
    turns : (s t : Stand) → Lent s → is_over_of s.run ≡ false → (Waits (turned last s).answer → ⊥) → Poured last (after s (turned last s)) t → Poured last s t

  -- what is there is turned as far as it goes, then a chunk comes; behind the last one the input ends
  pub data Reads : Stand → List (List ℕ) → Stand → Type 0 where
    finishes : (s t : Stand) → Poured true s t → Reads s [] t
    continues : (s u t : Stand) (y : List ℕ) (ys : List (List ℕ)) → Bytes y → Poured false s u → Reads (with u y) ys t → Reads s (y ∷ ys) t

  -- nothing more is taken: the run is over, or waits at the input's end
  abbrev pub Finished : Stand → Type 0
  Finished s = is_over_of s.run ≡ false → Waits (turned true s).answer

  poured-fed : (last : Bool) (s t : Stand) → Poured last s t → Fed R C last s t
  poured-fed last s t (stays u) = here s
  poured-fed last s t (turns u v l live goes rest) =
      fed-on R C last u (after u (turned last u)) v (turn-fed R C last u l.words l.word l.small live goes) (poured-fed last (after u (turned last u)) v rest)

  reads-chunked : (s t : Stand) (ys : List (List ℕ)) → Reads s ys t → Chunked R C s ys t
  reads-chunked s t ys (finishes u v p) = ends u v (poured-fed true u v p)
  reads-chunked s t ys (continues u v w y rest small p k) = more u v w y rest small (poured-fed false u v p) (reads-chunked (with v y) w rest k)

  -- a turn that waits is a field that waits
  finished-ended : (s : Stand) → Finished s → Ended R C s
  unfolding single
  finished-ended s f live =
      pick (λ (o : TurnEnd). Waits o.answer) (samples_due s.run.phase && is_sample s.bytes 0)
      (λ e.
      let k = both (samples_due s.run.phase) (is_sample s.bytes 0) e in
      let row = turn-row s.run s.table s.state R C s.bytes true (due-samples s.run.phase k.0) k.1 in
      train-not s.run s.table (row_from s.bytes 0 256) s.state (row-some s.bytes true 255 (is_whole s.bytes 0x11 8 true (sample-is s.bytes k.1)))
      (subst (λ (o : TurnEnd). Waits o.answer) row (f live)))
      (λ e. f live)

  -- the law: two readings of one input, however it is cut, finish in the same run and memory, with the same lines and the same refusal told
  pub reads-one : (s t u : Stand) (ys zs : List (List ℕ)) → joined ys ≡ joined zs → Reads s ys t → Reads s zs u → Finished t → Finished u → t ≡ u
  reads-one s t u ys zs e f g p q = chunks-one R C s t u ys zs e (reads-chunked s t ys f) (reads-chunked s u zs g) (finished-ended t p) (finished-ended u q)
