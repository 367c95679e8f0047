-- Demand 1: each public call is refused with N exactly when N is the first test in its order that holds; all lent memory and the stream are
-- unchanged then; it is answered otherwise.
use Rattle.std.specs.Prelude.{◌≡◌, List, ◌∷◌, ◌++◌, ℕ, ◌+◌, ◌<◌, length, get_or, Float}
use Rattle.doubles.specs.Paper.{Paper, gives, refuses}
use Rattle.stream.specs.declared.MonteCarloRng.{MonteCarloRng}
use Rattle.plan.specs.Paper as plan
use Rattle.model.specs.Draw.{draw_grid}
use Rattle.lent.specs.declared.Sample.{Sample}
use Rattle.lent.specs.declared.Region.{Region}
use Rattle.lent.specs.Memory.{Memory}
use Rattle.lent.specs.Sampled.{entries, sample_of, laid_drawing}
use Rattle.lent.specs.Probed.{coordinates_of, path_from}
use Rattle.lent.specs.State.{root_of, own_of}
use Rattle.lent.specs.Calls.{drawn_as, draw_of, summary_of, live_of, live_of_bin, fresh_of, clone_of, probe_of, train_call_of, update_of, mergeable_of, merge_into_of}
use Rattle.lent.specs.Batched.{batch_end, batched, steps_of, batch_of}
use Rattle.grid.specs.History.{numbered}
use Rattle.grid.specs.Fields.{fresh_tests}
use Rattle.grid.specs.Order.{First, NoneHolds, Ordered, state_tests, room_tests, pair_tests, live_tests, along_tests, probe_tests, train_tests, update_tests, match_tests, merge_tests}

-- a plan's answer without its offset
unfoldable pub at_field : {A : Type 0} → plan.Paper A → Paper A
at_field (plan.gives x) = gives x
at_field (plan.refuses n) = refuses n
at_field (plan.refuses_at n at) = refuses n

-- a call that answers a number, and what it leaves of what was there: nothing changes where the number is not 0
abbrev pub Guarded : {X : Type 0} → ℕ → X → X → Type 0
Guarded answer left was = (answer ≡ 0 → ⊥) → left ≡ was

-- the public calls; a grid's memory is lent as `m` with its table. Reading calls are lent it by a shared reference, so it stays
pub record Demand1 (table : List ℕ) (m : Memory) : Type 0 where
  pub draw : (s : MonteCarloRng) → Ordered (state_tests table m) (draw_of table m.reals m.counts s)
  pub draw-stays : (s : MonteCarloRng) (n : ℕ) → draw_of table m.reals m.counts s ≡ refuses n
      → ((drawn_as s (draw_of table m.reals m.counts s)).refused ≡ n) × ((drawn_as s (draw_of table m.reals m.counts s)).drawing.stream ≡ s)
  pub summary : Ordered (state_tests table m) (summary_of table m.reals m.counts)
  pub live-estimate : Ordered (state_tests table m ++ live_tests (own_of (root_of table m.reals m.counts))) (live_of table m.reals m.counts)
  pub live-estimate-of-bin : (path : List ℕ) (levels : ℕ)
      → Ordered (state_tests table m ++ along_tests (root_of table m.reals m.counts) (entries 0 path 0 levels)) (live_of_bin table m.reals m.counts path levels)
  pub fresh : (bs : List ℕ) → Ordered (fresh_tests bs table m) (at_field (fresh_of bs table m).answer)
  pub fresh-stays : (bs : List ℕ) (n : ℕ) → at_field (fresh_of bs table m).answer ≡ refuses n → ((fresh_of bs table m).table ≡ table) × ((fresh_of bs table m).state ≡ m)
  pub clone : (to : Memory) → Ordered (room_tests table m (length to.reals) (length to.counts)) (numbered (clone_of table m to).answer)
  pub clone-stays : (to : Memory) → Guarded (clone_of table m to).answer (clone_of table m to).copy to
  pub probe : (r : Region) → Ordered (state_tests table m ++ probe_tests (root_of table m.reals m.counts) (path_from r 0) (coordinates_of r.coordinates)) (probe_of table m.reals m.counts r)
  pub train : (s : Sample) (e : Float) (k : ℕ) → Ordered (state_tests table m ++ train_tests (root_of table m.reals m.counts) (sample_of s) e k) (numbered (train_call_of table m s e k).answer)
  pub train-stays : (s : Sample) (e : Float) (k : ℕ) → Guarded (train_call_of table m s e k).answer (train_call_of table m s e k).state m
  pub is-mergeable : (other : List ℕ) (o : Memory)
      → Ordered (pair_tests table m other o ++ match_tests (root_of table m.reals m.counts) (root_of other o.reals o.counts)) (numbered (mergeable_of table m.reals m.counts other o.reals o.counts))
  pub merge : (other : List ℕ) (o : Memory)
      → Ordered (pair_tests table m other o ++ merge_tests (root_of table m.reals m.counts) (root_of other o.reals o.counts)) (numbered (merge_into_of table m other o).answer)
  pub merge-stays : (other : List ℕ) (o : Memory) → Guarded (merge_into_of table m other o).answer (merge_into_of table m other o).state m
  pub update : ((i : ℕ) → get_or table i 0 < 0x1_0000_0000_0000_0000) → (bins_rate axes_rate : Float) (R C : ℕ)
      → Ordered (room_tests table m R C ++ update_tests bins_rate axes_rate (root_of table m.reals m.counts)) (numbered (update_of table bins_rate axes_rate R C m).answer)
  pub update-stays : ((i : ℕ) → get_or table i 0 < 0x1_0000_0000_0000_0000) → (bins_rate axes_rate : Float) (R C : ℕ) → Guarded (update_of table bins_rate axes_rate R C m).answer (update_of table bins_rate axes_rate R C m).state m
  -- draw_and_train is refused for the state before anything; then each evaluation's drawn sample is a training's, and what was trained
  -- before a refused one stays
  pub draw-and-train : (s : MonteCarloRng) (es : List Float) (k n : ℕ) → First (state_tests table m) n → batch_of table m s es k ≡ batch_end (batched n 0 s) m
  pub draw-and-train-starts : (s : MonteCarloRng) (es : List Float) (k : ℕ) → NoneHolds (state_tests table m) → batch_of table m s es k ≡ steps_of table es m s k 0
  pub draw-and-train-refuses : (s : MonteCarloRng) (e : Float) (es : List Float) (k done n : ℕ) → NoneHolds (state_tests table m)
      → First (train_tests (root_of table m.reals m.counts) (sample_of (laid_drawing (draw_grid (root_of table m.reals m.counts) s)).sample) e k) n
      → steps_of table (e ∷ es) m s k done ≡ batch_end (batched n done s) m
  pub draw-and-train-goes-on : (s : MonteCarloRng) (e : Float) (es : List Float) (k done : ℕ) → NoneHolds (state_tests table m)
      → NoneHolds (train_tests (root_of table m.reals m.counts) (sample_of (laid_drawing (draw_grid (root_of table m.reals m.counts) s)).sample) e k)
      → steps_of table (e ∷ es) m s k done
      ≡ steps_of table es (train_call_of table m (laid_drawing (draw_grid (root_of table m.reals m.counts) s)).sample e k).state (draw_grid (root_of table m.reals m.counts) s).stream (k + 1) (done + 1)
