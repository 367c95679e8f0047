-- Each call on lent memory is the model's call on the grid that is read there: the same answer, the model's grid afterwards, and nothing
-- stands against the memory that it leaves.
use mathlib.Core.Path.{◌≡◌, refl, sym, ap, ap₂, ◌∙◌, subst}
use mathlib.Core.Bool.{Bool, true, false, not, ◌&&◌, cond}
use mathlib.Core.List.{List}
use Prim.Native.Nat.{ℕ, ◌+◌, ◌≤◌}
use native.Mathlib.Omega.{arith}
use borrow.Author.Tests.{eqb-true, eqb-false, ne_eqb, le-ltb}
use lib.Dec.{eqb}
use lib.ListN.{length, get_or, set, replicate, length-replicate, length-set}
use lib.Ieee.{Float}
use Rattle.doubles.specs.Numbers.{zero64}
use Rattle.doubles.specs.Paper.{Paper, gives, refuses}
use Rattle.stream.specs.declared.MonteCarloRng.{MonteCarloRng}
use Rattle.plan.specs.declared.Needs.{Needs}
use Rattle.plan.specs.Paper as plan
use Rattle.plan.specs.Calls.{sizes_of}
use Rattle.plan.proofs.Tables.{Words}
use Rattle.model.specs.Grid.{Grid, copy_grid}
use Rattle.model.specs.Sound.{sound, kept_grid}
use Rattle.model.specs.Draw.{draw_grid}
use Rattle.model.specs.Probe.{probe_grid}
use Rattle.model.specs.Train.{train_of}
use Rattle.model.specs.Merge.{same_shape, equal_grid, merge_grid, merge_fault, merge_of}
use Rattle.model.specs.Update as update
use Rattle.accumulator.specs.Calls.{summarize_of, live_estimate_of}
use Rattle.lent.specs.declared.Sample.{Sample}
use Rattle.lent.specs.declared.Region.{Region}
use Rattle.lent.specs.Memory.{Memory, memory}
use Rattle.lent.specs.Sampled.{entries, sample_of}
use Rattle.lent.specs.Probed.{coordinates_of, path_from}
use Rattle.lent.specs.Bins.{estimate_along}
use Rattle.lent.specs.Absorbed.{objection_of}
use Rattle.lent.specs.State.{root_of, own_of, judged_by, judged_to, fault_by, state_fault, both_judged, second_by, first_by, pair_fault}
use Rattle.lent.specs.Tree.{axes_place, Laid}
use Rattle.lent.specs.Cleared.{cleared_memory, cleared_at, cleared_axes, cleared_own, cleared_root}
use Rattle.lent.specs.United.{united_grid}
use Rattle.lent.specs.Calls.{StateEnd, state_end, draw_of, summary_of, live_of, live_of_bin, probe_of, train_call_of, updated_by, update_of, mergeable_of, united_by, merge_into_of, CloneEnd, clone_end, copied_to, cloned_by, clone_by, clone_of}
use Rattle.lent.proofs.States.{Clear, clear, answered-last, stopped, went_on}
use Rattle.lent.proofs.Batches.{clear-again}
use Rattle.lent.proofs.Laid.{root-laid, laid-axes, laid-bins}
use Rattle.lent.proofs.Sounds.{node-axes}
use Rattle.lent.proofs.Samples.{sound-stands}
use Rattle.lent.proofs.Copies.{cleared-below}
use Rattle.lent.proofs.Clones.{ready, root-axes, root-bins, front_length, copy-sound}
use Rattle.lent.proofs.Cloned.{own-within, clone-copies}
use Rattle.lent.proofs.Objections.{grants, train-objection}
use Rattle.lent.proofs.AbsorbedTree.{train-trains}
use Rattle.lent.proofs.UpdatedState.{Called, update-updates}
use Rattle.lent.proofs.UnitedTree.{merge-read}
use Rattle.grid.specs.History as model
use Rattle.grid.specs.History.{Call, Word, drawing, weight, summary, estimate, reading, leaving, numbered, matched, told, onward, after}
use Rattle.grid.specs.Lent.{Deed, draws, probes, sums, estimates, estimates_bin, trains, updates, matches, merges, copies, mapped, reply_of, copy_or, state_of, room_by, room_fault, lent, plainly, besides, seen, worded}
use Rattle.grid.proofs.Kept.{refused_none, numbered-refuses, sound-copied}

-- every other table lent is of 64-bit words, as this one
unfoldable pub Wordy : Deed → Type 0
Wordy (draws s) = Unit
Wordy (probes r) = Unit
Wordy sums = Unit
Wordy estimates = Unit
Wordy (estimates_bin path levels) = Unit
Wordy (trains s e k) = Unit
Wordy (updates bins_rate axes_rate R C) = Unit
Wordy (matches other o) = Words other
Wordy (merges other o) = Words other
Wordy (copies to) = Unit

-- ---- answers

mapped-reading : {A : Type 0} (f : A → Word) (g : Grid) (p : Paper A) → mapped f p ≡ worded (reading f g p)
unfolding mapped reading worded
mapped-reading f g (gives x) = refl
mapped-reading f g (refuses n) = refl

reading-stays : {A : Type 0} (f : A → Word) (g : Grid) (p : Paper A) → onward g (reading f g p) ≡ g
unfolding onward reading
reading-stays f g (gives x) = refl
reading-stays f g (refuses n) = refl

matched-words : (g : Grid) (p : Paper Word) → p ≡ worded (matched g p)
unfolding matched worded
matched-words g (gives w) = refl
matched-words g (refuses n) = refl

matched-stays : (g : Grid) (p : Paper Word) → onward g (matched g p) ≡ g
unfolding matched onward
matched-stays g (gives w) = refl
matched-stays g (refuses n) = refl

-- a ladder of numbers above 0 refuses with none that is 0
Above : {A : Type 0} → Paper A → Type 0
Above (gives x) = Unit
Above (refuses n) = n ≡ 0 → ⊥

above-next : {A : Type 0} (b : Bool) (n : ℕ) (q : Paper A) → (n ≡ 0 → ⊥) → Above q → Above (cond b (refuses n) q)
unfolding Above
above-next true n q z h = z
above-next false n q z h = h

above-last : {A : Type 0} (x : A) → Above (gives x)
unfolding Above
above-last x = tt

above-number : {A : Type 0} (n : ℕ) (p : Paper A) → p ≡ refuses n → Above p → n ≡ 0 → ⊥
unfolding Above
above-number n p e h = subst Above e h

merge-above : (g o : Grid) → Above (merge_of g o)
unfolding merge_of
merge-above g o =
    above-next (not (same_shape g o)) 4 _ (λ z. omega (arith, z)) (above-next (not (equal_grid g o)) 11 _ (λ z. omega (arith, z)) (above-next (not (kept_grid (merge_grid g o))) 8 _ (λ z. omega (arith, z)) (above-last (merge_grid g o))))

update-above : (bins_rate axes_rate : Float) (g : Grid) → Above (update.update_of bins_rate axes_rate g)
unfolding update.update_of
update-above bins_rate axes_rate g =
    let o = update.update_grid bins_rate axes_rate g in
    above-next (not (update.rate_fits bins_rate && update.rate_fits axes_rate)) 3 _ (λ z. omega (arith, z)) (above-next o.eight 8 _ (λ z. omega (arith, z)) (above-next o.nine 9 _ (λ z. omega (arith, z)) (above-last o.after)))

-- ---- a cleared root keeps the lengths

at-sizes : (r c : ℕ) (s : Memory) → (length (cleared_at r c s).reals ≡ length s.reals) × (length (cleared_at r c s).counts ≡ length s.counts)
unfolding cleared_at
at-sizes r c s = (
  length-set (set s.reals r zero64) (r + 1) zero64 ∙ length-set s.reals r zero64,
  length-set (set s.counts c 0) (c + 1) 0 ∙ length-set s.counts c 0,
)

module _ (table : List ℕ) (s : Memory) (laid : Laid 4 table (length s.reals) (length s.counts) 0) (well : sound (root_of table s.reals s.counts) ≡ true) where
  abbrev Sized : Memory → Type 0
  Sized t = (length t.reals ≡ length s.reals) × (length t.counts ≡ length s.counts)

  axes-sizes : get_or table 0 0 ≡ 1 → Sized (cleared_axes table 0 s)
  unfolding cleared_axes
  axes-sizes kind =
      let stands = sound-stands table s.reals s.counts 0 (laid-axes 4 table (length s.reals) (length s.counts) 0 laid kind) (sym (ap sound (node-axes 4 table s.reals s.counts 0 kind)) ∙ well) in
      let below = cleared-below (axes_place table 0) s stands 0 0 0 0 (omega arith) (omega arith) in
      let last = at-sizes (get_or table 9 0) (get_or table 10 0) (cleared_memory (axes_place table 0) s) in
      (last.0 ∙ below.0.size, last.1 ∙ below.1.size)

  bins-sizes : (get_or table 0 0 ≡ 1 → ⊥) → Sized (cleared_own table 0 s)
  bins-sizes kind =
      let deep = laid-bins 4 table (length s.reals) (length s.counts) 0 laid kind in
      let w = own-within table 0 s deep.bins.room deep.bins.places in
      ((w.low 0 0 (omega arith)).size, (w.few 0 0 (omega arith)).size)

  root-sizes : Sized (cleared_root table s)
  root-sizes = pick (eqb (get_or table 0 0) 1) refl
    where
      pick : (b : Bool) → eqb (get_or table 0 0) 1 ≡ b → Sized (cleared_root table s)
      pick true h = let kind = eqb-true (get_or table 0 0) 1 h in subst Sized (root-axes table s kind) (axes-sizes kind)
      pick false h = let kind = eqb-false (get_or table 0 0) 1 h in subst Sized (root-bins table s kind) (bins-sizes kind)

-- ---- one call

module _ (table : List ℕ) (m : Memory) where
  abbrev root : Grid
  root = root_of table m.reals m.counts

  pub record Tie (d : Deed) : Type 0 where
    pub reply : reply_of table m d ≡ worded (told root (seen table d))
    pub reads : root_of table (state_of table m d).reals (state_of table m d).counts ≡ after root (seen table d)
    pub clear : state_fault table (state_of table m d).reals (state_of table m d).counts ≡ 0

  module _ (large : Words table) (fault : state_fault table m.reals m.counts ≡ 0) where
    -- where what is lent beside the grid is there
    fits-tie : (d : Deed) → besides table d ≡ 0 → reply_of table m d ≡ worded (told root (plainly d)) → root_of table (state_of table m d).reals (state_of table m d).counts ≡ after root (plainly d)
        → state_fault table (state_of table m d).reals (state_of table m d).counts ≡ 0 → Tie d
    unfolding seen lent
    fits-tie d z r s c =
        let e : seen table d ≡ plainly d = ap (λ (n : ℕ). lent n (plainly d)) z in
        record { reply = r ∙ ap (λ (x : Call). worded (told root x)) (sym e); reads = s ∙ ap (after root) (sym e); clear = c }

    -- and where it is not
    lacks-tie : (d : Deed) (n : ℕ) → besides table d ≡ n → (n ≡ 0 → ⊥) → reply_of table m d ≡ numbered n → state_of table m d ≡ m → Tie d
    unfolding seen lent told worded after onward
    lacks-tie d n z y r s =
        let e : seen table d ≡ model.lacks n = ap (λ (k : ℕ). lent k (plainly d)) z ∙ rw (ne_eqb n 0 y) in
        record {
          reply = r ∙ numbered-refuses n y ∙ ap (λ (x : Call). worded (told root x)) (sym e);
          reads = ap (λ (x : Memory). root_of table x.reals x.counts) s ∙ ap (after root) (sym e);
          clear = ap (λ (x : Memory). state_fault table x.reals x.counts) s ∙ fault;
        }

    -- a call that reads
    reads-tie : {A : Type 0} (d : Deed) (f : A → Word) (p q : Paper A) → besides table d ≡ 0 → reply_of table m d ≡ mapped f q → q ≡ p → told root (plainly d) ≡ reading f root p → state_of table m d ≡ m → Tie d
    unfolding after
    reads-tie d f p q z r e t s =
        fits-tie d z (r ∙ ap (mapped f) e ∙ mapped-reading f root p ∙ ap worded (sym t))
        (ap (λ (x : Memory). root_of table x.reals x.counts) s ∙ sym (reading-stays f root p) ∙ ap (onward root) (sym t))
        (ap (λ (x : Memory). state_fault table x.reals x.counts) s ∙ fault)

    tie-draws : (s : MonteCarloRng) → Tie (draws s)
    unfolding reply_of state_of besides plainly told reading draw_of
    tie-draws s = reads-tie (draws s) drawing (gives (draw_grid root s)) _ refl refl (answered-last (state_fault table m.reals m.counts) (gives (draw_grid root s)) fault) refl refl

    tie-probes : (r : Region) → Tie (probes r)
    unfolding reply_of state_of besides plainly told probe_of
    tie-probes r = reads-tie (probes r) weight _ _ refl refl (answered-last (state_fault table m.reals m.counts) (probe_grid root (path_from r 0) (coordinates_of r.coordinates)) fault) refl refl

    tie-sums : Tie sums
    unfolding reply_of state_of besides plainly told summary_of
    tie-sums = reads-tie sums summary _ _ refl refl (answered-last (state_fault table m.reals m.counts) (summarize_of (own_of root)) fault) refl refl

    tie-estimates : Tie estimates
    unfolding reply_of state_of besides plainly told live_of
    tie-estimates = reads-tie estimates estimate _ _ refl refl (answered-last (state_fault table m.reals m.counts) (live_estimate_of (own_of root)) fault) refl refl

    tie-bin : (path : List ℕ) (levels : ℕ) → Tie (estimates_bin path levels)
    unfolding reply_of state_of besides plainly told live_of_bin
    tie-bin path levels = reads-tie (estimates_bin path levels) estimate _ _ refl refl (answered-last (state_fault table m.reals m.counts) (estimate_along root (entries 0 path 0 levels)) fault) refl refl

    -- a call that writes: its end against the model's answer
    record Ends (e : StateEnd) (p : Paper Grid) : Type 0 where
      says : numbered e.answer ≡ worded (leaving p)
      leaves : root_of table e.state.reals e.state.counts ≡ onward root (leaving p)
      fine : state_fault table e.state.reals e.state.counts ≡ 0

    gave : (e : StateEnd) (g : Grid) → e.answer ≡ 0 → root_of table e.state.reals e.state.counts ≡ g → sound g ≡ true → length e.state.reals ≡ length m.reals → length e.state.counts ≡ length m.counts
        → Ends e (gives g)
    unfolding leaving worded onward numbered
    gave e g a r w x y = record { says = ap numbered a; leaves = r; fine = clear-again table m e.state large fault x y (ap sound r ∙ w) }

    refused : (e : StateEnd) (n : ℕ) → (n ≡ 0 → ⊥) → e ≡ state_end n m → Ends e (refuses n)
    unfolding leaving worded onward
    refused e n z q =
        record {
          says = ap (λ (x : StateEnd). numbered x.answer) q ∙ numbered-refuses n z;
          leaves = ap (λ (x : StateEnd). root_of table x.state.reals x.state.counts) q;
          fine = ap (λ (x : StateEnd). state_fault table x.state.reals x.state.counts) q ∙ fault;
        }

    writes-tie : (d : Deed) (e : StateEnd) (p : Paper Grid) → besides table d ≡ 0 → Ends e p → reply_of table m d ≡ numbered e.answer → state_of table m d ≡ e.state → told root (plainly d) ≡ leaving p → Tie d
    unfolding after
    writes-tie d e p z q r s t =
        fits-tie d z (r ∙ q.says ∙ ap worded (sym t))
        (ap (λ (x : Memory). root_of table x.reals x.counts) s ∙ q.leaves ∙ ap (onward root) (sym t))
        (ap (λ (x : Memory). state_fault table x.reals x.counts) s ∙ q.fine)

    -- ---- training

    train-ends : (s : Sample) (e : Float) (k : ℕ) (p : Paper Grid) → train_of root (sample_of s) e k ≡ p → Ends (train_call_of table m s e k) p
    unfolding objection_of
    train-ends s e k (gives g) h = let t = train-trains table m s e k g large fault h in gave (train_call_of table m s e k) g t.answer t.reads t.well t.reals-long t.counts-long
    train-ends s e k (refuses n) h =
        let z : n ≡ 0 → ⊥ = λ y. refused_none n _ (sym h ∙ (grants root s e k (ap objection_of h ∙ y)).gave) in
        refused (train_call_of table m s e k) n z (sym (train-objection table m s e k n fault (sym (ap objection_of h)) z))

    tie-trains : (s : Sample) (e : Float) (k : ℕ) → Tie (trains s e k)
    unfolding reply_of state_of besides plainly told
    tie-trains s e k = writes-tie (trains s e k) (train_call_of table m s e k) (train_of root (sample_of s) e k) refl (train-ends s e k (train_of root (sample_of s) e k) refl) refl refl refl

    -- ---- room for the plan beside the grid

    abbrev state : Clear table m.reals m.counts
    state = clear table m.reals m.counts large fault

    abbrev needs : Needs
    needs = state.needs

    room-is : (R C : ℕ) → room_fault table R C ≡ judged_to table m.reals m.counts R C needs
    unfolding room_fault room_by judged_to
    room-is R C = rw (state.planned, le-ltb _ _ state.reals-fit, le-ltb _ _ state.counts-fit, state.well)

    -- ---- an update

    called-ends : (e : StateEnd) (p : Paper Grid) → Above p → Called table m e p → Ends e p
    unfolding Called Above
    called-ends e (gives g) h c = gave e g c.0 c.1 c.2 c.3 c.4
    called-ends e (refuses n) h c = refused e n h c

    pub update-called : (bins_rate axes_rate : Float) (R C : ℕ) → room_fault table R C ≡ 0 → Called table m (update_of table bins_rate axes_rate R C m) (update.update_of bins_rate axes_rate root)
    update-called bins_rate axes_rate R C z = subst (λ (e : StateEnd). Called table m e (update.update_of bins_rate axes_rate root)) same (update-updates table bins_rate axes_rate m to needs large state.planned there)
      where
        to : Memory
        to = memory (replicate R zero64) (replicate C 0)

        long : length to.reals ≡ R
        long = length-replicate R zero64

        wide : length to.counts ≡ C
        wide = length-replicate {A = ℕ} C 0

        there : judged_to table m.reals m.counts (length to.reals) (length to.counts) needs ≡ 0
        there = sym (room-is (length to.reals) (length to.counts)) ∙ ap₂ (λ (i j : ℕ). room_fault table i j) long wide ∙ z

        same : update_of table bins_rate axes_rate (length to.reals) (length to.counts) m ≡ update_of table bins_rate axes_rate R C m
        same = ap₂ (λ (i j : ℕ). update_of table bins_rate axes_rate i j m) long wide

    update-ends : (bins_rate axes_rate : Float) (R C : ℕ) → room_fault table R C ≡ 0 → Ends (update_of table bins_rate axes_rate R C m) (update.update_of bins_rate axes_rate root)
    update-ends bins_rate axes_rate R C z = called-ends _ _ (update-above bins_rate axes_rate root) (update-called bins_rate axes_rate R C z)

    update-lacks : (bins_rate axes_rate : Float) (R C : ℕ) → (room_fault table R C ≡ 0 → ⊥) → update_of table bins_rate axes_rate R C m ≡ state_end (room_fault table R C) m
    unfolding update_of updated_by
    update-lacks bins_rate axes_rate R C z =
        let e = room-is R C in
        let n : judged_to table m.reals m.counts R C needs ≡ 0 → ⊥ = λ y. z (e ∙ y) in
        rw (state.planned, e) (stopped (judged_to table m.reals m.counts R C needs) (state_end (judged_to table m.reals m.counts R C needs) m) _ n)

    tie-updates : (bins_rate axes_rate : Float) (R C : ℕ) → Tie (updates bins_rate axes_rate R C)
    unfolding reply_of state_of besides plainly told
    tie-updates bins_rate axes_rate R C = pick (eqb (room_fault table R C) 0) refl
      where
        call : StateEnd
        call = update_of table bins_rate axes_rate R C m

        pick : (b : Bool) → eqb (room_fault table R C) 0 ≡ b → Tie (updates bins_rate axes_rate R C)
        pick true h =
            let z = eqb-true (room_fault table R C) 0 h in
            writes-tie (updates bins_rate axes_rate R C) call (update.update_of bins_rate axes_rate root) z (update-ends bins_rate axes_rate R C z) refl refl refl
        pick false h =
            let y = eqb-false (room_fault table R C) 0 h in
            let e = update-lacks bins_rate axes_rate R C y in
            lacks-tie (updates bins_rate axes_rate R C) (room_fault table R C) refl y (ap (λ (x : StateEnd). numbered x.answer) e) (ap (λ (x : StateEnd). x.state) e)

    -- ---- another grid

    module _ (other : List ℕ) (o : Memory) where
      abbrev theirs : Grid
      theirs = root_of other o.reals o.counts

      abbrev their-fault : ℕ
      their-fault = state_fault other o.reals o.counts

      abbrev pair : ℕ
      pair = pair_fault table m.reals m.counts other o.reals o.counts

      second_is : (p : plan.Paper Needs) → second_by table m.reals m.counts needs other o.reals o.counts p ≡ fault_by other o.reals o.counts p
      unfolding second_by both_judged fault_by judged_by
      second_is (plan.gives k) = rw (le-ltb _ _ state.reals-fit, le-ltb _ _ state.counts-fit, state.well)
      second_is (plan.refuses k) = refl
      second_is (plan.refuses_at k at) = refl

      -- of a pair only the other's state is left to stand against it
      pub pair_is : pair ≡ their-fault
      unfolding pair_fault first_by state_fault
      pair_is = rw state.planned (second_is (sizes_of other))

      theirs-sound : Words other → their-fault ≡ 0 → sound theirs ≡ true
      theirs-sound wide z = (clear other o.reals o.counts wide z).well

      told-merges : Words other → their-fault ≡ 0 → told root (model.merges theirs) ≡ leaving (merge_of root theirs)
      unfolding told
      told-merges wide z = rw (theirs-sound wide z)

      merge-ends : Words other → their-fault ≡ 0 → (p : Paper Grid) → merge_of root theirs ≡ p → Ends (merge_into_of table m other o) p
      unfolding merge_into_of united_by
      merge-ends wide z (gives g) e = let r = merge-read table m other o g large wide (pair_is ∙ z) e in gave (merge_into_of table m other o) g r.0 r.1 r.2 r.3 r.4
      merge-ends wide z (refuses n) e =
          let united = united_grid table other o 4 0 0 m in
          refused (merge_into_of table m other o) n (above-number n _ e (merge-above root theirs))
          (went_on pair (state_end pair m) (united_by (merge_of root theirs) united m) (pair_is ∙ z) ∙ ap (λ (p : Paper Grid). united_by p united m) e)

      tie-merges : Words other → Tie (merges other o)
      unfolding reply_of state_of besides plainly merge_into_of
      tie-merges wide = pick (eqb their-fault 0) refl
        where
          pick : (b : Bool) → eqb their-fault 0 ≡ b → Tie (merges other o)
          pick true h =
              let z = eqb-true their-fault 0 h in
              writes-tie (merges other o) (merge_into_of table m other o) (merge_of root theirs) z (merge-ends wide z (merge_of root theirs) refl) refl refl (told-merges wide z)
          pick false h =
              let y = eqb-false their-fault 0 h in
              let e : merge_into_of table m other o ≡ state_end their-fault m = stopped pair (state_end pair m) _ (λ x. y (sym pair_is ∙ x)) ∙ ap (λ (n : ℕ). state_end n m) pair_is in
              lacks-tie (merges other o) their-fault refl y (ap (λ (x : StateEnd). numbered x.answer) e) (ap (λ (x : StateEnd). x.state) e)

      told-matches : Words other → their-fault ≡ 0 → told root (model.matches theirs) ≡ matched root (numbered (merge_fault root theirs))
      unfolding told
      told-matches wide z = rw (theirs-sound wide z)

      tie-matches : Words other → Tie (matches other o)
      unfolding reply_of state_of besides plainly mergeable_of after
      tie-matches wide = pick (eqb their-fault 0) refl
        where
          pick : (b : Bool) → eqb their-fault 0 ≡ b → Tie (matches other o)
          pick true h =
              let z = eqb-true their-fault 0 h in
              let t = told-matches wide z in
              fits-tie (matches other o) z
              (ap numbered (went_on pair pair (merge_fault root theirs) (pair_is ∙ z)) ∙ matched-words root (numbered (merge_fault root theirs)) ∙ ap worded (sym t))
              (sym (matched-stays root (numbered (merge_fault root theirs))) ∙ ap (onward root) (sym t)) fault
          pick false h =
              let y = eqb-false their-fault 0 h in
              lacks-tie (matches other o) their-fault refl y (ap numbered (stopped pair pair (merge_fault root theirs) (λ x. y (sym pair_is ∙ x)) ∙ pair_is)) refl

    -- ---- a copy

    module _ (to : Memory) where
      abbrev room : ℕ
      room = room_fault table (length to.reals) (length to.counts)

      abbrev judged : ℕ
      judged = judged_to table m.reals m.counts (length to.reals) (length to.counts) needs

      abbrev made : Memory
      made = cleared_root table (copied_to needs m to)

      clone-is : room ≡ 0 → clone_of table m to ≡ clone_end 0 made
      unfolding clone_of cloned_by
      clone-is z = rw state.planned (went_on judged (clone_end judged to) (clone_end 0 made) (sym (room-is (length to.reals) (length to.counts)) ∙ z))

      clone-lacks : (room ≡ 0 → ⊥) → clone_of table m to ≡ clone_end room to
      unfolding clone_of cloned_by
      clone-lacks y =
          let e = room-is (length to.reals) (length to.counts) in
          ap (clone_by table m to) state.planned ∙ stopped judged (clone_end judged to) (clone_end 0 made) (λ x. y (e ∙ x)) ∙ ap (λ (n : ℕ). clone_end n to) (sym e)

      clone-reads : room ≡ 0 → root_of table made.reals made.counts ≡ copy_grid root
      clone-reads z =
          ap (λ (e : CloneEnd). root_of table e.copy.reals e.copy.counts) (sym (clone-is z))
          ∙ clone-copies table m to needs large state.planned (sym (room-is (length to.reals) (length to.counts)) ∙ z)

      -- the destination is long enough
      clone-clear : room ≡ 0 → state_fault table made.reals made.counts ≡ 0
      unfolding state_fault fault_by judged_by copied_to
      clone-clear z =
          let r = ready table m to needs (sym (room-is (length to.reals) (length to.counts)) ∙ z) in
          let copy = copied_to needs m to in
          let long : length copy.reals ≡ length to.reals = front_length needs.reals m.reals to.reals r.reals r.places in
          let wide : length copy.counts ≡ length to.counts = front_length needs.counts m.counts to.counts r.counts r.tallies in
          let laid = root-laid table needs (length copy.reals) (length copy.counts) large state.planned (omega (arith, r.places, long)) (omega (arith, r.tallies, wide)) in
          let size = root-sizes table copy laid (copy-sound table m to needs large state.planned r copy refl) in
          let reals : needs.reals ≤ length made.reals = omega (arith, size.0, long, r.places) in
          let counts : needs.counts ≤ length made.counts = omega (arith, size.1, wide, r.tallies) in
          let well = ap sound (clone-reads z) ∙ sound-copied root state.well in
          rw (state.planned, le-ltb _ _ reals, le-ltb _ _ counts, well)

      tie-copies : Tie (copies to)
      unfolding reply_of state_of besides plainly copy_or told worded after onward numbered
      tie-copies = pick (eqb room 0) refl
        where
          pick : (b : Bool) → eqb room 0 ≡ b → Tie (copies to)
          pick true h =
              let z = eqb-true room 0 h in
              let e = clone-is z in
              let s : state_of table m (copies to) ≡ made = ap (copy_or m) e in
              fits-tie (copies to) z (ap (λ (x : CloneEnd). numbered x.answer) e)
              (ap (λ (x : Memory). root_of table x.reals x.counts) s ∙ clone-reads z)
              (ap (λ (x : Memory). state_fault table x.reals x.counts) s ∙ clone-clear z)
          pick false h =
              let y = eqb-false room 0 h in
              let e = clone-lacks y in
              let s : state_of table m (copies to) ≡ m = ap (copy_or m) e ∙ rw h in
              lacks-tie (copies to) room refl y (ap (λ (x : CloneEnd). numbered x.answer) e) s

    pub tie : (d : Deed) → Wordy d → Tie d
    unfolding Wordy
    tie (draws s) w = tie-draws s
    tie (probes r) w = tie-probes r
    tie sums w = tie-sums
    tie estimates w = tie-estimates
    tie (estimates_bin path levels) w = tie-bin path levels
    tie (trains s e k) w = tie-trains s e k
    tie (updates bins_rate axes_rate R C) w = tie-updates bins_rate axes_rate R C
    tie (matches other o) w = tie-matches other o w
    tie (merges other o) w = tie-merges other o w
    tie (copies to) w = tie-copies to
