-- The call `update` is the model's: where that refuses, the same number and the state as it was; where it gives a grid, 0 and a state that
-- reads as that grid, which is well formed again, in lists of the same lengths.
use mathlib.Core.Path.{◌≡◌, refl, sym, ap, ap₂, ◌∙◌, subst}
use mathlib.Core.Bool.{Bool, true, false, ◌&&◌}
use mathlib.Core.List.{List}
use Prim.Native.Nat.{ℕ, ◌≤◌, ◌<◌}
use native.Mathlib.Omega.{arith}
use lib.ListN.{length, get_or, take, drop, length-append, length-drop, get_or-append, take-append-drop}
use lib.Seq.{get_or-take, length-take-le}
use lib.Ieee.{Float, nan}
use Rattle.doubles.specs.Paper.{Paper, gives, refuses}
use Rattle.plan.specs.declared.Needs.{Needs}
use Rattle.plan.specs.Needs.{after, untaken, needs_of}
use Rattle.plan.specs.Paper as plan
use Rattle.plan.specs.Calls.{sizes_of}
use Rattle.plan.proofs.Tables.{Words}
use Rattle.plan.proofs.Records.{passed-stands}
use Rattle.model.specs.Grid.{Grid}
use Rattle.model.specs.Sound.{sound}
use Rattle.model.specs.Update as model
use Rattle.lent.specs.Memory.{Memory, memory}
use Rattle.lent.specs.State.{root_of, judged_to}
use Rattle.lent.specs.Adapted.{updated_in}
use Rattle.lent.specs.Calls.{StateEnd, state_end, renewed_over, front_of, in_front, updated_by, update_of}
use Rattle.lent.proofs.Same.{same_refl, inside-alike}
use Rattle.lent.proofs.Alike.{grid-alike}
use Rattle.lent.proofs.Clones.{Ready, ready}
use Rattle.lent.proofs.Formed.{sound-formed}
use Rattle.lent.proofs.Turns.{Turned}
use Rattle.lent.proofs.AdaptedTree.{root-updated}
use Rattle.lent.proofs.Reformed.{sound-updated}

-- what a call that came to `e` from s says of the model's answer
unfoldable pub Called : List ℕ → Memory → StateEnd → Paper Grid → Type 0
Called table s e (gives g) =
    (e.answer ≡ 0) × (root_of table e.state.reals e.state.counts ≡ g) × (sound g ≡ true) × (length e.state.reals ≡ length s.reals) × (length e.state.counts ≡ length s.counts)
Called table s e (refuses k) = e ≡ state_end k s

module _ (table : List ℕ) (bins_rate axes_rate : Float) (s to : Memory) (n : Needs) (large : Words table) (planned : sizes_of table ≡ plan.gives n)
    (clear : judged_to table s.reals s.counts (length to.reals) (length to.counts) n ≡ 0) where
  abbrev call : StateEnd
  call = update_of table bins_rate axes_rate (length to.reals) (length to.counts) s

  abbrev front : Memory
  front = front_of n s

  abbrev root : Grid
  root = root_of table s.reals s.counts

  abbrev found : model.Outcome Grid
  found = model.update_grid bins_rate axes_rate root

  r : Ready table s to n
  r = ready table s to n clear

  -- two memories that agree on what the plan needs read the same
  reads-alike : (a b : Memory) → n.reals ≤ length a.reals → n.counts ≤ length a.counts → n.reals ≤ length b.reals → n.counts ≤ length b.counts
      → ((p : ℕ) → p < n.reals → get_or a.reals p nan ≡ get_or b.reals p nan) → ((p : ℕ) → p < n.counts → get_or a.counts p 0 ≡ get_or b.counts p 0)
      → sound (root_of table a.reals a.counts) ≡ true → root_of table a.reals a.counts ≡ root_of table b.reals b.counts
  unfolding needs_of
  reads-alike a b h k i j x y well =
      let p = passed-stands table n large planned in
      let rr : n.reals ≡ (after p.tree untaken).reals = ap (λ (m : Needs). m.reals) p.needs in
      let cc : n.counts ≡ (after p.tree untaken).counts = ap (λ (m : Needs). m.counts) p.needs in
      grid-alike table a.reals b.reals a.counts b.counts 4 p.tree untaken p.grid p.stands (sound-formed (root_of table a.reals a.counts) well)
      (inside-alike nan untaken.reals (after p.tree untaken).reals a.reals b.reals (omega arith) (omega arith) (λ q u v. x q (omega arith)))
      (inside-alike 0 untaken.counts (after p.tree untaken).counts a.counts b.counts (omega arith) (omega arith) (λ q u v. y q (omega arith)))

  size : (length (take n.reals s.reals) ≡ n.reals) × (length (take n.counts s.counts) ≡ n.counts)
  size = (length-take-le n.reals s.reals r.reals, length-take-le n.counts s.counts r.counts)

  front_reads : root ≡ root_of table front.reals front.counts
  unfolding front_of
  front_reads =
      let z = size in
      reads-alike s (front_of n s) r.reals r.counts (omega (arith, z.0)) (omega (arith, z.1)) (λ p h. sym (get_or-take n.reals s.reals p nan h)) (λ p h. sym (get_or-take n.counts s.counts p 0 h)) r.well

  turned : Turned 0 n.reals 0 n.counts front (updated_in 4 table bins_rate axes_rate 0 front) (λ (a : List Float) (z : List ℕ). root_of table a z) found
  unfolding front_of
  turned =
      let z = size in
      subst (λ (g : Grid). Turned 0 n.reals 0 n.counts front (updated_in 4 table bins_rate axes_rate 0 front) (λ (a : List Float) (z : List ℕ). root_of table a z) (model.update_grid bins_rate axes_rate g)) (sym front_reads)
      (root-updated table n bins_rate axes_rate front large planned (omega (arith, z.0)) (omega (arith, z.1)) (sym (ap sound front_reads) ∙ r.well))

  abbrev work : model.Outcome Memory
  work = updated_in 4 table bins_rate axes_rate 0 front

  back : in_front n front s ≡ s
  unfolding in_front front_of
  back = ap₂ memory (take-append-drop n.reals s.reals) (take-append-drop n.counts s.counts)

  abbrev rates : Bool
  rates = model.rate_fits bins_rate && model.rate_fits axes_rate

  unrated : rates ≡ false → Called table s call (model.update_of bins_rate axes_rate root)
  unfolding Called update_of updated_by model.update_of
  unrated e = rw (planned, clear, e)

  found-eight : rates ≡ true → found.eight ≡ true → Called table s call (model.update_of bins_rate axes_rate root)
  unfolding Called update_of updated_by renewed_over model.update_of
  found-eight e f = rw (planned, clear, e, turned.eight, f, back)

  found-nine : rates ≡ true → found.eight ≡ false → found.nine ≡ true → Called table s call (model.update_of bins_rate axes_rate root)
  unfolding Called update_of updated_by renewed_over model.update_of
  found-nine e f g = rw (planned, clear, e, turned.eight, turned.nine f, f, g, back)

  kept : found.eight ≡ false → found.nine ≡ false → (root_of table (in_front n work.after s).reals (in_front n work.after s).counts ≡ found.after) × (sound found.after ≡ true)
  unfolding in_front front_of
  kept f g =
      let a = work.after in
      let z = size in
      let x : length a.reals ≡ n.reals = (turned.within.low 0 0 (omega arith)).size ∙ z.0 in
      let y : length a.counts ≡ n.counts = (turned.within.few 0 0 (omega arith)).size ∙ z.1 in
      let here : root_of table a.reals a.counts ≡ found.after = turned.reads f a.reals a.counts (same_refl nan 0 n.reals a.reals) (same_refl 0 0 n.counts a.counts) in
      let well = sound-updated bins_rate axes_rate root r.well f g in
      let u = length-append a.reals (drop n.reals s.reals) in
      let v = length-append a.counts (drop n.counts s.counts) in (
        sym (reads-alike a (in_front n a s) (omega arith) (omega arith) (omega (arith, u)) (omega (arith, v)) (λ p h. sym (get_or-append a.reals (drop n.reals s.reals) nan p (omega arith)))
            (λ p h. sym (get_or-append a.counts (drop n.counts s.counts) 0 p (omega arith))) (ap sound here ∙ well)) ∙ here,
        well,
      )

  long : (length (in_front n work.after s).reals ≡ length s.reals) × (length (in_front n work.after s).counts ≡ length s.counts)
  unfolding in_front front_of
  long =
      let a = work.after in
      let z = size in
      let x : length a.reals ≡ n.reals = (turned.within.low 0 0 (omega arith)).size ∙ z.0 in
      let y : length a.counts ≡ n.counts = (turned.within.few 0 0 (omega arith)).size ∙ z.1 in
      let u = length-append a.reals (drop n.reals s.reals) in
      let v = length-append a.counts (drop n.counts s.counts) in
      let p = length-drop n.reals s.reals in
      let q = length-drop n.counts s.counts in
      (omega (arith, r.reals), omega (arith, r.counts))

  nothing-found : rates ≡ true → found.eight ≡ false → found.nine ≡ false → Called table s call (model.update_of bins_rate axes_rate root)
  unfolding Called update_of updated_by renewed_over model.update_of
  nothing-found e f g = let k = kept f g in rw (planned, clear, e, turned.eight, turned.nine f, f, g) (refl, k.0, k.1, long.0, long.1)

  pub update-updates : Called table s call (model.update_of bins_rate axes_rate root)
  update-updates = pick rates refl found.eight refl found.nine refl
    where
      pick : (a : Bool) → rates ≡ a → (b : Bool) → found.eight ≡ b → (c : Bool) → found.nine ≡ c → Called table s call (model.update_of bins_rate axes_rate root)
      pick false e b f c g = unrated e
      pick true e true f c g = found-eight e f
      pick true e false f true g = found-nine e f g
      pick true e false f false g = nothing-found e f g
