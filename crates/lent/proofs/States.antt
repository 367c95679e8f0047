-- A state that nothing stands against: its grid lies in memory and is well formed.
use mathlib.Core.Path.{◌≡◌, refl, sym, ap, ◌∙◌}
use mathlib.Core.Bool.{Bool, true, false, not, cond}
use mathlib.Core.List.{List}
use Prim.Native.Nat.{ℕ, ◌≤◌}
use native.Mathlib.Omega.{arith}
use borrow.Author.Tests.{ltb-false, not-false, ne_eqb}
use lib.Dec.{eqb, ltb}
use lib.ListN.{length, get_or}
use lib.Ieee.{Float}
use Rattle.plan.specs.declared.Needs.{Needs}
use Rattle.std.specs.Prelude.{Result, Ok, Err}
use Rattle.doubles.specs.declared.refusal.Refusal.{Refusal}
use Rattle.plan.specs.Paper.{paper_sized}
use Rattle.plan.specs.Paper as plan
use Rattle.plan.specs.Calls.{sizes_of}
use Rattle.plan.proofs.Tables.{Words}
use Rattle.model.specs.Sound.{sound}
use Rattle.doubles.specs.Paper.{Paper, refuses}
use Rattle.lent.specs.Memory.{record_at}
use Rattle.lent.specs.Tree.{axes_grid_at, head_at, Laid}
use Rattle.lent.specs.State.{root_of, own_of, judged_by, judged_to, fault_by, state_fault, fault_to_by, fault_to, both_judged, second_by, first_by, pair_fault}
use Rattle.lent.specs.Calls.{on_state}
use Rattle.lent.proofs.Laid.{root-laid}
use Rattle.lent.proofs.Sounds.{node-axes, node-bins}

pub record Clear (table : List ℕ) (reals : List Float) (counts : List ℕ) : Type 0 where
  pub laid : Laid 4 table (length reals) (length counts) 0
  pub well : sound (root_of table reals counts) ≡ true
  pub needs : Needs
  pub planned : sizes_of table ≡ plan.gives needs
  pub reals-fit : needs.reals ≤ length reals
  pub counts-fit : needs.counts ≤ length counts

pub passes : (b : Bool) (n rest : ℕ) → (n ≡ 0 → ⊥) → cond b n rest ≡ 0 → (b ≡ false) × (rest ≡ 0)
passes true n rest z e = absurd (z e)
passes false n rest z e = (refl, e)

clear-by : (table : List ℕ) (reals : List Float) (counts : List ℕ) (p : plan.Paper Needs) → Words table → sizes_of table ≡ p → fault_by table reals counts p ≡ 0 → Clear table reals counts
unfolding fault_by judged_by
clear-by table reals counts (plan.gives n) large e f =
    let a = passes (ltb (length reals) n.reals) 10 _ (λ z. omega (arith, z)) f in
    let b = passes (ltb (length counts) n.counts) 10 _ (λ z. omega (arith, z)) a.1 in
    let c = passes (not (sound (root_of table reals counts))) 12 0 (λ z. omega (arith, z)) b.1 in
    record {
      laid = root-laid table n (length reals) (length counts) large e (ltb-false (length reals) n.reals a.0) (ltb-false (length counts) n.counts b.0);
      well = not-false (sound (root_of table reals counts)) c.0;
      needs = n;
      planned = e;
      reals-fit = ltb-false (length reals) n.reals a.0;
      counts-fit = ltb-false (length counts) n.counts b.0;
    }
clear-by table reals counts (plan.refuses k) large e f = absurd (omega (arith, f))
clear-by table reals counts (plan.refuses_at k at) large e f = absurd (omega (arith, f))

pub clear : (table : List ℕ) (reals : List Float) (counts : List ℕ) → Words table → state_fault table reals counts ≡ 0 → Clear table reals counts
unfolding state_fault
clear table reals counts large f = clear-by table reals counts (sizes_of table) large refl f

-- what the plan's own answer comes to
pub fault-planned : (table : List ℕ) (reals : List Float) (counts : List ℕ) (r : Result Needs Refusal) (n : Needs) (k : ℕ) → paper_sized r ≡ sizes_of table → Ok n ≡ r → k ≡ judged_by table reals counts n → k ≡ state_fault table reals counts
unfolding state_fault fault_by
fault-planned table reals counts r n k e q j = j ∙ ap (λ (p : plan.Paper Needs). fault_by table reals counts p) (ap paper_sized q ∙ e)

pub sizes-planned : (table : List ℕ) (r : Result Needs Refusal) (n : Needs) → paper_sized r ≡ sizes_of table → Ok n ≡ r → sizes_of table ≡ plan.gives n
sizes-planned table r n e q = sym e ∙ sym (ap paper_sized q)

pub fault-strayed : (table : List ℕ) (reals : List Float) (counts : List ℕ) (r : Result Needs Refusal) (n : Refusal) → paper_sized r ≡ sizes_of table → Err n ≡ r → 12 ≡ state_fault table reals counts
unfolding state_fault fault_by
fault-strayed table reals counts r n e q = ap (λ (p : plan.Paper Needs). fault_by table reals counts p) (ap paper_sized q ∙ e)

-- with a destination
module _ (table : List ℕ) (reals : List Float) (counts : List ℕ) (R C : ℕ) where
  pub fault-to-planned : (r : Result Needs Refusal) (n : Needs) (k : ℕ) → paper_sized r ≡ sizes_of table → Ok n ≡ r → k ≡ judged_to table reals counts R C n → k ≡ fault_to table reals counts R C
  unfolding fault_to fault_to_by
  fault-to-planned r n k e q j = j ∙ ap (fault_to_by table reals counts R C) (sym (sizes-planned table r n e q))

  pub fault-to-strayed : (r : Result Needs Refusal) (n : Refusal) → paper_sized r ≡ sizes_of table → Err n ≡ r → 12 ≡ fault_to table reals counts R C
  unfolding fault_to fault_to_by
  fault-to-strayed r n e q = ap (fault_to_by table reals counts R C) (ap paper_sized q ∙ e)

  -- where the plan's needs are known already
  pub fault-to-known : (n : Needs) → sizes_of table ≡ plan.gives n → fault_to table reals counts R C ≡ judged_to table reals counts R C n
  unfolding fault_to fault_to_by
  fault-to-known n e = ap (fault_to_by table reals counts R C) e

-- ---- two states

module _ (table : List ℕ) (reals : List Float) (counts : List ℕ) (other : List ℕ) (theirs : List Float) (tallies : List ℕ) where
  both-clear : (n k : Needs) → Words table → Words other → sizes_of table ≡ plan.gives n → sizes_of other ≡ plan.gives k
      → both_judged table reals counts n other theirs tallies k ≡ 0 → Clear table reals counts × Clear other theirs tallies
  unfolding both_judged
  both-clear n k large wide e f z =
      let a = passes (ltb (length reals) n.reals) 10 _ (λ x. omega (arith, x)) z in
      let b = passes (ltb (length counts) n.counts) 10 _ (λ x. omega (arith, x)) a.1 in
      let c = passes (ltb (length theirs) k.reals) 10 _ (λ x. omega (arith, x)) b.1 in
      let d = passes (ltb (length tallies) k.counts) 10 _ (λ x. omega (arith, x)) c.1 in
      let p = passes (not (sound (root_of table reals counts))) 12 _ (λ x. omega (arith, x)) d.1 in
      let q = passes (not (sound (root_of other theirs tallies))) 12 0 (λ x. omega (arith, x)) p.1 in (
        record {
          needs = n;
          planned = e;
          reals-fit = ltb-false (length reals) n.reals a.0;
          counts-fit = ltb-false (length counts) n.counts b.0;
          laid = root-laid table n (length reals) (length counts) large e (ltb-false (length reals) n.reals a.0) (ltb-false (length counts) n.counts b.0);
          well = not-false (sound (root_of table reals counts)) p.0;
        },
        record {
          needs = k;
          planned = f;
          reals-fit = ltb-false (length theirs) k.reals c.0;
          counts-fit = ltb-false (length tallies) k.counts d.0;
          laid = root-laid other k (length theirs) (length tallies) wide f (ltb-false (length theirs) k.reals c.0) (ltb-false (length tallies) k.counts d.0);
          well = not-false (sound (root_of other theirs tallies)) q.0;
        },
      )

  second-clear : (n : Needs) (p : plan.Paper Needs) → Words table → Words other → sizes_of table ≡ plan.gives n → sizes_of other ≡ p
      → second_by table reals counts n other theirs tallies p ≡ 0 → Clear table reals counts × Clear other theirs tallies
  unfolding second_by
  second-clear n (plan.gives k) large wide e f z = both-clear n k large wide e f z
  second-clear n (plan.refuses k) large wide e f z = absurd (omega (arith, z))
  second-clear n (plan.refuses_at k at) large wide e f z = absurd (omega (arith, z))

  first-clear : (p : plan.Paper Needs) → Words table → Words other → sizes_of table ≡ p
      → first_by table reals counts p other theirs tallies ≡ 0 → Clear table reals counts × Clear other theirs tallies
  unfolding first_by
  first-clear (plan.gives n) large wide e z = second-clear n (sizes_of other) large wide e refl z
  first-clear (plan.refuses k) large wide e z = absurd (omega (arith, z))
  first-clear (plan.refuses_at k at) large wide e z = absurd (omega (arith, z))

  pub pair-clear : Words table → Words other → pair_fault table reals counts other theirs tallies ≡ 0 → Clear table reals counts × Clear other theirs tallies
  unfolding pair_fault
  pair-clear large wide z = first-clear (sizes_of table) large wide refl z

  -- what each plan's own answer comes to
  pub second-planned : (n : Needs) (r : Result Needs Refusal) (k : Needs) (f : ℕ) → paper_sized r ≡ sizes_of other → Ok k ≡ r
      → f ≡ both_judged table reals counts n other theirs tallies k → f ≡ second_by table reals counts n other theirs tallies (sizes_of other)
  unfolding second_by
  second-planned n r k f e q j = j ∙ ap (second_by table reals counts n other theirs tallies) (ap paper_sized q ∙ e)

  pub second-strayed : (n : Needs) (r : Result Needs Refusal) (k : Refusal) → paper_sized r ≡ sizes_of other → Err k ≡ r
      → 12 ≡ second_by table reals counts n other theirs tallies (sizes_of other)
  unfolding second_by
  second-strayed n r k e q = ap (second_by table reals counts n other theirs tallies) (ap paper_sized q ∙ e)

  pub first-planned : (r : Result Needs Refusal) (n : Needs) (f : ℕ) → paper_sized r ≡ sizes_of table → Ok n ≡ r
      → f ≡ second_by table reals counts n other theirs tallies (sizes_of other) → f ≡ pair_fault table reals counts other theirs tallies
  unfolding pair_fault first_by
  first-planned r n f e q j = j ∙ ap (λ (p : plan.Paper Needs). first_by table reals counts p other theirs tallies) (ap paper_sized q ∙ e)

  pub first-strayed : (r : Result Needs Refusal) (k : Refusal) → paper_sized r ≡ sizes_of table → Err k ≡ r → 12 ≡ pair_fault table reals counts other theirs tallies
  unfolding pair_fault first_by
  first-strayed r k e q = ap (λ (p : plan.Paper Needs). first_by table reals counts p other theirs tallies) (ap paper_sized q ∙ e)

-- ---- answers on a state

pub refused-first : {A : Type 0} (fault : ℕ) (p : Paper A) → (fault ≡ 0 → ⊥) → on_state fault p ≡ refuses fault
refused-first fault p n = rw (ne_eqb fault 0 n)

pub answered-last : {A : Type 0} (fault : ℕ) (p : Paper A) → fault ≡ 0 → on_state fault p ≡ p
answered-last fault p e = rw e

-- the same of what is not a paper's answer
pub stopped : {A : Type 0} (fault : ℕ) (a b : A) → (fault ≡ 0 → ⊥) → cond (not (eqb fault 0)) a b ≡ a
stopped fault a b n = rw (ne_eqb fault 0 n)

pub went_on : {A : Type 0} (fault : ℕ) (a b : A) → fault ≡ 0 → cond (not (eqb fault 0)) a b ≡ b
went_on fault a b e = rw e

-- ---- the root's own accumulator

pub own-axes : (table : List ℕ) (reals : List Float) (counts : List ℕ) → get_or table 0 0 ≡ 1 → record_at reals counts (get_or table 9 0) (get_or table 10 0) ≡ own_of (root_of table reals counts)
unfolding own_of axes_grid_at
own-axes table reals counts e = sym (ap own_of (node-axes 4 table reals counts 0 e))

pub own-bins : (table : List ℕ) (reals : List Float) (counts : List ℕ) → (get_or table 0 0 ≡ 1 → ⊥) → record_at reals counts (get_or table 5 0) (get_or table 6 0) ≡ own_of (root_of table reals counts)
unfolding own_of head_at
own-bins table reals counts n = sym (ap own_of (node-bins 4 table reals counts 0 n (omega arith)))
