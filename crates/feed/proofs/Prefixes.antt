-- A plan at the front of some bytes is not empty and ends within them.
use Rattle.std.proofs.Common.{◌≡◌, ℕ, ◌<◌, ◌≤◌, List, ◌++◌, length, drop, sym, refl, ap, ◌∙◌, arith, length-append}
use Rattle.plan.specs.Bounds.{Bytes}
use Rattle.plan.specs.Bytes.{axes_bytes, bins_bytes, encode}
use Rattle.plan.specs.Needs.{untaken, needs_of, after}
use Rattle.plan.specs.Plan.{Tree, nothing, axes, bins}
use Rattle.plan.specs.Paper.{gives, PlanRead, plan_read}
use Rattle.plan.specs.Reading.{Out}
use Rattle.plan.specs.Calls.{grid_of, measured_prefix, measure_prefix_of}
use Rattle.plan.proofs.Plans.{Plan, accepted-is-encoded}

-- bytes that begin with the encoding of a plan
pub record PlanAt (bs : List ℕ) (r : PlanRead) : Type 0 where
  pub tree : Tree
  pub rest : List ℕ
  pub plan : Plan tree
  pub bytes : bs ≡ encode tree ++ rest
  pub end : r.end ≡ length (encode tree)
  pub needs : r.needs ≡ needs_of (after tree untaken)

-- what is measured is a plan
pub measured-is-plan : (bs : List ℕ) (r : PlanRead) → Bytes bs → measure_prefix_of bs ≡ gives r → PlanAt bs r
unfolding measure_prefix_of
measured-is-plan bs r small e = go (grid_of bs) refl e
  where
    go : (o : Out) → grid_of bs ≡ o → measured_prefix o ≡ gives r → PlanAt bs r
    go (Out.stops n at) g e = let z : ◌≡◌ {A = ℕ} 0 1 = cc in absurd (omega arith)
    go (Out.reads t q) g e =
        let d = accepted-is-encoded bs small t q g in
        let b : plan_read q.at (needs_of q.tally) ≡ r = cc in
        record {
          tree = t;
          rest = drop q.at bs;
          plan = d.plan;
          bytes = d.bytes;
          end = sym (ap (λ (p : PlanRead). p.end) b) ∙ d.end;
          needs = sym (ap (λ (p : PlanRead). p.needs) b) ∙ ap needs_of d.taken;
        }

encode-some : (t : Tree) → 0 < length (encode t)
unfolding encode axes_bytes bins_bytes
encode-some nothing = omega arith
encode-some (axes a es) = omega arith
encode-some (bins b ts) = omega arith

module _ (bs : List ℕ) (r : PlanRead) (small : Bytes bs) (e : measure_prefix_of bs ≡ gives r) where
  pub prefix-some : 0 < r.end
  prefix-some = let k = measured-is-plan bs r small e in omega (arith, k.end, encode-some k.tree)

  pub prefix-reach : r.end ≤ length bs
  prefix-reach = let k = measured-is-plan bs r small e in omega (arith, k.end, ap length k.bytes, length-append (encode k.tree) k.rest)
