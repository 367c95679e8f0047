-- A batch trains no more than its evaluations, and all of them where it is not refused.
use Rattle.std.proofs.Common.{◌≡◌, ℕ, ◌+◌, ◌≤◌, not, eqb, List, [], ◌∷◌, length, arith}
use borrow.Author.Tests.{not-true, eqb-false}
use lib.Ieee.{Float}
use Rattle.plan.proofs.Here.{pick}
use Rattle.stream.specs.declared.MonteCarloRng.{MonteCarloRng}
use Rattle.lent.specs.Memory.{Memory}
use Rattle.lent.specs.State.{state_fault}
use Rattle.lent.specs.Batched.{BatchEnd, batch_end, batched, step_of, unless_refused, steps_of, batch_of}

steps-done : (table : List ℕ) (es : List Float) (m : Memory) (s : MonteCarloRng) (k d : ℕ) → (steps_of table es m s k d).answer.done ≤ d + length es
unfolding steps_of unless_refused
steps-done table [] m s k d = omega arith
steps-done table (e ∷ es) m s k d =
    let o = step_of table m s e k in
    let rest = steps_of table es o.state o.stream (k + 1) (d + 1) in
    pick (λ (b : BatchEnd). b.answer.done ≤ d + length (e ∷ es)) (not (eqb o.refused 0)) {x = batch_end (batched o.refused d o.stream) o.state} {y = rest} (λ t. omega arith)
    (λ t. omega (arith, steps-done table es o.state o.stream (k + 1) (d + 1)))

pub batch-done : (table : List ℕ) (m : Memory) (s : MonteCarloRng) (es : List Float) (k : ℕ) → (batch_of table m s es k).answer.done ≤ length es
unfolding batch_of
batch-done table m s es k =
    let fault = state_fault table m.reals m.counts in
    pick (λ (b : BatchEnd). b.answer.done ≤ length es) (not (eqb fault 0)) {x = batch_end (batched fault 0 s) m} {y = steps_of table es m s k 0} (λ t. omega arith) (λ t. omega (arith, steps-done table es m s k 0))

-- and where it is not refused, all of them
steps_all : (table : List ℕ) (es : List Float) (m : Memory) (s : MonteCarloRng) (k d : ℕ) → (steps_of table es m s k d).answer.refused ≡ 0 → (steps_of table es m s k d).answer.done ≡ d + length es
unfolding steps_of unless_refused
steps_all table [] m s k d = λ z. omega arith
steps_all table (e ∷ es) m s k d =
    let o = step_of table m s e k in
    let rest = steps_of table es o.state o.stream (k + 1) (d + 1) in
    pick (λ (b : BatchEnd). b.answer.refused ≡ 0 → b.answer.done ≡ d + length (e ∷ es)) (not (eqb o.refused 0)) {x = batch_end (batched o.refused d o.stream) o.state} {y = rest}
    (λ t z. absurd (eqb-false o.refused 0 (not-true (eqb o.refused 0) t) z)) (λ t z. let h = steps_all table es o.state o.stream (k + 1) (d + 1) z in omega arith)

pub batch-all : (table : List ℕ) (m : Memory) (s : MonteCarloRng) (es : List Float) (k : ℕ) → (batch_of table m s es k).answer.refused ≡ 0 → (batch_of table m s es k).answer.done ≡ length es
unfolding batch_of
batch-all table m s es k =
    let fault = state_fault table m.reals m.counts in
    pick (λ (b : BatchEnd). b.answer.refused ≡ 0 → b.answer.done ≡ length es) (not (eqb fault 0)) {x = batch_end (batched fault 0 s) m} {y = steps_of table es m s k 0}
    (λ t z. absurd (eqb-false fault 0 (not-true (eqb fault 0) t) z)) (λ t z. let h = steps_all table es m s k 0 z in omega arith)
