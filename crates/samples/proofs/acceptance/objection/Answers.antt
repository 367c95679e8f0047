-- Each test is the model's, in the model's order; a form that has no fault bounds the weights and gives what the judge of 8 asks.
use mathlib.Core.Path.{◌≡◌, refl, sym, ap, ap₂, ◌∙◌}
use mathlib.Core.Bool.{Bool, ◌&&◌}
use native.Mathlib.Omega.{arith}
use lib.Ieee.{nan}
use borrow.Author.Rules.{rules}
use Rattle.doubles.specs.Finite.{finite_of}
use Rattle.doubles.specs.Total.{all_finite}
use Rattle.std.proofs.lemmas.Result.{err_from_is_err_and}
use Rattle.doubles.specs.Refusal.{number_of, fault_of}
use Rattle.doubles.proofs.Refusals.{number_ne0}
use Rattle.doubles.proofs.Truth.{failed, passed}
use Rattle.lent.specs.State.{root_of}
use Rattle.lent.specs.Sampled.{entries}
use Rattle.lent.specs.Absorbed.{Takes, form_of}
use Rattle.lent.proofs.Objections.{five-weights, number-low, number-high, number-good, object-number, object-form, object-finite, object-kept, object-none}
use Rattle.samples.proofs.acceptance.objection.Goals as goal

pub returns-then-number-eq0 : goal.returns-then-number-eq0
returns-then-number-eq0 c = (object-number (root_of c.args.m.table.now c.args.m.reals.now c.args.m.counts.now) c.args.s.now c.args.evaluation c.args.number (number-low c.args.number c.if-number-eq0.true), λ z. absurd (omega (arith, z)))

pub returns-then-number-gt9007199254740992 : goal.returns-then-number-gt9007199254740992
returns-then-number-gt9007199254740992 c = (object-number (root_of c.args.m.table.now c.args.m.reals.now c.args.m.counts.now) c.args.s.now c.args.evaluation c.args.number (number-high c.args.number c.if-number-gt9007199254740992.true), λ z. absurd (omega (arith, z)))

-- its form's own fault, and the same where it has none
pub returns-in_err-form : goal.returns-in_err-form
returns-in_err-form c = let p = err_from_is_err_and c.from_residual.result c.from_residual.ensures.1 in
    let e : number_of c.in_err-form.field-0.0 ≡ form_of (root_of c.args.m.table.now c.args.m.reals.now c.args.m.counts.now) c.args.s.now = sym (ap fault_of c.in_err-form.was) ∙ c.requires.2 in
    rw (p.1, p.2) (object-form (root_of c.args.m.table.now c.args.m.reals.now c.args.m.counts.now) c.args.s.now c.args.evaluation c.args.number _ (number-good c.args.number c.if-number-eq0.false c.if-number-gt9007199254740992.false) e (number_ne0 c.in_err-form.field-0.0), λ z. absurd (number_ne0 c.in_err-form.field-0.0 z))

pub returns-then-not-finite : goal.returns-then-not-finite
returns-then-not-finite c = (object-finite (root_of c.args.m.table.now c.args.m.reals.now c.args.m.counts.now) c.args.s.now c.args.evaluation c.args.number (number-good c.args.number c.if-number-eq0.false c.if-number-gt9007199254740992.false) (sym c.requires.2 ∙ ap fault_of c.in_ok-form.was) (ap (λ (b : Bool). b && all_finite (entries nan c.args.s.now.weights 0 c.args.s.now.given)) (failed c.finite.ensures c.if-not-finite.true)), λ z. absurd (omega (arith, z)))

pub are_all-requires : goal.are_all-requires
are_all-requires c = (omega arith, (five-weights c.args.m.table.now c.args.m.reals.now c.args.m.counts.now c.args.s.now (sym c.requires.2 ∙ ap fault_of c.in_ok-form.was), search rules))

pub returns-then-not-are_all : goal.returns-then-not-are_all
unfolding all_finite
returns-then-not-are_all c = (object-finite (root_of c.args.m.table.now c.args.m.reals.now c.args.m.counts.now) c.args.s.now c.args.evaluation c.args.number (number-good c.args.number c.if-number-eq0.false c.if-number-gt9007199254740992.false) (sym c.requires.2 ∙ ap fault_of c.in_ok-form.was) (ap₂ ◌&&◌ (passed c.finite.ensures c.if-not-finite.false) (failed (c.are_all.ensures finite_of (λ x b e. e) all_finite refl (λ x xs. refl)) c.if-not-are_all.true)), λ z. absurd (omega (arith, z)))

pub grid_accepts-requires : goal.grid_accepts-requires
grid_accepts-requires c = let s = c.args.s.now in
    let number = number-good c.args.number c.if-number-eq0.false c.if-number-gt9007199254740992.false in
    let form = sym c.requires.2 ∙ ap fault_of c.in_ok-form.was in
    let takes : Takes (root_of c.args.m.table.now c.args.m.reals.now c.args.m.counts.now) s 0 c.args.number = record { well = c.requires.1; form = form; number = number } in
    (c.requires.0, omega arith, takes, c.requires.3)

pub returns-then-not-grid_accepts : goal.returns-then-not-grid_accepts
unfolding all_finite
returns-then-not-grid_accepts c = let s = c.args.s.now in
    let number = number-good c.args.number c.if-number-eq0.false c.if-number-gt9007199254740992.false in
    let form = sym c.requires.2 ∙ ap fault_of c.in_ok-form.was in
    let takes : Takes (root_of c.args.m.table.now c.args.m.reals.now c.args.m.counts.now) s 0 c.args.number = record { well = c.requires.1; form = form; number = number } in
    let finite = ap₂ ◌&&◌ (passed c.finite.ensures c.if-not-finite.false) (passed (c.are_all.ensures finite_of (λ x b e. e) all_finite refl (λ x xs. refl)) c.if-not-are_all.false) in
    let kept = c.grid_accepts.ensures in
    (object-kept (root_of c.args.m.table.now c.args.m.reals.now c.args.m.counts.now) s c.args.evaluation c.args.number number form finite (failed kept.0 c.if-not-grid_accepts.true), λ z. absurd (omega (arith, z)))

pub returns : goal.returns
unfolding all_finite
returns c = let s = c.args.s.now in
    let number = number-good c.args.number c.if-number-eq0.false c.if-number-gt9007199254740992.false in
    let form = sym c.requires.2 ∙ ap fault_of c.in_ok-form.was in
    let takes : Takes (root_of c.args.m.table.now c.args.m.reals.now c.args.m.counts.now) s 0 c.args.number = record { well = c.requires.1; form = form; number = number } in
    let finite = ap₂ ◌&&◌ (passed c.finite.ensures c.if-not-finite.false) (passed (c.are_all.ensures finite_of (λ x b e. e) all_finite refl (λ x xs. refl)) c.if-not-are_all.false) in
    let kept = c.grid_accepts.ensures in
    (object-none (root_of c.args.m.table.now c.args.m.reals.now c.args.m.counts.now) s c.args.evaluation c.args.number number form finite (passed kept.0 c.if-not-grid_accepts.false), λ z. kept.1)
