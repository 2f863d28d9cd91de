use Rattle.test_tiny.proofs.Common.{rules, arith, ◌≡◌, ℕ, ℤ, length, true, sym, subst, ◌∙◌, ints, to_z-of_z, w64}
use Rattle.test_tiny.proofs.Common.{cast_signed, cast_unsigned, FitsSigned, IsTrue, ◌<ℤ◌, Schedule, thermal_of}
use Rattle.test_tiny.proofs.Common.{schedule_of, prices_of, IsThermalFeasible, schedules_after, IsWithin, IsKept}
use Rattle.uc_model.specs.declared.units.Response.{Response}
use Rattle.test_tiny.proofs.CountLaws.{IsCounted}
use Rattle.test_tiny.proofs.Lemmas.{keeps_infeasible, keeps_better, takes}
use Rattle.test_tiny.proofs.trying.consider.Goals as goal
use Rattle.test_tiny.proofs.trying.consider.Goals.{else-found-via-then-found+else-earned-kept}
use Rattle.test_tiny.proofs.trying.consider.Goals.{else-found-via-else-found}

counted_one : (most n : ℕ) (r : Response) → length r.on.items ≡ n → IsWithin most (schedule_of r) →
    IsCounted most n (schedule_of r)
counted_one most n r long within =
    record { on = long; power = r.valid.power ∙ long; reserve = r.valid.reserve ∙ long; within = within }

pub returns-then-not-is_feasible-clause-kept : goal.returns-then-not-is_feasible-clause-kept
returns-then-not-is_feasible-clause-kept c =
    let g = thermal_of c.args.unit.now in
    let s = schedule_of c.args.candidate.now in
    keeps_infeasible g (prices_of c.args.prices.now) c.args.most c.args.unit.now.valid c.requires.most s
    (counted_one c.args.most (length c.args.prices.now.energy.items) c.args.candidate.now c.requires.length
    c.requires.within) c.args.found (schedule_of c.args.kept.now.response) c.args.kept.now.earned c.requires.kept
    (λ f. let infeasible = c.if-not-is_feasible.true in
    let feasible =
    c.is_feasible.ensures.1 (subst (λ (n : ℕ). IsThermalFeasible g n s) (sym c.requires.horizon) f) in cc)

pub returns-then-earned-kept-clause-kept : goal.returns-then-earned-kept-clause-kept
returns-then-earned-kept-clause-kept c =
    let value = c.feasible_earnings-earned.ensures in
    let no_more = c.if-earned-kept.true in
    keeps_better (thermal_of c.args.unit.now) (prices_of c.args.prices.now) c.args.most c.args.unit.now.valid
    c.requires.most (schedule_of c.args.candidate.now)
    (counted_one c.args.most (length c.args.prices.now.energy.items) c.args.candidate.now c.requires.length
    c.requires.within) c.args.found (schedule_of c.args.kept.now.response) c.args.kept.now.earned c.requires.kept
    c.if-found.true (omega (arith, ints, value, no_more))

pub returns-clause-kept : goal.returns-clause-kept
returns-clause-kept c =
    let a : FitsSigned w64 c.feasible_earnings-earned.result = search rules in
    let g = thermal_of c.args.unit.now in
    let s = schedule_of c.args.candidate.now in
    let value = c.feasible_earnings-earned.result in
    let feasible : IsThermalFeasible g (length c.args.prices.now.energy.items) s =
    subst (λ (n : ℕ). IsThermalFeasible g n s) c.requires.horizon
    (c.is_feasible.ensures.0 c.if-not-is_feasible.false) in
    let better : IsTrue c.args.found → c.args.kept.now.earned <ℤ value = λ have. elim c.else-found.branch [
      | else-found-via-then-found+else-earned-kept w ↦ let more = w.if-earned-kept.false in omega (arith, ints, more)
      | else-found-via-else-found w ↦ let none = w.if-found.false in cc
    ] in
    let kept = takes g (prices_of c.args.prices.now) c.args.most c.args.unit.now.valid c.requires.most s
    (counted_one c.args.most (length c.args.prices.now.energy.items) c.args.candidate.now c.requires.length
    c.requires.within) c.args.found (schedule_of c.args.kept.now.response) c.args.kept.now.earned
    c.requires.kept
    value feasible c.feasible_earnings-earned.ensures better in
    subst (λ (z : Schedule). IsKept g (prices_of c.args.prices.now) c.args.most (schedules_after c.args.most s) true z
    (cast_signed w64 (cast_unsigned w64 value))) (sym c.copy_response.ensures)
    (subst (λ (z : ℤ). IsKept g (prices_of c.args.prices.now) c.args.most (schedules_after c.args.most s) true s z)
    (sym (to_z-of_z w64 value a)) kept)
