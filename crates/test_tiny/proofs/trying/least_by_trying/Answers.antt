use Rattle.test_tiny.proofs.Common.{rules, arith, ◌≡◌, ℕ, pos, false, replicate, ap, ◌∙◌, ints, to_z-of_z, w64}
use Rattle.test_tiny.proofs.Common.{cast_signed, cast_unsigned, FitsSigned, unsigned_abs, thermal_of, schedule_of}
use Rattle.test_tiny.proofs.Common.{prices_of}
use Rattle.uc_model.specs.declared.units.Unit.{Unit}
use Rattle.test_tiny.proofs.Lemmas.{begins, kept_is_least, size_of}
use Rattle.test_tiny.proofs.trying.least_by_trying.Goals as goal

most_is : (u : Unit) → FitsSigned w64 u.max_power →
    pos (unsigned_abs (cast_signed w64 (cast_unsigned w64 u.max_power))) ≡ u.max_power
most_is u fits =
    let least = u.valid.max_power.at_least in
    size_of (cast_signed w64 (cast_unsigned w64 u.max_power)) (omega (arith, ints, least)) ∙
    to_z-of_z w64 u.max_power fits

pub try_from-requires-clause-kept : goal.try_from-requires-clause-kept
try_from-requires-clause-kept c =
    let fits : FitsSigned w64 c.args.unit.now.max_power = search rules in
    let long = c.len-periods.ensures ∙ c.requires in
    begins (thermal_of c.args.unit.now) (prices_of c.args.prices.now)
    (unsigned_abs (cast_signed w64 (cast_unsigned w64 c.args.unit.now.max_power))) c.args.unit.now.valid
    (most_is c.args.unit.now fits) (schedule_of c.in_ok-candidate.candidate) (schedule_of c.in_ok-kept.kept.response)
    c.in_ok-kept.kept.earned
    (c.in_ok-candidate.ensures.on ∙ ap (λ (n : ℕ). replicate n false) long)
    (c.in_ok-candidate.ensures.power ∙ ap (λ (n : ℕ). replicate n 0) long)
    (c.in_ok-candidate.ensures.reserve ∙ ap (λ (n : ℕ). replicate n 0) long)

pub returns-then-try_from-clause-least : goal.returns-then-try_from-clause-least
returns-then-try_from-clause-least c =
    let fits : FitsSigned w64 c.args.unit.now.max_power = search rules in
    kept_is_least (thermal_of c.args.unit.now) (prices_of c.args.prices.now)
    (unsigned_abs (cast_signed w64 (cast_unsigned w64 c.args.unit.now.max_power))) c.args.unit.now.valid
    (most_is c.args.unit.now fits) (schedule_of c.try_from.new.kept.response) c.try_from.new.kept.earned
    c.if-try_from.ensures
