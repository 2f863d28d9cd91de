use Rattle.ramp_step.proofs.Common.{◌≡◌, sym, ap, ◌∙◌, subst, arith, rules, to_z, of_z, Option, Some, None, ℤ, ◌≤ℤ◌}
use Rattle.ramp_step.proofs.Common.{FitsSigned, MatchOption, w64, int_min, int_max, ints, to_z-of_z, IsLeastIn}
use Rattle.ramp_step.proofs.Common.{value_of, HasNone, power, table_of}
use Rattle.ramp_step.proofs.Lemmas.{nearest_is_least}
use Rattle.ramp_step.proofs.read.least_in.Goals as goal
use Rattle.ramp_step.proofs.read.least_in.Goals.{After-max-at}

-- the power nearest to the turn
nearest : (c : After-max-at) →
    to_z w64 (of_z w64 c.max-at.result) ≡ int_max c.args.lo (int_min c.args.hi (power c.args.knots.now c.turn-j.result))
nearest c =
    let ks = c.args.knots.now in
    let j = c.turn-j.result in
    let e-hi : to_z w64 (of_z w64 c.args.hi) ≡ c.args.hi = to_z-of_z w64 _ c.ranges.hi in
    let e-turn : to_z w64 (of_z w64 (power ks j)) ≡ power ks j = omega (arith, ints) in
    let e-min : to_z w64 (of_z w64 c.min.result) ≡ int_min c.args.hi (power ks j) =
    to_z-of_z w64 _ (record { sfits = c.min.type_inv }) ∙ rw (e-hi, e-turn) at c.min.ensures.value in
    to_z-of_z w64 _ (record { sfits = c.max-at.type_inv }) ∙
    rw (to_z-of_z w64 c.args.lo c.ranges.lo, e-min) at c.max-at.ensures.value

-- what the value there says
answered : (c : After-max-at) → c.args.lo ≤ℤ c.args.hi → (o : Option ℤ) →
    o ≡ value_of (table_of c.args.knots.now c.args.used) (to_z w64 (of_z w64 c.max-at.result))
    → MatchOption o (HasNone c.args.lo c.args.hi (table_of c.args.knots.now c.args.used))
    (λ v. IsLeastIn c.args.lo c.args.hi (table_of c.args.knots.now c.args.used) v
    (to_z w64 (of_z w64 c.max-at.result)))
answered c order o is =
    let f = table_of c.args.knots.now c.args.used in
    let at = nearest c in
    let least = nearest_is_least c.args.knots.now c.args.used c.turn-j.result c.args.lo c.args.hi c.requires.breaks
    c.turn-j.ensures order in
    let e : value_of f (int_max c.args.lo (int_min c.args.hi (power c.args.knots.now c.turn-j.result))) ≡ o =
    ap (value_of f) (sym at) ∙ sym is in
    rw at (subst (λ p. MatchOption p (HasNone c.args.lo c.args.hi f)
    (λ v. IsLeastIn c.args.lo c.args.hi f v
    (int_max c.args.lo (int_min c.args.hi (power c.args.knots.now c.turn-j.result))))) e least)

pub returns-in-Some : goal.returns-in-Some
returns-in-Some c =
    let fits : FitsSigned w64 c.in-Some.value = search rules in
    let value : to_z w64 (of_z w64 c.in-Some.value) ≡ c.in-Some.value = to_z-of_z w64 _ fits in
    let order : c.args.lo ≤ℤ c.args.hi = omega (arith, ints) in
    rw value (answered (goal.at.returns-in-Some c).After-max-at order (Some c.in-Some.value) c.in-Some.ensures)

pub returns-in-None : goal.returns-in-None
returns-in-None c = answered (goal.at.returns-in-None c).After-max-at (omega (arith, ints)) None c.in-None.ensures
