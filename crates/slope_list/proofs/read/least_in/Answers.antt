use Rattle.slope_list.proofs.Common.{◌≡◌, ap, ◌∙◌, subst, sym, arith, rules, ℤ, FitsSigned, w64, int_min, int_max}
use Rattle.slope_list.proofs.Common.{ints, clamps, to_z-of_z, IsLeastIn, last_power, function_of, table_of}
use Rattle.slope_list.proofs.Lemmas.{IsLeastIn-valley, HasNone-on}
use Rattle.slope_list.proofs.read.least_in.Goals as goal

pub returns-then-low-high : goal.returns-then-low-high
returns-then-low-high c =
    let ff : FitsSigned w64 c.args.start.first = search rules in
    let last : c.last_power.result ≡ last_power c.args.start.first c.args.pieces.now =
    rw (to_z-of_z w64 c.args.start.first ff) at c.last_power.ensures in
    HasNone-on (function_of c.args.start c.args.pieces.now) c.args.start.first
    (last_power c.args.start.first c.args.pieces.now) c.args.lo c.args.hi (omega (arith, ints, clamps))

pub power_with_its_value-requires-clause-from : goal.power_with_its_value-requires-clause-from
power_with_its_value-requires-clause-from c =
    let ff : FitsSigned w64 c.args.start.first = search rules in
    let last : c.last_power.result ≡ last_power c.args.start.first c.args.pieces.now =
    rw (to_z-of_z w64 c.args.start.first ff) at c.last_power.ensures in
    omega (arith, ints, clamps)

pub power_with_its_value-requires-clause-to : goal.power_with_its_value-requires-clause-to
power_with_its_value-requires-clause-to c =
    let ff : FitsSigned w64 c.args.start.first = search rules in
    let last : c.last_power.result ≡ last_power c.args.start.first c.args.pieces.now =
    rw (to_z-of_z w64 c.args.start.first ff) at c.last_power.ensures in
    omega (arith, ints, clamps)

pub power_with_its_value-requires-clause-within : goal.power_with_its_value-requires-clause-within
power_with_its_value-requires-clause-within c = c.requires.within

pub returns : goal.returns
returns c =
    let f = function_of c.args.start c.args.pieces.now in
    let v = c.end_of_fall.ensures.valley in
    let ff : FitsSigned w64 c.args.start.first = search rules in
    let last : c.last_power.result ≡ last_power c.args.start.first c.args.pieces.now =
    rw (to_z-of_z w64 c.args.start.first ff) at c.last_power.ensures in
    let g : FitsSigned w64 c.max-at.result = search rules in
    let e = to_z-of_z w64 c.max-at.result g in
    let low : c.max-low.result ≡ int_max c.args.lo c.args.start.first = omega (arith, ints, clamps) in
    let high : c.min-high.result ≡ int_min c.args.hi (last_power c.args.start.first c.args.pieces.now) =
    omega (arith, ints, clamps) in
    let at : c.max-at.result ≡ int_max c.max-low.result (int_min c.min-high.result c.end_of_fall.result.at) =
    omega (arith, ints, clamps) in
    let is : c.power_with_its_value.result.at ≡ c.max-at.result = c.power_with_its_value.ensures.at ∙ e in
    let value : c.power_with_its_value.result.value ≡ f c.max-at.result = c.power_with_its_value.ensures.value ∙ ap f
    e in
    subst (λ (z : ℤ). IsLeastIn c.args.lo c.args.hi (table_of c.args.start c.args.pieces.now)
    c.power_with_its_value.result.value z)
    (sym is)
    (IsLeastIn-valley f c.args.start.first (last_power c.args.start.first c.args.pieces.now) c.end_of_fall.result.at v
    c.args.lo c.args.hi c.max-low.result c.min-high.result c.max-at.result low high (omega (arith, ints)) at
    c.power_with_its_value.result.value value)
