use Rattle.uc_mixture.proofs.Common.{map, ◌∙◌, length-map, err_from_is_err_and, List, rules, w64, FitsSigned, to_z-of_z}
use Rattle.uc_mixture.proofs.Common.{view, market_of, WeighedSchedule, entries_of, AreEntries, HasMixtureShape, head_of}
use Rattle.uc_model.specs.PlainUnits.{named_thermal_of}
use Rattle.uc_plan.proofs.Joined.{thermal_named}
use Rattle.uc_mixture.proofs.Shapes.{zipped}
use Rattle.uc_mixture.proofs.Steps.{units_unknown, units_fail, mixture_read}
use Rattle.uc_mixture.proofs.mixtures.mixture_of_json_tree.Goals as goal

pub returns-in_err-check_unit_names_of_mixture-clause-value :
    goal.returns-in_err-check_unit_names_of_mixture-clause-value
returns-in_err-check_unit_names_of_mixture-clause-value c =
    let m = market_of c.args.case.now in
    let h = head_of c.in_ok-head.head in
    let fails = rw (c.as_slice-units.ensures, ← thermal_named c.args.case.now.thermal.items) at
    c.in_err-check_unit_names_of_mixture.ensures in
    let p = err_from_is_err_and c.from_residual-in_err-check_unit_names_of_mixture.result
    c.from_residual-in_err-check_unit_names_of_mixture.ensures.1 in
    rw (p.1, p.2) (units_unknown m (view c.args.root) h c.in_ok-head.ensures.value
    c.in_err-check_unit_names_of_mixture.field-0.0 fails)

pub returns-in_err-thermal-clause-value : goal.returns-in_err-thermal-clause-value
returns-in_err-thermal-clause-value c =
    let m = market_of c.args.case.now in
    let h = head_of c.in_ok-head.head in
    let fits : FitsSigned w64 c.in_ok-head.head.whole = search rules in
    let same = to_z-of_z w64 c.in_ok-head.head.whole fits in
    let known = rw (c.as_slice-units.ensures, ← thermal_named c.args.case.now.thermal.items) at
    c.in_ok-check_unit_names_of_mixture.ensures in
    let fails = rw (same, c.as_slice-units.ensures, ← thermal_named c.args.case.now.thermal.items) at
    c.in_err-thermal.ensures.value in
    let p = err_from_is_err_and c.from_residual-in_err-thermal.result c.from_residual-in_err-thermal.ensures.1 in
    rw (p.1, p.2) (units_fail m (view c.args.root) h c.in_ok-head.ensures.value known c.in_err-thermal.field-0.0 fails)

pub returns-clause-value : goal.returns-clause-value
returns-clause-value c =
    let m = market_of c.args.case.now in
    let h = head_of c.in_ok-head.head in
    let fits : FitsSigned w64 c.in_ok-head.head.whole = search rules in
    let same = to_z-of_z w64 c.in_ok-head.head.whole fits in
    let known = rw (c.as_slice-units.ensures, ← thermal_named c.args.case.now.thermal.items) at
    c.in_ok-check_unit_names_of_mixture.ensures in
    let read = rw (same, c.as_slice-units.ensures, ← thermal_named c.args.case.now.thermal.items) at
    c.in_ok-thermal.ensures.value in
    rw same (mixture_read m (view c.args.root) h c.in_ok-head.ensures.value known
    (map entries_of c.in_ok-thermal.thermal.items) read)

pub returns-clause-shape : goal.returns-clause-shape
returns-clause-shape c =
    let m = market_of c.args.case.now in
    let h = head_of c.in_ok-head.head in
    let fits : FitsSigned w64 c.in_ok-head.head.whole = search rules in
    let same = to_z-of_z w64 c.in_ok-head.head.whole fits in
    let few = rw (c.as_slice-units.ensures, ← length-map c.args.case.now.thermal.items named_thermal_of) at
    c.in_ok-thermal.ensures.count in
    let over = rw same at c.in_ok-thermal.ensures.fits in
    let shape : HasMixtureShape m (record { whole = h.whole; entries = map entries_of c.in_ok-thermal.thermal.items }) =
    record {
      whole = c.in_ok-head.ensures.whole;
      entries = zipped (λ (es : List WeighedSchedule). AreEntries m.periods h.whole es) m.thermal
          (map entries_of c.in_ok-thermal.thermal.items) (length-map c.in_ok-thermal.thermal.items entries_of ∙ few)
          over;
    } in
    rw same shape
