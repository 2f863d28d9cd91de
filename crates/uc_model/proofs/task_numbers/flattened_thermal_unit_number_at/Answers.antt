use Rattle.uc_model.proofs.Common.{arith, ◌-◌, sym, ◌∙◌, thermal_of}
use Rattle.uc_model.proofs.Lemmas.{unit_numbers-fixed, unit_numbers-lists}
use Rattle.uc_model.proofs.task_numbers.flattened_thermal_unit_number_at.Goals as goal

pub returns-then-place-le-FIXED : goal.returns-then-place-le-FIXED
returns-then-place-le-FIXED c =
    c.thermal_unit_field_at.ensures
    ∙ sym (unit_numbers-fixed (thermal_of c.args.u.now) c.args.place (c.args.place - 1)
    (omega (arith, c.if-place-eq0.false)) (omega (arith, c.if-place-eq0.false, c.if-place-le-FIXED.true)))

pub returns : goal.returns
returns c =
    c.flattened_unit_lists_number_at.ensures
    ∙ sym (unit_numbers-lists (thermal_of c.args.u.now) c.args.place (c.args.place - 13 - 1)
    (omega (arith, c.if-place-le-FIXED.false)))
