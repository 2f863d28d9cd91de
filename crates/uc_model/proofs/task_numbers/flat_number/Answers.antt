use Rattle.uc_model.proofs.Common.{arith, ◌-◌, ℤ, List, length, ap, sym, ◌∙◌, slice_get}
use Rattle.uc_model.proofs.Lemmas.{task_numbers-energy, task_numbers-reserve, task_numbers-unit}
use Rattle.uc_model.specs.PlainCases.{task_unit}
use Rattle.uc_model.specs.PlainUnits.{prices_of}
use Rattle.uc_model.proofs.task_numbers.flat_number.Goals as goal

pub returns-then-place-energy : goal.returns-then-place-energy
returns-then-place-energy c =
    let t = c.args.task.now in
    let energy = ap (λ (xs : List ℤ). length xs) c.as_slice-energy.ensures in
    let i = c.args.place - 1 in
    c.number_in_list.ensures
    ∙ ap (λ (xs : List ℤ). slice_get xs i) c.as_slice-energy.ensures
    ∙ sym (task_numbers-energy (prices_of t.prices) (task_unit t) c.args.place i (omega (arith, c.if-place-eq0.false))
    (omega (arith, c.if-place-eq0.false, c.if-place-energy.true, energy)))

pub returns-then-place-energy-2 : goal.returns-then-place-energy-2
returns-then-place-energy-2 c =
    let t = c.args.task.now in
    let energy = ap (λ (xs : List ℤ). length xs) c.as_slice-energy.ensures in
    let reserve = ap (λ (xs : List ℤ). length xs) c.as_slice-reserve.ensures in
    let i = c.args.place - length c.as_slice-energy.result.now - 1 in
    c.number_in_list-then-place-energy-2.ensures
    ∙ ap (λ (xs : List ℤ). slice_get xs i) c.as_slice-reserve.ensures
    ∙ sym (task_numbers-reserve (prices_of t.prices) (task_unit t) c.args.place i
    (omega (arith, c.if-place-energy.false, energy))
    (omega (arith, c.if-place-energy.false, c.if-place-energy-2.true, energy, reserve)))

pub returns : goal.returns
returns c =
    let t = c.args.task.now in
    let energy = ap (λ (xs : List ℤ). length xs) c.as_slice-energy.ensures in
    let reserve = ap (λ (xs : List ℤ). length xs) c.as_slice-reserve.ensures in
    c.flattened_task_unit_number_at.ensures
    ∙ sym (task_numbers-unit (prices_of t.prices) (task_unit t) c.args.place
    (c.args.place - length c.as_slice-energy.result.now - length c.as_slice-reserve.result.now - 1)
    (omega (arith, c.if-place-energy-2.false, energy, reserve)))
