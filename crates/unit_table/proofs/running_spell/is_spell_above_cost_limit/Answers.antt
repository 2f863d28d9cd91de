use Rattle.unit_table.proofs.Common.{shown}
use Rattle.unit_table.proofs.Common.{arith, rules, ℤ, ◌+ℤ◌, FitsSigned, ◌<ℤ◌, ◌≡◌, Some, w64, OnTrue_at, OnTrue_from}
use Rattle.unit_table.proofs.Common.{ints, to_z-of_z, IsBeyond, value_of}
use Rattle.unit_table.proofs.Lemmas.{beyond_of}
use Rattle.unit_table.proofs.running_spell.is_spell_above_cost_limit.Goals as goal

pub is_function_above_limit-requires : goal.is_function_above_limit-requires
is_function_above_limit-requires c =
    let fits_entry : FitsSigned w64 c.args.spell.now.cost = search rules in
    rw (to_z-of_z w64 c.args.spell.now.cost fits_entry)
    (record { at_least = omega (arith, ints); at_most = omega (arith, ints) })

pub returns : goal.returns
returns c =
    let fits_entry : FitsSigned w64 c.args.spell.now.cost = search rules in
    let fits_limit : FitsSigned w64 c.args.limit = search rules in
    let f = shown c.args.spell.now.running in
    let e = c.args.spell.now.cost in
    OnTrue_from c.is_function_above_limit.result
    (IsBeyond c.args.limit e f)
    (λ t.
    let over : (x v : ℤ) → value_of f x ≡ Some v → c.args.limit <ℤ (v +ℤ e) = simp to_z-of_z at
    (OnTrue_at t c.is_function_above_limit.ensures) in
    beyond_of f e c.args.limit over)
