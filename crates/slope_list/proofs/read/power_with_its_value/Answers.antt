use Rattle.slope_list.proofs.Common.{◌∙◌, arith, rules, FitsSigned, w64, ints, to_z-of_z}
use Rattle.slope_list.proofs.read.power_with_its_value.Goals as goal

pub value_and_piece_at_power-reached-requires-clause-from : goal.value_and_piece_at_power-reached-requires-clause-from
value_and_piece_at_power-reached-requires-clause-from c = omega (arith, ints)

pub value_and_piece_at_power-reached-requires-clause-to : goal.value_and_piece_at_power-reached-requires-clause-to
value_and_piece_at_power-reached-requires-clause-to c = omega (arith, ints)

pub value_and_piece_at_power-reached-requires-clause-within :
    goal.value_and_piece_at_power-reached-requires-clause-within
value_and_piece_at_power-reached-requires-clause-within c = c.requires.within

pub returns-clause-value : goal.returns-clause-value
returns-clause-value c =
    let f : FitsSigned w64 c.value_and_piece_at_power-reached.result.value = search rules in
    to_z-of_z w64 c.value_and_piece_at_power-reached.result.value f ∙
    (rw (to_z-of_z w64 c.args.at c.ranges.at) at c.value_and_piece_at_power-reached.ensures.value)
