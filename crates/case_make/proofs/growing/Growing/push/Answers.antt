use Rattle.case_make.proofs.Common.{ap, sym, ◌∙◌, ◌+◌, List, map, map_push, subst, arith, Schedule, schedule_of}
use Rattle.case_make.proofs.Common.{AreSums}
use Rattle.std.proofs.lemmas.Option.{get_or_from_slice_get}
use Rattle.case_make.proofs.Lemmas.{sums_powers, sums_more}
use Rattle.case_make.proofs.growing.Growing.push.Goals as goal

pub add_unit_powers_to_sums-requires-clause-lengths : goal.add_unit_powers_to_sums-requires-clause-lengths
add_unit_powers_to_sums-requires-clause-lengths c = c.requires.summed.count ∙ sym c.requires.steady.powers

pub add_unit_powers_to_sums-requires-clause-sums : goal.add_unit_powers_to_sums-requires-clause-sums
add_unit_powers_to_sums-requires-clause-sums c = sums_powers _ _ _ c.requires.summed c.requires.small

pub returns-clause-plan : goal.returns-clause-plan
returns-clause-plan c = ap (map schedule_of) c.push.ensures.items ∙ map_push schedule_of _ _

pub returns-clause-summed : goal.returns-clause-summed
returns-clause-summed c =
    let pushed = ap (map schedule_of) c.push.ensures.items ∙ map_push schedule_of _ _ in
    let first = get_or_from_slice_get c.args.response.reserve.items 0 c.get.result.now 0 c.get.ensures.item in
    subst (λ (plan : List Schedule). AreSums plan c.add_unit_powers_to_sums.new.sums.items
    (c.args.self.now.reserve + c.from.result))
    (sym pushed)
    (sums_more _ _ _ _ _ _ c.requires.summed c.requires.steady c.add_unit_powers_to_sums.ensures.length
    c.add_unit_powers_to_sums.ensures.sums
    (omega (arith, c.from.ensures, first)))
