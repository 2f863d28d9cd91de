use Rattle.hull_fault.proofs.Common.{[], ◌∷◌, codes, rules, w128, to_z-of_z, rule_told}
use Rattle.hull_fault.proofs.Lemmas.{unit_joined, writes_same}
use Rattle.report_form.specs.Numerals.{numeral, signed_numeral}
use Rattle.hull_fault.proofs.line.write_schedule_rule_fault.Goals as goal

pub returns : goal.returns
unfolding rule_told
returns g c =
    let f = c.args.fault.now in
    rw (← c.number-code.ensures) (writes_same
    (unit_joined (codes "schedule " ∷ numeral c.number-code.result ∷ [])
    (codes " period " ∷ numeral f.period ∷ codes " left " ∷ signed_numeral f.left ∷ codes " right "
    ∷ signed_numeral f.right ∷ []) f.kind f.unit _
    c.unit_kind_text-kind.ensures)
    (rw (
      to_z-of_z w128 f.left (search rules),
      to_z-of_z w128 f.right (search rules),
    ) at c.write_form_filled_with_parts.ensures))
