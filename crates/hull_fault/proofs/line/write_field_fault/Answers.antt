use Rattle.hull_fault.proofs.Common.{[], ◌∷◌, codes, field_told}
use Rattle.hull_fault.proofs.Lemmas.{unit_joined, writes_same}
use Rattle.report_form.specs.Numerals.{numeral}
use Rattle.hull_fault.proofs.line.write_field_fault.Goals as goal

pub returns : goal.returns
unfolding field_told
returns g c =
    let f = c.args.fault.now in
    rw (← c.number-code.ensures, ← c.key.ensures, ← c.as_bytes-key.ensures.value) (writes_same
    (unit_joined (codes "case " ∷ numeral c.number-code.result ∷ codes " field " ∷ c.as_bytes-key.result.now ∷ [])
    (codes " item " ∷ numeral f.item ∷ []) f.kind f.unit _
    c.unit_kind_text-kind.ensures)
    c.write_form_filled_with_parts.ensures)
