use Rattle.report_compare.proofs.Common.{Some, sym, ◌∙◌, market_of, unit_of}
use Rattle.report_compare.proofs.Lemmas.{titled}
use Rattle.report_compare.proofs.due.title_of_unit.Goals as goal

pub returns : goal.returns
returns c =
    let named = c.unit_at-named in
    titled (market_of c.args.case.now) c.args.number (unit_of named.result.unit) named.result.name.now
    named.ensures.unit
    named.ensures.name
    ∙ (λ i. Some (record { kind = sym c.kind.ensures i; name = named.result.name.now }))
