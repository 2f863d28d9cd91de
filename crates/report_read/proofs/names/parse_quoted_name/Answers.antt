use Rattle.report_read.proofs.Common.{◌≡◌, ℕ, List, Some, sym, ap, ◌∙◌, subst, IsUtf8}
use Rattle.report_read.proofs.QuotedNames.{name_found, name_bad}
use Rattle.report_read.proofs.names.parse_quoted_name.Goals as goal

pub returns-in-Ok : goal.returns-in-Ok
returns-in-Ok c =
    let found = rw c.in-Some.is at c.in_ok-name.ensures in
    let utf8 : IsUtf8 c.in-Some.name.items =
    subst (λ (z : List ℕ). IsUtf8 z) c.as_slice.ensures.value c.in-Ok.ensures.cases.1 in
    let text : c.in_ok-copied-in-Ok.field-0.items ≡ c.in-Some.name.items =
    c.in_ok-copied-in-Ok.ensures ∙ c.in-Ok.ensures.cases.0 ∙ c.as_slice.ensures.value in
    name_found c.args.bytes.now c.in-Some.name.items c.in-Some.rest.now found utf8 ∙
    ap (λ (z : List ℕ). Some (z, c.in-Some.rest.now)) (sym text)

pub returns : goal.returns
returns c =
    let found = rw c.in-Some.is at c.in_ok-name.ensures in
    name_bad c.args.bytes.now c.in-Some.name.items c.in-Some.rest.now found
    (λ utf8. c.in-Err.ensures.cases.0 (subst (λ (z : List ℕ). IsUtf8 z) (sym c.as_slice.ensures.value) utf8))
