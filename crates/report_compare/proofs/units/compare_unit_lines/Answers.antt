use Rattle.report_compare.proofs.Common.{◌≡◌, ap, true, false, sym, ◌∙◌, schedule_of, kind_word, response_lines}
use Rattle.report_compare.proofs.Lemmas.{here_differ, titles_differ, unit_compared}
use Rattle.report_compare.proofs.OneLine.{Titled, title_text}
use Rattle.report_compare.proofs.units.compare_unit_lines.Goals as goal
use Rattle.report_compare.proofs.units.compare_unit_lines.Goals.{
  then-not-is_unit_title_same-via-then-not-is_unit_title_same,
}
use Rattle.report_compare.proofs.units.compare_unit_lines.Goals.{
  then-not-is_unit_title_same-via-else-not-is_unit_title_same+then-not-are_unit_amounts_same,
}

pub returns-then-not-is_unit_title_same-clause-lines : goal.returns-then-not-is_unit_title_same-clause-lines
returns-then-not-is_unit_title_same-clause-lines c =
    let mine = c.args.mine.now in
    let title = c.args.title.now in
    let owed = c.args.owed.now in
    let t : Titled = (mine.name.items, mine.earned, mine.scheduled, mine.payment) in
    let u : Titled = (title.name.now, owed.earned, owed.scheduled, owed.payment) in
    here_differ c.args.first (title_text (kind_word mine.kind) t) (title_text (kind_word title.kind) u)
    (response_lines mine.kind (schedule_of mine.response))
    (response_lines title.kind (schedule_of c.args.right.now))
    (titles_differ mine.kind title.kind t u (λ kind same.
    let names = c.is_unit_title_same.ensures.1 (kind, ap (λ (z : Titled). z.0) same) in
    elim c.then-not-is_unit_title_same.branch [
      | then-not-is_unit_title_same-via-then-not-is_unit_title_same w ↦
          (let n : false ≡ true = sym w.if-not-is_unit_title_same.true ∙ names in cc)
      | then-not-is_unit_title_same-via-else-not-is_unit_title_same+then-not-are_unit_amounts_same w ↦
          (let money = w.are_unit_amounts_same.ensures.1
          (ap (λ (z : Titled). z.1) same, ap (λ (z : Titled). z.2) same, ap (λ (z : Titled). z.3) same) in
          let n : false ≡ true = sym w.if-not-are_unit_amounts_same.true ∙ money in cc)
    ]))

pub returns-clause-lines : goal.returns-clause-lines
returns-clause-lines c =
    let mine = c.args.mine.now in
    let title = c.args.title.now in
    let owed = c.args.owed.now in
    let t : Titled = (mine.name.items, mine.earned, mine.scheduled, mine.payment) in
    let u : Titled = (title.name.now, owed.earned, owed.scheduled, owed.payment) in
    let names = c.is_unit_title_same.ensures.0 c.if-not-is_unit_title_same.false in
    let money = c.are_unit_amounts_same.ensures.0 c.if-not-are_unit_amounts_same.false in
    unit_compared c.args.first c.compare_response.result mine.kind title.kind t u (schedule_of mine.response)
    (schedule_of c.args.right.now)
    names.0 (λ i. (names.1 i, money.0 i, money.1 i, money.2 i)) c.compare_response.ensures
