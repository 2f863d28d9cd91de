use Rattle.hull_report.proofs.Common.{arith, refl, codes, List, ℕ, AnyUnit, market_of, told_of, paid_text, paid_start}
use Rattle.hull_report.proofs.Common.{paid_line, PaidLine, unit_of}
use Rattle.hull_report.proofs.Lemmas.{all_texts, text_at, no_more_texts, told_by_kind, all_items, writes_same}
use Rattle.hull_report.proofs.Lemmas.{line_gained, line_cut}
use Rattle.hull_report.proofs.fixed.write_fixed_payments.Goals as goal

abbrev text : AnyUnit → PaidLine → List ℕ
text u = paid_text (paid_start u)

pub returns-in_err-write_fixed_payment : goal.returns-in_err-write_fixed_payment
returns-in_err-write_fixed_payment g c =
    line_cut c.texts_written_in_turn_add_up.ensures
    (all_texts text (paid_line (told_of c.args.hull.now) (told_of c.args.fixed.now))
    (market_of c.args.case.now))
    c.loop-number.number _
    (text_at text (paid_line (told_of c.args.hull.now) (told_of c.args.fixed.now)) (market_of c.args.case.now)
    (market_of c.args.case.now) refl c.loop-number.number
    (unit_of c.unit_at-named.result.unit) c.unit_at-named.result.name.now _ c.unit_at-named.ensures.unit
    c.unit_at-named.ensures.name
    (λ i. paid_text (c.fixed_line_prefix_of_unit.ensures i) (c.payments_for_fixed_report-paid.ensures
    c.unit_at-named.result.name.now i)))
    _ (told_by_kind text (paid_line (told_of c.args.hull.now) (told_of c.args.fixed.now)) (market_of c.args.case.now)
    (paid_text (codes "unit thermal "))
    (paid_text (codes "unit renewable ")) (paid_text (codes "unit bid ")) (λ n l. refl) (λ n l. refl) (λ n l. refl))
    _ c.from_residual.ensures.0 c.in_err-write_fixed_payment.ensures.err c.loop-number.invariant

pub loop-number-preserved : goal.loop-number-preserved
loop-number-preserved g c =
    line_gained c.texts_written_in_turn_add_up.ensures (all_texts text
    (paid_line (told_of c.args.hull.now) (told_of c.args.fixed.now)) (market_of c.args.case.now))
    c.loop-number.number _
    (text_at text (paid_line (told_of c.args.hull.now) (told_of c.args.fixed.now)) (market_of c.args.case.now)
    (market_of c.args.case.now) refl c.loop-number.number
    (unit_of c.unit_at-named.result.unit) c.unit_at-named.result.name.now _ c.unit_at-named.ensures.unit
    c.unit_at-named.ensures.name
    (λ i. paid_text (c.fixed_line_prefix_of_unit.ensures i) (c.payments_for_fixed_report-paid.ensures
    c.unit_at-named.result.name.now i)))
    c.in_ok-write_fixed_payment.ensures.ok c.loop-number.invariant

pub returns : goal.returns
returns g c =
    let m = market_of c.args.case.now in
    let line = paid_line (told_of c.args.hull.now) (told_of c.args.fixed.now) in
    writes_same (told_by_kind text line m (paid_text (codes "unit thermal ")) (paid_text (codes "unit renewable "))
    (paid_text (codes "unit bid ")) (λ n l. refl) (λ n l. refl) (λ n l. refl))
    (all_items (λ t. t) (all_texts text line m) c.loop-number.number
    (no_more_texts text line m c.loop-number.number (omega arith)) c.loop-number.invariant)
