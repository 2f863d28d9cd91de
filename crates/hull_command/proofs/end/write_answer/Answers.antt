use Rattle.hull_command.proofs.Common.{ℕ, ℤ, List, rules, refl, subst, w64, w128, to_z-of_z, unsigned_abs, length}
use Rattle.hull_command.proofs.Common.{market_of}
use Rattle.hull_command.proofs.Common.{told_of, fixed_text, try_text}
use Rattle.board_store.specs.Calls.{own_rows}
use Rattle.hull_report.specs.AuditText.{audit_text}
use Rattle.hull_report.specs.BoundText.{bound_text}
use Rattle.hull_report.specs.CertifiedText.{certificate_of}
use Rattle.hull_report.specs.CheckText.{check_text}
use Rattle.report_form.specs.CertificateText.{certificate_text}
use Rattle.report_form.specs.ReportText.{report_text}
use Rattle.hull_report.specs.SettledText.{settlement_of}
use Rattle.report_form.specs.SettlementText.{settlement_text}
use Rattle.price_settle.specs.Settled.{settled_of}
use Rattle.right_report.specs.RecordReport.{report_of, chosen_of, value_of}
use Rattle.hull_command.specs.Answers.{IsAnswered, found_text}
use Rattle.hull_command.specs.declared.answer.Answer.TheVariants.{Price, Check, Settle, Certify, Convex, Try, Bound}
use Rattle.hull_command.specs.declared.answer.Answer.TheVariants.{Fixed, Audit}
use Rattle.hull_command.proofs.Lemmas.{run_text, written_bound, bound_written, written_as, at_number}
use Rattle.hull_command.proofs.end.write_answer.Goals as goal

pub returns-in-Price : goal.returns-in-Price
returns-in-Price g c =
    let done = c.in-Price.done in
    written_as c.args.answer.now (Price done) c.in-Price.is (report_text (report_of done.closed done.settlement))
    (run_text c.report_of_finished_board_is_right.ensures report_text done (subst IsAnswered c.in-Price.is c.requires))
    c.write_price_report.ensures.text

pub returns-in-Check : goal.returns-in-Check
returns-in-Check g c =
    let text : ℤ → List ℕ = check_text (market_of c.in-Check.input.case) in
    written_as c.args.answer.now (Check c.in-Check.input) c.in-Check.is (text c.in-Check.input.cost) refl
    (at_number text _ _ (to_z-of_z w128 c.in-Check.input.cost (search rules)) c.write_check.ensures)

pub returns-in-Audit : goal.returns-in-Audit
returns-in-Audit g c =
    written_as c.args.answer.now (Audit c.in-Audit.proposals) c.in-Audit.is (audit_text c.in-Audit.proposals) refl
    c.write_audit.ensures

pub returns-in-Settle : goal.returns-in-Settle
returns-in-Settle g c =
    let s = c.in-Settle.settled in
    let text : ℤ → List ℕ = λ z. settlement_text (settlement_of (market_of s.input.case) z (settled_of s.settled)) in
    written_as c.args.answer.now (Settle s) c.in-Settle.is (text s.input.cost) refl
    (at_number text _ _ (to_z-of_z w128 s.input.cost (search rules)) c.write_settlement.ensures)

pub returns-in-Certify : goal.returns-in-Certify
returns-in-Certify g c =
    let x = c.in-Certify.certified in
    let text : ℤ → List ℕ = λ z. certificate_text (certificate_of (market_of x.settled.input.case) z
    (settled_of x.settled.settled) (unsigned_abs x.within.radius) x.within.bound) in
    written_as c.args.answer.now (Certify x) c.in-Certify.is (text x.settled.input.cost) refl
    (at_number text _ _ (to_z-of_z w128 x.settled.input.cost (search rules)) c.write_certificate.ensures)

pub returns-in-Convex : goal.returns-in-Convex
returns-in-Convex g c =
    written_as c.args.answer.now (Convex c.in-Convex.found) c.in-Convex.is (found_text c.in-Convex.found) refl
    c.write_convex_search_text.ensures

pub returns-in-Try : goal.returns-in-Try
returns-in-Try g c =
    let done = c.in-Try.done in
    written_as c.args.answer.now (Try c.in-Try.number done) c.in-Try.is
    (try_text c.in-Try.number (report_of done.closed done.settlement))
    (run_text c.report_of_finished_board_is_right.ensures (try_text c.in-Try.number) done
    (subst IsAnswered c.in-Try.is c.requires))
    c.write_try.ensures

pub returns-in-Bound : goal.returns-in-Bound
returns-in-Bound g c =
    let b = c.in-Bound.bounded in
    let text : ℤ → List ℕ = λ z. bound_text (length (own_rows b.done.closed)) (chosen_of b.done.closed)
    (value_of b.done.closed) (unsigned_abs z) b.certified.first b.certified.last b.certified.bound in
    written_as c.args.answer.now (Bound b) c.in-Bound.is (written_bound b)
    (bound_written c.report_of_finished_board_is_right.ensures b (subst IsAnswered c.in-Bound.is c.requires))
    (at_number text _ _ (to_z-of_z w64 b.radius (search rules)) c.write_bound.ensures)

pub returns-in-Fixed : goal.returns-in-Fixed
returns-in-Fixed g c =
    let s = c.in-Fixed.sides in
    let text : ℤ → List ℕ = λ z. fixed_text (market_of s.case) z (told_of s.hull) (told_of s.fixed) in
    written_as c.args.answer.now (Fixed s) c.in-Fixed.is (text s.cost) refl
    (at_number text _ _ (to_z-of_z w128 s.cost (search rules)) c.write_fixed.ensures)
