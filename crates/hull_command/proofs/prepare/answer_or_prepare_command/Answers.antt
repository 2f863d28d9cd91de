use Rattle.hull_command.proofs.Common.{Ok, refl, rules, w64, to_z-of_z, nothing_read, asked, command_for, Rose}
use Rattle.hull_words.specs.declared.command.Command.TheVariants.{Check, Price, Try, Bound, Fixed, Audit, Settle}
use Rattle.hull_words.specs.declared.command.Command.TheVariants.{Certify, Convex}
use Rattle.hull_command.specs.declared.ready.Before.TheVariants.{Ended}
use Rattle.hull_command.proofs.Lemmas.{before_as, ended_as, handed_as, never_unread}
use Rattle.hull_command.proofs.prepare.answer_or_prepare_command.Goals as goal

pub returns-in-Check-clause-before : goal.returns-in-Check-clause-before
returns-in-Check-clause-before g c =
    before_as c.args.command.now (Check c.in-Check.words) c.in-Check.is _ _ _ _ (Ended c.finish.result)
    (ended_as (command_for (Ok (asked (Check c.in-Check.words)))) _ _ _ _ c.answer_check.result
    c.finish.result c.answer_check.ensures.answers c.finish.ensures.end)

pub returns-in-Check-clause-unread : goal.returns-in-Check-clause-unread
returns-in-Check-clause-unread g c =
    λ none. absurd (never_unread c.args.command.now (Check c.in-Check.words) c.in-Check.is _ refl none)

pub returns-in-Price-clause-before : goal.returns-in-Price-clause-before
returns-in-Price-clause-before g c =
    before_as c.args.command.now (Price c.in-Price.words) c.in-Price.is _ _ _ _ c.pass_on_run_or_write_fault.result
    (handed_as (Ok (asked (Price c.in-Price.words))) _ _ _ _ c.prepare_pricing_run.result
    c.pass_on_run_or_write_fault.result tt
    c.prepare_pricing_run.ensures.ready c.prepare_pricing_run.ensures.prepared
    c.pass_on_run_or_write_fault.ensures.before)

pub returns-in-Price-clause-unread : goal.returns-in-Price-clause-unread
returns-in-Price-clause-unread g c =
    λ none. absurd (never_unread c.args.command.now (Price c.in-Price.words) c.in-Price.is _ refl none)

pub returns-in-Bound-clause-before : goal.returns-in-Bound-clause-before
returns-in-Bound-clause-before g c =
    before_as c.args.command.now (Bound c.in-Bound.words) c.in-Bound.is _ _ _ _
    c.pass_on_run_or_write_fault-in-Bound.result
    (handed_as (Ok (asked (Bound c.in-Bound.words))) _ _ _ _ c.prepare_pricing_run-in-Bound.result
    c.pass_on_run_or_write_fault-in-Bound.result tt
    c.prepare_pricing_run-in-Bound.ensures.ready
    (rw (to_z-of_z w64 c.in-Bound.words.radius (search rules)) at c.prepare_pricing_run-in-Bound.ensures.prepared)
    c.pass_on_run_or_write_fault-in-Bound.ensures.before)

pub returns-in-Bound-clause-unread : goal.returns-in-Bound-clause-unread
returns-in-Bound-clause-unread g c =
    λ none. absurd (never_unread c.args.command.now (Bound c.in-Bound.words) c.in-Bound.is _ refl none)

pub returns-in-Fixed-clause-before : goal.returns-in-Fixed-clause-before
returns-in-Fixed-clause-before g c =
    before_as c.args.command.now (Fixed c.in-Fixed.words) c.in-Fixed.is _ _ _ _
    c.pass_on_run_or_write_fault-in-Fixed.result
    (handed_as (Ok (asked (Fixed c.in-Fixed.words))) _ _ _ _ c.prepare_pricing_run-in-Fixed.result
    c.pass_on_run_or_write_fault-in-Fixed.result tt
    c.prepare_pricing_run-in-Fixed.ensures.ready c.prepare_pricing_run-in-Fixed.ensures.prepared
    c.pass_on_run_or_write_fault-in-Fixed.ensures.before)

pub returns-in-Fixed-clause-unread : goal.returns-in-Fixed-clause-unread
returns-in-Fixed-clause-unread g c =
    λ none. absurd (never_unread c.args.command.now (Fixed c.in-Fixed.words) c.in-Fixed.is _ refl none)

pub returns-in-Audit-clause-before : goal.returns-in-Audit-clause-before
returns-in-Audit-clause-before g c =
    before_as c.args.command.now (Audit c.in-Audit.words) c.in-Audit.is _ _ _ _
    c.pass_on_run_or_write_fault-in-Audit.result
    (handed_as (Ok (asked (Audit c.in-Audit.words))) _ _ _ _ c.prepare_audit.result
    c.pass_on_run_or_write_fault-in-Audit.result tt
    c.prepare_audit.ensures.ready c.prepare_audit.ensures.prepared c.pass_on_run_or_write_fault-in-Audit.ensures.before)

pub returns-in-Audit-clause-unread : goal.returns-in-Audit-clause-unread
returns-in-Audit-clause-unread g c =
    λ none. absurd (never_unread c.args.command.now (Audit c.in-Audit.words) c.in-Audit.is _ refl none)

pub returns-in-Settle-clause-before : goal.returns-in-Settle-clause-before
returns-in-Settle-clause-before g c =
    before_as c.args.command.now (Settle c.in-Settle.words) c.in-Settle.is _ _ _ _ (Ended c.finish-in-Settle.result)
    (ended_as (command_for (Ok (asked (Settle c.in-Settle.words)))) _ _ _ _ c.answer_settle.result
    c.finish-in-Settle.result c.answer_settle.ensures.answers c.finish-in-Settle.ensures.end)

pub returns-in-Settle-clause-unread : goal.returns-in-Settle-clause-unread
returns-in-Settle-clause-unread g c =
    λ none. absurd (never_unread c.args.command.now (Settle c.in-Settle.words) c.in-Settle.is _ refl none)

pub returns-in-Certify-clause-before : goal.returns-in-Certify-clause-before
returns-in-Certify-clause-before g c =
    before_as c.args.command.now (Certify c.in-Certify.words) c.in-Certify.is _ _ _ _ (Ended c.finish-in-Certify.result)
    (ended_as (command_for (Ok (asked (Certify c.in-Certify.words)))) _ _ _ _ c.answer_certify.result
    c.finish-in-Certify.result c.answer_certify.ensures.answers c.finish-in-Certify.ensures.end)

pub returns-in-Certify-clause-unread : goal.returns-in-Certify-clause-unread
returns-in-Certify-clause-unread g c =
    λ none. absurd (never_unread c.args.command.now (Certify c.in-Certify.words) c.in-Certify.is _ refl none)

pub returns-in-Convex-clause-before : goal.returns-in-Convex-clause-before
returns-in-Convex-clause-before g c =
    before_as c.args.command.now (Convex c.in-Convex.words) c.in-Convex.is _ _ _ _ (Ended c.finish-in-Convex.result)
    (ended_as (command_for (Ok (asked (Convex c.in-Convex.words)))) _ _ _ _ c.answer_convex.result
    c.finish-in-Convex.result c.answer_convex.ensures.answers c.finish-in-Convex.ensures.end)

pub returns-in-Convex-clause-unread : goal.returns-in-Convex-clause-unread
returns-in-Convex-clause-unread g c =
    λ none. absurd (never_unread c.args.command.now (Convex c.in-Convex.words) c.in-Convex.is _ refl none)

pub returns-in-Try-clause-before : goal.returns-in-Try-clause-before
returns-in-Try-clause-before g c =
    before_as c.args.command.now (Try c.in-Try.words) c.in-Try.is _ _ _ _ c.pass_on_run_or_write_fault-in-Try.result
    (handed_as (Ok (asked (Try c.in-Try.words))) (g.F.Shelf.told c.args.shelf.now)
    (λ name. Rose g.F.Shelf.last (g.F.Shelf.faults c.args.shelf.now name) (g.F.Shelf.faults c.args.shelf.now name)) _ _
    c.prepare_try.result c.pass_on_run_or_write_fault-in-Try.result tt
    c.prepare_try.ensures.ready (nothing_read, λ file. tt, c.prepare_try.ensures.prepared nothing_read)
    c.pass_on_run_or_write_fault-in-Try.ensures.before)
