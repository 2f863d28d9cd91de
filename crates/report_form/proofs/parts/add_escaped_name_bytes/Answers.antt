use Rattle.report_form.proofs.Common.{sym}
use Rattle.report_form.proofs.Lemmas.{escaped_all_plain}
use Rattle.report_form.proofs.parts.add_escaped_name_bytes.Goals as goal

pub returns-then-has_no_byte_to_escape : goal.returns-then-has_no_byte_to_escape
returns-then-has_no_byte_to_escape g c =
    rw (escaped_all_plain c.args.name.now (sym c.if-has_no_byte_to_escape.ensures)) c.add_bytes.ensures
