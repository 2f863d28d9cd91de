use Rattle.report_form.proofs.GrownLemmas as grown
use Rattle.report_form.proofs.laws.texts_written_in_turn_add_up.Goals as goal

pub returns : goal.returns
returns g c = record { gains_then = grown.gains_then; short_then = grown.short_then; short_more = grown.short_more }
