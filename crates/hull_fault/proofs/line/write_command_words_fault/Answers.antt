use Rattle.hull_fault.proofs.Common.{words_told}
use Rattle.hull_fault.proofs.line.write_command_words_fault.Goals as goal

pub returns : goal.returns
unfolding words_told
returns g c = rw (← c.number-code.ensures) c.write_form_filled_with_parts.ensures
