use Rattle.hull_words.proofs.Common.{◌≡◌, ◌+◌, ◌*◌, ◌≤◌, false, drop, Found, texts, flag, set_count, found_so_far}
use Rattle.hull_words.proofs.Common.{nothing, read_from}
use Rattle.hull_words.proofs.word_pass.read_words_after_command.Given as goal

abbrev pub invariant-loop-index : goal.invariant-loop-index
invariant-loop-index l =
    let found : Found = found_so_far (record {
      case_name = l.given.0;
      schedule_name = l.given.1.0;
      report_name = l.given.1.1.0;
      prices_name = l.given.1.1.1.0;
      mixture_name = l.given.1.1.1.1.0;
      proposals = l.given.1.1.1.1.1.0;
      workers = l.given.1.1.1.1.1.1.0;
      ahead = l.given.1.1.1.1.1.1.1.0;
      radius = l.given.1.1.1.1.1.1.1.1.0;
      within = l.given.1.1.1.1.1.1.1.1.1.0;
      rounds = l.given.1.1.1.1.1.1.1.1.1.1.0;
      number = l.given.1.1.1.1.1.1.1.1.1.1.1.0;
    }) in
    record {
      rest : read_from l.command (l.index + 2) l.is_value (drop l.index (texts l.words)) found ≡ read_from l.command 2
          false (texts l.words) nothing;
      few : l.index + flag l.is_value ≤ 2 * set_count found;
    }
