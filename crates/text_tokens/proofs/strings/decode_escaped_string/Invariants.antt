use Rattle.text_tokens.proofs.Common.{◌≡◌, ◌+◌, ◌-◌, ◌++◌, ◌≤◌, length, drop, take, option_map, IsUtf8, string_from}
use Rattle.text_tokens.proofs.Common.{string_of, after_piece, len_or}
use Rattle.text_tokens.proofs.strings.decode_escaped_string.Given as goal

abbrev pub invariant-pieces : goal.invariant-pieces
invariant-pieces l = record {
  rest : string_from 0 l.bytes ≡ option_map (after_piece (l.text.items, l.at)) (string_from 0 (drop l.at l.bytes));
  near : l.at ≤ length l.bytes + 12;
  utf8 : IsUtf8 (l.text.items ++ drop l.at (take (len_or (string_of l.bytes)) l.bytes));
}

abbrev pub decreases-pieces : goal.decreases-pieces
decreases-pieces l = length l.bytes + 12 - l.at
