use Rattle.text_tokens.proofs.Common.{◌≡◌, ◌+◌, ◌-◌, ◌≤◌, length, drop, option_map, string_from}
use Rattle.text_tokens.proofs.strings.len_of_escaped_string.Given as goal

abbrev pub invariant-pieces : goal.invariant-pieces
invariant-pieces l = record {
  rest : option_map (λ s. s.1) (string_from 0 l.bytes) ≡ option_map (λ s. l.at + s.1)
      (string_from 0 (drop l.at l.bytes));
  near : l.at ≤ length l.bytes + 12;
}

abbrev pub decreases-pieces : goal.decreases-pieces
decreases-pieces l = length l.bytes + 12 - l.at
