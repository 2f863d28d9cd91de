use Rattle.text_tokens.proofs.Common.{◌≡◌, ℕ, ◌+◌, ◌-◌, ◌≤◌, ◌++◌, List, length, drop, option_map, string_from}
use Rattle.text_tokens.proofs.Common.{after_piece}
use Rattle.text_tokens.proofs.quoted.Quoted.decodes_to_bytes.Given as goal

abbrev pub invariant-pieces : goal.invariant-pieces
invariant-pieces l = record {
  front : (front : List ℕ) × (l.text ≡ front ++ l.wanted) ×
      (string_from 0 l.bytes ≡ option_map (after_piece (front, l.at)) (string_from 0 (drop l.at l.bytes)));
  near : l.at ≤ length l.bytes + 12;
}

abbrev pub decreases-pieces : goal.decreases-pieces
decreases-pieces l = length l.bytes + 12 - l.at
