use Rattle.text_tokens.proofs.Common.{◌≡◌, ◌≤◌, ◌-◌, length, rest_at}
use Rattle.text_tokens.proofs.reader.Reader.pass_blanks.Given as goal

abbrev pub invariant-blanks : goal.invariant-blanks
invariant-blanks l = record {
  same : l.self.bytes.now ≡ l.initial.self.bytes.now;
  on : l.initial.self.at ≤ l.self.at;
  rest : rest_at l.self.bytes.now l.self.at ≡ rest_at l.initial.self.bytes.now l.initial.self.at;
}

abbrev pub decreases-blanks : goal.decreases-blanks
decreases-blanks l = length l.self.bytes.now - l.self.at
