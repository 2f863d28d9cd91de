use Rattle.uc_text.proofs.Common.{◌≡◌, ◌++◌, ℕ, ◌+◌, ◌≤◌, List, length, rest, ahead, AtItem, Lexed, Value, Adds}
use Rattle.uc_text.proofs.parse.read_short_numbers.Given as goal

abbrev pub invariant-numbers : goal.invariant-numbers
invariant-numbers l = record {
  passed : (us : List Value) × (l.count ≡ length us) × Adds l.fn.reader.bytes.now l.fn.nodes.items l.nodes.items us
      × ((m : ℕ) (all : List Lexed) (vs : List Value) → AtItem m all vs (rest l.fn.reader) →
      AtItem m all (vs ++ us) (rest l.reader));
  few : l.count + ahead l.reader ≤ ahead l.fn.reader;
  fewer : length l.nodes.items + ahead l.reader ≤ length l.fn.nodes.items + ahead l.fn.reader;
  same : l.reader.bytes.now ≡ l.fn.reader.bytes.now;
}

abbrev pub decreases-numbers : goal.decreases-numbers
decreases-numbers l = ahead l.reader
