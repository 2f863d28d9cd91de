use Rattle.uc_text.proofs.Common.{◌≡◌, ◌+◌, ◌*◌, ◌<◌, ◌≤◌, length, seen, rest, ahead, names, names_said, AreDifferent}
use Rattle.uc_text.proofs.Common.{DoublesStop, Adds, in_turn, Value, Pair, StandsAt, List}
use Rattle.uc_text.proofs.Lemmas.{InItems, InMembers}
use Rattle.uc_text.proofs.parse.+read.Given as goal

abbrev pub decreases-read_items : goal.decreases-read_items
decreases-read_items l = 3 * l.left

abbrev pub decreases-read_members : goal.decreases-read_members
decreases-read_members l = 3 * l.left + 1

abbrev pub decreases-read_members_and_note_names : goal.decreases-read_members_and_note_names
decreases-read_members_and_note_names l = 3 * l.left

abbrev pub decreases-read_value : goal.decreases-read_value
decreases-read_value l = 3 * l.left + 2

abbrev pub invariant-read_items-items : goal.invariant-read_items-items
invariant-read_items-items l = record {
  inside : (vs : List Value) × InItems l.left (rest l.fn.reader) vs (seen l.first) (rest l.reader) ×
      (l.count ≡ length vs) × Adds l.fn.reader.bytes.now l.fn.nodes.items l.nodes.items vs;
  stands : StandsAt l.reader.bytes.now l.first.offset l.first.token;
  same : l.reader.bytes.now ≡ l.fn.reader.bytes.now;
  few : l.count + ahead l.reader ≤ ahead l.fn.reader;
  fewer : length l.nodes.items + ahead l.reader ≤ length l.fn.nodes.items + ahead l.fn.reader;
  room : 0 < l.left;
}

abbrev pub decreases-read_items-items : goal.decreases-read_items-items
decreases-read_items-items l = ahead l.reader

abbrev pub invariant-read_members_and_note_names-members : goal.invariant-read_members_and_note_names-members
invariant-read_members_and_note_names-members l = record {
  inside : (ps : List Pair) × (AreDifferent (names ps) →
      InMembers l.left (rest l.fn.reader) ps (seen l.first) (rest l.reader)) × (l.count ≡ length ps)
      × Adds l.fn.reader.bytes.now l.fn.nodes.items l.nodes.items (in_turn ps) × (names_said l.names.items ≡ names ps);
  doubles : DoublesStop l.left (rest l.fn.reader) l.names.items;
  stands : StandsAt l.reader.bytes.now l.first.offset l.first.token;
  same : l.reader.bytes.now ≡ l.fn.reader.bytes.now;
  few : l.count + ahead l.reader ≤ ahead l.fn.reader;
  fewer : length l.nodes.items + ahead l.reader ≤ length l.fn.nodes.items + ahead l.fn.reader;
  room : 0 < l.left;
}

abbrev pub decreases-read_members_and_note_names-members : goal.decreases-read_members_and_note_names-members
decreases-read_members_and_note_names-members l = ahead l.reader
