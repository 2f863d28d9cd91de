-- What a sink in memory shows. This project's profile.
use Rattle.std.specs.Prelude.{◌≡◌, ℕ, ◌-◌, ◌==◌, min, List, [], length, Option, None, Some}
use Rattle.std.specs.Prelude.{if◌then◌else◌}
use Rattle.std.specs.List.{list_any}
use Rattle.test_memory.specs.declared.memory.MemorySink.{MemorySink}

-- what it holds
abbrev pub taken : MemorySink → List ℕ
taken sink = sink.bytes.items

-- how many pieces that weren't empty it was given
abbrev pub writes_of : MemorySink → ℕ
writes_of sink = sink.writes

-- for how many bytes there is still room
abbrev pub room_of : MemorySink → ℕ
room_of sink = sink.room - length sink.bytes.items

-- how many bytes write number `number` takes of a piece: it fails where it is to fail or no room is
-- left
abbrev pub taken_by : MemorySink → ℕ → List ℕ → Option ℕ
taken_by sink number piece =
    if length piece == 0 then Some 0
    else if list_any (λ k. k == number) sink.failing.items then None
    else if list_any (λ k. k == number) sink.empty.items then Some 0
    else if room_of sink == 0 then None
    else Some (min (length piece) (min sink.most (room_of sink)))

-- how many of its writes failed or took nothing
abbrev pub faults_of : MemorySink → ℕ
faults_of sink = sink.faults

-- a sink as it is made: empty, with this room, the most bytes of a write, the numbers of the writes
-- that fail and that take 0, and no write or fault yet
pub record IsNewSink (sink : MemorySink) (room most : ℕ) (failing empty : List ℕ) : Type 0 where
  pub holds : taken sink ≡ []
  pub room_is : room_of sink ≡ room
  pub most_is : sink.most ≡ most
  pub fails : sink.failing.items ≡ failing
  pub takes_none : sink.empty.items ≡ empty
  pub unwritten : sink.writes ≡ 0
  pub faultless : faults_of sink ≡ 0
