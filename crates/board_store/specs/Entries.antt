-- What a history shows of each event: all but the answers (this project's profile).
use Rattle.std.specs.Prelude.{List, map}
use Rattle.board_store.specs.declared.entries.Call.TheVariants.{Claim, Post, Halt}
use Rattle.board_store.specs.declared.entries.Reply.TheVariants as replies
use Rattle.board_store.specs.declared.entries.Entry.{Entry}
use Rattle.board_store.specs.Rounds.{Event, Given, Taken, Closing, Stopped}

-- a halt has proposal 0 and unit 0
abbrev pub entry_of : {A : Type 0} → Event A → Entry
entry_of (Given c n u) =
    record { caller = c; call = Claim; proposal = n; unit = u; reply = replies.Given }
entry_of (Taken c n u a) =
    record { caller = c; call = Post; proposal = n; unit = u; reply = replies.Taken }
entry_of (Closing c n u a) =
    record { caller = c; call = Post; proposal = n; unit = u; reply = replies.Closing }
entry_of (Stopped c) =
    record { caller = c; call = Halt; proposal = 0; unit = 0; reply = replies.Stopped }

abbrev pub entries_of : {A : Type 0} → List (Event A) → List Entry
entries_of h = map entry_of h
