-- What contracts say of boards.
use Rattle.std.specs.Prelude.{ℕ, []}
use Rattle.board_store.specs.Board.{Setup, Answer, Content, rules_of}
use Rattle.board_store.specs.Rounds.{posts, answer_at}

-- a board without events
abbrev pub empty_board : Setup → Content
empty_board b = record { setup = b; events = [] }

-- the answer that was kept for a task
abbrev pub kept_answer : Content → (n u : ℕ) → Answer
kept_answer c n u = answer_at (rules_of c.setup) (posts c.events) n u
