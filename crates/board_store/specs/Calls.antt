-- What the calls of the board of a case answer, and the events after them (this project's profile).
use Rattle.std.specs.Prelude.{ℕ, ℤ, Bool, Option, List, [], slice_get}
use Rattle.std.specs.Option.{option_map_or}
use Rattle.board_store.specs.Board.{Setup, Answer, Content, rules_of}
use Rattle.board_store.specs.Rounds.{ClaimReply, PostReply, posts, prices_at, rows_of}
use Rattle.board_store.specs.Rounds.{is_finished, claim_reply, events_after_claim, post_reply}
use Rattle.board_store.specs.Rounds.{events_after_post, events_after_halt}
use Rattle.board_store.specs.TaskDifference.{Difference, difference}
use Rattle.uc_model.specs.Data.{AnyUnit, PriceLists, units}
use Rattle.uc_model.specs.PriceRule.{Proposal}
use Rattle.uc_model.specs.TaskLists.{task_numbers}

-- the prices of a proposal
abbrev pub own_prices : Content → ℕ → PriceLists
own_prices c n = prices_at (rules_of c.setup) (posts c.events) n

-- the rows of the closed proposals from 1 up to the first that isn't
abbrev pub own_rows : Content → List Proposal
own_rows c = rows_of (rules_of c.setup) (posts c.events)

abbrev pub has_finished : Content → Bool
has_finished c = is_finished (rules_of c.setup) (posts c.events)

-- the flat list of the board's own task for a unit number at prices
abbrev pub own_numbers : Setup → ℕ → PriceLists → List ℤ
own_numbers b u π = option_map_or (task_numbers π) (slice_get (units b.market) u) []

-- where a task of that unit number differs from the board's own at prices
abbrev pub differs_from : Setup → ℕ → PriceLists → AnyUnit → PriceLists → Option Difference
differs_from b u ρ x π = difference (own_numbers b u π) (task_numbers ρ x)

abbrev pub claim_answer : Content → ClaimReply
claim_answer c = claim_reply (rules_of c.setup) c.events

abbrev pub after_claim : Content → ℕ → Content
after_claim c k = record c { events = events_after_claim (rules_of c.setup) c.events k }

-- the post of an answer for the task of a proposal and a unit number, with its prices and its unit
abbrev pub post_answer : Content → (k n u : ℕ) → PriceLists → AnyUnit → Answer →
    PostReply Difference
post_answer c k n u ρ x a =
    post_reply (rules_of c.setup) c.events (differs_from c.setup u ρ x) k n u a

abbrev pub after_post : Content → (k n u : ℕ) → PriceLists → AnyUnit → Answer → Content
after_post c k n u ρ x a =
    record c {
      events = events_after_post (rules_of c.setup) c.events (differs_from c.setup u ρ x) k
          n u a;
    }

abbrev pub after_halt : Content → ℕ → Content
after_halt c k = record c { events = events_after_halt c.events k }
