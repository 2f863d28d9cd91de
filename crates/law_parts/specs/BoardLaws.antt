-- What holds of every legal history of a board, beside what the board goes by. Each law is the
-- clause of a public function.
use Rattle.std.specs.Prelude.{◌≡◌, ◌↔◌, ℕ, ◌+◌, ◌*◌, ◌<◌, ◌≤◌, not, List, filter, length}
use Rattle.board_store.specs.Board.{Setup, Answer, Content, rules_of, IsRight, IsLegalFor}
use Rattle.board_store.specs.Board.{IsLegalHistory}
use Rattle.board_store.specs.Calls.{differs_from, after_claim, after_post, after_halt}
use Rattle.law_parts.specs.Counts.{claims_in, posts_in, halts_in}
use Rattle.board_store.specs.Entries.{entries_of}
use Rattle.board_store.specs.Rounds.{Event, posts, rows_of, is_halt, IsNext}
use Rattle.board_store.specs.TaskDifference.{IsTask}
use Rattle.law_parts.specs.Words.{IsMachineStep, Means, PostSays}
use Rattle.uc_model.specs.Data.{AnyUnit, PriceLists, Schedule, unit_count}
use Rattle.uc_model.specs.Earnings.{earnings}
use Rattle.uc_model.specs.Limits.{IsMarket}
use Rattle.uc_model.specs.Runs.{Fits, AreRightRows}

-- ---- the machine

-- the words for what a history has mean what they say
abbrev pub WordsMean : Type 0
WordsMean = (b : Setup) (h : List (Event Answer)) → Means (rules_of b) (posts h)

-- each answer of a post says what it says
abbrev pub PostsMean : Type 0
PostsMean =
    (s : Content) (k n u : ℕ) (ρ : PriceLists) (x : AnyUnit) (a : Answer) →
    PostSays (rules_of s.setup) s.events (differs_from s.setup u ρ x) k n u a

-- an event is a legal next one exactly where the machine makes it of a call, and its answer is
-- right
abbrev pub StepsAreMachine : Type 0
StepsAreMachine =
    (b : Setup) (h : List (Event Answer)) (e : Event Answer) →
    IsNext (rules_of b) (IsRight Fits b.market) h e
    ↔ IsMachineStep (rules_of b) (IsRight Fits b.market) h e

-- every call of a caller keeps a history legal; the answer of a post fits the task's own unit and
-- prices
pub record StaysLegal (b : Setup) (h : List (Event Answer)) (c : ℕ) : Type 0 where
  pub claim : IsLegalHistory b (after_claim (record { setup = b; events = h }) c).events
  pub post : (n u : ℕ) (ρ : PriceLists) (x : AnyUnit) (a : Answer) → IsTask ρ x →
      Fits x ρ a.schedule → earnings x ρ a.schedule ≡ a.earned →
      IsLegalHistory b (after_post (record { setup = b; events = h }) c n u ρ x a).events
  pub halt : IsLegalHistory b (after_halt (record { setup = b; events = h }) c).events

abbrev pub CallsStayLegal : Type 0
CallsStayLegal =
    (b : Setup) (h : List (Event Answer)) (c : ℕ) → IsMarket b.market → c < b.callers →
    IsLegalHistory b h → StaysLegal b h c

-- ---- legal histories

-- the rows of a legal history are right as far as they go
abbrev pub RowsAreRight : (AnyUnit → PriceLists → Schedule → Type 0) → Type 0
RowsAreRight fits =
    (b : Setup) (h : List (Event Answer)) → 1 ≤ b.ahead → IsLegalFor fits b h →
    AreRightRows fits b.market b.cost b.ahead (rows_of (rules_of b) (posts h))

-- how many events of each kind a legal history has at most
pub record AreAtMost (b : Setup) (h : List (Event Answer)) : Type 0 where
  pub claims : claims_in h ≤ b.budget * unit_count b.market
  pub posts : posts_in h ≤ b.budget * unit_count b.market
  pub halts : halts_in h ≤ b.callers
  pub entries : length (entries_of h) ≤ 2 * (b.budget * unit_count b.market) + b.callers

abbrev pub EventsAreAtMost : Type 0
EventsAreAtMost = (b : Setup) (h : List (Event Answer)) → IsLegalHistory b h → AreAtMost b h

abbrev pub without_halts : List (Event Answer) → List (Event Answer)
without_halts h = filter (λ (e : Event Answer). not (is_halt e)) h

-- without its halts a legal history is legal and has the same rows
abbrev pub HaltsChangeNothing : (AnyUnit → PriceLists → Schedule → Type 0) → Type 0
HaltsChangeNothing fits =
    (b : Setup) (h : List (Event Answer)) → IsLegalFor fits b h →
    IsLegalFor fits b (without_halts h)
    × (rows_of (rules_of b) (posts (without_halts h)) ≡ rows_of (rules_of b) (posts h))
