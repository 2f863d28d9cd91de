-- What holds of every legal history of a board. Each law is the clause of a public function.
use Rattle.std.specs.Prelude.{◌≡◌, ℕ, suc, ◌<◌, ◌≤◌, true, Some, List, ◌++◌, length, slice_index_or}
use Rattle.board_store.specs.Board.{Setup, Answer, Content, row_of, rules_of, IsRight, IsLegalFor}
use Rattle.board_store.specs.Board.{IsLegalHistory}
use Rattle.board_store.specs.Calls.{own_rows, has_finished}
use Rattle.board_store.specs.Rounds.{Event, posts, answers, prices_at, opened, rows_of}
use Rattle.board_store.specs.Rounds.{is_finished}
use Rattle.board_store.specs.Words.{ClaimSays}
use Rattle.uc_model.specs.Data.{AnyUnit, PriceLists, Schedule, unit_count}
use Rattle.uc_model.specs.PriceRule.{Proposal}
use Rattle.uc_model.specs.Runs.{Fits, IsRun}

-- ---- what each answer of a claim says

abbrev pub ClaimAnswersTellBoardState : Type 0
ClaimAnswersTellBoardState = (b : Setup) (h : List (Event Answer)) → ClaimSays (rules_of b) h

-- ---- the rows of a legal history

-- where the history is finished they are a whole run
abbrev pub FinishedHistoryIsWholeRun : (AnyUnit → PriceLists → Schedule → Type 0) → Type 0
FinishedHistoryIsWholeRun fits =
    (b : Setup) (h : List (Event Answer)) → 1 ≤ b.ahead → 1 ≤ unit_count b.market →
    IsLegalFor fits b h →
    is_finished (rules_of b) (posts h) ≡ true →
    IsRun fits b.market b.cost b.budget b.ahead (rows_of (rules_of b) (posts h))

-- there is one then
abbrev pub FinishedHasRow : Type 0
FinishedHasRow =
    (s : Content) → 1 ≤ s.setup.ahead → 1 ≤ s.setup.budget → has_finished s ≡ true →
    1 ≤ length (own_rows s)

-- each row is made of an answer for each unit, at the prices of its proposal
pub record IsRowOf (b : Setup) (h : List (Event Answer)) (k : ℕ) (row : Proposal) : Type 0 where
  pub made : row
      ≡ row_of b.market (prices_at (rules_of b) (posts h) (suc k))
      (answers (rules_of b) (posts h) (suc k))
  pub each : (u : ℕ) → u < unit_count b.market → (x : ℕ × Answer) × (posts h (suc k) u ≡ Some x)

abbrev pub EachRowHasAnswerOfEachUnit : Type 0
EachRowHasAnswerOfEachUnit =
    (b : Setup) (h : List (Event Answer)) → 1 ≤ b.ahead → (k : ℕ) (d : Proposal) →
    k < length (rows_of (rules_of b) (posts h)) →
    IsRowOf b h k (slice_index_or (rows_of (rules_of b) (posts h)) k d)

-- ---- answers

-- the answer of a task of an open proposal, which fits the prices of the proposal
pub record IsAnswered (b : Setup) (h : List (Event Answer)) (n u : ℕ) (a : Answer) : Type 0 where
  pub from_one : 0 < n
  pub open_ : n ≤ opened (rules_of b) (posts h)
  pub unit : u < unit_count b.market
  pub right : IsRight Fits b.market u (prices_at (rules_of b) (posts h) n) a

abbrev pub AnswersOfHistoryFitTheirTasks : Type 0
AnswersOfHistoryFitTheirTasks =
    (b : Setup) (h : List (Event Answer)) (n u : ℕ) (x : ℕ × Answer) → IsLegalHistory b h →
    posts h n u ≡ Some x → IsAnswered b h n u x.1

-- ---- histories that go on

-- a finished history stays finished in every legal history that goes on from it
abbrev pub FinishedStays : (AnyUnit → PriceLists → Schedule → Type 0) → Type 0
FinishedStays fits =
    (b : Setup) (h later : List (Event Answer)) → IsLegalFor fits b (h ++ later) →
    is_finished (rules_of b) (posts h) ≡ true →
    is_finished (rules_of b) (posts (h ++ later)) ≡ true
