-- What a crate that keeps a board in lists of its own goes by: laws on rows, posts and events, each
-- the clause of a public function or a part of one (this project's profile).
use Rattle.std.specs.Prelude.{◌≡◌, ℕ, suc, ◌+◌, ◌<◌, ◌≤◌, true, false, if◌then◌else◌, Option, Some}
use Rattle.std.specs.Prelude.{None, List, [], ◌∷◌, ◌++◌, ◌⊎◌, ℤ, length, take, slice_get}
use Rattle.board_store.specs.Board.{Setup, Answer, Content, no_answer, rules_of, IsRight}
use Rattle.board_store.specs.Board.{IsLegalHistory}
use Rattle.board_store.specs.Bounds.{TotalsAreWithin, RowsOfHistoryAreWithinLimits, RowsAreAtMostCost}
use Rattle.board_store.specs.Calls.{post_answer}
use Rattle.board_store.specs.Laws.{ClaimAnswersTellBoardState, AnswersOfHistoryFitTheirTasks}
use Rattle.board_store.specs.Rounds.{Event, Given, Taken, Closing, Stopped, sooner, only_at}
use Rattle.board_store.specs.Rounds.{Holders, holders, Posts, posts, with_post, rows_by}
use Rattle.board_store.specs.Rounds.{prices_by, opened_in, is_closed, rows_to, prices_at}
use Rattle.board_store.specs.Rounds.{closed_front, free_front, TakenPost, IsNext}
use Rattle.board_store.specs.TaskDifference.{difference, IsTask}
use Rattle.board_store.specs.Totals.{AddsOne}
use Rattle.board_store.specs.Words.{IsOpenTask}
use Rattle.uc_model.specs.Data.{AnyUnit, PriceLists, units, unit_count}
use Rattle.uc_model.specs.Earnings.{earnings}
use Rattle.uc_model.specs.Limits.{IsMarket}
use Rattle.uc_model.specs.PriceRule.{Proposal, is_settled}
use Rattle.uc_model.specs.Runs.{Fits}
use Rattle.uc_model.specs.Schedules.{IsFeasible}
use Rattle.plain_lists.specs.Sums.{int_at}

-- ---- rows, whoever makes them

pub record RowsGoOn (b : Setup) (make : PriceLists → ℕ → Proposal) : Type 0 where
  -- there are as many as were asked for
  pub count : (n : ℕ) → length (rows_by (rules_of b) make n) ≡ n
  -- one more is made at the prices of its proposal
  pub more : 1 ≤ b.ahead → (n : ℕ) →
      rows_by (rules_of b) make (suc n)
      ≡ rows_by (rules_of b) make n ++ make (prices_by (rules_of b) make (suc n)) (suc n) ∷ []
  -- fewer are the front of more
  pub front : (n k : ℕ) → k ≤ n →
      take k (rows_by (rules_of b) make n) ≡ rows_by (rules_of b) make k
  -- what is made alike for n proposals makes the same n rows
  pub same : (other : PriceLists → ℕ → Proposal) (n : ℕ) →
      ((k : ℕ) (π : PriceLists) → k < n → make π (suc k) ≡ other π (suc k)) →
      rows_by (rules_of b) make n ≡ rows_by (rules_of b) other n

-- no row is settled, and the budget isn't used up
pub record MayOpen (b : Setup) (rows : List Proposal) (r : Proposal) : Type 0 where
  pub all_free : opened_in (rules_of b) rows ≡ length rows + b.ahead
  pub within : opened_in (rules_of b) rows < b.budget
  pub free : is_settled b.market b.cost r ≡ false

-- one more row opens one proposal then, and else none
pub record RowOpens (b : Setup) (rows : List Proposal) (r : Proposal) : Type 0 where
  pub one : MayOpen b rows r →
      opened_in (rules_of b) (rows ++ r ∷ []) ≡ opened_in (rules_of b) rows + 1
  pub none : (MayOpen b rows r → ⊥) →
      opened_in (rules_of b) (rows ++ r ∷ []) ≡ opened_in (rules_of b) rows

-- ---- posts

-- every proposal from 1 to n is closed
abbrev pub AreClosed : Setup → Posts Answer → ℕ → Type 0
AreClosed b p n = (k : ℕ) → k < n → is_closed (rules_of b) p (suc k) ≡ true

-- how many proposals from 1 on are closed, up to the first that isn't
pub record FrontIsClosed (b : Setup) (p : Posts Answer) : Type 0 where
  pub within : closed_front (rules_of b) p ≤ b.budget
  pub closed : AreClosed b p (closed_front (rules_of b) p)
  -- no more are
  pub most : (n : ℕ) → n ≤ b.budget → AreClosed b p n → n ≤ closed_front (rules_of b) p
  -- so it is each number that they are closed up to and not beyond
  pub is : (n : ℕ) → n ≤ b.budget → AreClosed b p n →
      (n < b.budget → is_closed (rules_of b) p (suc n) ≡ false) → n ≡ closed_front (rules_of b) p
  -- the rows before the first that is settled are among theirs
  pub free : free_front (rules_of b) p ≤ closed_front (rules_of b) p

-- each unit of a closed proposal is posted
abbrev pub ClosedIsPosted : Setup → Posts Answer → Type 0
ClosedIsPosted b p =
    (n u : ℕ) → is_closed (rules_of b) p n ≡ true → u < unit_count b.market →
    (x : ℕ × Answer) × (p n u ≡ Some x)

-- each post of p is one of q
abbrev pub Extends : {A : Type 0} → Posts A → Posts A → Type 0
Extends {A} p q = (n u : ℕ) (x : ℕ × A) → p n u ≡ Some x → q n u ≡ Some x

-- with more posts, what is closed stays so, and so do the rows of what is closed
pub record StaysClosed (b : Setup) (p q : Posts Answer) : Type 0 where
  pub closed : (n : ℕ) → is_closed (rules_of b) p n ≡ true → is_closed (rules_of b) q n ≡ true
  pub rows : (n : ℕ) → n ≤ closed_front (rules_of b) p →
      rows_to (rules_of b) q n ≡ rows_to (rules_of b) p n

-- with one more post, each is an old one or the new one
pub record IsOnePostMore (p : Posts Answer) (c n u : ℕ) (a : Answer) : Type 0 where
  pub extends : Extends p (with_post p c n u a)
  pub cases : (m v : ℕ) (x : ℕ × Answer) → with_post p c n u a m v ≡ Some x →
      (p m v ≡ Some x) ⊎ ((n ≡ m) × (u ≡ v) × ((c, a) ≡ x))

-- the answer of one more unit is added to the totals of its proposal
abbrev pub AnswerIsAdded : Setup → Type 0
AnswerIsAdded b =
    (f f2 : ℕ → Answer) (u : ℕ) (x : AnyUnit) → slice_get (units b.market) u ≡ Some x →
    f u ≡ no_answer → ((v : ℕ) → (v ≡ u → ⊥) → f2 v ≡ f v) →
    AddsOne (units b.market) f f2 u (unit_count b.market) x

-- all that needs no history
pub record RoundLaws (b : Setup) : Type 0 where
  pub rows : (make : PriceLists → ℕ → Proposal) → RowsGoOn b make
  pub opens : (rows : List Proposal) (r : Proposal) → RowOpens b rows r
  pub front : (p : Posts Answer) → FrontIsClosed b p
  pub posted : (p : Posts Answer) → ClosedIsPosted b p
  pub stays : (p q : Posts Answer) → Extends p q → StaysClosed b p q
  pub adds : AnswerIsAdded b

-- ---- events

-- the posts, and who holds each task, after one more event
abbrev pub posts_after : Posts Answer → Event Answer → Posts Answer
posts_after p (Given c n u) = p
posts_after p (Taken c n u a) = with_post p c n u a
posts_after p (Closing c n u a) = with_post p c n u a
posts_after p (Stopped c) = p

abbrev pub holders_after : Holders → Event Answer → Holders
holders_after held (Given c n u) m v = sooner (held m v) (only_at n u c m v)
holders_after held (Taken c n u a) m v = held m v
holders_after held (Closing c n u a) m v = held m v
holders_after held (Stopped c) m v = held m v

pub record IsOneEventMore (h : List (Event Answer)) (e : Event Answer) : Type 0 where
  pub posts_are : posts (h ++ e ∷ []) ≡ posts_after (posts h) e
  pub holders_are : holders (h ++ e ∷ []) ≡ holders_after (holders h) e

-- an event that may come next keeps a history legal
abbrev pub NextIsLegal : Type 0
NextIsLegal =
    (b : Setup) (h : List (Event Answer)) (e : Event Answer) → IsLegalHistory b h →
    IsNext (rules_of b) (IsRight Fits b.market) h e → IsLegalHistory b (h ++ e ∷ [])

-- ---- a post that is taken

-- its task is open, held by its caller, without an answer and of the board's own unit, and its
-- answer is right, with a schedule over the horizon
pub record IsTaken (s : Content) (k n u : ℕ) (x : AnyUnit) (a : Answer) : Type 0 where
  pub task : IsOpenTask (rules_of s.setup) (posts s.events) n u
  pub held_by : holders s.events n u ≡ Some k
  pub first : posts s.events n u ≡ None
  pub unit : slice_get (units s.setup.market) u ≡ Some x
  pub right : IsRight Fits s.setup.market u (prices_at (rules_of s.setup) (posts s.events) n) a
  pub long : length a.schedule.on ≡ s.setup.market.periods
  pub feasible : IsFeasible x (length a.schedule.on) a.schedule

-- the proposal, if the post closes it
abbrev pub closed_by : Content → (k n u : ℕ) → Answer → Option ℕ
closed_by s k n u a =
    if is_closed (rules_of s.setup) (with_post (posts s.events) k n u a) n then Some n else None

abbrev pub TakenTells : Type 0
TakenTells =
    (s : Content) (k n u : ℕ) (ρ : PriceLists) (x : AnyUnit) (a : Answer) (closed : Option ℕ) →
    IsMarket s.setup.market → IsTask ρ x → Fits x ρ a.schedule →
    earnings x ρ a.schedule ≡ a.earned → post_answer s k n u ρ x a ≡ TakenPost closed →
    IsTaken s k n u x a × (post_answer s k n u ρ x a ≡ TakenPost (closed_by s k n u a))

-- ---- all of these

pub record BoardLaws : Type 0 where
  pub of : (b : Setup) → RoundLaws b
  pub one_post : (p : Posts Answer) (c n u : ℕ) (a : Answer) → IsOnePostMore p c n u a
  pub one_event : (h : List (Event Answer)) (e : Event Answer) → IsOneEventMore h e
  pub next_is_legal : NextIsLegal
  pub taken_tells : TakenTells
  pub claims_mean : ClaimAnswersTellBoardState
  pub answers_fit : AnswersOfHistoryFitTheirTasks
  pub totals_are_within : TotalsAreWithin
  pub rows_are_within : RowsOfHistoryAreWithinLimits
  pub rows_are_at_most_cost : RowsAreAtMostCost

-- ---- where two lists differ

-- at the first place that both have and where their numbers aren't the same
pub record DifferenceSays (own given : List ℤ) : Type 0 where
  pub at : (k : ℕ) → k < length own → k < length given →
      ((i : ℕ) → i < k → int_at own i ≡ int_at given i) → (int_at own k ≡ int_at given k → ⊥) →
      difference own given
      ≡ Some (record { place = k; board = int_at own k; task = int_at given k })
  pub none : ((i : ℕ) → i < length own → i < length given → int_at own i ≡ int_at given i) →
      difference own given ≡ None

abbrev pub ListsDifferAtFirstUnequalNumber : Type 0
ListsDifferAtFirstUnequalNumber = (own given : List ℤ) → DifferenceSays own given
