-- What ties the lists of a board to its events: a record for each part, over what it reads.
use Rattle.std.specs.Prelude.{◌≡◌, ℕ, suc, ◌+◌, ◌-◌, ◌*◌, ◌<◌, ◌≤◌, ℤ, Bool, true, false, not}
use Rattle.std.specs.Prelude.{if◌then◌else◌, is_some, Option, Some, None, List, [], ◌∷◌, length}
use Rattle.std.specs.Prelude.{map, take, sum_by, slice_get, slice_index, slice_index_or}
use Rattle.std.specs.List.{All, list_any, range_with_len}
use Rattle.board_store.specs.Board.{Setup, Answer, no_answer, rules_of, schedules_in, earned_in}
use Rattle.board_store.specs.Board.{IsLegalHistory}
use Rattle.board_store.specs.Entries.{entries_of}
use Rattle.board_store.specs.Rounds.{Event, Posts, posts, Holders, holders, answers, prices_at}
use Rattle.board_store.specs.Rounds.{rows_of, opened, is_halt_of, is_halt}
use Rattle.board_store.specs.declared.entries.Entry.{Entry}
use Rattle.board_store.specs.Answers.{Answers}
use Rattle.uc_model.specs.Data.{units, unit_count}
use Rattle.uc_model.specs.PriceRule.{Proposal}
use Rattle.plain_lists.specs.Sums.{int_at, total}
use Rattle.uc_model.specs.Systems.{total_power, total_reserve}
use Rattle.board_core.specs.Events.{task_number}
use Rattle.board_core.specs.Ledgers.{LedgerValue}
use Rattle.board_core.specs.Rounds.{Sums, Fronts}
use Rattle.board_core.specs.Setups.{IsSetup}

-- how many tasks there may be
abbrev pub task_count : Setup → ℕ
task_count b = b.budget * unit_count b.market

-- the callers to whom the tasks were given, in the order of the tasks
pub record AreTakers (b : Setup) (takers : List ℕ) (held : Holders) : Type 0 where
  pub count : length takers ≤ task_count b
  pub each : (n u : ℕ) → 0 < n → n ≤ b.budget → u < unit_count b.market →
      held n u ≡ slice_get takers (task_number (unit_count b.market) n u)

-- the post of a task, read off the lists
abbrev pub mark : List Bool → List ℕ → List Answer → ℕ → Option (ℕ × Answer)
mark marks takers kept i =
    if slice_index_or marks i false then Some
    (slice_index takers i, slice_index_or kept i no_answer) else None

pub record AreMarks (b : Setup) (marks : List Bool) (takers : List ℕ) (kept : List Answer)
    (p : Posts Answer) : Type 0 where
  pub marks_count : length marks ≡ task_count b
  pub kept_count : length kept ≡ task_count b
  pub each : (n u : ℕ) → 0 < n → n ≤ b.budget → u < unit_count b.market →
      p n u ≡ mark marks takers kept (task_number (unit_count b.market) n u)
  pub claimed : (i : ℕ) → slice_index_or marks i false ≡ true → i < length takers

abbrev pub bit : Bool → ℕ
bit t = if t then 1 else 0

abbrev pub sum_up : List ℕ → ℕ
sum_up [] = 0
sum_up (x ∷ xs) = x + sum_up xs

-- how many units have an answer
abbrev pub answered : Setup → Posts Answer → ℕ → ℕ
answered b p n = sum_up (map (λ u. bit (is_some (p n u))) (range_with_len 0 (unit_count b.market)))

-- the totals of the powers, and of the reserves, of a proposal's answers in each period
abbrev pub supply_to : Setup → Posts Answer → ℕ → List ℤ
supply_to b p n =
    map (total_power (units b.market) (schedules_in (answers (rules_of b) p n)))
    (range_with_len 0 b.market.periods)

abbrev pub reserve_to : Setup → Posts Answer → ℕ → List ℤ
reserve_to b p n =
    map (total_reserve (units b.market) (schedules_in (answers (rules_of b) p n)))
    (range_with_len 0 b.market.periods)

pub record AreTallies (b : Setup) (counts : List ℕ) (s : Sums) (p : Posts Answer) : Type 0 where
  pub counts_count : length counts ≡ b.budget
  pub earned_count : length s.earned ≡ b.budget
  pub supply_count : length s.supply ≡ b.budget
  pub reserve_count : length s.reserve ≡ b.budget
  pub counts_are : (k : ℕ) → k < b.budget → slice_index counts k ≡ answered b p (suc k)
  pub earned_are : (k : ℕ) → k < b.budget →
      int_at s.earned k ≡ total (earned_in (answers (rules_of b) p (suc k)))
  pub supply_are : (k : ℕ) → k < b.budget → slice_index_or s.supply k [] ≡ supply_to b p (suc k)
  pub reserve_are : (k : ℕ) → k < b.budget → slice_index_or s.reserve k [] ≡ reserve_to b p (suc k)

pub record AreRounds (b : Setup) (f : Fronts) (p : Posts Answer) : Type 0 where
  pub rows_are : f.rows ≡ rows_of (rules_of b) p
  pub prices_are : f.prices ≡ map (prices_at (rules_of b) p)
      (range_with_len 1 (opened (rules_of b) p))

pub record AreHalts (b : Setup) (halted : List Bool) (any : Bool) (h : List (Event Answer)) : Type
    0 where
  pub count : length halted ≡ b.callers
  pub each : (c : ℕ) → c < b.callers → slice_index_or halted c false ≡ list_any (is_halt_of c) h
  pub some : any ≡ list_any is_halt h

-- how many are still false
abbrev pub unset : List Bool → ℕ
unset marks = sum_by (λ t. bit (not t)) marks

-- room for each event that may still come
abbrev pub HasRoom : Setup → (events takers : ℕ) → (marks halted : List Bool) → ℕ → Type 0
HasRoom b events takers marks halted room =
    events + (task_count b - takers) + unset marks + unset halted ≤ room

-- the lists of a board, without the proposals
pub record Lists : Type 0 where
  pub takers : List ℕ
  pub marks : List Bool
  pub kept : List Answer
  pub counts : List ℕ
  pub halted : List Bool
  pub any_halt : Bool

abbrev pub sums_of : LedgerValue → Sums
sums_of l = record {
  earned = l.earned;
  supply = map (λ (r : Proposal). r.supply) l.proposals;
  reserve = map (λ (r : Proposal). r.reserve) l.proposals;
}

abbrev pub fronts_of : LedgerValue → Fronts
fronts_of l =
    record {
      rows = take l.closed l.proposals;
      prices = take l.opened (map (λ (r : Proposal). r.prices) l.proposals);
    }

-- the proposals of a ledger are over the horizon, and its two numbers are within their count
pub record IsLedger (b : Setup) (l : LedgerValue) : Type 0 where
  pub count : length l.proposals ≡ b.budget
  pub closed : l.closed ≤ b.budget
  pub opened : l.opened ≤ b.budget
  pub horizon : All (λ (r : Proposal). length r.prices.energy ≡ b.market.periods) l.proposals

pub record IsBoard (b : Setup) (h : List (Event Answer)) (x : Lists) (l : LedgerValue) : Type
    0 where
  pub setup : IsSetup b
  pub legal : IsLegalHistory b h
  pub takers_are : AreTakers b x.takers (holders h)
  pub marks_are : AreMarks b x.marks x.takers x.kept (posts h)
  pub tallies : AreTallies b x.counts (sums_of l) (posts h)
  pub ledger : IsLedger b l
  pub rounds : AreRounds b (fronts_of l) (posts h)
  pub halts : AreHalts b x.halted x.any_halt h

-- what the other fields of a board keep: room in its lists of entries and of takers, entries that
-- are those of its events, a store over the horizon that takes an answer for each task that has
-- none, and prices over the horizon
pub record IsKept (b : Setup) (h : List (Event Answer)) (entries : List Entry) (x : Lists)
    (most_entries most_takers : ℕ) (s : Answers) (next_over : ℕ) : Type 0 where
  pub room : HasRoom b (length entries) (length x.takers) x.marks x.halted most_entries
  pub takers_room : task_count b ≤ most_takers
  pub entries_are : entries_of h ≡ entries
  pub store : s.periods ≡ b.market.periods
  pub left : unset x.marks ≤ s.left
  pub next : next_over ≡ b.market.periods
