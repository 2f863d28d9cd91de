-- What the calls do, read off the lists of a board.
use Rattle.std.specs.Prelude.{ℕ, ◌-◌, Bool, false, ◌||◌, ◌==◌, if◌then◌else◌, nat_le, nat_lt}
use Rattle.std.specs.Prelude.{Option, Some, None, List, slice_get, slice_index, slice_index_or}
use Rattle.std.specs.Option.{option_map, option_map_or}
use Rattle.board_store.specs.Board.{Setup}
use Rattle.board_store.specs.Calls.{differs_from}
use Rattle.board_store.specs.Rounds.{is_holder}
use Rattle.board_store.specs.TaskDifference.{Difference}
use Rattle.board_store.specs.declared.entries.Reply.{Reply}
use Rattle.board_store.specs.declared.entries.Reply.TheVariants as replies
use Rattle.uc_model.specs.Data.{AnyUnit, PriceLists, unit_count}
use Rattle.board_core.specs.declared.replies.Differs.{Differs}
use Rattle.board_core.specs.declared.replies.Differs.TheVariants as differs
use Rattle.board_core.specs.declared.replies.Posted.{Posted}
use Rattle.board_core.specs.declared.replies.Posted.TheVariants as posted
use Rattle.board_core.specs.Events.{task_number}
use Rattle.board_core.specs.Ledgers.{LedgerValue, blank}

abbrev pub differs_of : Option Difference → Option Differs
differs_of o = option_map (λ (d : Difference). differs.Content d.place d.board d.task) o

-- the prices of proposal n
abbrev pub own_prices_in : LedgerValue → ℕ → PriceLists
own_prices_in l n = (slice_index_or l.proposals (n - 1) (blank 0)).prices

abbrev pub held_refusal : List Bool → List ℕ → (number caller : ℕ) → Option Posted
held_refusal marks takers i k =
    if slice_index_or marks i false then Some (posted.Doubled (slice_index takers i))
    else if is_holder (slice_get takers i) k then None
    else Some (posted.Stranger (differs.Holder k (slice_get takers i)))

abbrev pub refusal_of : Setup → LedgerValue → List Bool → List ℕ → (k n u : ℕ) → PriceLists →
    AnyUnit → Option Posted
refusal_of b l marks takers k n u ρ x =
    if (n == 0) || nat_lt l.opened n then Some (posted.Stranger (differs.Proposal n l.opened))
    else if nat_le (unit_count b.market) u then Some
    (posted.Stranger (differs.Unit u (unit_count b.market)))
    else option_map_or (λ (d : Difference). Some
    (posted.Stranger (differs.Content d.place d.board d.task)))
    (differs_from b u ρ x (own_prices_in l n))
    (held_refusal marks takers (task_number (unit_count b.market) n u) k)

abbrev pub reply_of : Bool → Reply
reply_of closes = if closes then replies.Closing else replies.Taken
