-- What clauses see of seats and of the shared board (this project's profile).
use Rattle.std.specs.Prelude.{◌≡◌, ℕ, ◌<◌, []}
use Rattle.atomic_table.specs.Seated.{TableId}
use Rattle.board_store.specs.Board.{IsLegalHistory}
use Rattle.board_share.specs.Tells.{Mine}
use Rattle.board_share.specs.Views.{View, idle}
use Rattle.board_share.specs.declared.shared.SharedBoard.{SharedBoard}

-- what a contract sees of a seat: whose board's it is, and what it knows
pub record SeatValue : Type 0 where
  pub board : TableId
  pub view : View

abbrev pub view_of : SeatValue → View
view_of s = s.view

-- the seat is one of this board's, and names as many callers as it has
abbrev pub IsSeatOf : SharedBoard → SeatValue → Type 0
IsSeatOf b s = (s.board ≡ b.table.shared.table_id) × (s.view.setup.callers ≡ b.callers)

-- the seat is another of the same board, and names the same
abbrev pub IsSameBoard : SeatValue → SeatValue → Type 0
IsSameBoard s t = (t.board ≡ s.board) × (t.view.setup ≡ s.view.setup)

abbrev pub IsOwner : SeatValue → Type 0
IsOwner s = s.view.caller ≡ 0

-- what holds of every seat between two calls: it has no ticket and no board in hand, its numbers
-- are those of what it knows, and it has seen a legal history
pub record IsSeat (caller made id : ℕ) (me : Mine) : Type 0 where
  pub at_rest : me.0.stage ≡ idle
  pub no_board : me.1 ≡ []
  pub of_caller : me.0.caller ≡ caller
  pub in_range : caller < me.0.setup.callers
  pub of_owner : caller ≡ 0 → (id ≡ 0) × (me.0.made ≡ made) × (0 < made)
  pub legal : IsLegalHistory me.0.setup me.0.seen
