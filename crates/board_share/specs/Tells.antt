-- What each step on the table tells (this project's profile).
use Rattle.std.specs.Prelude.{◌≡◌, ◌≢◌, ◌⊎◌, ℕ, ◌+◌, ◌%◌, ◌^◌, ◌<◌, List, [], ◌∷◌, ◌++◌, length}
use Rattle.std.specs.Prelude.{All}
use Rattle.atomic_table.specs.Table.{Me, Step, rest}
use Rattle.board_store.specs.Board.{Content}
use Rattle.board_share.specs.Views.{BoardEvent, caller_of, content, Stage, idle, waits, turn, spent}
use Rattle.board_share.specs.Views.{joined, View, at_stage}
use Rattle.board_share.specs.Rule.{Sees, Joined, GoesOnWithout}

abbrev pub Mine : Type 0
Mine = Me Content View

abbrev pub drew : Step Content → Mine → ℕ → Mine → Type 0
drew st m n m' = (t : ℕ) × (n ≡ t % 2 ^ 64) × (m'.0 ≡ at_stage m.0 (waits t)) × (m'.1 ≡ m.1)

-- the owner knows that only callers whose seats were made have made events
abbrev pub OnlyMade : View → List BoardEvent → Type 0
OnlyMade v h = v.caller ≡ 0 → All (λ (e : BoardEvent). caller_of e < v.made) h

-- the seat has the board, and has seen all that it tells
abbrev pub Took : ℕ → Mine → Mine → Type 0
Took t m m' =
    (h : List BoardEvent) × (Sees m.0 h × OnlyMade m.0 h)
    × (m'.0 ≡ record m.0 { seen = h; stage = turn t })
    × (m'.1 ≡ (0, content m.0.setup h) ∷ m.1)

-- the seat's ticket, if it has one
abbrev pub ticket_of : Stage → ℕ
ticket_of idle = 0
ticket_of (waits t) = t
ticket_of (turn t) = t
ticket_of spent = 0
ticket_of (joined a b l c) = 0

abbrev pub looked : Step Content → Mine → ℕ → Mine → Type 0
looked st m n m' =
    (n ≡ ticket_of m.0.stage % 2 ^ 64 → Took (ticket_of m.0.stage) m m')
    × (n ≢ ticket_of m.0.stage % 2 ^ 64 → m' ≡ m)

-- the history of the board in the seat's hand
abbrev pub hand_history : List (ℕ × Content) → List BoardEvent
hand_history [] = []
hand_history (x ∷ xs) = x.1.events

abbrev pub grew : Step Content → Mine → ℕ → Mine → Type 0
grew st m n m' = (m'.0 ≡ record m.0 { seen = hand_history m.1 }) × (m'.1 ≡ m.1)

abbrev pub passed : Step Content → Mine → ℕ → Mine → Type 0
passed st m n m' = (m'.0 ≡ at_stage m.0 idle) × (m'.1 ≡ rest m.1)

-- the seat has taken the board b
abbrev pub HasTaken : Mine → Mine → Content → Type 0
HasTaken m m' b =
    (Sees m.0 b.events × OnlyMade m.0 b.events) × (b.setup ≡ m.0.setup)
    × ((t : ℕ) × (m'.0 ≡ record m.0 { seen = b.events; stage = turn t })) × (m'.1 ≡ (0, b) ∷ [])

-- what a caller did where the history was h: nothing, or one event
abbrev pub Follows : ℕ → List BoardEvent → List BoardEvent → Type 0
Follows c h h' = (h' ≡ h) ⊎ ((e : BoardEvent) × (caller_of e ≡ c) × (h' ≡ h ++ e ∷ []))

-- what the owner's second read of a join tells
abbrev pub told : Step Content → Mine → ℕ → Mine → Type 0
told st m n m' =
    (m'.0 ≡ at_stage m.0 idle) × (m'.1 ≡ m.1) × Joined m.0 m.0.stage × OnlyMade m.0 m.0.seen

-- One call: `tells` holds of the board at a history that begins with what the seat had seen and
-- goes on with no event of its caller, for the owner only with events of callers whose seats were
-- out. That history is seen afterwards, with the call's own event, if it makes one
pub record Called (tells : Content → Type 0) (after : Content → Content) (v w : View) : Type 0 where
  pub before : List BoardEvent
  pub sees : Sees v before
  pub only_made : OnlyMade v before
  pub answered : tells (content v.setup before)
  pub seen : w ≡ record v { seen = (after (content v.setup before)).events }

-- the history apart, the seat knows what it knew
abbrev pub KeepsRest : View → View → Type 0
KeepsRest v w = (w.caller ≡ v.caller) × (w.setup ≡ v.setup) × (w.made ≡ v.made) × (w.out ≡ v.out)

-- The owner, who knew v, takes in a seat that knew w, and then knows u. What it comes to see is of
-- callers whose seats were out and were made, and of the joined caller it sees what that seat had
-- seen. One caller fewer is out
pub record HasJoined (v w u : View) : Type 0 where
  pub fresh : Sees v u.seen
  pub made : OnlyMade v u.seen
  pub others : GoesOnWithout w.caller u.seen w.seen
  pub fewer : length v.out ≡ length u.out + 1
