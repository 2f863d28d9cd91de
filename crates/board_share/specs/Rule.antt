-- The rule of the shared board (this project's profile). Word 0 is the length of the history, word
-- 1 the next ticket and word 2 the ticket that is served.
use Rattle.std.specs.Prelude.{◌≡◌, ◌≢◌, ℕ, ◌+◌, ◌%◌, ◌^◌, ◌<◌, ◌≤◌, List, [], ◌∷◌, ◌++◌, length}
use Rattle.std.specs.Prelude.{slice_index_or, sum_by, All, Contains}
use mathlib.Core.Option.{some}
use mathlib.Core.Option as maybe
use lib.ListN.{get_elem?}
use Rattle.atomic_table.specs.Table.{State}
use Rattle.board_store.specs.Board.{Setup, Content}
use Rattle.board_share.specs.Views.{BoardEvent, caller_of, content, Stage, idle, waits, turn, spent}
use Rattle.board_share.specs.Views.{joined, View, ticket_count, live_count}

-- where the board is: in its slot, or out with the seat of this number
pub data Spot : Type 0 where
  home : Spot
  away : ℕ → Spot

abbrev pub HasTicket : Stage → ℕ → Type 0
HasTicket idle t = ⊥
HasTicket (waits u) t = u ≡ t
HasTicket (turn u) t = u ≡ t
HasTicket spent t = ⊥
HasTicket (joined a b l c) t = ⊥

abbrev pub tickets_of : List View → ℕ
tickets_of vs = sum_by (λ (v : View). ticket_count v.stage) vs

abbrev pub live_of : List View → ℕ
live_of vs = sum_by (λ (v : View). live_count v.stage) vs

abbrev pub IsAt : List View → ℕ → View → Type 0
IsAt views j v = get_elem? views j ≡ some v

abbrev pub Homes : Type 0
Homes = List (maybe.Option Content)

-- part 1: who waits, in the order of the tickets
pub record Tickets (serving next : ℕ) (words : List ℕ) (views : List View) : Type 0 where
  pub next_is : slice_index_or words 1 0 ≡ next % 2 ^ 64
  pub serving_is : slice_index_or words 2 0 ≡ serving % 2 ^ 64
  pub counted : serving + tickets_of views ≡ next
  pub in_range : (j : ℕ) (v : View) → IsAt views j v → (t : ℕ) → HasTicket v.stage t → (serving ≤ t)
      × (t < next)
  pub differ : (i : ℕ) (u : View) (j : ℕ) (v : View) → IsAt views i u → IsAt views j v →
      (t : ℕ) → HasTicket u.stage t → HasTicket v.stage t → i ≡ j

-- part 2: the board is out only with the seat that is served
abbrev pub InSpot : ℕ → Homes → List View → Spot → Type 0
InSpot serving homes views home = (b : Content) × (get_elem? homes 0 ≡ some (some b))
InSpot serving homes views (away j) =
    (v : View) × IsAt views j v × (v.stage ≡ turn serving) × (get_elem? homes 0 ≡ some maybe.none)

pub record Slot (serving : ℕ) (spot : Spot) (homes : Homes) (views : List View) : Type 0 where
  pub lies : InSpot serving homes views spot
  pub turns : (j : ℕ) (v : View) → IsAt views j v → (t : ℕ) → v.stage ≡ turn t → spot ≡ away j

-- an event that the seat need not have seen: it is of another caller, and past what the owner has
-- seen of one whose seat is out
abbrev pub Past : View → BoardEvent → Type 0
Past v e = (caller_of e ≢ v.caller) × (v.caller ≡ 0 → Contains v.out (caller_of e))

pub record Sees (v : View) (h : List BoardEvent) : Type 0 where
  pub rest : List BoardEvent
  pub whole : v.seen ++ rest ≡ h
  pub past : All (Past v) rest

-- part 3: the board's history has the length that word 0 says, and each seat has seen a part that
-- it begins with. While the board is out, the history is that of the board as it will be given
-- back, and the seat that has it has seen it all
pub record Counted (about : Setup) (history : List BoardEvent) (words : List ℕ) (homes : Homes)
    (views : List View) : Type 0 where
  pub length_is : slice_index_or words 0 0 ≡ length history
  pub kept : (b : Content) → get_elem? homes 0 ≡ some (some b) → b ≡ content about history
  pub held : (j : ℕ) (v : View) → IsAt views j v → (t : ℕ) → v.stage ≡ turn t → v.seen ≡ history
  pub sees : (j : ℕ) (v : View) → IsAt views j v → live_count v.stage ≡ 1 → Sees v history
  pub names : (j : ℕ) (v : View) → IsAt views j v → live_count v.stage ≡ 1 → v.setup ≡ about

-- no number is twice in the list
abbrev pub Differ : List ℕ → Type 0
Differ [] = Unit {0}
Differ (x ∷ xs) = (Contains xs x → ⊥) × Differ xs

-- it begins so, and no event past that is of the caller
abbrev pub GoesOnWithout : ℕ → List BoardEvent → List BoardEvent → Type 0
GoesOnWithout c h start =
    (rest : List BoardEvent) × (start ++ rest ≡ h) × All (λ (e : BoardEvent). caller_of e ≢ c) rest

-- the view where another history was seen and other callers' seats were out
abbrev pub with_seen : View → List BoardEvent → List ℕ → View
with_seen v seen out = record v { seen = seen; out = out }

-- what the owner keeps between the two reads of a join
abbrev pub Joined : View → Stage → Type 0
Joined v idle = Unit {0}
Joined v (waits t) = Unit {0}
Joined v (turn t) = Unit {0}
Joined v spent = Unit {0}
Joined v (joined a b l c) =
    Sees (with_seen v a l) v.seen × GoesOnWithout c v.seen b × (length l ≡ length v.out + 1)

-- part 4: the callers, and whose events there can be
pub record Callers (made : ℕ) (out : List ℕ) (history : List BoardEvent) (views : List View) : Type
    0 where
  pub few : live_of views ≤ made
  pub limit : made ≤ 4294967296
  pub owner : View
  pub owner_at : IsAt views 0 owner
  pub owner_is : (owner.caller ≡ 0) × (owner.made ≡ made) × (owner.out ≡ out)
      × (live_count owner.stage ≡ 1)
  pub outs : (j : ℕ) (v : View) → IsAt views j v → live_count v.stage ≡ 1 → Contains out v.caller
  pub each_out : (c : ℕ) → Contains out c → (j : ℕ) × (v : View) × IsAt views j v
      × (live_count v.stage ≡ 1) × (v.caller ≡ c)
  pub apart : (i : ℕ) (u : View) (j : ℕ) (v : View) → IsAt views i u → IsAt views j v →
      live_count u.stage ≡ 1 → live_count v.stage ≡ 1 → u.caller ≡ v.caller → i ≡ j
  pub differ : Differ out
  pub below : All (λ c. c < made) out
  pub events_below : All (λ (e : BoardEvent). caller_of e < made) history
  pub joins : (j : ℕ) (v : View) → IsAt views j v → Joined v v.stage

pub record Shared (key : Content) (s : State Content View) : Type 0 where
  pub serving : ℕ
  pub next : ℕ
  pub spot : Spot
  pub history : List BoardEvent
  pub made : ℕ
  pub out : List ℕ
  pub wide : length s.words ≡ 3
  pub tickets : Tickets serving next s.words s.views
  pub slot : Slot serving spot s.homes s.views
  pub counted : Counted key.setup history s.words s.homes s.views
  pub callers : Callers made out history s.views
