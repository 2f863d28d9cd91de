-- A board of rounds: proposals from 1 on, each with a task for every unit. Tasks are claimed and
-- answered; the state is the list of events, the oldest first, and everything else is read off it
-- (this project's profile).
use Rattle.std.specs.Prelude.{◌≡◌, ℕ, zero, suc, ◌+◌, ◌-◌, ◌<◌, ◌≤◌, Bool, true, false, not, ◌&&◌}
use Rattle.std.specs.Prelude.{◌||◌, ◌==◌, if◌then◌else◌, nat_le, nat_lt, min, is_some, is_none}
use Rattle.std.specs.Prelude.{Option, Some, None, List, [], ◌∷◌, ◌++◌, map, take}
use Rattle.std.specs.List.{find, flat_map, list_all, list_any, prefix_len, range_with_len}
use Rattle.std.specs.Option.{option_map_or}

-- what a board needs to know: P are prices, R rows and A answers
pub record Rules (P R A : Type 0) : Type 0 where
  pub units : ℕ
  pub budget : ℕ
  pub ahead : ℕ
  pub callers : ℕ
  -- the prices of proposal n from the rows 1 to n - ahead
  pub price : List R → ℕ → P
  -- the row that the answers of all units make at prices
  pub row : P → List A → R
  pub settled : R → Bool
  -- stands where there is no answer
  pub missing : A

-- an event: a claim that was given, a post that was taken, one that also closed its proposal, or a
-- caller's first halt
pub data Event (A : Type 0) : Type 0 where
  Given : (caller proposal unit : ℕ) → Event A
  Taken : (caller proposal unit : ℕ) → A → Event A
  Closing : (caller proposal unit : ℕ) → A → Event A
  Stopped : (caller : ℕ) → Event A

-- ---- what is read off the events

-- the first of two that is there
abbrev pub sooner : {X : Type 0} → Option X → Option X → Option X
sooner None y = y
sooner (Some x) y = Some x

-- the first that a function finds
abbrev pub first_some : {X Y : Type 0} → (X → Option Y) → List X → Option Y
first_some f [] = None
first_some f (x ∷ xs) = sooner (f x) (first_some f xs)

-- x at the task (p, v), and nothing elsewhere
abbrev pub only_at : {X : Type 0} → ℕ → ℕ → X → ℕ → ℕ → Option X
only_at p v x n u = if p == n && v == u then Some x else None

-- the caller to whom the task was given
abbrev pub given_by : {A : Type 0} → ℕ → ℕ → Event A → Option ℕ
given_by n u (Given c p v) = only_at p v c n u
given_by n u (Taken c p v a) = None
given_by n u (Closing c p v a) = None
given_by n u (Stopped c) = None

-- the caller who posted an answer for the task, with the answer
abbrev pub posted_by : {A : Type 0} → ℕ → ℕ → Event A → Option (ℕ × A)
posted_by n u (Given c p v) = None
posted_by n u (Taken c p v a) = only_at p v (c, a) n u
posted_by n u (Closing c p v a) = only_at p v (c, a) n u
posted_by n u (Stopped c) = None

abbrev pub is_halt_of : {A : Type 0} → ℕ → Event A → Bool
is_halt_of c (Given d p v) = false
is_halt_of c (Taken d p v a) = false
is_halt_of c (Closing d p v a) = false
is_halt_of c (Stopped d) = d == c

abbrev pub is_halt : {A : Type 0} → Event A → Bool
is_halt (Given d p v) = false
is_halt (Taken d p v a) = false
is_halt (Closing d p v a) = false
is_halt (Stopped d) = true

-- who holds each task
abbrev pub Holders : Type 0
Holders = ℕ → ℕ → Option ℕ

abbrev pub holders : {A : Type 0} → List (Event A) → Holders
holders h n u = first_some (given_by n u) h

-- who posted an answer for each task, and what it is
abbrev pub Posts : Type 0 → Type 0
Posts A = ℕ → ℕ → Option (ℕ × A)

abbrev pub posts : {A : Type 0} → List (Event A) → Posts A
posts h n u = first_some (posted_by n u) h

-- the posts with one more
abbrev pub with_post : {A : Type 0} → Posts A → ℕ → ℕ → ℕ → A → Posts A
with_post p c n u a m v = sooner (p m v) (only_at n u (c, a) m v)

-- ---- rounds: rows one after another, where make says which row a proposal makes at prices

module _ {P R A : Type 0} (g : Rules P R A) (make : P → ℕ → R) where
  -- one more row after n rows
  abbrev pub with_row : ℕ → List R → List R
  with_row n rows = rows ++ make (g.price (take (suc n - g.ahead) rows) (suc n)) (suc n) ∷ []

  -- the rows of proposals 1 to n
  abbrev pub rows_by : ℕ → List R
  rows_by zero = []
  rows_by (suc n) = with_row n (rows_by n)

  -- the prices of proposal n
  abbrev pub prices_by : ℕ → P
  prices_by n = g.price (rows_by (n - g.ahead)) n

module _ {P R A : Type 0} (g : Rules P R A) where
  -- how many rows from the first on aren't settled, up to the first that is
  abbrev pub free_in : List R → ℕ
  free_in rows = prefix_len (λ (r : R). not (g.settled r)) rows

  -- the last proposal that is open for work where these rows are closed: those from 1 to it less
  -- ahead are among them, and none of those is settled
  abbrev pub opened_in : List R → ℕ
  opened_in rows = min g.budget (g.ahead + free_in rows)

-- ---- what is read off the posts alone

module _ {P R A : Type 0} (g : Rules P R A) (p : Posts A) where
  -- every unit of the proposal has an answer
  abbrev pub is_closed : ℕ → Bool
  is_closed n = list_all (λ u. is_some (p n u)) (range_with_len 0 g.units)

  abbrev pub answer_at : ℕ → ℕ → A
  answer_at n u = option_map_or (λ (x : ℕ × A). x.1) (p n u) g.missing

  -- the answers of a proposal, in unit order
  abbrev pub answers : ℕ → List A
  answers n = map (answer_at n) (range_with_len 0 g.units)

  abbrev pub row_by : P → ℕ → R
  row_by π n = g.row π (answers n)

  abbrev pub rows_to : ℕ → List R
  rows_to n = rows_by g row_by n

  abbrev pub prices_at : ℕ → P
  prices_at n = prices_by g row_by n

  -- how many proposals from 1 on are closed, up to the first that isn't
  abbrev pub closed_front : ℕ
  closed_front = prefix_len is_closed (range_with_len 1 g.budget)

  abbrev pub rows_of : List R
  rows_of = rows_to closed_front

  abbrev pub free_front : ℕ
  free_front = free_in g rows_of

  abbrev pub opened : ℕ
  opened = opened_in g rows_of

  -- every proposal that is open for work is closed
  abbrev pub is_finished : Bool
  is_finished = nat_le opened closed_front

-- ---- claims

-- what a claim answers
pub data ClaimReply : Type 0 where
  Finished : ClaimReply
  Halted : ClaimReply
  GivenTask : (proposal unit : ℕ) → ClaimReply
  NotYet : ClaimReply

-- the tasks of proposals 1 to n, by proposal and then by unit
abbrev pub tasks : ℕ → ℕ → List (ℕ × ℕ)
tasks units n = flat_map (λ k. map (λ u. (k, u)) (range_with_len 0 units)) (range_with_len 1 n)

-- the first that isn't held
abbrev pub next_task : ℕ → ℕ → Holders → Option (ℕ × ℕ)
next_task units n held = find (λ (t : ℕ × ℕ). is_none (held t.0 t.1)) (tasks units n)

-- the first that applies: every proposal that is open for work is closed; some caller has halted; a
-- task that is open and not claimed; and else no task yet
abbrev pub claim_from : {P R A : Type 0} → Rules P R A → Posts A → Holders → Bool → ClaimReply
claim_from g p held halted =
    if is_finished g p then Finished
    else if halted then Halted
    else option_map_or (λ (t : ℕ × ℕ). GivenTask t.0 t.1) (next_task g.units (opened g p) held)
    NotYet

abbrev pub claim_reply : {P R A : Type 0} → Rules P R A → List (Event A) → ClaimReply
claim_reply g h = claim_from g (posts h) (holders h) (list_any is_halt h)

-- a claim that is given makes an event, and no other
abbrev pub with_claim : {A : Type 0} → List (Event A) → ℕ → ClaimReply → List (Event A)
with_claim h c Finished = h
with_claim h c Halted = h
with_claim h c (GivenTask n u) = h ++ Given c n u ∷ []
with_claim h c NotYet = h

abbrev pub events_after_claim : {P R A : Type 0} → Rules P R A → List (Event A) → ℕ → List (Event A)
events_after_claim g h c = with_claim h c (claim_reply g h)

-- ---- posts

-- what a post answers; D says where the content of two tasks differs
pub data PostReply (D : Type 0) : Type 0 where
  OtherProposal : (task opened : ℕ) → PostReply D
  OtherUnit : (task units : ℕ) → PostReply D
  OtherContent : D → PostReply D
  Doubled : (poster : ℕ) → PostReply D
  OtherHolder : (caller : ℕ) → (holder : Option ℕ) → PostReply D
  TakenPost : (closed : Option ℕ) → PostReply D

abbrev pub is_holder : Option ℕ → ℕ → Bool
is_holder None c = false
is_holder (Some d) c = d == c

-- the first that applies: the proposal is 0 or isn't open; there is no such unit; the content
-- differs from that of the board's own task; an answer stands; the caller isn't the one who claimed
-- the task; and else the post is taken
abbrev pub post_from : {D A : Type 0} → (opened units : ℕ) → Option D → Option (ℕ × A) → Option ℕ →
    (closes : Bool) → (c n u : ℕ) → PostReply D
post_from opened units differs post holder closes c n u =
    if (n == 0) || nat_lt opened n then OtherProposal n opened
    else if nat_le units u then OtherUnit u units
    else option_map_or OtherContent differs
    (option_map_or (λ x. Doubled x.0) post
    (if is_holder holder c then TakenPost (if closes then Some n else None) else OtherHolder c
    holder))

-- differs compares the task with the board's own, whose prices it is given
abbrev pub post_reply : {P R A D : Type 0} → Rules P R A → List (Event A) →
    (differs : P → Option D) → (c n u : ℕ) → A → PostReply D
post_reply g h differs c n u a =
    post_from (opened g (posts h)) g.units (differs (prices_at g (posts h) n)) (posts h n u)
    (holders h n u)
    (is_closed g (with_post (posts h) c n u a) n) c n u

-- the event of a post that is taken
abbrev pub post_event : {P R A : Type 0} → Rules P R A → Posts A → ℕ → ℕ → ℕ → A → Event A
post_event g p c n u a =
    if is_closed g (with_post p c n u a) n then Closing c n u a else Taken c n u a

-- a post that is taken makes an event, and no other
abbrev pub with_answer : {D A : Type 0} → List (Event A) → Event A → PostReply D → List (Event A)
with_answer h e (OtherProposal n o) = h
with_answer h e (OtherUnit u m) = h
with_answer h e (OtherContent d) = h
with_answer h e (Doubled d) = h
with_answer h e (OtherHolder c d) = h
with_answer h e (TakenPost closed) = h ++ e ∷ []

abbrev pub events_after_post : {P R A D : Type 0} → Rules P R A → List (Event A) →
    (differs : P → Option D) → (c n u : ℕ) → A → List (Event A)
events_after_post g h differs c n u a =
    with_answer h (post_event g (posts h) c n u a) (post_reply g h differs c n u a)

-- ---- halts

-- a caller's first halt makes an event, and no later one
abbrev pub events_after_halt : {A : Type 0} → List (Event A) → ℕ → List (Event A)
events_after_halt h c = if list_any (is_halt_of c) h then h else h ++ Stopped c ∷ []

-- ---- legal histories

-- fits says which answers are right for a unit at prices
module _ {P R A : Type 0} (g : Rules P R A) (fits : ℕ → P → A → Type 0) where
  -- a post that is taken: the task is open, held by its caller and without an answer
  pub record IsPost (p : Posts A) (held : Holders) (c n u : ℕ) (a : A) : Type 0 where
    pub from_one : 0 < n
    pub open_ : n ≤ opened g p
    pub unit : u < g.units
    pub held_by : held n u ≡ Some c
    pub first : p n u ≡ None
    pub fit : fits u (prices_at g p n) a

  abbrev pub IsNext : List (Event A) → Event A → Type 0
  IsNext h (Given c n u) = (c < g.callers) × (claim_reply g h ≡ GivenTask n u)
  IsNext h (Taken c n u a) =
      (c < g.callers) × IsPost (posts h) (holders h) c n u a
      × (is_closed g (with_post (posts h) c n u a) n ≡ false)
  IsNext h (Closing c n u a) =
      (c < g.callers) × IsPost (posts h) (holders h) c n u a
      × (is_closed g (with_post (posts h) c n u a) n ≡ true)
  IsNext h (Stopped c) = (c < g.callers) × (list_any (is_halt_of c) h ≡ false)

  -- events that the machine appends one after another to those before
  abbrev pub GoesOn : List (Event A) → List (Event A) → Type 0
  GoesOn before [] = Unit {0}
  GoesOn before (e ∷ es) = IsNext before e × GoesOn (before ++ e ∷ []) es

  abbrev pub IsLegal : List (Event A) → Type 0
  IsLegal h = GoesOn [] h
