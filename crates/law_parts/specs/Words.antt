-- What the numbers and tests of a board of rounds mean, and each answer of a post, in words
-- (this project's profile).
use Rattle.std.specs.Prelude.{◌≡◌, ◌↔◌, ℕ, suc, ◌-◌, ◌<◌, ◌≤◌, true, false, Option, Some, None}
use Rattle.std.specs.Prelude.{List, [], ◌∷◌, ◌++◌, ◌⊎◌, if◌then◌else◌, slice_index_or}
use Rattle.board_store.specs.Rounds.{Rules, Event, Given, Taken, Closing, Stopped, holders, Posts}
use Rattle.board_store.specs.Rounds.{with_post, PostReply, OtherProposal, OtherUnit, OtherContent}
use Rattle.board_store.specs.Rounds.{Doubled, OtherHolder, TakenPost, post_reply, posts}
use Rattle.board_store.specs.Rounds.{is_closed, rows_to, prices_at, opened, is_finished}
use Rattle.board_store.specs.Rounds.{events_after_claim, events_after_post, events_after_halt}
use Rattle.board_store.specs.Words.{IsOpenTask}

module _ {P R A : Type 0} (g : Rules P R A) (p : Posts A) where
  -- every unit of the proposal is posted
  abbrev pub IsClosed : ℕ → Type 0
  IsClosed n = (u : ℕ) → u < g.units → (x : ℕ × A) × (p n u ≡ Some x)

  -- the proposal exists, every one from 1 to n - ahead is closed, and none of those is settled
  pub record IsOpen (n : ℕ) : Type 0 where
    pub within : n ≤ g.budget
    pub closed : (k : ℕ) → k < n - g.ahead → IsClosed (suc k)
    pub unsettled : (k : ℕ) (d : R) → k < n - g.ahead →
        g.settled (slice_index_or (rows_to g p (n - g.ahead)) k d) ≡ false

  -- opened is the greatest number of a proposal that is open for work, and finished says that all
  -- of those are closed
  pub record Means : Type 0 where
    pub closed : (n : ℕ) → (is_closed g p n ≡ true) ↔ IsClosed n
    pub opened : (n : ℕ) → (n ≤ opened g p) ↔ IsOpen n
    pub finished : (is_finished g p ≡ true) ↔ ((n : ℕ) → 0 < n → IsOpen n → IsClosed n)

-- the task that is posted is the board's own
abbrev pub no_difference : {P : Type 0} → P → Option ℕ
no_difference π = None

module _ {P R A : Type 0} (g : Rules P R A) (fits : ℕ → P → A → Type 0) where
  -- the call that appends the event to these, with a task that is the board's own and an answer
  -- that is right
  abbrev pub IsMachineStep : List (Event A) → Event A → Type 0
  IsMachineStep h (Given c n u) =
      (c < g.callers) × (events_after_claim g h c ≡ h ++ Given c n u ∷ [])
  IsMachineStep h (Taken c n u a) =
      (c < g.callers) × fits u (prices_at g (posts h) n) a
      × (events_after_post g h no_difference c n u a ≡ h ++ Taken c n u a ∷ [])
  IsMachineStep h (Closing c n u a) =
      (c < g.callers) × fits u (prices_at g (posts h) n) a
      × (events_after_post g h no_difference c n u a ≡ h ++ Closing c n u a ∷ [])
  IsMachineStep h (Stopped c) = (c < g.callers) × (events_after_halt h c ≡ h ++ Stopped c ∷ [])

-- ---- posts

module _ {P R A D : Type 0} (g : Rules P R A) (h : List (Event A)) (differs : P →
    Option D) (c n u : ℕ) (a : A) where
  abbrev reply : PostReply D
  reply = post_reply g h differs c n u a

  -- how the task differs from the board's own
  abbrev difference : Option D
  difference = differs (prices_at g (posts h) n)

  -- each answer, and where it comes: one of these cases stands
  pub record PostSays : Type 0 where
    pub proposal : (n ≡ 0) ⊎ (opened g (posts h) < n) → reply ≡ OtherProposal n (opened g (posts h))
    pub unit : 0 < n → n ≤ opened g (posts h) → g.units ≤ u → reply ≡ OtherUnit u g.units
    pub content : IsOpenTask g (posts h) n u → (d : D) → difference ≡ Some d →
        reply ≡ OtherContent d
    pub doubled : IsOpenTask g (posts h) n u → difference ≡ None → (x : ℕ × A) →
        posts h n u ≡ Some x → reply ≡ Doubled x.0
    pub holder : IsOpenTask g (posts h) n u → difference ≡ None → posts h n u ≡ None →
        (holders h n u ≡ Some c → ⊥) →
        reply ≡ OtherHolder c (holders h n u)
    pub taken : IsOpenTask g (posts h) n u → difference ≡ None → posts h n u ≡ None →
        holders h n u ≡ Some c →
        reply ≡ TakenPost (if is_closed g (with_post (posts h) c n u a) n then Some n else None)
