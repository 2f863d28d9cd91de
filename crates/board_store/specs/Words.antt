-- What each answer of a claim means, in words (this project's profile).
use Rattle.std.specs.Prelude.{◌≡◌, ◌↔◌, ℕ, ◌<◌, ◌≤◌, true, false, Some, None, List}
use Rattle.std.specs.List.{list_any}
use Rattle.board_store.specs.Rounds.{Rules, Event, is_halt, Holders, holders, Posts, Finished}
use Rattle.board_store.specs.Rounds.{Halted, GivenTask, NotYet, claim_reply, posts, opened}
use Rattle.board_store.specs.Rounds.{is_finished}

module _ {P R A : Type 0} (g : Rules P R A) where
  -- a unit's task of a proposal that is open for work
  pub record IsOpenTask (p : Posts A) (n u : ℕ) : Type 0 where
    pub from_one : 0 < n
    pub open_ : n ≤ opened g p
    pub unit : u < g.units

  abbrev pub IsHeld : Holders → ℕ → ℕ → Type 0
  IsHeld held n u = (c : ℕ) × (held n u ≡ Some c)

  -- the lowest open proposal's lowest unit that isn't claimed
  pub record IsFirstFree (p : Posts A) (held : Holders) (n u : ℕ) : Type 0 where
    pub task : IsOpenTask p n u
    pub free : held n u ≡ None
    pub lower_proposals : (m v : ℕ) → m < n → IsOpenTask p m v → IsHeld held m v
    pub lower_units : (v : ℕ) → v < u → IsHeld held n v

  -- not all tasks of the open proposals are posted, and there is no halt
  abbrev pub IsGoing : List (Event A) → Type 0
  IsGoing h = (is_finished g (posts h) ≡ false) × (list_any is_halt h ≡ false)

  pub record ClaimSays (h : List (Event A)) : Type 0 where
    pub finished : (claim_reply g h ≡ Finished) ↔ (is_finished g (posts h) ≡ true)
    pub halted : (claim_reply g h ≡ Halted)
        ↔ ((is_finished g (posts h) ≡ false) × (list_any is_halt h ≡ true))
    pub given : (n u : ℕ) → (claim_reply g h ≡ GivenTask n u)
        ↔ (IsGoing h × IsFirstFree (posts h) (holders h) n u)
    -- every task of the open proposals is claimed
    pub not_yet : (claim_reply g h ≡ NotYet)
        ↔ (IsGoing h × ((n u : ℕ) → IsOpenTask (posts h) n u → IsHeld (holders h) n u))
