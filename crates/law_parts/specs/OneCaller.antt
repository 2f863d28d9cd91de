-- One caller that claims a task, answers it and posts the answer, round after round (this project's
-- profile).
use Rattle.std.specs.Prelude.{◌≡◌, ℕ, ◌+◌, ◌⊎◌, false, Option, Some, None, List, slice_get}
use Rattle.std.specs.List.{list_any}
use Rattle.board_store.specs.Board.{Answer, Content, IsLegalHistory}
use Rattle.board_store.specs.Calls.{own_prices, claim_answer, after_claim, post_answer}
use Rattle.board_store.specs.Calls.{after_post}
use Rattle.law_parts.specs.Counts.{posts_in}
use Rattle.board_store.specs.Rounds.{Event, holders, posts, is_halt, Finished, GivenTask}
use Rattle.board_store.specs.Rounds.{TakenPost}
use Rattle.uc_model.specs.Data.{AnyUnit, PriceLists, units}

-- a task that a caller holds and that has no answer: its post is taken, whatever else came since it
-- was claimed
abbrev pub HeldIsTaken : Type 0
HeldIsTaken =
    (s : Content) (k n u : ℕ) (ρ : PriceLists) (x : AnyUnit) (a : Answer) →
    IsLegalHistory s.setup s.events →
    holders s.events n u ≡ Some k → posts s.events n u ≡ None → own_prices s n ≡ ρ →
    slice_get (units s.setup.market) u ≡ Some x →
    (closed : Option ℕ) × (post_answer s k n u ρ x a ≡ TakenPost closed)

-- between two rounds nobody has halted, and every task that was claimed is posted
pub record IsBetween {A : Type 0} (h : List (Event A)) : Type 0 where
  pub calm : list_any is_halt h ≡ false
  pub posted : (n u c : ℕ) → holders h n u ≡ Some c → (x : ℕ × A) × (posts h n u ≡ Some x)

-- a claim is then given, or the board has finished
abbrev pub ClaimsAreGiven : Type 0
ClaimsAreGiven =
    (s : Content) → IsBetween s.events → (claim_answer s ≡ Finished)
    ⊎ ((n : ℕ) × (u : ℕ) × (claim_answer s ≡ GivenTask n u))

-- the caller claims a task and posts an answer for that very task: it is taken, and the round is
-- over
pub record IsRound (s : Content) (k n u : ℕ) (ρ : PriceLists) (x : AnyUnit) (a : Answer) : Type
    0 where
  pub closed : Option ℕ
  pub taken : post_answer (after_claim s k) k n u ρ x a ≡ TakenPost closed
  pub between : IsBetween (after_post (after_claim s k) k n u ρ x a).events
  pub one_more : posts_in (after_post (after_claim s k) k n u ρ x a).events ≡ posts_in s.events + 1

abbrev pub GivenIsTaken : Type 0
GivenIsTaken =
    (s : Content) (k n u : ℕ) (ρ : PriceLists) (x : AnyUnit) (a : Answer) →
    IsLegalHistory s.setup s.events → IsBetween s.events →
    claim_answer s ≡ GivenTask n u → own_prices s n ≡ ρ →
    slice_get (units s.setup.market) u ≡ Some x → IsRound s k n u ρ x a
