-- Calls of callers: each keeps a history legal, what each answer of a post says, and that an answer for a task that is
-- held is taken.
use Rattle.law_parts.proofs.Common.{◌≡◌, ℕ, cond, Option, Some, None, [], ap, ◌∙◌, option_map_or, AnyUnit, PriceLists}
use Rattle.law_parts.proofs.Common.{no_prices, Fits, task_numbers, Setup, Answer, rules_of, IsRight, row_of}
use Rattle.law_parts.proofs.Common.{differs_from, CallsStayLegal, StepsAreMachine, PostsMean, HeldIsTaken, Posts, posts}
use Rattle.law_parts.proofs.Common.{prices_at, with_post, is_closed, difference}
use Rattle.board_store.proofs.Held.{held_is_open}
use Rattle.board_store.proofs.OwnTasks.{same_is_own, right_of, IsOwn}
use Rattle.board_store.proofs.SameTask.{difference_same}
use Rattle.law_parts.proofs.Machine.{claim_stays, post_stays, halt_stays, steps_are_machine, post_says}

-- the board's own task nowhere differs from itself
pub own_is_same : (b : Setup) (p : Posts Answer) (n u : ℕ) (ρ : PriceLists) (x : AnyUnit) → IsOwn b p n u ρ x →
    differs_from b u ρ x (prices_at (rules_of b) p n) ≡ None
own_is_same b p n u ρ x own =
    ap (λ (π : PriceLists). differs_from b u ρ x π) own.prices
    ∙ ap (λ (o : Option AnyUnit). difference (option_map_or (task_numbers ρ) o []) (task_numbers ρ x)) own.unit
    ∙ difference_same (task_numbers ρ x)

pub calls_stay_legal : CallsStayLegal
calls_stay_legal b h c limits caller legal = record {
  claim = claim_stays (rules_of b) (IsRight Fits b.market) h c caller legal;
  post = λ n u ρ x a task fit earned.
      post_stays (rules_of b) (IsRight Fits b.market) h (differs_from b u ρ x) c n u a caller legal
      (λ t. right_of b (posts h) n u ρ x a (same_is_own b (posts h) n u ρ x limits task t.unit t.same) fit earned);
  halt = halt_stays (rules_of b) (IsRight Fits b.market) h c caller legal;
}

pub steps_agree : StepsAreMachine
steps_agree b h e = steps_are_machine (rules_of b) (IsRight Fits b.market) h e

pub posts_mean : PostsMean
posts_mean s k n u ρ x a = post_says (rules_of s.setup) s.events (differs_from s.setup u ρ x) k n u a

pub held_is_taken : HeldIsTaken
held_is_taken s k n u ρ x a legal held first prices unit =
    let g = rules_of s.setup in
    let h = s.events in
    let t = held_is_open g (IsRight Fits s.setup.market) (row_of s.setup.market no_prices []) h legal n u k held in
    let same = own_is_same s.setup (posts h) n u ρ x (record { prices = prices; unit = unit }) in (
      cond (is_closed g (with_post (posts h) k n u a) n) (Some n) None,
      (post_says g h (differs_from s.setup u ρ x) k n u a).taken t same first held,
    )
