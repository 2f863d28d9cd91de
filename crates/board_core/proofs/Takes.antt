-- What holds of a post that isn't refused.
use Rattle.board_core.proofs.Common.{◌≡◌, ℕ, ◌≤◌, Bool, true, false, cond, Some, None, List, length, refl, ◌∙◌, arith}
use Rattle.board_core.proofs.Common.{All, range_with_len, slice_get, Setup, Answer, IsRight, IsLegalHistory, rules_of}
use Rattle.board_core.proofs.Common.{schedules_in, TakenTells, IsTotal, TotalsAreWithin, post_answer, entry_of, Event}
use Rattle.board_core.proofs.Common.{Taken, Closing, TakenPost, posts, prices_at, is_closed, answers, with_post, IsTask}
use Rattle.board_core.proofs.Common.{AnyUnit, PriceLists, units, unit_count, earnings, Fits, IsFeasible, total_power}
use Rattle.board_core.proofs.Common.{total_reserve, LedgerValue, Lists, supply_to, reserve_to, IsBoard, refusal_of}
use Rattle.board_core.proofs.Common.{reply_of, IsSetup}
use Rattle.std.proofs.lemmas.List.Elements.{All-map}
use Rattle.board_store.specs.declared.entries.Call.TheVariants as calls
use Rattle.board_core.proofs.Entries.{content}
use Rattle.board_core.proofs.Fronts.{opened_is}
use Rattle.board_core.proofs.PostLists.{IsHeldTask}
use Rattle.board_core.proofs.Refused.{refusal_is, taken_says}

pub record IsTakenHere (b : Setup) (h : List (Event Answer)) (l : LedgerValue) (k n u : ℕ) (ρ : PriceLists)
    (v : AnyUnit) (a : Answer) : Type 0 where
  pub held : IsHeldTask b h l k n u
  pub is : slice_get (units b.market) u ≡ Some v
  pub right : IsRight Fits b.market u (prices_at (rules_of b) (posts h) n) a
  pub long : length a.schedule.on ≡ b.market.periods
  pub feasible : IsFeasible v (length a.schedule.on) a.schedule
  pub reply : post_answer (content b h) k n u ρ v a ≡ TakenPost
      (cond (is_closed (rules_of b) (with_post (posts h) k n u a) n) (Some n) None)

pub taken_here : TakenTells → (b : Setup) (h : List (Event Answer)) (x : Lists) (l : LedgerValue) (I : IsBoard b h x l)
    (k n u : ℕ) (ρ : PriceLists) (v : AnyUnit) (a : Answer) →
    IsTask ρ v → Fits v ρ a.schedule → earnings v ρ a.schedule ≡ a.earned →
    refusal_of b l x.marks x.takers k n u ρ v ≡ None → IsTakenHere b h l k n u ρ v a
taken_here tells b h x l I k n u ρ v a task fit earned none =
    let says = taken_says (post_answer (content b h) k n u ρ v a) (refusal_is b h x l I k n u ρ v a ∙ none) in
    let tells_it = tells (content b h) k n u ρ v a says.0 I.setup.market task fit earned says.1 in
    let t = tells_it.0 in
    let o = opened_is b l I.ledger (posts h) I.rounds in
    let w = t.task.open_ in
    record {
      held = record {
        one = t.task.from_one;
        within = omega (arith, o, w);
        inside = t.task.unit;
        none_yet = t.first;
        held = t.held_by;
      };
      is = t.unit;
      right = t.right;
      long = t.long;
      feasible = t.feasible;
      reply = tells_it.1;
    }

pub supply_small : TotalsAreWithin → (b : Setup) (h : List (Event Answer)) → IsSetup b → IsLegalHistory b h → (n : ℕ) →
    All IsTotal (supply_to b (posts h) n)
supply_small within b h S legal n =
    All-map IsTotal (total_power (units b.market) (schedules_in (answers (rules_of b) (posts h) n)))
    (range_with_len 0 b.market.periods) (λ k d i. (within b h S.market legal n).supply _)

pub reserve_small : TotalsAreWithin → (b : Setup) (h : List (Event Answer)) → IsSetup b → IsLegalHistory b h → (n : ℕ) →
    All IsTotal (reserve_to b (posts h) n)
reserve_small within b h S legal n =
    All-map IsTotal (total_reserve (units b.market) (schedules_in (answers (rules_of b) (posts h) n)))
    (range_with_len 0 b.market.periods) (λ k d i. (within b h S.market legal n).reserve _)

pub units_few : (b : Setup) → IsSetup b → unit_count b.market ≤ 12288
units_few b S = let t = S.market.thermal_count in let f = S.market.flat_count in let d = S.market.bid_count in
    omega (arith, t, f, d)

pub entry_is : (t : Bool) (c n u : ℕ) (a : Answer) →
    entry_of (cond t (Closing c n u a) (Taken c n u a)) ≡ record {
      caller = c;
      call = calls.Post;
      proposal = n;
      unit =
          u;
      reply = reply_of t;
    }
entry_is true c n u a = refl
entry_is false c n u a = refl
