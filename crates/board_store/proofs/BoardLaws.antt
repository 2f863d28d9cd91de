-- The laws that a crate goes by that keeps a board in lists of its own.
use Rattle.board_store.proofs.Common.{ℕ, length, List, ap, sym, subst, ◌∙◌, fun_ext, Setup, Answer, rules_of, IsRight}
use Rattle.board_store.proofs.Common.{FrontIsClosed, IsOneEventMore, TakenTells, RoundLaws, BoardLaws, differs_from}
use Rattle.board_store.proofs.Common.{Event, Given, Taken, Closing, Stopped, Posts, posts, is_closed, PriceLists}
use Rattle.board_store.proofs.Common.{units, unit_count, DualIsAtMostCost, Fits, IsFeasible}
use Rattle.board_store.proofs.Answered.{posts-given, posts-taken, posts-closing, posts-stopped, holders-given}
use Rattle.board_store.proofs.Answered.{holders-taken, holders-closing, holders-stopped, extends_with, post_cases}
use Rattle.board_store.proofs.ClaimWords.{claim_says}
use Rattle.board_store.proofs.Fronts.{front_le, front_most, front_is}
use Rattle.board_store.proofs.PostsKept.{post_of, rows_by_length, rows_by_more, rows_by_take, rows_by_same, closed_kept}
use Rattle.board_store.proofs.PostsKept.{rows_kept_to, front_closed, free_le}
use Rattle.board_store.proofs.Machine.{reply_says, reply_taken}
use Rattle.board_store.proofs.Opens.{opens_one, opens_none}
use Rattle.board_store.proofs.OwnTasks.{own_horizon, same_is_own, right_of}
use Rattle.board_store.proofs.RowBounds.{fit_lengths, totals_within, rows_are_within, rows_are_at_most_cost}
use Rattle.board_store.proofs.RowLaws.{units_length, fits_is_best, answers_fit_now}
use Rattle.board_store.proofs.Stays.{legal_more}
use Rattle.board_store.proofs.Totals.{totals_run}
use Rattle.board_store.proofs.UnitBounds.{ModelLaws}

one_event : (h : List (Event Answer)) (e : Event Answer) → IsOneEventMore h e
one_event h (Given c n u) =
    record { posts_are = posts-given h c n u; holders_are = fun_ext (λ m. fun_ext (λ v. holders-given h c n u m v)) }
one_event h (Taken c n u a) = record { posts_are = posts-taken h c n u a; holders_are = holders-taken h c n u a }
one_event h (Closing c n u a) = record { posts_are = posts-closing h c n u a; holders_are = holders-closing h c n u a }
one_event h (Stopped c) = record { posts_are = posts-stopped h c; holders_are = holders-stopped h c }

front_of : (b : Setup) (p : Posts Answer) → FrontIsClosed b p
front_of b p =
    let g = rules_of b in
    record {
      within = front_le (is_closed g p) b.budget;
      closed = front_closed g p;
      most = front_most (is_closed g p) b.budget;
      is = front_is (is_closed g p) b.budget;
      free = free_le g p;
    }

taken_tells : TakenTells
taken_tells s k n u ρ x a closed limits task fit earned reply =
    let g = rules_of s.setup in
    let h = s.events in
    let t = reply_says g (IsRight Fits s.setup.market) h (differs_from s.setup u ρ x) k n u a closed reply in
    let own = same_is_own s.setup (posts h) n u ρ x limits task t.unit t.same in
    let lengths = fit_lengths x ρ a.schedule fit in (
      record {
        task = record { from_one = t.from_one; open_ = t.open_; unit = t.unit };
        held_by = t.held_by;
        first = t.first;
        unit = own.unit;
        right = right_of s.setup (posts h) n u ρ x a own fit earned;
        long = lengths.0 ∙ sym (ap (λ (π : PriceLists). length π.energy) own.prices) ∙ own_horizon s.setup (posts h) n;
        feasible = subst (λ (j : ℕ). IsFeasible x j a.schedule) (sym lengths.0)
            (fits_is_best x ρ a.schedule fit).feasible;
      },
      reply_taken g (IsRight Fits s.setup.market) h (differs_from s.setup u ρ x) k n u a t,
    )

round_laws : (b : Setup) → RoundLaws b
round_laws b =
    let g = rules_of b in
    record {
      rows = λ make. record {
        count = rows_by_length g make;
        more = rows_by_more g make;
        front = rows_by_take g make;
        same = rows_by_same g make;
      };
      opens = λ rows r. record {
        one = λ o. opens_one g rows r o.all_free o.within o.free;
        none = λ never. opens_none g rows r
            (λ all within free. never (record { all_free = all; within = within; free = free }));
      };
      front = front_of b;
      posted = post_of g;
      stays = λ p q more. record { closed = λ n. closed_kept g p q n more; rows = λ n. rows_kept_to g p q n more };
      adds = λ f f2 u x. totals_run (units b.market) f f2 u (unit_count b.market) x (units_length b.market);
    }

pub board_laws : ModelLaws → DualIsAtMostCost → BoardLaws
board_laws laws dual = record {
  of = round_laws;
  one_post = λ p c n u a. record { extends = extends_with p c n u a; cases = post_cases p c n u a };
  one_event = one_event;
  next_is_legal = λ b. legal_more (rules_of b) (IsRight Fits b.market);
  taken_tells = taken_tells;
  claims_mean = λ b h. claim_says (rules_of b) h;
  answers_fit = answers_fit_now;
  totals_are_within = totals_within laws;
  rows_are_within = rows_are_within laws;
  rows_are_at_most_cost = rows_are_at_most_cost laws dual;
}
