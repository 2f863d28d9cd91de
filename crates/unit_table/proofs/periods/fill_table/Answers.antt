use Rattle.unit_table.proofs.Common.{◌≡◌, ℕ, suc, ◌+◌, List, Option, length, sym, ◌∙◌, subst, arith}
use Rattle.unit_table.proofs.Common.{Ended, refl, space_of, live_at, left_at, AreOrigins}
use Rattle.unit_table.proofs.Common.{cost_at, first_at, CanBacktrack, ap, unit_of, prices_in, periods_in, charge_of}
use Rattle.unit_table.proofs.Common.{limits_in}
use Rattle.unit_table.proofs.Lemmas.{origins_to, filled_whole, cost-same}
use Rattle.unit_table.proofs.periods.fill_table.Goals as goal

pub loop-index-init : goal.loop-index-init
loop-index-init c = record {
  now = record {
    filled = c.reset_table_and_running_spells.ensures.filled (prices_in c.args.question.now)
        (limits_in c.args.question.now)
        c.args.question.now.prices.now.valid.horizon.at_least;
    noted = λ f r on x v there k from until. absurd (omega arith);
    backtracks = λ l v one until is. absurd (omega arith);
    traces = c.reset_table_and_running_spells.ensures.traces;
    entries = (let none = ap length c.reset_table_and_running_spells.ensures.log in omega arith);
    roomy = c.reset_table_and_running_spells.ensures.room (space_of c.args.shared.now.spare)
        (periods_in c.args.question.now)
        (charge_of c.args.question.now) c.requires.room c.requires.have;
    roster_is = c.reset_table_and_running_spells.ensures.roster;
  };
  same = c.reset_table_and_running_spells.ensures.same;
  origins = rw c.as_slice.ensures at c.begin.ensures.origins;
  list_same = c.begin.ensures.length;
  space = refl;
}

pub loop-index-preserved : goal.loop-index-preserved
loop-index-preserved c =
    let next : suc c.loop-index.index ≡ c.loop-index.index + 1 = omega arith in
    let before = c.loop-index.invariant.same in
    let more = c.fill_table_row_of_period.ensures.same in
    record {
      now = rw next at c.fill_table_row_of_period.ensures.now;
      same = record {
        rows_length = cc;
        count_same = cc;
        firsts_same = cc;
        log_same = more.log_same ∙ before.log_same;
        keeps = λ room have. more.keeps room (before.keeps room have);
      };
      origins = rw next at
          (subst (λ (rows : List (Option Ended)). AreOrigins (unit_of c.args.question.now) (cost_at rows)
          (suc c.loop-index.index) c.advance_to_starts_after_period.new.self) c.as_slice-in-loop-index.ensures
          c.advance_to_starts_after_period.ensures.origins);
      list_same = cc;
      space = c.fill_table_row_of_period.ensures.spare ∙ c.loop-index.invariant.space;
    }

pub fill_table_row_of_period-requires-clause-long : goal.fill_table_row_of_period-requires-clause-long
fill_table_row_of_period-requires-clause-long c =
    record {
      rows_end = omega arith;
      spells_end = omega arith;
      firsts_end = omega arith;
      list_end = omega arith;
      log_end = (let same = c.loop-index.invariant.same.log_same in let end = c.requires.long.log_end in omega arith);
    }

pub fill_table_row_of_period-requires-clause-have : goal.fill_table_row_of_period-requires-clause-have
fill_table_row_of_period-requires-clause-have c =
    rw c.loop-index.invariant.space (c.loop-index.invariant.same.keeps _ c.requires.have)

pub advance_to_starts_after_period-requires-clause-origins : goal.advance_to_starts_after_period-requires-clause-origins
advance_to_starts_after_period-requires-clause-origins c =
    let old = c.loop-index.table.items in
    let new = c.fill_table_row_of_period.new.table.items in
    subst (λ (rows : List (Option Ended)). AreOrigins (unit_of c.args.question.now) (cost_at rows) c.loop-index.index
    c.loop-index.origins) (sym c.as_slice-in-loop-index.ensures)
    (origins_to (unit_of c.args.question.now) (cost_at old) (cost_at new) c.loop-index.index c.loop-index.origins
    (λ l low. cost-same new old l l (c.fill_table_row_of_period.ensures.others l (λ z. omega arith)))
    c.loop-index.invariant.origins)

pub returns-clause-filled : goal.returns-clause-filled
returns-clause-filled c = λ most right.
    let end : c.loop-index.index ≡ periods_in c.args.question.now = omega arith in
    filled_whole (unit_of c.args.question.now) (prices_in c.args.question.now) c.args.question.now.unit.now.valid
    c.start_costs_are_within.ensures most (limits_in c.args.question.now) right c.loop-index.table.items
    (live_at c.loop-index.spells)
    (rw end at c.loop-index.invariant.now.filled)

pub returns-clause-backtracks : goal.returns-clause-backtracks
returns-clause-backtracks c =
    let end : c.loop-index.index ≡ periods_in c.args.question.now = omega arith in
    subst (λ (t : ℕ). CanBacktrack (unit_of c.args.question.now) (prices_in c.args.question.now) t
    (cost_at c.loop-index.table.items) (first_at c.loop-index.table.items)
    (left_at c.loop-index.shared.log.items c.loop-index.spells)) end
    c.loop-index.invariant.now.backtracks

pub begin-requires-clause-rows : goal.begin-requires-clause-rows
begin-requires-clause-rows c =
    let same = ap length c.as_slice.ensures ∙ c.reset_table_and_running_spells.ensures.same.rows_length in
    omega arith

pub advance_to_starts_after_period-requires-clause-rows : goal.advance_to_starts_after_period-requires-clause-rows
advance_to_starts_after_period-requires-clause-rows c =
    let same = ap length c.as_slice-in-loop-index.ensures ∙ c.fill_table_row_of_period.ensures.same.rows_length ∙
    c.loop-index.invariant.same.rows_length in
    omega arith
