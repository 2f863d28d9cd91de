use Rattle.unit_table.proofs.Common.{rules, ◌≡◌, ℕ, suc, ◌+◌, pos, length, refl, sym, ap, ◌∙◌, arith, to_z}
use Rattle.unit_table.proofs.Common.{of_z, FitsSigned, w64, to_z-of_z, get_or_from_slice_get, ℤ, Some, List, slice_get}
use Rattle.unit_table.proofs.Common.{unit_of, prices_in, periods_in, charge_of, limits_in, int_at, live_at, left_at}
use Rattle.unit_table.proofs.Common.{cost_at, first_at, AreRunningSpells, AreSmall, add-one, inl, inr, cases_eq}
use Rattle.unit_table.proofs.Lemmas.{small_of, still_roomy, origins_within, period_off, period_run, period_filled}
use Rattle.unit_table.proofs.Lemmas.{none_listed, still_listed, cost-same, first-same, ways_same, ways_none}
use Rattle.unit_table.proofs.Lemmas.{ways_more, kept_then, kept_room, kept_roomy, kept_left, fewer_then}
use Rattle.unit_table.proofs.Lemmas.{kept_trails, noted_start, noted_all, noted_fewer}
use Rattle.unit_table.proofs.Lemmas.{entries_more, entries_fit, entries_small}
use Rattle.unit_table.proofs.Lemmas.{fewer_off, fewer_small}
use Rattle.unit_table.proofs.periods.fill_table_row_of_period.Goals as goal
use Rattle.unit_table.proofs.periods.fill_table_row_of_period.Goals.{After-begin_spell_of_next_period}
use Rattle.unit_table.proofs.periods.fill_table_row_of_period.Goals.{After-advance_all_running_spells}

-- ---- all are off

pub returns-then-is_must_off-clause-now : goal.returns-then-is_must_off-clause-now
returns-then-is_must_off-clause-now c =
    let g = unit_of c.args.period.now.question.now in
    let π = prices_in c.args.period.now.question.now in
    let rows = c.args.table.now.items in
    let old = c.args.spells.now in
    let log = c.args.shared.now.log.items in
    let now = c.requires.now in
    let off = c.stop_all_running_spells.ensures.off in
    let kept = c.stop_all_running_spells.ensures.kept in
    let none = now.filled.table.none (suc c.args.period.now.index) (omega arith) in
    record {
      filled = period_off g π (limits_in c.args.period.now.question.now) c.args.period.now.question.now.unit.now.valid
          c.args.period.now.index rows
          (live_at old) now.filled c.args.period.now.inside
          (live_at c.stop_all_running_spells.new.spells) off (c.is_must_off.ensures.yes c.if-is_must_off.true);
      noted = λ f r on x v there k from until. (let none = off f in absurd (cc));
      backtracks = ways_same g π (suc c.args.period.now.index) (cost_at rows) (first_at rows) (left_at log old)
          (left_at log c.stop_all_running_spells.new.spells) (kept_left _ _ kept log)
          (ways_none g π c.args.period.now.index (cost_at rows) (first_at rows) (left_at log old) none now.backtracks);
      traces = kept_trails _ _ kept log now.traces;
      entries = entries_more (length log) c.args.period.now.index (length log) now.entries (omega arith);
      roomy = still_roomy (periods_in c.args.period.now.question.now) c.args.period.now.index
          (suc c.args.period.now.index)
          (charge_of c.args.period.now.question.now) c.stop_all_running_spells.new.spells (omega arith) off
          (kept_roomy _ _ kept (periods_in c.args.period.now.question.now) c.args.period.now.index
          (charge_of c.args.period.now.question.now) (λ f. inl (inr (off f))) now.roomy);
      roster_is = none_listed (live_at c.stop_all_running_spells.new.spells) (suc (suc c.args.period.now.index))
          c.clear.new.self
          c.clear.ensures.count off;
    }

pub returns-then-is_must_off-clause-same : goal.returns-then-is_must_off-clause-same
returns-then-is_must_off-clause-same c = record {
  rows_length = refl;
  count_same = c.stop_all_running_spells.ensures.kept.count_same;
  firsts_same = ap (λ l. length l.items) c.clear.ensures.firsts;
  log_same = refl;
  keeps = kept_room _ _ c.stop_all_running_spells.ensures.kept;
}

-- ---- the running spells, step by step

limit_at : (limits : List ℤ) (k : ℕ) (x : ℤ) → FitsSigned w64 x → slice_get limits k ≡ Some x →
    int_at limits k ≡ to_z w64 (of_z w64 x)
limit_at limits k x fits is = get_or_from_slice_get limits k x (pos 0) is ∙ sym (to_z-of_z w64 x fits)

-- after a start
begun : (c : After-begin_spell_of_next_period) → AreRunningSpells (unit_of c.args.period.now.question.now)
    (prices_in c.args.period.now.question.now)
    (limits_in c.args.period.now.question.now) (cost_at c.args.table.now.items)
    (live_at c.begin_spell_of_next_period.new.spells)
    c.args.period.now.index
    (suc (suc c.args.period.now.index))
begun c = c.begin_spell_of_next_period.ensures.stands (prices_in c.args.period.now.question.now)
    (limits_in c.args.period.now.question.now)
    (cost_at c.args.table.now.items)
    (limit_at c.args.period.now.question.now.limits.now.items c.args.period.now.index c.get-limit.result.now
    (search rules) c.get-limit.ensures.item) c.requires.origins c.requires.now.filled.spells

-- and over the period
ran : (c : After-advance_all_running_spells) → AreRunningSpells (unit_of c.args.period.now.question.now)
    (prices_in c.args.period.now.question.now)
    (limits_in c.args.period.now.question.now) (cost_at c.args.table.now.items)
    (live_at c.begin_spell_of_next_period.new.spells)
    c.args.period.now.index
    (suc (suc c.args.period.now.index)) →
    AreRunningSpells (unit_of c.args.period.now.question.now) (prices_in c.args.period.now.question.now)
    (limits_in c.args.period.now.question.now) (cost_at c.args.table.now.items)
    (live_at c.advance_all_running_spells.new.spells)
    (suc c.args.period.now.index)
    (suc (suc c.args.period.now.index))
ran c now = period_run _ _ _ c.args.period.now.question.now.unit.now.valid _ _ _ c.requires.now.filled
    c.args.period.now.inside
    c.advance_all_running_spells.new.table.items _ _ now c.requires.limits.0 c.requires.limits.1
    c.runs_meeting_at_power_continue_alike.ensures
    (c.is_must_off.ensures.no c.if-is_must_off.false) c.advance_all_running_spells.ensures.run.goes
    c.advance_all_running_spells.ensures.run.off

ran_small : (c : After-advance_all_running_spells) →
    AreRunningSpells (unit_of c.args.period.now.question.now) (prices_in c.args.period.now.question.now)
    (limits_in c.args.period.now.question.now) (cost_at c.args.table.now.items)
    (live_at c.begin_spell_of_next_period.new.spells)
    c.args.period.now.index
    (suc (suc c.args.period.now.index)) → AreSmall (live_at c.advance_all_running_spells.new.spells)
ran_small c now = small_of _ _ _ _ _ (suc c.args.period.now.index) (suc (suc c.args.period.now.index)) (omega arith)
    (omega arith) (ran c now)

pub begin_spell_of_next_period-requires-clause-within : goal.begin_spell_of_next_period-requires-clause-within
begin_spell_of_next_period-requires-clause-within c =
    origins_within (unit_of c.args.period.now.question.now) c.args.table.now.items c.args.period.now.index
    c.args.origins.now
    c.requires.origins c.requires.now.filled.within (omega arith)

pub begin_spell_of_next_period-requires-clause-small : goal.begin_spell_of_next_period-requires-clause-small
begin_spell_of_next_period-requires-clause-small c =
    small_of (unit_of c.args.period.now.question.now) (prices_in c.args.period.now.question.now)
    (limits_in c.args.period.now.question.now) _
    (live_at c.args.spells.now) c.args.period.now.index (suc c.args.period.now.index)
    (omega arith) (omega arith) c.requires.now.filled.spells

pub advance_all_running_spells-requires-clause-room : goal.advance_all_running_spells-requires-clause-room
advance_all_running_spells-requires-clause-room c =
    kept_roomy _ _ c.begin_spell_of_next_period.ensures.kept (periods_in c.args.period.now.question.now)
    c.args.period.now.index
    (charge_of c.args.period.now.question.now) (λ f. elim (cases_eq f (suc c.args.period.now.index)) [
      | inl z ↦ inr (omega arith)
      | inr other ↦ inl (inl (c.begin_spell_of_next_period.ensures.others f other))
    ]) c.requires.now.roomy

pub advance_all_running_spells-requires-clause-log : goal.advance_all_running_spells-requires-clause-log
advance_all_running_spells-requires-clause-log c =
    let log = c.args.shared.now.log in
    let few = c.requires.now.entries in
    record {
      traces = kept_trails _ _ c.begin_spell_of_next_period.ensures.kept log.items c.requires.now.traces;
      spare = entries_fit (length log.items) log.spare c.args.period.now.index
          (periods_in c.args.period.now.question.now) c.args.period.now.inside few c.requires.long.log_end;
      small = entries_small (length log.items) c.args.period.now.index few (omega arith);
    }

pub advance_all_running_spells-requires-clause-have : goal.advance_all_running_spells-requires-clause-have
advance_all_running_spells-requires-clause-have c = kept_room _ _ c.begin_spell_of_next_period.ensures.kept _
    c.requires.have

pub advance_all_running_spells-requires-clause-now : goal.advance_all_running_spells-requires-clause-now
advance_all_running_spells-requires-clause-now c = (
  limits_in c.args.period.now.question.now,
  begun
      (goal.at.advance_all_running_spells-requires-clause-now c).After-begin_spell_of_next_period,
)

pub advance_all_running_spells-requires-clause-none : goal.advance_all_running_spells-requires-clause-none
advance_all_running_spells-requires-clause-none c = c.requires.now.filled.table.none (suc c.args.period.now.index)
    (omega arith)

pub advance_all_running_spells-requires-clause-open : goal.advance_all_running_spells-requires-clause-open
advance_all_running_spells-requires-clause-open c = c.is_must_off.ensures.no c.if-is_must_off.false

pub stop_spells_above_cost_limit-requires-clause-small : goal.stop_spells_above_cost_limit-requires-clause-small
stop_spells_above_cost_limit-requires-clause-small c =
    let at = goal.at.stop_spells_above_cost_limit-requires-clause-small c in
    ran_small at.After-advance_all_running_spells (begun at.After-begin_spell_of_next_period)

pub stop_dominated_spells-requires-clause-small : goal.stop_dominated_spells-requires-clause-small
stop_dominated_spells-requires-clause-small c =
    let at = goal.at.stop_dominated_spells-requires-clause-small c in
    fewer_small _ _ c.stop_spells_above_cost_limit.ensures.fewer
    (ran_small at.After-advance_all_running_spells (begun at.After-begin_spell_of_next_period))

pub stop_spells_above_cost_limit-requires-clause-roster : goal.stop_spells_above_cost_limit-requires-clause-roster
stop_spells_above_cost_limit-requires-clause-roster c =
    still_listed (live_at c.begin_spell_of_next_period.new.spells) (live_at c.advance_all_running_spells.new.spells)
    (suc (suc c.args.period.now.index))
    (suc (c.args.period.now.index + 1)) c.begin_spell_of_next_period.new.roster (omega arith)
    c.advance_all_running_spells.ensures.run.off c.begin_spell_of_next_period.ensures.roster

pub stop_dominated_spells-requires-clause-roster : goal.stop_dominated_spells-requires-clause-roster
stop_dominated_spells-requires-clause-roster c =
    still_listed (live_at c.begin_spell_of_next_period.new.spells) (live_at c.stop_spells_above_cost_limit.new.spells)
    (suc (suc c.args.period.now.index))
    (suc (c.args.period.now.index + 1)) c.begin_spell_of_next_period.new.roster (omega arith)
    (λ f off. fewer_off _ _ c.stop_spells_above_cost_limit.ensures.fewer f
    (c.advance_all_running_spells.ensures.run.off f off))
    c.begin_spell_of_next_period.ensures.roster

pub keep-requires-clause-roster : goal.keep-requires-clause-roster
keep-requires-clause-roster c = (
  suc (suc c.args.period.now.index),
  omega arith,
  still_listed (live_at c.begin_spell_of_next_period.new.spells) (live_at c.stop_dominated_spells.new.spells)
      (suc (suc c.args.period.now.index))
      (suc (suc c.args.period.now.index)) c.begin_spell_of_next_period.new.roster (omega arith)
      (λ f off. fewer_off _ _ (fewer_then _ _ _ c.stop_spells_above_cost_limit.ensures.fewer
      c.stop_dominated_spells.ensures.fewer) f
      (c.advance_all_running_spells.ensures.run.off f off)) c.begin_spell_of_next_period.ensures.roster,
)

-- ---- the period

pub returns-clause-now : goal.returns-clause-now
returns-clause-now c =
    let at = goal.at.returns-clause-now c in
    let g = unit_of c.args.period.now.question.now in
    let π = prices_in c.args.period.now.question.now in
    let limits = limits_in c.args.period.now.question.now in
    let rows = c.args.table.now.items in
    let now = begun at.After-begin_spell_of_next_period in
    let ran_on = ran at.After-advance_all_running_spells now in
    let next_is = limit_at c.args.period.now.question.now.limits.now.items (c.args.period.now.index + 1)
    c.get.result.now
    (search rules)
    c.get.ensures.item in
    let pruned = rw add-one at (c.stop_dominated_spells.ensures.stands π limits (cost_at rows)
    (suc (suc c.args.period.now.index))
    (c.stop_spells_above_cost_limit.ensures.stands g π limits (cost_at rows) (c.args.period.now.index + 1)
    (suc (suc c.args.period.now.index))
    next_is
    (rw add-one ran_on))) in
    let rows' = c.advance_all_running_spells.new.table.items in
    let run = c.advance_all_running_spells.ensures.run in
    let kept = kept_then _ _ _ c.stop_spells_above_cost_limit.ensures.kept c.stop_dominated_spells.ensures.kept in
    let fewer = fewer_then _ _ _ c.stop_spells_above_cost_limit.ensures.fewer c.stop_dominated_spells.ensures.fewer in
    let log = c.args.shared.now.log.items in
    let log' = c.advance_all_running_spells.new.log.items in
    let old_left = left_at log c.args.spells.now in
    let start_left = left_at log c.begin_spell_of_next_period.new.spells in
    let ran_left = left_at log' c.advance_all_running_spells.new.spells in
    let left = ways_same g π c.args.period.now.index (cost_at rows) (first_at rows) old_left start_left
    (kept_left _ _ c.begin_spell_of_next_period.ensures.kept log) c.requires.now.backtracks in
    let started = noted_start g π c.args.period.now.index (live_at c.args.spells.now)
    (live_at c.begin_spell_of_next_period.new.spells)
    old_left start_left c.begin_spell_of_next_period.ensures.others
    (kept_left _ _ c.begin_spell_of_next_period.ensures.kept log)
    c.requires.now.noted in
    let noted = noted_all g π c.args.period.now.index (live_at c.begin_spell_of_next_period.new.spells)
    (live_at c.advance_all_running_spells.new.spells) start_left ran_left (λ f r on. (now.right f r on).1.frontier)
    run.goes run.off
    run.left run.noted started in
    let backtracks = ways_more g π c.args.period.now.index (suc (suc c.args.period.now.index)) (cost_at rows)
    (cost_at rows')
    (first_at rows)
    (first_at rows') _ start_left ran_left (live_at c.begin_spell_of_next_period.new.spells) limits now started
    run.row run.ends
    run.left
    (λ l other. cost-same rows' rows l l (run.others l other))
    (λ l other. first-same rows' rows l l (run.others l other)) left in
    record {
      filled = period_filled _ _ _ c.args.period.now.question.now.unit.now.valid _ _ _ c.requires.now.filled
          c.args.period.now.inside
          rows' _ (live_at c.advance_all_running_spells.new.spells) now c.requires.limits.0 c.requires.limits.1
          c.dispatches_meeting_at_power_continue_alike.ensures c.dispatches_are_runs.ensures
          (live_at c.stop_dominated_spells.new.spells) pruned run.row
          run.others run.within;
      noted = noted_fewer g π (suc c.args.period.now.index) (live_at c.advance_all_running_spells.new.spells)
          (live_at c.stop_dominated_spells.new.spells) ran_left (left_at log' c.stop_dominated_spells.new.spells)
          fewer
          (kept_left _ _ kept log')
          noted;
      backtracks = ways_same g π (suc c.args.period.now.index) (cost_at rows') (first_at rows') ran_left
          (left_at log' c.stop_dominated_spells.new.spells) (kept_left _ _ kept log') backtracks;
      traces = kept_trails _ _ kept log' run.traces;
      entries = entries_more (length log) c.args.period.now.index (length log') c.requires.now.entries run.entries;
      roomy = kept_roomy _ _ kept (periods_in c.args.period.now.question.now) (suc c.args.period.now.index)
          (charge_of c.args.period.now.question.now) (λ f. inl (fewer f)) run.roomy;
      roster_is = c.keep.ensures.roster (suc (suc c.args.period.now.index))
          (still_listed (live_at c.begin_spell_of_next_period.new.spells) (live_at c.stop_dominated_spells.new.spells)
          (suc (suc c.args.period.now.index))
          (suc (suc c.args.period.now.index)) c.begin_spell_of_next_period.new.roster (omega arith)
          (λ f off. fewer_off _ _ fewer f (run.off f off)) c.begin_spell_of_next_period.ensures.roster);
    }

pub returns-clause-same : goal.returns-clause-same
returns-clause-same c =
    let kept = kept_then _ _ _ c.stop_spells_above_cost_limit.ensures.kept c.stop_dominated_spells.ensures.kept in
    record {
      rows_length = c.advance_all_running_spells.ensures.run.rows_length;
      count_same = kept.count_same ∙ c.advance_all_running_spells.ensures.run.count_same ∙
          c.begin_spell_of_next_period.ensures.kept.count_same;
      firsts_same = c.keep.ensures.length ∙ c.begin_spell_of_next_period.ensures.list;
      log_same = c.advance_all_running_spells.ensures.run.log_same;
      keeps = λ room have.
          kept_room _ _ kept room
          (c.advance_all_running_spells.ensures.run.keeps room
          (kept_room _ _ c.begin_spell_of_next_period.ensures.kept room have));
    }

-- ---- places and lengths

pub stop_spells_above_cost_limit-requires-clause-end : goal.stop_spells_above_cost_limit-requires-clause-end
stop_spells_above_cost_limit-requires-clause-end c =
    let same = c.advance_all_running_spells.ensures.run.count_same ∙
    c.begin_spell_of_next_period.ensures.kept.count_same in
    omega arith

pub stop_dominated_spells-requires-clause-end : goal.stop_dominated_spells-requires-clause-end
stop_dominated_spells-requires-clause-end c =
    let same = c.stop_spells_above_cost_limit.ensures.kept.count_same ∙
    c.advance_all_running_spells.ensures.run.count_same ∙
    c.begin_spell_of_next_period.ensures.kept.count_same in
    omega arith
