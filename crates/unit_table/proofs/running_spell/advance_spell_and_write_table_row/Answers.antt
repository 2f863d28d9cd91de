use Rattle.unit_table.proofs.Common.{state_of, add-one}
use Rattle.unit_table.proofs.Common.{shown, count_of, room_of}
use Rattle.unit_table.proofs.Common.{rules, ◌≡◌, ℕ, suc, ◌+◌, ◌-◌, ◌*◌, ◌<◌, ◌≤◌, inl, inr, Some, sym}
use Rattle.unit_table.proofs.Common.{ap, ◌∙◌, subst, arith, FitsSigned, IfSome, w64, to_z-of_z, unit_of}
use Rattle.unit_table.proofs.Common.{prices_in, periods_in, charge_of, going_of, Going, IsGoneOn, Lowest, left_by}
use Rattle.unit_table.proofs.Common.{IsOnNoted, IsWithinTimes, on_time, since, IsEntryMore, Trace}
use Rattle.unit_table.proofs.Lemmas.{room_more, room_next, going_on, row_end, end_some, end_left}
use Rattle.unit_table.proofs.running_spell.advance_spell_and_write_table_row.Goals as goal
use Rattle.unit_table.proofs.running_spell.advance_spell_and_write_table_row.Goals.{After-stop_spell_if_no_power_left}

-- the period is left
left_here : (c : After-stop_spell_if_no_power_left) →
    since c.args.first (left_by c.push_spell_log_entry-spell.new.log.items
    c.stop_spell_if_no_power_left.new.spell.trace)
    c.args.period.now.index ≡
    c.advance_spell_with_end_if_allowed-passed.result
left_here c =
    ap (λ (t : Trace). since c.args.first (left_by c.push_spell_log_entry-spell.new.log.items t)
    c.args.period.now.index)
    c.stop_spell_if_no_power_left.ensures.trace ∙ (rw
    (c.requires.room.count c.requires.on) at c.push_spell_log_entry-spell.ensures.here)

pub push_spell_log_entry-spell-requires-clause-few : goal.push_spell_log_entry-spell-requires-clause-few
push_spell_log_entry-spell-requires-clause-few c = (let count = c.requires.room.count c.requires.on in omega arith)

pub returns-clause-entry : goal.returns-clause-entry
returns-clause-entry c =
    subst (IsEntryMore c.args.log.now c.push_spell_log_entry-spell.new.log c.args.spell.now.trace)
    (sym c.stop_spell_if_no_power_left.ensures.trace)
    (record {
      there = c.push_spell_log_entry-spell.ensures.trace;
      earlier = c.push_spell_log_entry-spell.ensures.earlier;
      others = c.push_spell_log_entry-spell.ensures.others;
      entries = c.push_spell_log_entry-spell.ensures.items;
      spare = c.push_spell_log_entry-spell.ensures.spare;
    })

pub returns-clause-noted : goal.returns-clause-noted
returns-clause-noted c = λ x v there.
    let same = left_here (goal.at.returns-clause-noted c).After-stop_spell_if_no_power_left in
    subst (λ p. IsOnNoted (unit_of c.args.period.now.question.now) (prices_in c.args.period.now.question.now)
    c.args.first c.args.period.now.index p.note) (sym same)
    (c.advance_spell_with_end_if_allowed-passed.ensures.noted x v there)

pub returns-clause-more : goal.returns-clause-more
returns-clause-more c =
    let ready = c.requires.ready in
    let fits : FitsSigned w64 c.args.spell.now.cost = search rules in
    let next : c.args.period.now.index + 1 ≡ suc c.args.period.now.index = omega arith in
    let put = simp (to_z-of_z, add-one) at c.write_spell_end_if_no_dearer.ensures.some in
    record {
      row = λ live is. row_end (unit_of c.args.period.now.question.now) (prices_in c.args.period.now.question.now) live
          c.args.first
          c.args.period.now.index c.args.table.now.items c.write_spell_end_if_no_dearer.new.table.items
          (state_of c.args.spell.now)
          (is ∙ going_on c.args.spell.now c.requires.on)
          c.args.period.now.inside ready.order ready.may c.cost_of_end.result
          (rw c.cost_of_end.ensures c.advance_spell_with_end_if_allowed-passed.ensures.answer)
          (end_some c.advance_spell_with_end_if_allowed-passed.result.end c.cost_of_end.result
          (λ _. suc c.args.period.now.index < periods_in c.args.period.now.question.now →
          (unit_of c.args.period.now.question.now).min_up ≤ on_time (unit_of c.args.period.now.question.now)
          c.args.first
          (suc c.args.period.now.index)) c.cost_of_end.ensures c.advance_spell_with_end_if_allowed-passed.ensures.may)
          c.write_spell_end_if_no_dearer.ensures.none put;
      others = λ l other. c.write_spell_end_if_no_dearer.ensures.others l (λ z. other (z ∙ next));
      within = c.write_spell_end_if_no_dearer.ensures.within;
      rows_length = c.write_spell_end_if_no_dearer.ensures.length;
    }

pub returns-clause-ends : goal.returns-clause-ends
returns-clause-ends c =
    let put = simp add-one at c.write_spell_end_if_no_dearer.ensures.some in
    let same = left_here (goal.at.returns-clause-ends c).After-stop_spell_if_no_power_left in
    end_left (unit_of c.args.period.now.question.now) (prices_in c.args.period.now.question.now) c.args.first
    c.args.period.now.index
    c.args.spell.now.before _ c.args.table.now.items c.write_spell_end_if_no_dearer.new.table.items
    c.advance_spell_with_end_if_allowed-passed.result
    (since c.args.first (left_by c.push_spell_log_entry-spell.new.log.items
    c.stop_spell_if_no_power_left.new.spell.trace)
    c.args.period.now.index)
    c.cost_of_end.result same
    c.cost_of_end.ensures
    c.write_spell_end_if_no_dearer.ensures.none put c.advance_spell_with_end_if_allowed-passed.ensures.ended

pub write_spell_end_if_no_dearer-requires-clause-net_bound : goal.write_spell_end_if_no_dearer-requires-clause-net_bound
write_spell_end_if_no_dearer-requires-clause-net_bound c =
    let next : suc c.args.period.now.index ≡ c.args.period.now.index + 1 = omega arith in
    end_some c.advance_spell_with_end_if_allowed-passed.result.end c.cost_of_end.result
    (IsWithinTimes (suc (c.args.period.now.index + 1) - c.args.first))
    c.cost_of_end.ensures
    (subst (λ (l : ℕ). IfSome c.advance_spell_with_end_if_allowed-passed.result.end
    (λ (e : Lowest). IsWithinTimes (suc l - c.args.first) e.value)) next
    c.advance_spell_with_end_if_allowed-passed.ensures.within)

pub returns-clause-goes : goal.returns-clause-goes
returns-clause-goes c = λ r is.
    let unit = unit_of c.args.period.now.question.now in
    let prices = prices_in c.args.period.now.question.now in
    let ran = going_on
    (record {
      is_on = c.args.spell.now.is_on;
      cost = c.args.spell.now.cost;
      before = c.args.spell.now.before;
      running = c.advance_spell_with_end_if_allowed-passed.new.running;
      trace = c.push_spell_log_entry-spell.result;
    }) c.requires.on in
    let at = going_on c.args.spell.now c.requires.on in
    let here : state_of c.args.spell.now ≡ r = (cc) in
    subst (λ (r : Going). IsGoneOn unit prices c.args.period.now.index c.args.first r
    (going_of (Some c.stop_spell_if_no_power_left.new.spell)))
    here (record {
      function = shown c.advance_spell_with_end_if_allowed-passed.new.running;
      frontier = c.advance_spell_with_end_if_allowed-passed.ensures.frontier;
      next_is = elim (c.stop_spell_if_no_power_left.ensures.next) [
        | inl on ↦ inl (on ∙ ran)
        | inr gone ↦ inr gone
      ];
    })

pub advance_spell_with_end_if_allowed-passed-requires-clause-room :
    goal.advance_spell_with_end_if_allowed-passed-requires-clause-room
advance_spell_with_end_if_allowed-passed-requires-clause-room c = record {
  fits = room_more (count_of c.args.spell.now.running) (periods_in c.args.period.now.question.now)
      c.args.period.now.index
      (charge_of c.args.period.now.question.now) (room_of c.args.spell.now.running)
      c.args.period.now.inside (c.requires.room.rest c.requires.on);
  alike = c.requires.alike;
}

pub write_spell_end_if_no_dearer-requires-clause-bound : goal.write_spell_end_if_no_dearer-requires-clause-bound
write_spell_end_if_no_dearer-requires-clause-bound c =
    let fits : FitsSigned w64 c.args.spell.now.cost = search rules in
    subst (IsWithinTimes (2 * c.args.first + 1)) (sym (to_z-of_z w64 _ fits))
    c.requires.ready.within

pub returns-clause-same : goal.returns-clause-same
returns-clause-same c = ap room_of c.stop_spell_if_no_power_left.ensures.running ∙
    c.advance_spell_with_end_if_allowed-passed.ensures.grown.room

pub returns-clause-room : goal.returns-clause-room
returns-clause-room c =
    let old = c.args.spell.now in
    let charge = charge_of c.args.period.now.question.now in
    let periods = periods_in c.args.period.now.question.now in
    let whole = c.requires.room.whole in
    let same = ap room_of c.stop_spell_if_no_power_left.ensures.running ∙
    c.advance_spell_with_end_if_allowed-passed.ensures.grown.room in
    let count_same = ap count_of c.stop_spell_if_no_power_left.ensures.running in
    let count = c.advance_spell_with_end_if_allowed-passed.ensures.grown.count in
    let order = c.requires.ready.order in
    let left = c.requires.room.count c.requires.on in
    let more = ap (λ (t : Trace). t.count) c.stop_spell_if_no_power_left.ensures.trace ∙
    c.push_spell_log_entry-spell.ensures.count in
    let rest = room_next (count_of old.running) (count_of c.advance_spell_with_end_if_allowed-passed.new.running)
    periods
    c.args.period.now.index
    charge
    (room_of old.running) c.args.period.now.inside (c.requires.room.rest c.requires.on) count in
    record {
      whole = omega arith;
      rest = λ on. omega arith;
      count = λ on. omega arith;
      none = λ early. absurd (omega arith);
    }
