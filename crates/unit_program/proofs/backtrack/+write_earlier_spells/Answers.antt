use Rattle.unit_program.proofs.Common.{ℕ, subst, ◌≡◌, ◌<◌, ◌≤◌, length, ◌∙◌, arith, thermal_of, prices_of, schedule_of}
use Rattle.unit_program.proofs.Common.{IsSpellNoted, since, left_at}
use Rattle.unit_program.proofs.LimitBackLaws.{back_off_within, row_back_within, before_within}
use Rattle.unit_program.proofs.Lemmas.{cost-is, first-is}
use Rattle.unit_program.proofs.backtrack.+write_earlier_spells.Goals as goal

pub returns-then-is_all_off-clause-written : goal.returns-then-is_all_off-clause-written
returns-then-is_all_off-clause-written t c =
    let u = c.args.unit.now in
    let h = c.is_all_off.ensures.yes c.if-is_all_off.true in
    back_off_within c.rows_within_cost_limits_are_kept.ensures.rows c.rows_within_cost_limits_are_kept.ensures.starts
    (thermal_of u)
    (prices_of c.args.prices.now) u.valid c.start_costs_are_within.ensures c.args.rows.now c.args.last
    c.requires.last c.requires.within (schedule_of c.args.into.now.response) h.0 h.1

pub write_spell_dispatch-requires-clause-order : goal.write_spell_dispatch-requires-clause-order
write_spell_dispatch-requires-clause-order t c =
    let u = c.args.unit.now in
    (row_back_within c.rows_within_cost_limits_are_kept.ensures.rows c.rows_within_cost_limits_are_kept.ensures.starts
    (thermal_of u)
    (prices_of c.args.prices.now) u.valid c.start_costs_are_within.ensures c.args.rows.now c.args.last
    c.requires.last c.requires.within c.in-Some.ended c.in-Some.is
    (c.is_all_off.ensures.no c.if-is_all_off.false)).order

pub returns-then-ended-eq0-clause-written : goal.returns-then-ended-eq0-clause-written
returns-then-ended-eq0-clause-written t c =
    let u = c.args.unit.now in
    (row_back_within c.rows_within_cost_limits_are_kept.ensures.rows c.rows_within_cost_limits_are_kept.ensures.starts
    (thermal_of u)
    (prices_of c.args.prices.now) u.valid c.start_costs_are_within.ensures c.args.rows.now c.args.last
    c.requires.last c.requires.within c.in-Some.ended c.in-Some.is
    (c.is_all_off.ensures.no c.if-is_all_off.false)).only
    (schedule_of c.args.into.now.response) (schedule_of c.write_spell_dispatch.new.into.response) c.if-ended-eq0.true
    c.write_spell_dispatch.ensures.written

pub write_earlier_spells-requires : goal.write_earlier_spells-requires
write_earlier_spells-requires t c =
    let u = c.args.unit.now in
    let r = row_back_within c.rows_within_cost_limits_are_kept.ensures.rows
    c.rows_within_cost_limits_are_kept.ensures.starts (thermal_of u)
    (prices_of c.args.prices.now) u.valid c.start_costs_are_within.ensures c.args.rows.now c.args.last
    c.requires.last c.requires.within c.in-Some.ended c.in-Some.is (c.is_all_off.ensures.no c.if-is_all_off.false)
    in
    let one : 1 ≤ c.in-Some.ended.first = omega arith in
    let less = r.before_less one in
    let idle = r.before_idle (schedule_of c.args.into.now.response)
    (schedule_of c.write_spell_dispatch.new.into.response) one
    c.write_spell_dispatch.ensures.written c.requires.idle in
    let ended = before_within c.rows_within_cost_limits_are_kept.ensures.rows
    c.rows_within_cost_limits_are_kept.ensures.starts (thermal_of u)
    (prices_of c.args.prices.now) u.valid c.start_costs_are_within.ensures c.args.rows.now c.args.last
    c.requires.last c.requires.within c.in-Some.ended c.in-Some.is (c.is_all_off.ensures.no c.if-is_all_off.false)
    one in
    let low : c.in-Some.ended.before ≤ length c.args.prices.now.energy.items = omega (arith, less) in
    let measure : c.in-Some.ended.before < t = omega arith in
    let into : length c.write_spell_dispatch.new.into.response.on.items ≡ length c.args.prices.now.energy.items =
    c.write_spell_dispatch.ensures.length ∙ c.requires.into in (
      measure,
      (
        ended,
        (
          c.requires.backtracks,
          (
            c.requires.traces,
            (
              c.requires.room,
              (
                c.requires.spells,
                (low, (into, idle)),
              ),
            ),
          ),
        ),
      ),
    )

pub write_spell_dispatch-requires-clause-spells : goal.write_spell_dispatch-requires-clause-spells
write_spell_dispatch-requires-clause-spells t c =
    let u = c.args.unit.now in
    let r = row_back_within c.rows_within_cost_limits_are_kept.ensures.rows
    c.rows_within_cost_limits_are_kept.ensures.starts (thermal_of u)
    (prices_of c.args.prices.now) u.valid c.start_costs_are_within.ensures c.args.rows.now c.args.last
    c.requires.last c.requires.within c.in-Some.ended c.in-Some.is (c.is_all_off.ensures.no c.if-is_all_off.false)
    in
    omega arith

pub write_spell_dispatch-requires-clause-noted : goal.write_spell_dispatch-requires-clause-noted
write_spell_dispatch-requires-clause-noted t c = λ one.
    let last = c.args.last in
    let first = first-is c.args.rows.now last c.in-Some.ended c.in-Some.is in
    subst (λ (f : ℕ). IsSpellNoted (thermal_of c.args.unit.now) (prices_of c.args.prices.now) f last
    (since f (left_at c.args.backtracks.log.now c.args.backtracks.spells.now f))) first
    (c.requires.backtracks last c.in-Some.ended.cost one c.requires.last
    (cost-is c.args.rows.now last c.in-Some.ended c.in-Some.is)).1

pub returns-clause-written : goal.returns-clause-written
returns-clause-written t c =
    let u = c.args.unit.now in
    let r = row_back_within c.rows_within_cost_limits_are_kept.ensures.rows
    c.rows_within_cost_limits_are_kept.ensures.starts (thermal_of u)
    (prices_of c.args.prices.now) u.valid c.start_costs_are_within.ensures c.args.rows.now c.args.last
    c.requires.last c.requires.within c.in-Some.ended c.in-Some.is (c.is_all_off.ensures.no c.if-is_all_off.false)
    in
    r.rest (schedule_of c.args.into.now.response) (schedule_of c.write_spell_dispatch.new.into.response)
    (schedule_of c.write_earlier_spells.new.into.response) (omega arith) c.requires.idle
    c.write_spell_dispatch.ensures.written
    c.write_earlier_spells.ensures.written
