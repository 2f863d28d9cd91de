use Rattle.spell_run.proofs.Common.{rules, ◌≡◌, suc, ◌+◌, ◌-◌, ◌<◌, ◌≤◌, ◌∙◌, arith, w64, FitsSigned, to_z}
use Rattle.spell_run.proofs.Common.{to_z-of_z, thermal_of, prices_of, schedule_of, sym, ap, subst, Passed, length}
use Rattle.spell_run.proofs.Lemmas.{IsWrittenFrom, end_stored, written_last, written_more, there_after, written_best}
use Rattle.spell_run.proofs.Lemmas.{written_on, written_outside, IsRest, rest_first, rest_within, rest_entry}
use Rattle.spell_run.proofs.Lemmas.{rest_before}
use Rattle.spell_run.proofs.backtrack.write_least_cost_dispatch_of_spell.Goals as goal
use Rattle.spell_run.proofs.backtrack.write_least_cost_dispatch_of_spell.Goals.{After-loop-back}

-- all periods are written
whole : (c : After-loop-back) → IsWrittenFrom (thermal_of c.args.unit.now) (prices_of c.args.prices.now) c.args.first
    (c.args.first - 1) c.args.last (schedule_of c.args.into.now.response) (schedule_of c.loop-back.into.response)
    (to_z w64 c.loop-back.power-bits)
whole c =
    let end = c.loop-back.auto.back-end (omega arith) in
    let z : c.args.last - c.loop-back.back ≡ c.args.first - 1 = omega arith in
    rw z at c.loop-back.invariant.from

-- ---- the last period

pub bounds-left-trace : goal.bounds-left-trace
bounds-left-trace c =
    let skipped = c.saturating_sub.ensures in
    let told = c.first_log_entries_of_spell-trace.ensures in
    let log = c.args.left.log.now in
    let whole = c.args.left.trace in
    let n = c.args.last - (c.args.first - 1) in
    let m = (c.args.last - 1) - (c.args.first - 1) in
    let z : n ≡ suc m = (let order = c.requires.order in let some = c.requires.some in omega arith) in
    let rest = rest_first log whole c.first_log_entries_of_spell-trace.result n (rw skipped at told.count) told.trace
    (rw skipped at told.same) in
    rest_within log whole c.first_log_entries_of_spell-trace.result.last n m z rest

-- it has an end
pub returns-in_default-clause-best : goal.returns-in_default-clause-best
returns-in_default-clause-best c =
    let skipped = c.saturating_sub.ensures in
    let told = c.first_log_entries_of_spell-trace.ensures in
    let log = c.args.left.log.now in
    let whole = c.args.left.trace in
    let n = c.args.last - (c.args.first - 1) in
    let m = (c.args.last - 1) - (c.args.first - 1) in
    let z : n ≡ suc m = (let order = c.requires.order in let some = c.requires.some in omega arith) in
    let rest = rest_first log whole c.first_log_entries_of_spell-trace.result n (rw skipped at told.count) told.trace
    (rw skipped at told.same) in
    let entry = rest_entry log whole c.first_log_entries_of_spell-trace.result.last n m z rest in
    let end = ap (λ (p : Passed). p.end) (sym entry) ∙ c.requires.noted.is_end in
    absurd (c.in_default.not-Some c.requires.noted.lowest end)

pub returns-in_default-clause-on : goal.returns-in_default-clause-on
returns-in_default-clause-on c =
    let skipped = c.saturating_sub.ensures in
    let told = c.first_log_entries_of_spell-trace.ensures in
    let log = c.args.left.log.now in
    let whole = c.args.left.trace in
    let n = c.args.last - (c.args.first - 1) in
    let m = (c.args.last - 1) - (c.args.first - 1) in
    let z : n ≡ suc m = (let order = c.requires.order in let some = c.requires.some in omega arith) in
    let rest = rest_first log whole c.first_log_entries_of_spell-trace.result n (rw skipped at told.count) told.trace
    (rw skipped at told.same) in
    let entry = rest_entry log whole c.first_log_entries_of_spell-trace.result.last n m z rest in
    let end = ap (λ (p : Passed). p.end) (sym entry) ∙ c.requires.noted.is_end in
    absurd (c.in_default.not-Some c.requires.noted.lowest end)

pub write_period_and_find_power_before-power-requires-clause-noted :
    goal.write_period_and_find_power_before-power-requires-clause-noted
write_period_and_find_power_before-power-requires-clause-noted c =
    let skipped = c.saturating_sub.ensures in
    let told = c.first_log_entries_of_spell-trace.ensures in
    let log = c.args.left.log.now in
    let whole = c.args.left.trace in
    let n = c.args.last - (c.args.first - 1) in
    let m = (c.args.last - 1) - (c.args.first - 1) in
    let z : n ≡ suc m = (let order = c.requires.order in let some = c.requires.some in omega arith) in
    let rest = rest_first log whole c.first_log_entries_of_spell-trace.result n (rw skipped at told.count) told.trace
    (rw skipped at told.same) in
    let entry = rest_entry log whole c.first_log_entries_of_spell-trace.result.last n m z rest in
    let e = end_stored c.args.unit.now.valid c.args.prices.now.valid c.requires.order c.requires.some c.requires.end
    c.requires.noted (ap (λ (p : Passed). p.end) entry ∙ c.in-Some.is) in
    rw (c.len.ensures, sym entry) (e.0, e.1, (c.in-Some.lowest.value, e.2.there))

pub loop-back-init : goal.loop-back-init
loop-back-init c =
    let skipped = c.saturating_sub.ensures in
    let told = c.first_log_entries_of_spell-trace.ensures in
    let log = c.args.left.log.now in
    let whole = c.args.left.trace in
    let n = c.args.last - (c.args.first - 1) in
    let m = (c.args.last - 1) - (c.args.first - 1) in
    let z : n ≡ suc m = (let order = c.requires.order in let some = c.requires.some in omega arith) in
    let rest = rest_first log whole c.first_log_entries_of_spell-trace.result n (rw skipped at told.count) told.trace
    (rw skipped at told.same) in
    let entry = rest_entry log whole c.first_log_entries_of_spell-trace.result.last n m z rest in
    let fits : FitsSigned w64 c.write_period_and_find_power_before-power.result = search rules in
    let chosen = rw (c.len.ensures, sym entry) at c.write_period_and_find_power_before-power.ensures.chosen in
    let from = written_last c.args.unit.now.valid c.args.prices.now.valid c.requires.order c.requires.some
    c.requires.end c.requires.noted (ap (λ (p : Passed). p.end) entry ∙ c.in-Some.is) chosen in
    let less : m ≡ n - 1 = omega arith in
    record {
      from = simp to_z-of_z from;
      earned = c.write_period_and_find_power_before-power.ensures.earned;
      rest = subst (IsRest log whole _) less (rest_before log whole c.first_log_entries_of_spell-trace.result.last n m
          z rest);
    }

-- ---- one period back

pub bounds-left-at : goal.bounds-left-at
bounds-left-at c =
    let log = c.args.left.log.now in
    let whole = c.args.left.trace in
    let k = (c.args.last - 1) - c.loop-back.back in
    let n = (c.args.last - (c.args.first - 1)) - c.loop-back.back in
    let m = k - (c.args.first - 1) in
    let up : n ≡ suc m = omega arith in
    rest_within log whole c.loop-back.at n m up c.loop-back.invariant.rest

pub write_period_and_find_power_before-power-requires-in-loop-back-clause-noted :
    goal.write_period_and_find_power_before-power-requires-in-loop-back-clause-noted
write_period_and_find_power_before-power-requires-in-loop-back-clause-noted c =
    let log = c.args.left.log.now in
    let whole = c.args.left.trace in
    let k = (c.args.last - 1) - c.loop-back.back in
    let n = (c.args.last - (c.args.first - 1)) - c.loop-back.back in
    let m = k - (c.args.first - 1) in
    let up : n ≡ suc m = omega arith in
    let order : c.args.first ≤ suc k = omega arith in
    let low : suc k < c.args.last = omega arith in
    let inside : k < length c.args.prices.now.energy.items = omega arith in
    let z : c.args.last - c.loop-back.back ≡ suc k = omega arith in
    let entry = rest_entry log whole c.loop-back.at n m up c.loop-back.invariant.rest in
    let from = rw z at c.loop-back.invariant.from in
    let noted = c.requires.noted.on k order low in
    rw (sym entry) (
      noted.0,
      noted.1,
      there_after c.args.unit.now.valid c.args.prices.now.valid inside order {after = noted.0} noted.1
          c.envelope_is_within_cost_limit.ensures from.frontier from.way,
    )

pub loop-back-preserved : goal.loop-back-preserved
loop-back-preserved c =
    let log = c.args.left.log.now in
    let whole = c.args.left.trace in
    let k = (c.args.last - 1) - c.loop-back.back in
    let n = (c.args.last - (c.args.first - 1)) - c.loop-back.back in
    let m = k - (c.args.first - 1) in
    let up : n ≡ suc m = omega arith in
    let here : k ≡ c.args.last - (c.loop-back.back + 1) = omega arith in
    let less : m ≡ (c.args.last - (c.args.first - 1)) - (c.loop-back.back + 1) = omega arith in
    let order : c.args.first ≤ suc k = omega arith in
    let low : suc k < c.args.last = omega arith in
    let inside : k < length c.args.prices.now.energy.items = omega arith in
    let z : c.args.last - c.loop-back.back ≡ suc k = omega arith in
    let entry = rest_entry log whole c.loop-back.at n m up c.loop-back.invariant.rest in
    let fits : FitsSigned w64 c.write_period_and_find_power_before-power-in-loop-back.result = search rules in
    let from = rw z at c.loop-back.invariant.from in
    let until = c.requires.end in
    let noted = c.requires.noted.on k order low in
    let v = there_after c.args.unit.now.valid c.args.prices.now.valid inside order {after = noted.0} noted.1
    c.envelope_is_within_cost_limit.ensures from.frontier from.way in
    let chosen = (rw (sym entry) at c.write_period_and_find_power_before-power-in-loop-back.ensures.chosen) noted.0 v.0
    noted.1 v.1 in
    let next = written_more c.args.unit.now.valid c.args.prices.now.valid until order noted.1
    c.envelope_is_within_cost_limit.ensures
    low from chosen in
    let moved = rw here at next in
    record {
      from = simp to_z-of_z moved;
      earned = c.write_period_and_find_power_before-power-in-loop-back.ensures.earned ∙ c.loop-back.invariant.earned;
      rest = subst (IsRest log whole _) less (rest_before log whole c.loop-back.at n m up c.loop-back.invariant.rest);
    }

pub returns-clause-best : goal.returns-clause-best
returns-clause-best c =
    written_best c.args.unit.now.valid c.args.prices.now.valid c.requires.end
    (whole (goal.at.returns-clause-best c).After-loop-back)

pub returns-clause-on : goal.returns-clause-on
returns-clause-on c = written_on (whole (goal.at.returns-clause-on c).After-loop-back)

pub returns-clause-outside : goal.returns-clause-outside
returns-clause-outside c = written_outside (whole (goal.at.returns-clause-outside c).After-loop-back)
