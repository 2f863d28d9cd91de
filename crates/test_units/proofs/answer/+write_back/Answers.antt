use Rattle.test_units.proofs.Common.{◌≡◌, ◌<◌, ◌≤◌, length, ◌∙◌, arith, on_ok_weaker, thermal_of, prices_of}
use Rattle.test_units.proofs.Common.{schedule_of}
use Rattle.test_units.proofs.Lemmas.{back_off, row_back, still_left}
use Rattle.test_units.proofs.answer.+write_back.Goals as goal

pub returns-then-is_all_off-clause-written : goal.returns-then-is_all_off-clause-written
returns-then-is_all_off-clause-written g t c =
    let u = c.args.unit.now in
    let h = c.is_all_off.ensures.yes c.if-is_all_off.true in
    back_off (thermal_of u) (prices_of c.args.prices.now) c.args.rows.now c.args.last u.valid.ramp_up.at_least
    u.valid.ramp_down.at_least u.valid.min_down_is_one_or_more c.requires.filled
    (schedule_of c.args.into.now.response) h.0 h.1

pub write_spell-requires-clause-order : goal.write_spell-requires-clause-order
write_spell-requires-clause-order g t c =
    let u = c.args.unit.now in
    (row_back (thermal_of u) (prices_of c.args.prices.now) c.args.rows.now c.args.last u.valid.ramp_up.at_least
    u.valid.ramp_down.at_least u.valid.min_down_is_one_or_more c.requires.filled c.in-Some.ended c.in-Some.is
    (c.is_all_off.ensures.no c.if-is_all_off.false)).order

pub write_spell-requires-clause-goes_on : goal.write_spell-requires-clause-goes_on
write_spell-requires-clause-goes_on g t c =
    let u = c.args.unit.now in
    (row_back (thermal_of u) (prices_of c.args.prices.now) c.args.rows.now c.args.last u.valid.ramp_up.at_least
    u.valid.ramp_down.at_least u.valid.min_down_is_one_or_more c.requires.filled c.in-Some.ended c.in-Some.is
    (c.is_all_off.ensures.no c.if-is_all_off.false)).goes_on

pub write_spell-requires-clause-starts : goal.write_spell-requires-clause-starts
write_spell-requires-clause-starts g t c =
    let u = c.args.unit.now in
    (row_back (thermal_of u) (prices_of c.args.prices.now) c.args.rows.now c.args.last u.valid.ramp_up.at_least
    u.valid.ramp_down.at_least u.valid.min_down_is_one_or_more c.requires.filled c.in-Some.ended c.in-Some.is
    (c.is_all_off.ensures.no c.if-is_all_off.false)).starts

pub write_spell-requires-clause-least : goal.write_spell-requires-clause-least
write_spell-requires-clause-least g t c =
    let u = c.args.unit.now in
    (row_back (thermal_of u) (prices_of c.args.prices.now) c.args.rows.now c.args.last u.valid.ramp_up.at_least
    u.valid.ramp_down.at_least u.valid.min_down_is_one_or_more c.requires.filled c.in-Some.ended c.in-Some.is
    (c.is_all_off.ensures.no c.if-is_all_off.false)).least

pub returns-then-ended-eq0-clause-written : goal.returns-then-ended-eq0-clause-written
returns-then-ended-eq0-clause-written g t c =
    let u = c.args.unit.now in
    (row_back (thermal_of u) (prices_of c.args.prices.now) c.args.rows.now c.args.last u.valid.ramp_up.at_least
    u.valid.ramp_down.at_least u.valid.min_down_is_one_or_more c.requires.filled c.in-Some.ended c.in-Some.is
    (c.is_all_off.ensures.no c.if-is_all_off.false)).only
    (schedule_of c.args.into.now.response) (schedule_of c.write_spell.new.into.response) c.if-ended-eq0.true
    c.in_ok-write_spell.ensures.written

pub write_back-requires : goal.write_back-requires
write_back-requires g t c κs within =
    let u = c.args.unit.now in
    let r = row_back (thermal_of u) (prices_of c.args.prices.now) c.args.rows.now c.args.last u.valid.ramp_up.at_least
    u.valid.ramp_down.at_least u.valid.min_down_is_one_or_more c.requires.filled c.in-Some.ended c.in-Some.is
    (c.is_all_off.ensures.no c.if-is_all_off.false) in
    let one : 1 ≤ c.in-Some.ended.first = omega arith in
    let less = r.before_less one in
    let idle = r.before_idle (schedule_of c.args.into.now.response) (schedule_of c.write_spell.new.into.response) one
    c.in_ok-write_spell.ensures.written c.requires.idle in
    let ended = r.before_ended one in
    let low : c.in-Some.ended.before ≤ length c.args.prices.now.energy.items = omega (arith, less) in
    let measure : c.in-Some.ended.before < t = omega arith in
    let into : length c.write_spell.new.into.response.on.items ≡ length c.args.prices.now.energy.items =
    c.write_spell.ensures.length ∙ c.requires.into in (
      measure,
      (
        within.0,
        (within.1, (c.requires.curve, (c.requires.filled, (c.requires.room, (low, (ended, (into, idle))))))),
      ),
    )

pub returns-clause-written : goal.returns-clause-written
returns-clause-written g t c =
    let u = c.args.unit.now in
    let r = row_back (thermal_of u) (prices_of c.args.prices.now) c.args.rows.now c.args.last u.valid.ramp_up.at_least
    u.valid.ramp_down.at_least u.valid.min_down_is_one_or_more c.requires.filled c.in-Some.ended c.in-Some.is
    (c.is_all_off.ensures.no c.if-is_all_off.false) in
    on_ok_weaker c.write_back.result
    (r.rest (schedule_of c.args.into.now.response) (schedule_of c.write_spell.new.into.response)
    (schedule_of c.write_back.new.into.response) (omega arith) c.requires.idle c.in_ok-write_spell.ensures.written)
    c.write_back.ensures.written

pub returns-clause-frame : goal.returns-clause-frame
returns-clause-frame g t c = still_left g.S.Home.Cells.cell_list g.S.Shape.is_in g.S.Shape.numbers c.args.home.now
    c.write_spell.new.home c.write_back.new.home c.write_spell.ensures.frame c.write_back.ensures.frame
