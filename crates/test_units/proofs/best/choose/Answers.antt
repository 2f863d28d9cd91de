use Rattle.test_units.proofs.Common.{sym, subst, arith, ints, IsOutput}
use Rattle.test_units.proofs.Lemmas.{never_both, least_stored, none_stored, found_out, kinked_out, output_stored}
use Rattle.test_units.proofs.Lemmas.{chosen_stored}
use Rattle.test_units.proofs.best.choose.Goals as goal

pub write_period_with_best_reserve-requires-clause-before : goal.write_period_with_best_reserve-requires-clause-before
write_period_with_best_reserve-requires-clause-before g c =
    let kinked = g.S.Shape.function c.add_kink.new.home c.add_kink.new.shape in
    let out = kinked_out c.args.step (g.S.Shape.function c.args.home.now c.args.before.now) kinked c.in-Some.power
    c.in-Some.field-0-0 c.requires.small c.in_ok-add_kink.ensures.ok c.in-Some.ensures.there in
    subst IsOutput (sym (output_stored out)) out

pub write_period_with_best_reserve-requires-clause-power : goal.write_period_with_best_reserve-requires-clause-power
write_period_with_best_reserve-requires-clause-power g c =
    let out = found_out c.args.step c.args.found.power c.requires.step c.requires.found in
    subst IsOutput (sym (output_stored out)) out

pub write_period_with_best_reserve-requires-clause-rise : goal.write_period_with_best_reserve-requires-clause-rise
write_period_with_best_reserve-requires-clause-rise g c =
    let kinked = g.S.Shape.function c.add_kink.new.home c.add_kink.new.shape in
    let before = kinked_out c.args.step (g.S.Shape.function c.args.home.now c.args.before.now) kinked c.in-Some.power
    c.in-Some.field-0-0 c.requires.small c.in_ok-add_kink.ensures.ok c.in-Some.ensures.there in
    let out = found_out c.args.step c.args.found.power c.requires.step c.requires.found in
    let e = output_stored before in
    let f = output_stored out in
    let least = least_stored c.args.step c.requires.step c.args.found.power out kinked c.in-Some.field-0-0
    c.in-Some.power c.in-Some.ensures in
    let inside = least.inside.0 in
    omega (arith, ints, e, f, inside)

pub returns-in-Some-clause-chosen : goal.returns-in-Some-clause-chosen
returns-in-Some-clause-chosen g c =
    chosen_stored c.args.step (g.S.Shape.function c.args.home.now c.args.before.now)
    (g.S.Shape.function c.add_kink.new.home c.add_kink.new.shape) c.args.index c.args.found.power c.in-Some.power
    c.in-Some.field-0-0 _ _ c.requires.step c.requires.small
    c.requires.found c.in_ok-add_kink.ensures.ok c.in-Some.ensures c.write_period_with_best_reserve.ensures.written

pub returns-in-None-clause-chosen : goal.returns-in-None-clause-chosen
returns-in-None-clause-chosen g c =
    let out = found_out c.args.step c.args.found.power c.requires.step c.requires.found in
    record {
      kinked = g.S.Shape.function c.add_kink.new.home c.add_kink.new.shape;
      is_kinked = c.in_ok-add_kink.ensures.ok;
      none = none_stored c.args.step c.requires.step c.args.found.power out _ c.in-None.ensures;
    }

pub returns-in_err-add_kink-clause-sure : goal.returns-in_err-add_kink-clause-sure
returns-in_err-add_kink-clause-sure g c = λ counts enough. absurd
    (never_both c.add_kink.result _ c.in_err-add_kink.was (c.add_kink.ensures.sure counts enough))
