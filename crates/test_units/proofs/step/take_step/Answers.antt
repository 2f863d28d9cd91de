use Rattle.test_units.proofs.Common.{rules, arith, w64, FitsSigned, to_z-of_z, on_ok_weaker, IsStepped}
use Rattle.test_units.proofs.Lemmas.{can_line, can_curve}
use Rattle.test_units.proofs.step.take_step.Goals as goal

pub add_line-requires-clause-fits : goal.add_line-requires-clause-fits
add_line-requires-clause-fits g c =
    let up : FitsSigned w64 c.args.step.ramp_up = search rules in
    let down : FitsSigned w64 c.args.step.ramp_down = search rules in
    let least : FitsSigned w64 c.args.step.least = search rules in
    let most : FitsSigned w64 c.args.step.most = search rules in
    let slope : FitsSigned w64 c.args.step.slope = search rules in
    let window = simp to_z-of_z at c.in_ok-window.ensures.ok in
    simp to_z-of_z (can_line c.args.step c.requires.step _ _ _ c.requires.small c.in_ok-add_kink.ensures.ok window)

pub add_curve-requires-clause-fits : goal.add_curve-requires-clause-fits
add_curve-requires-clause-fits g c =
    let up : FitsSigned w64 c.args.step.ramp_up = search rules in
    let down : FitsSigned w64 c.args.step.ramp_down = search rules in
    let least : FitsSigned w64 c.args.step.least = search rules in
    let most : FitsSigned w64 c.args.step.most = search rules in
    let slope : FitsSigned w64 c.args.step.slope = search rules in
    let window = simp to_z-of_z at c.in_ok-window.ensures.ok in
    let line = simp to_z-of_z at c.add_line.ensures.line in
    can_curve c.args.step c.requires.step _ _ _ c.requires.small c.in_ok-add_kink.ensures.ok window _ line _
    c.requires.curve

pub returns-clause-ok : goal.returns-clause-ok
returns-clause-ok g c =
    let up : FitsSigned w64 c.args.step.ramp_up = search rules in
    let down : FitsSigned w64 c.args.step.ramp_down = search rules in
    let least : FitsSigned w64 c.args.step.least = search rules in
    let most : FitsSigned w64 c.args.step.most = search rules in
    let slope : FitsSigned w64 c.args.step.slope = search rules in
    let window = simp to_z-of_z at c.in_ok-window.ensures.ok in
    let line = simp to_z-of_z at c.add_line.ensures.line in
    on_ok_weaker {Q = IsStepped c.args.step c.args.curve.now (g.S.Shape.function c.args.home.now c.args.shape.now)
    (g.S.Shape.function c.add_curve.new.home c.add_curve.new.self)} _
    (λ curve. record {
      kinked = g.S.Shape.function c.add_kink.new.home c.add_kink.new.shape;
      window = g.S.Shape.function c.window.new.home c.window.new.self;
      line = g.S.Shape.function c.add_line.new.home c.add_line.new.self;
      is_kinked = c.in_ok-add_kink.ensures.ok;
      is_window = window;
      is_line = line;
      is_curve = curve;
    })
    c.add_curve.ensures.ok

pub returns-clause-frame : goal.returns-clause-frame
returns-clause-frame g c =
    let join = c.frames_join.ensures in
    join _ _ _ _ _ _ c.add_kink.ensures.frame
    (join _ _ _ _ _ _ c.window.ensures.frame (join _ _ _ _ _ _ c.add_line.ensures.frame c.add_curve.ensures.frame))

pub returns-clause-sure : goal.returns-clause-sure
returns-clause-sure g c = λ counts enough.
    c.add_curve.ensures.sure counts
    (omega (
      arith,
      c.add_kink.ensures.balance.most counts,
      c.window.ensures.balance.most counts,
      c.add_line.ensures.balance.most counts,
      c.add_kink.ensures.balance.sum counts,
      c.window.ensures.balance.sum counts,
      c.add_line.ensures.balance.sum counts,
    ))

pub returns-clause-balance : goal.returns-clause-balance
returns-clause-balance g c = record {
  most = λ counts. omega (
    arith,
    c.add_kink.ensures.balance.most counts,
    c.window.ensures.balance.most counts,
    c.add_line.ensures.balance.most counts,
    c.add_curve.ensures.balance.most counts,
  );
  sum = λ counts. omega (
    arith,
    c.add_kink.ensures.balance.sum counts,
    c.window.ensures.balance.sum counts,
    c.add_line.ensures.balance.sum counts,
    c.add_curve.ensures.balance.sum counts,
  );
}
