use Rattle.report_read.proofs.Common.{refl, rules, w64, to_z-of_z, both}
use Rattle.report_read.proofs.units.parse_unit_line_amounts.Goals as goal

pub returns : goal.returns
unfolding both
returns c =
    rw (
      to_z-of_z w64 c.in_ok-earned.earned (search rules),
      to_z-of_z w64 c.in_ok-scheduled.scheduled (search rules),
      to_z-of_z w64 c.in_ok-payment.payment (search rules),
      c.in_ok-earned.ensures,
      c.in_ok-scheduled.ensures,
      c.in_ok-payment.ensures,
    ) refl

pub returns-in_err-earned : goal.returns-in_err-earned
unfolding both
returns-in_err-earned c = rw (c.from_residual.ensures, c.in_err-earned.ensures) refl

pub returns-in_err-scheduled : goal.returns-in_err-scheduled
unfolding both
returns-in_err-scheduled c =
    rw (c.from_residual-in_err-scheduled.ensures, c.in_ok-earned.ensures, c.in_err-scheduled.ensures) refl

pub returns-in_err-payment : goal.returns-in_err-payment
unfolding both
returns-in_err-payment c =
    rw (
      c.from_residual-in_err-payment.ensures,
      c.in_ok-earned.ensures,
      c.in_ok-scheduled.ensures,
      c.in_err-payment.ensures,
    ) refl
