use Rattle.uc_case.proofs.Common.{◌≡◌, first_crossed}
use Rattle.uc_case.proofs.Lemmas.{renewable_fits}
use Rattle.uc_case.proofs.units.read_renewable_from_fields.Goals as goal

pub invariant_of-result : goal.invariant_of-result
invariant_of-result c =
    let least = c.in_ok-least in
    let most = c.in_ok-most in
    let crossed : c.first_period_of_crossed_power_limits-crossed.result ≡ first_crossed 1 least.least.items
    most.most.items =
    rw (← c.as_slice.ensures, ← c.as_slice-2.ensures) c.first_period_of_crossed_power_limits-crossed.ensures in
    record {
      valid = renewable_fits least.least.items most.most.items c.args.periods
          c.first_period_of_crossed_power_limits-crossed.result
          least.ensures.fits.0 most.ensures.fits.0 c.requires.some c.requires.horizon least.ensures.fits.1
          most.ensures.fits.1 crossed c.if-crossed-gt0.false;
    }
