use Rattle.ramp_step.proofs.Common.{◌∙◌, w64, quot_is, quot_fits}
use Rattle.ramp_step.proofs.Lemmas.{exact_div}
use Rattle.ramp_step.proofs.splitting.slope_of.Goals as goal

pub returns : goal.returns
returns c = λ s e.
    quot_is w64 c.args.rise c.args.run c.ranges.rise c.ranges.run
    (quot_fits w64 c.args.rise c.args.run c.ranges.rise c.requires.run)
    ∙ exact_div c.args.rise s c.args.run c.requires.run e
