use Rattle.slope_list.proofs.Common.{◌≡◌, ◌+ℤ◌, int_min}
use Rattle.slope_list.proofs.Lemmas.{coded_is, output_total, coded_up, fits_up}
use Rattle.slope_list.proofs.LevelLaws.{fits_worth, fits_kinked, fits_pay, fits_paid, fits_all, level_is}
use Rattle.slope_list.proofs.step.value_after_step.Goals as goal
use Rattle.slope_list.proofs.step.value_after_step.Goals.{After-min-most}

most : (c : After-min-most) → c.min-most.result ≡ int_min c.args.step.cap (c.args.step.ramp_up +ℤ c.args.near)
most c = rw (
  coded_is c.args.step.cap (output_total c.args.step.cap c.requires.fair.cap),
  coded_up c.args.step c.requires.fair c.args.near c.requires.near,
) at c.min-most.ensures.value

pub overflow_add-step : goal.overflow_add-step
overflow_add-step c = fits_up c.args.step c.requires.fair c.args.near c.requires.near

pub overflow_mul-kinked : goal.overflow_mul-kinked
overflow_mul-kinked c =
    let m = most (goal.at.overflow_mul-kinked c).After-min-most in
    fits_worth c.args.step c.requires.fair c.args.value c.args.near c.args.at c.args.cost c.min-most.result
    c.requires.value c.requires.near c.requires.at c.requires.cost m

pub overflow_sub-kinked : goal.overflow_sub-kinked
overflow_sub-kinked c =
    let m = most (goal.at.overflow_sub-kinked c).After-min-most in
    fits_kinked c.args.step c.requires.fair c.args.value c.args.near c.args.at c.args.cost c.min-most.result
    c.requires.value c.requires.near c.requires.at c.requires.cost m

pub overflow_mul-paid : goal.overflow_mul-paid
overflow_mul-paid c =
    let m = most (goal.at.overflow_mul-paid c).After-min-most in
    fits_pay c.args.step c.requires.fair c.args.value c.args.near c.args.at c.args.cost c.min-most.result
    c.requires.value c.requires.near c.requires.at c.requires.cost m

pub overflow_add-paid : goal.overflow_add-paid
overflow_add-paid c =
    let m = most (goal.at.overflow_add-paid c).After-min-most in
    fits_paid c.args.step c.requires.fair c.args.value c.args.near c.args.at c.args.cost c.min-most.result
    c.requires.value c.requires.near c.requires.at c.requires.cost m

pub overflow_add-result : goal.overflow_add-result
overflow_add-result c =
    let m = most (goal.at.overflow_add-result c).After-min-most in
    fits_all c.args.step c.requires.fair c.args.value c.args.near c.args.at c.args.cost c.min-most.result
    c.requires.value c.requires.near c.requires.at c.requires.cost m

pub returns : goal.returns
returns c =
    let m = most (goal.at.returns c).After-min-most in
    level_is c.args.step c.requires.fair c.args.value c.args.near c.args.at c.args.cost c.min-most.result
    c.requires.value c.requires.near c.requires.at c.requires.cost m
