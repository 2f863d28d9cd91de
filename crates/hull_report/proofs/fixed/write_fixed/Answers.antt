use Rattle.hull_report.proofs.Lemmas.{first_of_three, second_of_three, last_of_three}
use Rattle.hull_report.proofs.Common.{rules, w128, to_z-of_z}
use Rattle.hull_report.proofs.fixed.write_fixed.Goals as goal

pub returns-in_err-write_fixed_prices_of_both_runs : goal.returns-in_err-write_fixed_prices_of_both_runs
returns-in_err-write_fixed_prices_of_both_runs g c = first_of_three c.texts_written_in_turn_add_up.ensures _ _ _ _
    c.from_residual.ensures.0
    c.in_err-write_fixed_prices_of_both_runs.ensures.err

pub returns-in_err-write_fixed_payments : goal.returns-in_err-write_fixed_payments
returns-in_err-write_fixed_payments g c = second_of_three c.texts_written_in_turn_add_up.ensures _ _ _ _
    c.from_residual-in_err-write_fixed_payments.ensures.0 c.in_err-write_fixed_payments.ensures.err
    c.in_ok-write_fixed_prices_of_both_runs.ensures.ok

pub returns : goal.returns
returns g c = last_of_three c.texts_written_in_turn_add_up.ensures _ _ _ _
    (rw (to_z-of_z w128 c.args.cost (search rules)) at c.write_fixed_sums.ensures)
    c.in_ok-write_fixed_payments.ensures.ok c.in_ok-write_fixed_prices_of_both_runs.ensures.ok
