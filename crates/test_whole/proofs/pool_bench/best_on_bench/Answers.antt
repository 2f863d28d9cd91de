use Rattle.std.proofs.Common.{◌≡◌, Result, Ok, Err, true, length, refl}
use Rattle.std.specs.Prelude.{OnOk, is_ok}
use Rattle.uc_model.specs.PlainUnits.{thermal_of, prices_of}
use Rattle.unit_rows.specs.Rows.{cost_at}
use Rattle.test_whole.proofs.pool_bench.best_on_bench.Goals as goal

-- what holds of an answer that came
ok_then : {X E : Type 0} (r : Result X E) (P : Type 0) → OnOk r P → is_ok r ≡ true → P
ok_then (Ok x) P h is = h
ok_then (Err e) P h is = cc

pub returns-in_default-clause-none : goal.returns-in_default-clause-none
returns-in_default-clause-none c = λ no.
    let u = c.args.unit.now in
    let rows = c.fill-filled.new.table.items in
    let T = length c.args.prices.now.energy.items in
    let told = rw (c.len-periods.ensures, c.as_slice-2.ensures) at c.in_default.ensures.none in
    let filled = ok_then c.fill-filled.result _ c.fill-filled.ensures.filled c.if-is_err.ensures.negation in
    c.no_end_is_no_schedule.ensures (thermal_of u) (prices_of c.args.prices.now) T (cost_at rows) refl
    u.valid.ramp_up.at_least u.valid.ramp_down.at_least filled.table.complete told
