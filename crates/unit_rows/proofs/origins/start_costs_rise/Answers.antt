use Rattle.unit_rows.proofs.Common.{arith}
use Rattle.unit_rows.proofs.Lemmas.{start_cost-rises}
use Rattle.unit_rows.proofs.origins.start_costs_rise.Goals as goal

pub returns : goal.returns
returns c = λ yes a b low.
    start_cost-rises c.args.lags.now (λ k d within. c.loop-index.invariant k d (omega arith)) a b low

pub bounds-lags-index : goal.bounds-lags-index
bounds-lags-index c = c.loop-index-test.true

pub bounds-lags-index-in-loop-index : goal.bounds-lags-index-in-loop-index
bounds-lags-index-in-loop-index c =
    omega arith

pub offset_bounds-lags-index : goal.offset_bounds-lags-index
offset_bounds-lags-index c =
    omega arith

pub offset_bounds-lags-index-in-loop-index : goal.offset_bounds-lags-index-in-loop-index
offset_bounds-lags-index-in-loop-index c =
    omega arith

pub loop-index-init : goal.loop-index-init
loop-index-init c = λ k d low. absurd (omega arith)
