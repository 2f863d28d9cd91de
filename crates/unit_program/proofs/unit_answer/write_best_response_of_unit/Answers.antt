use Rattle.unit_program.proofs.Common.{sym, subst, length, thermal_of, prices_of, unit_of}
use Rattle.uc_model.specs.declared.cases.UnitRef.{UnitRef}
use Rattle.unit_program.specs.Answers.{CanBeAnswered, Suffices, IsResponse}
use Rattle.unit_program.proofs.Lemmas.{found}
use Rattle.unit_program.proofs.unit_answer.write_best_response_of_unit.Goals as goal

pub least_on_bench-requires-clause-bench : goal.least_on_bench-requires-clause-bench
least_on_bench-requires-clause-bench c =
    subst (λ (u : UnitRef). Suffices (length (prices_of c.args.prices.now).energy) (unit_of u) c.args.bench.now)
    c.in-Thermal.is c.requires.bench

pub returns-in-Thermal-clause-response : goal.returns-in-Thermal-clause-response
returns-in-Thermal-clause-response c =
    let e = c.least_on_bench.ensures in
    let some = subst (λ (u : UnitRef). CanBeAnswered (unit_of u) (length (prices_of c.args.prices.now).energy))
    c.in-Thermal.is c.requires.some in
    subst (λ (u : UnitRef). IsResponse (unit_of u) (prices_of c.args.prices.now) c.least_on_bench.new.into)
    (sym c.in-Thermal.is)
    (found (thermal_of c.in-Thermal.unit.now) (prices_of c.args.prices.now) c.least_on_bench.new.into
    c.least_on_bench.result some e.least e.earned e.none)

pub returns-in-Renewable-clause-response : goal.returns-in-Renewable-clause-response
returns-in-Renewable-clause-response c =
    subst (λ (u : UnitRef). IsResponse (unit_of u) (prices_of c.args.prices.now) c.best_flat.new.into)
    (sym c.in-Renewable.is) (record { fit = c.best_flat.ensures.least; earned = sym c.best_flat.ensures.earned })

pub returns-in-Bid-clause-response : goal.returns-in-Bid-clause-response
returns-in-Bid-clause-response c =
    subst (λ (u : UnitRef). IsResponse (unit_of u) (prices_of c.args.prices.now) c.best_bid.new.into)
    (sym c.in-Bid.is) (record { fit = c.best_bid.ensures.least; earned = sym c.best_bid.ensures.earned })
