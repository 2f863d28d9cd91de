use Rattle.audit_check.proofs.Common.{◌+◌, sym, arith, market_of, prices_of}
use Rattle.audit_check.proofs.Lemmas.{nothing_more, answer_more, answer_small, within_wider, within_over}
use Rattle.audit_check.proofs.count.answer_unit_and_add_to_sums.Goals as goal

pub count-requires : goal.count-requires
count-requires c =
    record {
      within = within_over (market_of c.args.case.now).periods _ 12288 c.args.sums.now
          (sym c.write_best_response_of_numbered_unit-flow.ensures.into) c.requires.within;
    }

pub returns-then-number-unit_count-clause-more : goal.returns-then-number-unit_count-clause-more
returns-then-number-unit_count-clause-more c =
    let m = market_of c.args.case.now in
    let count = (c.unit_numbers_go_by_kind.ensures m).count in
    let value = c.unit_count.ensures.value in
    let past = c.if-number-unit_count.true in
    nothing_more m (prices_of c.args.prices.now) c.args.number c.args.sums.now (omega (arith, count, value, past))

pub returns-then-number-unit_count-clause-within : goal.returns-then-number-unit_count-clause-within
returns-then-number-unit_count-clause-within c =
    λ n w. within_wider (market_of c.args.case.now).periods n (n + 1) c.args.sums.now (omega arith) w

pub returns-clause-more : goal.returns-clause-more
returns-clause-more c =
    let m = market_of c.args.case.now in
    let e = c.count.ensures in
    answer_more m (prices_of c.args.prices.now) c.args.number c.write_best_response_of_numbered_unit-flow.result
    c.write_best_response_of_numbered_unit-flow.new.into
    c.args.sums.now c.count.new.self c.write_best_response_of_numbered_unit-flow.ensures.answer
    c.requires.within.supply_length c.requires.within.reserve_length e.earned e.supply e.reserve

pub returns-clause-within : goal.returns-clause-within
returns-clause-within c = λ n w.
    let m = market_of c.args.case.now in
    let e = c.count.ensures in
    answer_small m (prices_of c.args.prices.now) c.args.number c.write_best_response_of_numbered_unit-flow.result
    c.write_best_response_of_numbered_unit-flow.new.into
    c.args.sums.now c.count.new.self n c.units_are_within.ensures c.outputs_are_within.ensures
    c.earnings_are_within.ensures
    c.args.case.now.valid c.args.prices.now.valid c.write_best_response_of_numbered_unit-flow.ensures.answer w e.earned
    e.supply
    e.reserve
