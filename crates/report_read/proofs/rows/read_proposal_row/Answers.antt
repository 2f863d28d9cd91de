use Rattle.report_read.proofs.Common.{sym, ◌∙◌, codes, refl, neg_ℤ, pos, PRICE_LIMIT, err_from_is_err_and}
use Rattle.report_read.proofs.Lemmas.{prices_are, totals_are, prices_valid, energy_zero, reserve_zero}
use Rattle.report_read.proofs.Stopped.{no_value, no_energy, no_reserve, no_totals, no_supplied, no_reserved}
use Rattle.report_read.proofs.rows.read_proposal_row.Goals as goal

pub invariant_of-result : goal.invariant_of-result
invariant_of-result c =
    let energy = prices_are (codes "energy") (neg_ℤ PRICE_LIMIT) PRICE_LIMIT c.args.periods
    c.read_proposal_value_line.new.reader.rest.now
    c.in_ok-energy.energy.items c.read_list_line.new.reader.rest.now refl energy_zero c.in_ok-energy.ensures in
    let reserve = prices_are (codes "reserve") (pos 0) PRICE_LIMIT c.args.periods c.read_list_line.new.reader.rest.now
    c.in_ok-reserve.reserve.items c.read_list_line-2.new.reader.rest.now refl reserve_zero c.in_ok-reserve.ensures in
    record {
      valid = prices_valid c.args.periods c.in_ok-energy.energy.items c.in_ok-reserve.reserve.items
          c.requires.some c.requires.limit energy reserve;
    }

pub invariant_of-result-2 : goal.invariant_of-result-2
invariant_of-result-2 c =
    let energy = prices_are (codes "energy") (neg_ℤ PRICE_LIMIT) PRICE_LIMIT c.args.periods
    c.read_proposal_value_line.new.reader.rest.now
    c.in_ok-energy.energy.items c.read_list_line.new.reader.rest.now refl energy_zero c.in_ok-energy.ensures in
    let supply = totals_are (codes "supplied") c.args.periods c.read_list_line-2.new.reader.rest.now
    c.in_ok-supplied.supplied.items
    c.read_list_line-3.new.reader.rest.now refl c.in_ok-supplied.ensures in
    let reserve = totals_are (codes "reserved") c.args.periods c.read_list_line-3.new.reader.rest.now
    c.in_ok-reserved.reserved.items
    c.read_list_line-4.new.reader.rest.now refl c.in_ok-reserved.ensures in
    record {
      supply_length = supply.length_is ∙ sym energy.length_is;
      reserve_length = reserve.length_is ∙ sym energy.length_is;
    }

pub returns-in_err-valued : goal.returns-in_err-valued
returns-in_err-valued c =
    let p = err_from_is_err_and c.from_residual.result c.from_residual.ensures.1 in
    rw (p.1, p.2) (no_value c.in_err-valued.field-0.0 c.args.periods c.args.number c.args.reader.now.rest.now
    c.in_err-valued.ensures)

pub returns-in_err-energy : goal.returns-in_err-energy
returns-in_err-energy c =
    let p = err_from_is_err_and c.from_residual-in_err-energy.result c.from_residual-in_err-energy.ensures.1 in
    rw (p.1, p.2) (no_energy c.in_err-energy.field-0.0 c.args.periods c.args.number c.args.reader.now.rest.now
    c.in_ok-valued.valued c.read_proposal_value_line.new.reader.rest.now c.in_ok-valued.ensures
    c.in_err-energy.ensures)

pub returns-in_err-reserve : goal.returns-in_err-reserve
returns-in_err-reserve c =
    let p = err_from_is_err_and c.from_residual-in_err-reserve.result c.from_residual-in_err-reserve.ensures.1 in
    rw (p.1, p.2) (no_reserve c.in_err-reserve.field-0.0 c.args.periods c.args.number c.args.reader.now.rest.now
    c.in_ok-valued.valued c.read_proposal_value_line.new.reader.rest.now
    c.in_ok-energy.energy.items c.read_list_line.new.reader.rest.now c.in_ok-valued.ensures c.in_ok-energy.ensures
    c.in_err-reserve.ensures)

pub returns-in_err-supplied : goal.returns-in_err-supplied
returns-in_err-supplied c =
    let p = err_from_is_err_and c.from_residual-in_err-supplied.result c.from_residual-in_err-supplied.ensures.1 in
    rw (p.1, p.2) (no_totals c.in_err-supplied.field-0.0 c.args.periods c.args.number c.args.reader.now.rest.now
    c.in_ok-valued.valued c.read_proposal_value_line.new.reader.rest.now
    c.in_ok-energy.energy.items c.read_list_line.new.reader.rest.now c.in_ok-reserve.reserve.items
    c.read_list_line-2.new.reader.rest.now
    c.in_ok-valued.ensures c.in_ok-energy.ensures c.in_ok-reserve.ensures
    (no_supplied c.in_err-supplied.field-0.0 c.args.periods c.read_list_line-2.new.reader.rest.now
    c.in_err-supplied.ensures))

pub returns-in_err-reserved : goal.returns-in_err-reserved
returns-in_err-reserved c =
    let p = err_from_is_err_and c.from_residual-in_err-reserved.result c.from_residual-in_err-reserved.ensures.1 in
    rw (p.1, p.2) (no_totals c.in_err-reserved.field-0.0 c.args.periods c.args.number c.args.reader.now.rest.now
    c.in_ok-valued.valued c.read_proposal_value_line.new.reader.rest.now
    c.in_ok-energy.energy.items c.read_list_line.new.reader.rest.now c.in_ok-reserve.reserve.items
    c.read_list_line-2.new.reader.rest.now
    c.in_ok-valued.ensures c.in_ok-energy.ensures c.in_ok-reserve.ensures
    (no_reserved c.in_err-reserved.field-0.0 c.args.periods c.read_list_line-2.new.reader.rest.now
    c.in_ok-supplied.supplied.items c.read_list_line-3.new.reader.rest.now c.in_ok-supplied.ensures
    c.in_err-reserved.ensures))
