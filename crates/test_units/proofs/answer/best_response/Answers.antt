use Rattle.test_units.proofs.Common.{suc, Option, List, length, sym, ap, subst, arith, Ended, thermal_of, prices_of}
use Rattle.test_units.proofs.Common.{IsFilled}
use Rattle.test_units.proofs.Lemmas.{still_left}
use Rattle.test_units.proofs.answer.best_response.Goals as goal

pub filled_table-requires-clause-curve : goal.filled_table-requires-clause-curve
filled_table-requires-clause-curve g c = (rw c.as_slice.ensures at c.in_ok-curve.ensures).curve

pub named_answer-requires-clause-filled : goal.named_answer-requires-clause-filled
named_answer-requires-clause-filled g c =
    subst (λ (rows : List (Option Ended)). IsFilled (thermal_of c.args.unit.now) (prices_of c.args.prices.now)
    (suc (length c.args.prices.now.energy.items)) rows) (sym c.as_slice-2.ensures)
    c.in_ok-table.ensures.filled

pub named_answer-requires-clause-room : goal.named_answer-requires-clause-room
named_answer-requires-clause-room g c =
    let same = ap length c.as_slice-2.ensures in
    let room = c.in_ok-table.ensures.room in
    omega (arith, same, room)

pub returns-clause-frame : goal.returns-clause-frame
returns-clause-frame g c = still_left g.S.Home.Cells.cell_list g.S.Shape.is_in g.S.Shape.numbers c.args.home.now
    c.filled_table.new.home c.named_answer.new.home c.filled_table.ensures.frame c.named_answer.ensures.frame
