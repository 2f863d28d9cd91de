use Rattle.task_deal.proofs.Common.{rules, refl, arith, Seat}
use Rattle.std.specs.Vec.{with_item}
use Rattle.task_deal.proofs.Lemmas.{seated, stolen}
use Rattle.task_deal.proofs.seat.steal_at.Goals as goal

pub returns-clause-gains : goal.returns-clause-gains
returns-clause-gains g c = let s : Seat = c.args.seat.now in
    let t : Seat = record s { purse = with_item s.purse c.args.at c.steal_number.new.pass } in
    stolen s t c.args.at c.steal_number.new.pass c.index_mut.result.now refl refl refl
    (omega (arith, c.requires.at, c.requires.seat.purse.0)) (search rules) c.steal_number.result
    c.steal_number.ensures.view

pub returns-clause-same : goal.returns-clause-same
returns-clause-same g c = let s : Seat = c.args.seat.now in
    let t : Seat = record s { purse = with_item s.purse c.args.at c.steal_number.new.pass } in
    seated c.args.shared.now s t c.args.at c.steal_number.new.pass c.index.result.now refl refl refl c.requires.at
    (search rules) c.steal_number.ensures.same c.requires.seat
