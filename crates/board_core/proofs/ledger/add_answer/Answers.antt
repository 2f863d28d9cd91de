use Rattle.board_core.proofs.Common.{◌≡◌, suc, pos, length, sym, ap, subst, arith, IsRaised, AnyUnit, Thermal, Flat}
use Rattle.board_core.proofs.Common.{Bid, supply_in, chosen_unit, proposal_of, task_unit, thermal_of, renewable_of}
use Rattle.board_core.proofs.Common.{bid_of, prices_of, schedule_of, items_in, reserve_in, IsFeasible, UnitKind}
use Rattle.board_core.proofs.Lemmas.{added, unraised}
use Rattle.board_core.proofs.ledger.add_answer.Goals as goal

pub returns-in-Thermal : goal.returns-in-Thermal
returns-in-Thermal c =
    let t = c.args.task.now in
    let s = schedule_of c.args.answer.now.response in
    let r = proposal_of c.args.row.now in
    let r2 = proposal_of c.add_response.new.row in
    let u : task_unit t ≡ Thermal (thermal_of t.thermal) =
    ap (λ (k : UnitKind). chosen_unit k t.thermal t.flat t.bid) c.in-Thermal.is in
    added r r2 (task_unit t) s
    (subst (λ (x : AnyUnit). IsRaised r.supply r2.supply (λ k. supply_in x s (suc k))) (sym u)
    c.add_response.ensures.supply)
    c.add_response.ensures.reserve (ap prices_of c.add_response.ensures.prices) c.add_response.ensures.value

pub returns-in-Flat : goal.returns-in-Flat
returns-in-Flat c =
    let t = c.args.task.now in
    let s = schedule_of c.args.answer.now.response in
    let r = proposal_of c.args.row.now in
    let r2 = proposal_of c.add_response-in-Flat.new.row in
    let u : task_unit t ≡ Flat (renewable_of t.flat) =
    ap (λ (k : UnitKind). chosen_unit k t.thermal t.flat t.bid) c.in-Flat.is in
    added r r2 (task_unit t) s
    (subst (λ (x : AnyUnit). IsRaised r.supply r2.supply (λ k. supply_in x s (suc k))) (sym u)
    c.add_response-in-Flat.ensures.supply)
    c.add_response-in-Flat.ensures.reserve (ap prices_of c.add_response-in-Flat.ensures.prices)
    c.add_response-in-Flat.ensures.value

pub returns-in-Bid : goal.returns-in-Bid
returns-in-Bid c =
    let t = c.args.task.now in
    let s = schedule_of c.args.answer.now.response in
    let r = proposal_of c.args.row.now in
    let r2 = proposal_of c.take_bid.new.row in
    let u : task_unit t ≡ Bid (bid_of t.bid) =
    ap (λ (k : UnitKind). chosen_unit k t.thermal t.flat t.bid) c.in-Bid.is in
    let f = subst (λ (x : AnyUnit). IsFeasible x (length s.on) s) u c.requires.feasible in
    let long = c.args.row.now.reserve_length in
    let over = c.requires.horizon in
    added r r2 (task_unit t) s
    (subst (λ (x : AnyUnit). IsRaised r.supply r2.supply (λ k. supply_in x s (suc k))) (sym u)
    c.take_bid.ensures.supply)
    (unraised r.reserve r2.reserve (λ k. reserve_in s (suc k)) (ap items_in c.take_bid.ensures.reserve)
    (λ k lt. ap pos (f.reserve k (omega (arith, lt, long, over)))))
    (ap prices_of c.take_bid.ensures.prices) c.take_bid.ensures.value
