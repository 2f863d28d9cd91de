use Rattle.audit_check.proofs.Common.{length, arith, market_of}
use Rattle.audit_check.proofs.Lemmas.{starts, starts_within}
use Rattle.audit_check.proofs.answerer.Answerer.begin.Goals as goal

pub invariant_of-self-3-clause-kept : goal.invariant_of-self-3-clause-kept
invariant_of-self-3-clause-kept c =
    let s = c.args.self.now in
    starts (market_of s.case.now) _ c.clear-2.new.self.items c.clear.new.self (length s.sums.supply.items)
    (length s.sums.reserve.items)
    c.clear-2.ensures.items c.clear.ensures.earned c.clear.ensures.supply c.clear.ensures.reserve

pub invariant_of-self-3-clause-within : goal.invariant_of-self-3-clause-within
invariant_of-self-3-clause-within c =
    let s = c.args.self.now in
    starts_within (market_of s.case.now).periods c.clear-2.new.self.items c.clear.new.self (length s.sums.supply.items)
    (length s.sums.reserve.items)
    c.clear-2.ensures.items s.within.supply_length s.within.reserve_length c.clear.ensures.earned c.clear.ensures.supply
    c.clear.ensures.reserve

pub invariant_of-self-3-clause-room : goal.invariant_of-self-3-clause-room
invariant_of-self-3-clause-room c =
    let room = c.args.self.now.room in
    let spare = c.clear-2.ensures.spare in
    omega (arith, room, spare)
