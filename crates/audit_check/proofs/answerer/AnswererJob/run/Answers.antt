use Rattle.audit_check.proofs.Common.{◌≡◌, ℕ, ◌+◌, sym, subst, length, arith, market_of, prices_of, AreWithin}
use Rattle.audit_check.proofs.Lemmas.{keeps_more, few_units, one_longer, within_wider}
use Rattle.audit_check.proofs.answerer.AnswererJob.run.Goals as goal

pub answer_unit_and_add_to_sums-requires-clause-within : goal.answer_unit_and_add_to_sums-requires-clause-within
answer_unit_and_add_to_sums-requires-clause-within c =
    let m = market_of c.args.self.now.case.now in
    let few = few_units m c.args.self.now.case.now.valid in
    let count = c.args.self.now.count in
    within_wider m.periods (length c.args.self.now.numbers.items) 12288 c.args.self.now.sums (omega (arith, few, count))
    c.args.self.now.within

pub invariant_of-self-clause-kept : goal.invariant_of-self-clause-kept
invariant_of-self-clause-kept c =
    let s = c.args.self.now in
    keeps_more (market_of s.case.now) (prices_of s.prices) s.numbers.items c.push.new.self.items c.args.task s.sums
    c.answer_unit_and_add_to_sums.new.sums c.push.ensures.items s.kept c.answer_unit_and_add_to_sums.ensures.more

pub invariant_of-self-clause-within : goal.invariant_of-self-clause-within
invariant_of-self-clause-within c =
    let s = c.args.self.now in
    let m = market_of s.case.now in
    let long : length s.numbers.items + 1 ≡ length c.push.new.self.items =
    sym (one_longer s.numbers.items c.push.new.self.items c.args.task c.push.ensures.items) in
    subst (λ (n : ℕ). AreWithin m.periods n c.answer_unit_and_add_to_sums.new.sums) long
    (c.answer_unit_and_add_to_sums.ensures.within (length s.numbers.items) s.within)

pub invariant_of-self-clause-room : goal.invariant_of-self-clause-room
invariant_of-self-clause-room c =
    let s = c.args.self.now in
    let long = one_longer s.numbers.items c.push.new.self.items c.args.task c.push.ensures.items in
    let room = s.room in
    let spare = c.push.ensures.spare in
    omega (arith, long, room, spare)
