use Rattle.test_tiny.proofs.Common.{ℕ, suc, ◌+◌, ◌*◌, length, ap, ◌∙◌, map, after_of, list_count, flag}
use Rattle.test_tiny.proofs.Lemmas.{carry_power, carry_flags}
use Rattle.test_tiny.proofs.order.next_schedule.Goals as goal

pub returns-then-next_numbers-2-clause-next : goal.returns-then-next_numbers-2-clause-next
returns-then-next_numbers-2-clause-next c = λ yes.
    let old = c.args.response.now in
    let size = list_count c.args.most (length old.on.items) in
    let no = c.if-next_numbers.false in
    let wrapped = c.next_numbers.ensures.again no ∙ ap (list_count c.args.most) old.valid.reserve in
    carry_power size (after_of c.args.most old.reserve.items) (after_of c.args.most c.next_numbers.new.list.items)
    (after_of c.args.most old.power.items)
    (after_of c.args.most c.next_numbers-2.new.list.items) (after_of 1 (map flag old.on.items))
    (c.next_numbers.ensures.last no) wrapped (c.next_numbers-2.ensures.next c.if-next_numbers-2.true)

pub returns-clause-next : goal.returns-clause-next
returns-clause-next c = λ yes.
    let old = c.args.response.now in
    let most = c.args.most in
    let size = list_count most (length old.on.items) in
    let no = c.if-next_numbers.false in
    let no_again = c.if-next_numbers-2.false in
    let reserve = after_of most c.next_numbers.new.list.items in
    let power = after_of most c.next_numbers-2.new.list.items in
    let flags = after_of 1 (map flag c.next_flags.new.list.items) in
    ap (λ (n : ℕ). suc (reserve + list_count most n * (power + list_count most n * flags))) c.next_flags.ensures.length
    ∙ carry_flags size (after_of most old.reserve.items) reserve (after_of most old.power.items) power
    (after_of 1 (map flag old.on.items)) flags
    (c.next_numbers.ensures.last no) (c.next_numbers.ensures.again no ∙ ap (list_count most) old.valid.reserve)
    (c.next_numbers-2.ensures.last no_again)
    (c.next_numbers-2.ensures.again no_again ∙ ap (list_count most) old.valid.power) (c.next_flags.ensures.next yes)
