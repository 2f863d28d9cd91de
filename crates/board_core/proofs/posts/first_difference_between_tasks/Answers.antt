use Rattle.board_core.proofs.Common.{rules, ◌≡◌, ℤ, Some, sym, ap, ◌∙◌, arith, w64, FitsSigned, to_z-of_z, cast_signed}
use Rattle.board_core.proofs.Common.{cast_unsigned, task_unit, prices_of, task_numbers}
use Rattle.board_core.specs.declared.replies.Differs.TheVariants as differs
use Rattle.board_core.proofs.Lemmas.{one_more, differ_here, own_ends, given_ends, no_more, numbers_few}
use Rattle.board_core.proofs.posts.first_difference_between_tasks.Goals as goal

pub returns-in_err-board : goal.returns-in_err-board
returns-in_err-board c =
    let own = task_numbers (prices_of c.args.own.now.prices) (task_unit c.args.own.now) in
    let given = task_numbers (prices_of c.args.task.now.prices) (task_unit c.args.task.now) in
    let k = c.loop-place.place in
    let S = c.loop-place.invariant in
    c.from_residual.ensures ∙
    sym (own_ends c.lists_differ_at_first_unequal_number.ensures own given k S
    (sym c.flat_number.ensures ∙ c.in_err-board.was))

pub returns-in_err-task : goal.returns-in_err-task
returns-in_err-task c =
    let own = task_numbers (prices_of c.args.own.now.prices) (task_unit c.args.own.now) in
    let given = task_numbers (prices_of c.args.task.now.prices) (task_unit c.args.task.now) in
    let k = c.loop-place.place in
    let S = c.loop-place.invariant in
    c.from_residual-in_err-task.ensures ∙
    sym (given_ends c.lists_differ_at_first_unequal_number.ensures own given k S
    (sym c.flat_number-in-loop-place.ensures ∙ c.in_err-task.was))

pub returns-then-board-task : goal.returns-then-board-task
returns-then-board-task c =
    let own = task_numbers (prices_of c.args.own.now.prices) (task_unit c.args.own.now) in
    let given = task_numbers (prices_of c.args.task.now.prices) (task_unit c.args.task.now) in
    let k = c.loop-place.place in
    let S = c.loop-place.invariant in
    let f : FitsSigned w64 c.in_ok-board.board = search rules in
    let g : FitsSigned w64 c.in_ok-task.task = search rules in
    let y = sym c.flat_number.ensures ∙ c.in_ok-board.was in
    let z = sym c.flat_number-in-loop-place.ensures ∙ c.in_ok-task.was in
    let other : c.in_ok-board.board ≡ c.in_ok-task.task → ⊥ = λ e. c.if-board-task.true (ap (cast_unsigned w64) e) in
    ap (λ (v : ℤ). Some (differs.Content k v (cast_signed w64 (cast_unsigned w64 c.in_ok-task.task))))
    (to_z-of_z w64 c.in_ok-board.board f)
    ∙ ap (λ (v : ℤ). Some (differs.Content k c.in_ok-board.board v)) (to_z-of_z w64 c.in_ok-task.task g)
    ∙ sym (differ_here c.lists_differ_at_first_unequal_number.ensures own given k c.in_ok-board.board c.in_ok-task.task
    S y z other)

pub loop-place-preserved : goal.loop-place-preserved
loop-place-preserved c =
    let own = task_numbers (prices_of c.args.own.now.prices) (task_unit c.args.own.now) in
    let given = task_numbers (prices_of c.args.task.now.prices) (task_unit c.args.task.now) in
    let k = c.loop-place.place in
    let S = c.loop-place.invariant in
    let f : FitsSigned w64 c.in_ok-board.board = search rules in
    let g : FitsSigned w64 c.in_ok-task.task = search rules in
    let y = sym c.flat_number.ensures ∙ c.in_ok-board.was in
    let z = sym c.flat_number-in-loop-place.ensures ∙ c.in_ok-task.was in
    let same : c.in_ok-board.board ≡ c.in_ok-task.task =
    sym (to_z-of_z w64 c.in_ok-board.board f) ∙ ap (cast_signed w64) c.if-board-task.false ∙
    to_z-of_z w64 c.in_ok-task.task g in
    one_more own given k c.in_ok-board.board c.in_ok-task.task S y z same

pub returns : goal.returns
returns c =
    let own = task_numbers (prices_of c.args.own.now.prices) (task_unit c.args.own.now) in
    let given = task_numbers (prices_of c.args.task.now.prices) (task_unit c.args.task.now) in
    let k = c.loop-place.place in
    let S = c.loop-place.invariant in
    let few = numbers_few c.args.own.now in
    let test = c.loop-place-test.false in
    sym (no_more c.lists_differ_at_first_unequal_number.ensures own given k S (omega (arith, few, test)))
