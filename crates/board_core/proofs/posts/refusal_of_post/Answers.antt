use Rattle.board_core.proofs.Common.{◌≡◌, ◌⊎◌, inl, inr, ℕ, ◌-◌, ◌<◌, ◌≤◌, length, sym, ap, ◌∙◌, subst, arith}
use Rattle.board_core.proofs.Common.{differs_from, unit_count, task_unit, prices_of, task_number, own_prices_in}
use Rattle.board_core.proofs.Common.{held_refusal, setup_of}
use Rattle.plain_lists.specs.declared.limits.TheConstants.{MOST_PROPOSALS}
use Rattle.board_core.proofs.Lemmas.{open_within, differing, not_differing, unopened, no_unit, past_tests}
use Rattle.board_core.proofs.posts.refusal_of_post.Goals as goal
use Rattle.board_core.proofs.posts.refusal_of_post.Goals.{then-task-eq0-via-then-task-eq0}
use Rattle.board_core.proofs.posts.refusal_of_post.Goals.{then-task-eq0-via-else-task-eq0+then-opened-task}

pub returns-in-Some-clause-refused : goal.returns-in-Some-clause-refused
returns-in-Some-clause-refused c =
    let b = setup_of c.args.terms.now in
    let l = c.args.ledger.now in
    let n = c.args.task.now.proposal in
    let u = c.args.task.now.unit in
    let ρ = prices_of c.args.task.now.prices in
    let v = task_unit c.args.task.now in
    let some = c.if-task-eq0.false in
    let one : 0 < n = omega (arith, some) in
    let o = c.opened-opened.ensures in
    let early = c.if-opened-task.false in
    let within : n ≤ l.opened = omega (arith, o, early) in
    let inside : u < unit_count b.market =
    subst (λ (m : ℕ). u < m) c.unit_count-units.ensures.value c.if-units-task.false in
    differing (differs_from b u ρ v (own_prices_in l n)) c.in-Some.differs
    (held_refusal c.args.marks.now c.args.takers.now (task_number (unit_count b.market) n u) c.args.caller)
    (sym c.difference_from_task_of_board.ensures.differs ∙ c.in-Some.is)
    ∙ sym (past_tests b l c.args.marks.now c.args.takers.now c.args.caller n u ρ v one within inside)

pub refusal_if_answered_or_unclaimed-requires-clause-marks : goal.refusal_if_answered_or_unclaimed-requires-clause-marks
refusal_if_answered_or_unclaimed-requires-clause-marks c =
    let b = setup_of c.args.terms.now in
    let l = c.args.ledger.now in
    let n = c.args.task.now.proposal in
    let u = c.args.task.now.unit in
    let ρ = prices_of c.args.task.now.prices in
    let v = task_unit c.args.task.now in
    let some = c.if-task-eq0.false in
    let one : 0 < n = omega (arith, some) in
    let o = c.opened-opened.ensures in
    let early = c.if-opened-task.false in
    let within : n ≤ l.opened = omega (arith, o, early) in
    let inside : u < unit_count b.market =
    subst (λ (m : ℕ). u < m) c.unit_count-units.ensures.value c.if-units-task.false in
    let i = c.task_number-at.ensures ∙ ap (λ (m : ℕ). task_number m n u) c.unit_count-units.ensures.value in
    subst (λ (j : ℕ). j < length c.args.marks.now) (sym i) (c.requires.marks n u one within inside)

pub returns-clause-refused : goal.returns-clause-refused
returns-clause-refused c =
    let b = setup_of c.args.terms.now in
    let l = c.args.ledger.now in
    let n = c.args.task.now.proposal in
    let u = c.args.task.now.unit in
    let ρ = prices_of c.args.task.now.prices in
    let v = task_unit c.args.task.now in
    let some = c.if-task-eq0.false in
    let one : 0 < n = omega (arith, some) in
    let o = c.opened-opened.ensures in
    let early = c.if-opened-task.false in
    let within : n ≤ l.opened = omega (arith, o, early) in
    let inside : u < unit_count b.market =
    subst (λ (m : ℕ). u < m) c.unit_count-units.ensures.value c.if-units-task.false in
    let i = c.task_number-at.ensures ∙ ap (λ (m : ℕ). task_number m n u) c.unit_count-units.ensures.value in
    c.refusal_if_answered_or_unclaimed.ensures ∙ ap
    (λ (j : ℕ). held_refusal c.args.marks.now c.args.takers.now j c.args.caller) i
    ∙ sym (not_differing (differs_from b u ρ v (own_prices_in l n))
    (held_refusal c.args.marks.now c.args.takers.now (task_number (unit_count b.market) n u) c.args.caller)
    (sym c.difference_from_task_of_board.ensures.differs ∙ c.in_default.is))
    ∙ sym (past_tests b l c.args.marks.now c.args.takers.now c.args.caller n u ρ v one within inside)

pub returns-then-task-eq0-clause-refused : goal.returns-then-task-eq0-clause-refused
returns-then-task-eq0-clause-refused c =
    let b = setup_of c.args.terms.now in
    let t = c.args.task.now in
    let early : (t.proposal ≡ 0) ⊎ (c.opened-opened.result < t.proposal) = elim c.then-task-eq0.branch [
      | then-task-eq0-via-then-task-eq0 w ↦ inl w.if-task-eq0.true
      | then-task-eq0-via-else-task-eq0+then-opened-task w ↦ inr w.if-opened-task.true
    ] in
    unopened b c.args.ledger.now c.args.marks.now c.args.takers.now c.args.caller t.proposal t.unit (prices_of t.prices)
    (task_unit t) c.opened-opened.result c.opened-opened.ensures early

pub returns-then-units-task-clause-refused : goal.returns-then-units-task-clause-refused
returns-then-units-task-clause-refused c =
    let b = setup_of c.args.terms.now in
    let t = c.args.task.now in
    no_unit b c.args.ledger.now c.args.marks.now c.args.takers.now c.args.caller t.proposal t.unit (prices_of t.prices)
    (task_unit t) c.unit_count-units.result
    (omega (arith, c.if-task-eq0.false)) (omega (arith, c.if-opened-task.false, c.opened-opened.ensures))
    c.unit_count-units.ensures.value c.if-units-task.true

pub difference_from_task_of_board-requires-clause-horizon : goal.difference_from_task_of_board-requires-clause-horizon
difference_from_task_of_board-requires-clause-horizon c = λ d. c.requires.horizon (c.args.task.now.proposal - 1) d
    (omega (arith, c.if-task-eq0.false, c.if-opened-task.false, c.opened-opened.ensures))

pub difference_from_task_of_board-requires-clause-last : goal.difference_from_task_of_board-requires-clause-last
difference_from_task_of_board-requires-clause-last c =
    open_within c.args.task.now.proposal c.opened-opened.result c.args.ledger.now.opened
    (length c.args.ledger.now.proposals) c.opened-opened.ensures c.if-opened-task.false c.requires.opened

pub difference_from_task_of_board-requires-clause-unit : goal.difference_from_task_of_board-requires-clause-unit
difference_from_task_of_board-requires-clause-unit c =
    subst (λ (m : ℕ). c.args.task.now.unit < m) c.unit_count-units.ensures.value c.if-units-task.false

pub difference_from_task_of_board-requires-clause-room : goal.difference_from_task_of_board-requires-clause-room
difference_from_task_of_board-requires-clause-room c = c.requires.room

pub task_number-at-requires-clause-proposals : goal.task_number-at-requires-clause-proposals
task_number-at-requires-clause-proposals c =
    open_within c.args.task.now.proposal c.opened-opened.result c.args.ledger.now.opened MOST_PROPOSALS
    c.opened-opened.ensures c.if-opened-task.false c.requires.few

pub task_number-at-requires-clause-inside : goal.task_number-at-requires-clause-inside
task_number-at-requires-clause-inside c = c.if-units-task.false

pub refusal_if_answered_or_unclaimed-requires-clause-claimed :
    goal.refusal_if_answered_or_unclaimed-requires-clause-claimed
refusal_if_answered_or_unclaimed-requires-clause-claimed c = c.requires.takers c.task_number-at.result

pub returns-in-Some-clause-room : goal.returns-in-Some-clause-room
returns-in-Some-clause-room c = c.difference_from_task_of_board.ensures.room

pub returns-clause-room : goal.returns-clause-room
returns-clause-room c = c.difference_from_task_of_board.ensures.room

pub returns-then-task-eq0-clause-room : goal.returns-then-task-eq0-clause-room
returns-then-task-eq0-clause-room c = c.requires.room

pub returns-then-units-task-clause-room : goal.returns-then-units-task-clause-room
returns-then-units-task-clause-room c = c.requires.room
