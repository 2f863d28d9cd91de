use Rattle.board_core.proofs.Common.{◌≤◌, ◌<◌, ℕ, length, get_or, sym, ap, ◌∙◌, subst, unit_count, Content, no_answer}
use Rattle.board_core.proofs.Common.{own_rows, kept_answer, task_number, events_of, setup_of}
use Rattle.board_core.proofs.Lemmas.{kept_inside, kept_is}
use Rattle.board_core.proofs.board.Board.copy_answer_out.Goals as goal

pub take-requires-clause-index : goal.take-requires-clause-index
take-requires-clause-index c =
    let s = c.self.inside in
    let b = setup_of s.terms in
    let h = events_of (unit_count b.market) s.store.answers s.lists.history.items in
    let last = subst (λ (v : Content). c.args.proposal ≤ length (own_rows v)) (sym c.self.view_is) c.requires.last in
    let unit = subst (λ (v : Content). c.args.unit < unit_count v.setup.market) (sym c.self.view_is) c.requires.unit in
    let i = c.task_number.ensures ∙ ap (λ (m : ℕ). task_number m c.args.proposal c.args.unit)
    c.unit_count.ensures.value in
    subst (λ (j : ℕ). j < length s.store.answers) (sym i)
    (kept_inside b h _ s.ledger c.self.invariant.0 (c.board_laws.ensures.of b) c.args.proposal c.args.unit
    c.requires.first last unit)

pub returns-clause-answer : goal.returns-clause-answer
returns-clause-answer c =
    let s = c.self.inside in
    let b = setup_of s.terms in
    let h = events_of (unit_count b.market) s.store.answers s.lists.history.items in
    let last = subst (λ (v : Content). c.args.proposal ≤ length (own_rows v)) (sym c.self.view_is) c.requires.last in
    let unit = subst (λ (v : Content). c.args.unit < unit_count v.setup.market) (sym c.self.view_is) c.requires.unit in
    let i = c.task_number.ensures ∙ ap (λ (m : ℕ). task_number m c.args.proposal c.args.unit)
    c.unit_count.ensures.value in
    c.take.ensures.answer ∙ ap (λ (j : ℕ). get_or s.store.answers j no_answer) i ∙
    kept_is b h _ s.ledger c.self.invariant.0 (c.board_laws.ensures.of b) c.args.proposal c.args.unit
    c.requires.first last unit
    ∙ ap (λ (v : Content). kept_answer v c.args.proposal c.args.unit) c.self.view_is

pub returns-clause-horizon : goal.returns-clause-horizon
returns-clause-horizon c = c.take.ensures.horizon ∙ c.self.invariant.1.store ∙
    ap (λ (v : Content). v.setup.market.periods) c.self.view_is
