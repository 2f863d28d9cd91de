use Rattle.board_core.proofs.Common.{rules, ◌≤◌, ◌<◌, ℕ, length, get_or, sym, ap, ◌∙◌, subst, w64, FitsSigned}
use Rattle.board_core.proofs.Common.{to_z-of_z, unit_count, Answer, Content, no_answer, own_rows, kept_answer}
use Rattle.board_core.proofs.Common.{task_number, events_of, setup_of}
use Rattle.board_core.proofs.Lemmas.{kept_inside, kept_is}
use Rattle.board_core.proofs.board.Board.earned.Goals as goal

pub earned-requires : goal.earned-requires
earned-requires c =
    let s = c.self.inside in
    let b = setup_of s.terms in
    let h = events_of (unit_count b.market) s.store.answers s.lists.history.items in
    let last = subst (λ (v : Content). c.args.proposal ≤ length (own_rows v)) (sym c.self.view_is) c.requires.last in
    let unit = subst (λ (v : Content). c.args.unit < unit_count v.setup.market) (sym c.self.view_is) c.requires.unit in
    let i = c.task_number.ensures ∙ ap (λ (m : ℕ). task_number m c.args.proposal c.args.unit)
    c.unit_count.ensures.value in
    subst (λ (j : ℕ). j < length s.store.answers) (sym i)
    (kept_inside b h _ s.ledger c.self.invariant.0 (c.board_laws.ensures.of b) c.args.proposal c.args.unit
    c.requires.first last unit)

pub returns : goal.returns
returns c =
    let s = c.self.inside in
    let b = setup_of s.terms in
    let h = events_of (unit_count b.market) s.store.answers s.lists.history.items in
    let last = subst (λ (v : Content). c.args.proposal ≤ length (own_rows v)) (sym c.self.view_is) c.requires.last in
    let unit = subst (λ (v : Content). c.args.unit < unit_count v.setup.market) (sym c.self.view_is) c.requires.unit in
    let i = c.task_number.ensures ∙ ap (λ (m : ℕ). task_number m c.args.proposal c.args.unit)
    c.unit_count.ensures.value in
    let f : FitsSigned w64 c.earned.result = search rules in
    let is = kept_is b h _ s.ledger c.self.invariant.0 (c.board_laws.ensures.of b) c.args.proposal c.args.unit
    c.requires.first last unit in
    to_z-of_z w64 c.earned.result f ∙ c.earned.ensures ∙
    ap (λ (j : ℕ). (get_or s.store.answers j no_answer).earned) i ∙ ap (λ (a : Answer). a.earned) is
    ∙ ap (λ (v : Content). (kept_answer v c.args.proposal c.args.unit).earned) c.self.view_is
