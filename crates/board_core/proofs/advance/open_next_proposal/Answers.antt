use Rattle.board_core.proofs.Common.{◌≡◌, ◌≤◌, ℕ, List, true, get_or, length, map, take, sym, ap, subst, ◌∙◌, arith}
use Rattle.board_core.proofs.Common.{All, IsRowBelow, length-map, length-take, not, IsFirstUpTo, is_last_settled}
use Rattle.board_core.proofs.Common.{values_of, proposal_of, prices_of, Proposal, next_prices, blank, with_prices}
use Rattle.board_core.proofs.Common.{fronts_of, is_due, setup_of, le_trans}
use Rattle.board_core.proofs.Lemmas.{IsWritten, due_says, opens_it, is_early, is_over, with_one, with_none}
use Rattle.board_core.proofs.Lemmas.{opened_fronts, opened_sums, opened_ledger}
use Rattle.board_core.proofs.advance.open_next_proposal.Goals as goal

pub is_proposal_due-requires-clause-setup : goal.is_proposal_due-requires-clause-setup
is_proposal_due-requires-clause-setup c = c.requires.setup

pub is_proposal_due-requires-clause-opened : goal.is_proposal_due-requires-clause-opened
is_proposal_due-requires-clause-opened c = le_trans c.requires.ledger.opened c.requires.setup.budget

pub is_proposal_due-requires-clause-closed : goal.is_proposal_due-requires-clause-closed
is_proposal_due-requires-clause-closed c = le_trans c.requires.ledger.closed c.requires.setup.budget

pub returns-then-not-is_proposal_due-clause-ledger : goal.returns-then-not-is_proposal_due-clause-ledger
returns-then-not-is_proposal_due-clause-ledger c = c.requires.ledger

pub returns-then-not-is_proposal_due-clause-horizon : goal.returns-then-not-is_proposal_due-clause-horizon
returns-then-not-is_proposal_due-clause-horizon c = c.requires.horizon

pub rows-requires : goal.rows-requires
rows-requires c = subst (λ (n : ℕ). c.args.ledger.now.closed ≤ n) (sym c.requires.ledger.count) c.requires.ledger.closed

pub best-requires-clause-some : goal.best-requires-clause-some
best-requires-clause-some c = c.requires.some

pub best-requires-clause-within : goal.best-requires-clause-within
best-requires-clause-within c =
    subst (λ (n : ℕ). c.args.ledger.now.closed ≤ n) (sym c.requires.ledger.count) c.requires.ledger.closed

pub propose_prices-requires-clause-setup : goal.propose_prices-requires-clause-setup
propose_prices-requires-clause-setup c = c.requires.setup

pub propose_prices-requires-clause-horizon : goal.propose_prices-requires-clause-horizon
propose_prices-requires-clause-horizon c = c.requires.horizon

pub returns-then-not-propose_prices-clause-ledger : goal.returns-then-not-propose_prices-clause-ledger
returns-then-not-propose_prices-clause-ledger c = c.requires.ledger

pub returns-then-not-propose_prices-clause-horizon : goal.returns-then-not-propose_prices-clause-horizon
returns-then-not-propose_prices-clause-horizon c = c.propose_prices.ensures.horizon

pub propose_prices-requires-clause-best : goal.propose_prices-requires-clause-best
propose_prices-requires-clause-best c =
    let l = c.args.ledger.now in
    let within = c.requires.ledger.closed in
    let counted = c.requires.ledger.count in
    let taken : length (map proposal_of c.rows.result.now) ≡ length (take l.closed l.proposals) =
    ap (λ (ps : List Proposal). length ps) c.rows.ensures in
    let rows : length c.rows.result.now ≡ l.closed =
    omega (
      arith,
      taken,
      length-map c.rows.result.now proposal_of,
      length-take l.closed l.proposals,
      within,
      counted,
    ) in
    subst (λ (ps : List Proposal). IsFirstUpTo (values_of ps) (length c.rows.result.now) c.best.result)
    (sym c.rows.ensures)
    (subst (λ (n : ℕ). IsFirstUpTo (values_of (take l.closed l.proposals)) n c.best.result) (sym rows) c.best.ensures)

pub returns-then-not-is_proposal_due-clause-fronts : goal.returns-then-not-is_proposal_due-clause-fronts
returns-then-not-is_proposal_due-clause-fronts c =
    let b = setup_of c.args.terms.now in
    let l = c.args.ledger.now in
    with_none b (fronts_of l) (is_early b l c.requires.ledger
    (sym c.is_proposal_due.ensures ∙ c.if-not-is_proposal_due.true))

pub propose_prices-requires-clause-rows : goal.propose_prices-requires-clause-rows
propose_prices-requires-clause-rows c =
    let b = setup_of c.args.terms.now in
    subst (λ (ps : List Proposal). All (IsRowBelow b.market b.cost) ps) (sym c.rows.ensures) c.requires.rows

pub returns-then-not-propose_prices-clause-fronts : goal.returns-then-not-propose_prices-clause-fronts
returns-then-not-propose_prices-clause-fronts c =
    let b = setup_of c.args.terms.now in
    let l = c.args.ledger.now in
    let due : is_due b l.closed l.opened ≡ true = sym c.is_proposal_due.ensures ∙ c.if-not-is_proposal_due.false in
    let settled = ap (λ (xs : List Proposal). not (is_last_settled b.market b.cost xs)) (sym c.rows.ensures) ∙
    sym c.propose_prices.ensures.settled ∙ c.if-not-propose_prices.true in
    with_none b (fronts_of l) (is_over b l c.requires.ledger due settled)

pub open-requires-clause-place : goal.open-requires-clause-place
open-requires-clause-place c =
    let b = setup_of c.args.terms.now in
    let l = c.args.ledger.now in
    let due : is_due b l.closed l.opened ≡ true = sym c.is_proposal_due.ensures ∙ c.if-not-is_proposal_due.false in
    let counted = c.requires.ledger.count in
    omega (arith, (due_says b l.closed l.opened due).1, counted)

pub open-requires-clause-horizon : goal.open-requires-clause-horizon
open-requires-clause-horizon c = λ d.
    let b = setup_of c.args.terms.now in
    let l = c.args.ledger.now in
    let due : is_due b l.closed l.opened ≡ true = sym c.is_proposal_due.ensures ∙ c.if-not-is_proposal_due.false in
    let counted = c.requires.ledger.count in
    c.propose_prices.ensures.horizon ∙
    sym (c.requires.ledger.horizon l.opened d (omega (arith, (due_says b l.closed l.opened due).1, counted)))

pub returns : goal.returns
returns c =
    let b = setup_of c.args.terms.now in
    let l = c.args.ledger.now in
    let l2 = c.open.new.self in
    let d = blank 0 in
    let π = prices_of c.propose_prices.new.into in
    let due : is_due b l.closed l.opened ≡ true = sym c.is_proposal_due.ensures ∙ c.if-not-is_proposal_due.false in
    let say = due_says b l.closed l.opened due in
    let more = say.0 in
    let some = c.requires.setup.some_ahead in
    let before : l.closed ≤ l.opened = omega (arith, more, some) in
    let W : IsWritten l l2 l.opened (with_prices (get_or l.proposals l.opened d) π) =
    record { proposals = c.open.ensures.proposals d; earned = c.open.ensures.earned } in
    let settled = sym c.propose_prices.ensures.settled ∙ c.if-not-propose_prices.false in
    let free = ap (λ (xs : List Proposal). not (is_last_settled b.market b.cost xs)) (sym c.rows.ensures) ∙ settled in
    let next = c.propose_prices.ensures.prices c.if-not-propose_prices.false ∙ ap (next_prices b.market b.cost)
    c.rows.ensures in
    let opened = c.open.ensures.opened in
    record {
      fronts = opened_fronts b l l2 c.requires.ledger π d say.1 before W c.open.ensures.closed opened
          c.propose_prices.ensures.horizon
          ∙ with_one b (fronts_of l) π (opens_it b l c.requires.ledger due free) next;
      sums = opened_sums b l l2 c.requires.ledger π d say.1 before W c.open.ensures.closed opened
          c.propose_prices.ensures.horizon;
      ledger = opened_ledger b l l2 c.requires.ledger π d say.1 before W c.open.ensures.closed opened
          c.propose_prices.ensures.horizon;
      closed = c.open.ensures.closed;
      opened = omega (arith, opened);
      horizon = c.propose_prices.ensures.horizon;
    }
