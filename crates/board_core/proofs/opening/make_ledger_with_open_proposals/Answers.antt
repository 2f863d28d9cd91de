use Rattle.board_core.proofs.Common.{◌≡◌, ℕ, ℤ, pos, List, length, min, sym, ap, ◌∙◌, arith, length-replicate}
use Rattle.board_core.proofs.Common.{length-map-range_with_len, replicate, market_of, Proposal, LedgerValue, blank}
use Rattle.board_core.proofs.Common.{blank_ledger, with_openings}
use Rattle.board_core.proofs.Lemmas.{same_ledger}
use Rattle.board_core.proofs.opening.make_ledger_with_open_proposals.Goals as goal

pub open_first_proposals-requires-clause-start : goal.open_first_proposals-requires-clause-start
open_first_proposals-requires-clause-start c =
    let m = market_of c.args.case.now in
    ap (λ (xs : List ℤ). length xs) c.in_ok-start.ensures ∙ length-map-range_with_len _ 0 m.periods ∙
    sym c.requires.horizon

pub open_first_proposals-requires-clause-blank : goal.open_first_proposals-requires-clause-blank
open_first_proposals-requires-clause-blank c =
    let m = market_of c.args.case.now in
    let start = c.in_ok-start.start.items in
    let long : length start ≡ m.periods = ap (λ (xs : List ℤ). length xs) c.in_ok-start.ensures ∙
    length-map-range_with_len _ 0 m.periods in
    let l = c.in_ok-ledger.ledger in
    let E = c.in_ok-ledger.ensures in
    let size : length l.proposals ≡ c.args.budget =
    ap (λ (xs : List Proposal). length xs) E.proposals ∙ length-replicate c.args.budget (blank m.periods) in
    same_ledger l.proposals (replicate c.args.budget (blank m.periods)) l.earned (replicate c.args.budget (pos 0))
    l.closed 0 l.opened 0 E.proposals E.earned E.closed E.opened
    ∙ ap (λ (n : ℕ). blank_ledger n c.args.budget) (sym long) ∙ ap (blank_ledger (length start)) (sym size)

pub returns-clause-ledger : goal.returns-clause-ledger
returns-clause-ledger c =
    let m = market_of c.args.case.now in
    let start = c.in_ok-start.start.items in
    let l0 = c.in_ok-ledger.ledger in
    let E = c.in_ok-ledger.ensures in
    let few = c.min.ensures in
    let count : c.min.result ≡ min c.args.budget c.args.ahead = omega (arith, few) in
    let first : l0 ≡ blank_ledger m.periods c.args.budget =
    same_ledger l0.proposals (replicate c.args.budget (blank m.periods)) l0.earned (replicate c.args.budget (pos 0))
    l0.closed 0 l0.opened 0 E.proposals E.earned E.closed E.opened in
    c.open_first_proposals.ensures.ledger ∙ ap (λ (z : LedgerValue). with_openings start z c.min.result) first ∙
    ap (with_openings start (blank_ledger m.periods c.args.budget)) count
    ∙ ap (λ (xs : List ℤ). with_openings xs (blank_ledger m.periods c.args.budget) (min c.args.budget c.args.ahead))
    c.in_ok-start.ensures

pub returns-clause-horizon : goal.returns-clause-horizon
returns-clause-horizon c = c.open_first_proposals.ensures.horizon ∙ c.requires.horizon
