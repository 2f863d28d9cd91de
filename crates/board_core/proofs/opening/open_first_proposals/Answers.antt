use Rattle.board_core.proofs.Common.{◌≡◌, suc, ◌+◌, length, get_or, sym, ap, ◌∙◌, subst, arith, set, length-map}
use Rattle.board_core.proofs.Common.{PriceLists, prices_of, opening_prices_of, LedgerValue, blank, with_prices}
use Rattle.board_core.proofs.Common.{with_opening, with_openings}
use Rattle.board_core.proofs.Lemmas.{IsOpened, opened, same_ledger}
use Rattle.board_core.proofs.opening.open_first_proposals.Goals as goal

pub open-requires-clause-place : goal.open-requires-clause-place
open-requires-clause-place c =
    let start = c.args.start.now.items in
    let l0 = c.args.ledger.now in
    let B = length l0.proposals in
    let k = c.loop-k.k in
    let l = c.loop-k.ledger in
    let test = c.loop-k-test.true in
    let within = c.requires.within in
    let old : IsOpened start B k l =
    subst (IsOpened start B k) (sym c.loop-k.invariant.ledger)
    (subst (λ (z : LedgerValue). IsOpened start B k (with_openings start z k)) (sym c.requires.blank)
    (opened start B k (omega (arith, test, within)))) in
    let n = old.count in
    let o = old.opened in
    omega (arith, n, o, test, within)

pub open-requires-clause-horizon : goal.open-requires-clause-horizon
open-requires-clause-horizon c =
    let start = c.args.start.now.items in
    let l0 = c.args.ledger.now in
    let B = length l0.proposals in
    let k = c.loop-k.k in
    let l = c.loop-k.ledger in
    let test = c.loop-k-test.true in
    let within = c.requires.within in
    let old : IsOpened start B k l =
    subst (IsOpened start B k) (sym c.loop-k.invariant.ledger)
    (subst (λ (z : LedgerValue). IsOpened start B k (with_openings start z k)) (sym c.requires.blank)
    (opened start B k (omega (arith, test, within)))) in
    let n = old.count in
    let o = old.opened in
    λ d.
    ap (λ (π : PriceLists). length π.energy) c.opening_prices.ensures ∙ length-map start _
    ∙ sym (old.horizon l.opened d (omega (arith, o, test, within)))

pub loop-k-preserved : goal.loop-k-preserved
loop-k-preserved c =
    let start = c.args.start.now.items in
    let l0 = c.args.ledger.now in
    let B = length l0.proposals in
    let k = c.loop-k.k in
    let l = c.loop-k.ledger in
    let test = c.loop-k-test.true in
    let within = c.requires.within in
    let old : IsOpened start B k l =
    subst (IsOpened start B k) (sym c.loop-k.invariant.ledger)
    (subst (λ (z : LedgerValue). IsOpened start B k (with_openings start z k)) (sym c.requires.blank)
    (opened start B k (omega (arith, test, within)))) in
    let n = old.count in
    let o = old.opened in
    let new = c.open.new.self in
    let π = prices_of c.opening_prices.new.into in
    let e : k + 1 ≡ suc k = omega arith in
    let same : new ≡ with_opening π l =
    same_ledger new.proposals (set l.proposals l.opened (with_prices (get_or l.proposals l.opened (blank 0)) π))
    new.earned l.earned new.closed l.closed new.opened (l.opened + 1)
    (c.open.ensures.proposals (blank 0)) c.open.ensures.earned c.open.ensures.closed c.open.ensures.opened in
    record {
      ledger = same
          ∙ ap (λ (ρ : PriceLists). with_opening ρ l) (c.opening_prices.ensures ∙ ap (opening_prices_of start) e)
          ∙ ap (with_opening (opening_prices_of start (suc k))) c.loop-k.invariant.ledger
          ∙ ap (with_openings start l0) (sym e);
      horizon = ap (λ (ρ : PriceLists). length ρ.energy) c.opening_prices.ensures ∙ length-map start _;
    }
