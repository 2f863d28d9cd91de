use Rattle.board_core.proofs.Common.{rules, ◌≡◌, ℕ, ◌<◌, ℤ, ◌-ℤ◌, length, get_or, ap, ◌∙◌, arith, FitsSigned, to_z-of_z}
use Rattle.board_core.proofs.Common.{w128, PriceLists, int_at, worth_of_demand, blank, with_value, setup_of}
use Rattle.board_core.proofs.Lemmas.{IsWritten, closed_fronts, closed_sums, closed_ledger}
use Rattle.board_core.proofs.advance.close_next_proposal.Goals as goal

pub dual_value-value-requires-clause-horizon : goal.dual_value-value-requires-clause-horizon
dual_value-value-requires-clause-horizon c =
    let l = c.args.ledger.now in
    let d = blank 0 in
    let more = c.requires.more in
    let n = c.requires.ledger.count in
    let m = c.requires.ledger.opened in
    let e = c.closed-place.ensures in
    let place : c.closed-place.result < length l.proposals = omega (arith, more, n, m, e) in
    ap (λ (π : PriceLists). length π.energy) (c.prices.ensures d) ∙
    c.requires.ledger.horizon c.closed-place.result d place

pub returns : goal.returns
returns c =
    let b = setup_of c.args.terms.now in
    let l = c.args.ledger.now in
    let l2 = c.close.new.self in
    let d = blank 0 in
    let v = c.dual_value-value.result in
    let f : FitsSigned w128 v = search rules in
    let g : FitsSigned w128 c.earned.result = search rules in
    let written = simp to_z-of_z at c.close.ensures.proposals in
    let W : IsWritten l l2 l.closed (with_value (get_or l.proposals l.closed d) v) =
    record { proposals = written d; earned = c.close.ensures.earned } in
    let value = simp to_z-of_z at c.dual_value-value.ensures in
    let is : v ≡ worth_of_demand b.market (get_or l.proposals l.closed d).prices -ℤ int_at l.earned l.closed =
    value ∙ ap (λ (π : PriceLists). worth_of_demand b.market π -ℤ c.earned.result)
    (c.prices.ensures d ∙ ap (λ (i : ℕ). (get_or l.proposals i d).prices) c.closed-place.ensures)
    ∙ ap (λ (z : ℤ). worth_of_demand b.market (get_or l.proposals l.closed d).prices -ℤ z)
    (c.earned.ensures ∙ ap (int_at l.earned) c.closed-place.ensures) in
    record {
      fronts = closed_fronts b l l2 c.requires.ledger v d c.requires.more W c.close.ensures.closed
          c.close.ensures.opened is;
      sums = closed_sums b l l2 c.requires.ledger v d c.requires.more W c.close.ensures.closed c.close.ensures.opened
          is;
      ledger = closed_ledger b l l2 c.requires.ledger v d c.requires.more W c.close.ensures.closed
          c.close.ensures.opened is;
      closed = c.close.ensures.closed;
      opened = c.close.ensures.opened;
    }
