use Rattle.board_core.proofs.Common.{◌≡◌, ℕ, suc, ◌<◌, true, List, length, get_or, sym, ap, ◌∙◌, subst, arith, All}
use Rattle.board_core.proofs.Common.{rules_of, rows_by, IsRowBelow, IsSum, int_at, unit_count, Proposal, sums_of}
use Rattle.board_core.proofs.Common.{fronts_of, Sums, Fronts, IsRound, is_full, row_in, with_opened, with_round}
use Rattle.board_core.proofs.Common.{setup_of}
use Rattle.board_core.proofs.Lemmas.{full_is, not_full, rows_next, round_more, full_to, rows_count, prices_count}
use Rattle.board_core.proofs.advance.advance_proposals.Goals as goal

pub close_next_proposal-requires-clause-more : goal.close_next_proposal-requires-clause-more
close_next_proposal-requires-clause-more c =
    let b = setup_of c.args.terms.now in
    let units = unit_count b.market in
    let counts = c.args.counts.now in
    let l = c.loop-ledger.ledger in
    let I = c.loop-ledger.invariant in
    let test = c.loop-ledger-test.true in
    let now = c.closed.ensures in
    let within : l.closed < b.budget = omega (arith, test, now) in
    let full : is_full units counts (suc l.closed) ≡ true =
    full_is units l.closed counts (subst (λ (k : ℕ). get_or counts k 0 ≡ units) c.closed-in-loop-ledger.ensures
    (c.if-counts-closed.true ∙ c.unit_count-units.ensures.value)) in
    let first = c.requires.opened l.closed within full in
    let longer = I.opened in
    let more : l.closed < l.opened = omega (arith, first, longer) in
    more

pub close_next_proposal-requires-clause-earned_count : goal.close_next_proposal-requires-clause-earned_count
close_next_proposal-requires-clause-earned_count c = ap (λ (z : Sums). length z.earned) c.loop-ledger.invariant.sums ∙
    c.requires.earned_count

pub close_next_proposal-requires-clause-earned : goal.close_next_proposal-requires-clause-earned
close_next_proposal-requires-clause-earned c =
    let l = c.loop-ledger.ledger in
    let test = c.loop-ledger-test.true in
    let now = c.closed.ensures in
    subst (λ (z : Sums). IsSum (int_at z.earned l.closed)) (sym c.loop-ledger.invariant.sums)
    (c.requires.earned l.closed (omega (arith, test, now)))

pub returns-else-counts-closed-clause-done : goal.returns-else-counts-closed-clause-done
returns-else-counts-closed-clause-done c = λ _.
    let units = unit_count (setup_of c.args.terms.now).market in
    let counts = c.args.counts.now in
    not_full units c.loop-ledger.ledger.closed counts
    (λ e. c.if-counts-closed.false (subst (λ (k : ℕ). get_or counts k 0 ≡ units) (sym c.closed-in-loop-ledger.ensures) e
    ∙ sym c.unit_count-units.ensures.value))

pub open_next_proposal-requires-clause-rows : goal.open_next_proposal-requires-clause-rows
open_next_proposal-requires-clause-rows c =
    let b = setup_of c.args.terms.now in
    let units = unit_count b.market in
    let counts = c.args.counts.now in
    let l = c.loop-ledger.ledger in
    let I = c.loop-ledger.invariant in
    let test = c.loop-ledger-test.true in
    let now = c.closed.ensures in
    let within : l.closed < b.budget = omega (arith, test, now) in
    let full : is_full units counts (suc l.closed) ≡ true =
    full_is units l.closed counts (subst (λ (k : ℕ). get_or counts k 0 ≡ units) c.closed-in-loop-ledger.ensures
    (c.if-counts-closed.true ∙ c.unit_count-units.ensures.value)) in
    let first = c.requires.opened l.closed within full in
    let longer = I.opened in
    let more : l.closed < l.opened = omega (arith, first, longer) in
    let s = sums_of l in
    let f = fronts_of l in
    let m = length f.rows in
    let rc = rows_count b l I.ledger in
    let pc = prices_count b l I.ledger in
    let full_m : is_full units counts (suc m) ≡ true =
    subst (λ (k : ℕ). is_full units counts (suc k) ≡ true) (sym rc) full in
    let ahead = c.requires.setup.some_ahead in
    let more_m : m < length f.prices = omega (arith, rc, pc, more) in
    let below : List Proposal → Type 0 = λ xs. All (IsRowBelow b.market b.cost) xs in
    let given = c.requires.rows (suc m) (omega (arith, rc, within))
    (full_to b (c.board_laws.ensures.of b) ahead units counts s f I.round full_m) in
    let mine = subst (λ (z : Sums). below (rows_by (rules_of b) (row_in b.market z) (suc m))) (sym I.sums) given in
    let rows = subst below (sym (rows_next b (c.board_laws.ensures.of b) ahead units counts s f I.round more_m)) mine in
    subst below (sym (ap (λ (z : Fronts). z.rows) c.close_next_proposal.ensures.fronts)) rows

pub loop-ledger-preserved : goal.loop-ledger-preserved
loop-ledger-preserved c =
    let b = setup_of c.args.terms.now in
    let units = unit_count b.market in
    let counts = c.args.counts.now in
    let l = c.loop-ledger.ledger in
    let I = c.loop-ledger.invariant in
    let test = c.loop-ledger-test.true in
    let now = c.closed.ensures in
    let within : l.closed < b.budget = omega (arith, test, now) in
    let full : is_full units counts (suc l.closed) ≡ true =
    full_is units l.closed counts (subst (λ (k : ℕ). get_or counts k 0 ≡ units) c.closed-in-loop-ledger.ensures
    (c.if-counts-closed.true ∙ c.unit_count-units.ensures.value)) in
    let first = c.requires.opened l.closed within full in
    let longer = I.opened in
    let more : l.closed < l.opened = omega (arith, first, longer) in
    let s = sums_of l in
    let f = fronts_of l in
    let m = length f.rows in
    let rc = rows_count b l I.ledger in
    let pc = prices_count b l I.ledger in
    let full_m : is_full units counts (suc m) ≡ true =
    subst (λ (k : ℕ). is_full units counts (suc k) ≡ true) (sym rc) full in
    let ahead = c.requires.setup.some_ahead in
    let more_m : m < length f.prices = omega (arith, rc, pc, more) in
    let new = round_more b (c.board_laws.ensures.of b) ahead units counts s f I.round (omega (arith, rc, within)) more_m
    full_m in
    let fronts : fronts_of c.open_next_proposal.new.ledger ≡ with_round b s f =
    c.open_next_proposal.ensures.fronts ∙ ap (with_opened b) c.close_next_proposal.ensures.fronts in
    let sums : sums_of c.open_next_proposal.new.ledger ≡ s = c.open_next_proposal.ensures.sums ∙
    c.close_next_proposal.ensures.sums in
    let kept = c.close_next_proposal.ensures.opened in
    let grown = c.open_next_proposal.ensures.opened in
    record {
      round = subst (λ (z : Fronts). IsRound b units counts (sums_of c.open_next_proposal.new.ledger) z) (sym fronts)
          (subst (λ (z : Sums). IsRound b units counts z (with_round b s f)) (sym sums) new);
      sums = sums ∙ I.sums;
      ledger = c.open_next_proposal.ensures.ledger;
      opened = omega (arith, longer, kept, grown);
      horizon = c.open_next_proposal.ensures.horizon;
    }
