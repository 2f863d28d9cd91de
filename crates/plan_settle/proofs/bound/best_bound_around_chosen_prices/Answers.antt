use Rattle.plan_settle.proofs.Common.{rules, ◌≡◌, w64, to_z-of_z, List, length, map, sym, ap, subst, ◌∙◌, arith, All}
use Rattle.plan_settle.proofs.Common.{length-map, Market, Proposal, proposal_of, own_rows}
use Rattle.gap_proof.specs.PlaneSums.{IsRowWithin}
use Rattle.plan_settle.proofs.SettleLaws.{chosen_place}
use Rattle.plan_settle.proofs.BoundLaws.{bound_told}
use Rattle.plan_settle.proofs.bound.best_bound_around_chosen_prices.Goals as goal

pub returns-clause-told : goal.returns-clause-told
returns-clause-told c = bound_told c.best_range.result.bound c.best_range.ensures.limits

pub best_range-requires-clause-rows : goal.best_range-requires-clause-rows
best_range-requires-clause-rows c =
    let s = c.args.closed.now in
    let S = c.rows.ensures.setup in
    let own : All (IsRowWithin s.setup.market) (own_rows s) = λ k d low.
    let row = c.rows_of_history_are_within_limits.ensures s.setup s.events S.market S.some_ahead c.rows.ensures.legal k
    d low in
    record {
      row = record { horizon = row.horizon; supply = row.supply; reserve = row.reserve };
      value = row.value;
    } in
    subst (λ (m : Market). All (IsRowWithin m) (map proposal_of c.rows.result.now)) (sym c.case.ensures)
    (subst (λ (rows : List Proposal). All (IsRowWithin s.setup.market) rows) (sym c.rows.ensures.rows) own)

pub best_range-requires-clause-from_one : goal.best_range-requires-clause-from_one
best_range-requires-clause-from_one c =
    let s = c.args.closed.now in
    (chosen_place c.finished_has_row.ensures c.one_row_is_chosen.ensures s c.chosen.result c.rows.ensures.setup
    c.requires.finished c.chosen.ensures).first

pub best_range-requires-clause-to_last : goal.best_range-requires-clause-to_last
best_range-requires-clause-to_last c =
    let s = c.args.closed.now in
    let last = (chosen_place c.finished_has_row.ensures c.one_row_is_chosen.ensures s c.chosen.result
    c.rows.ensures.setup c.requires.finished c.chosen.ensures).last in
    let count : length c.rows.result.now ≡ length (own_rows s) = sym (length-map c.rows.result.now proposal_of) ∙
    ap (λ (rows : List Proposal). length rows) c.rows.ensures.rows in
    omega (arith, last, count)

pub returns-clause-best : goal.returns-clause-best
returns-clause-best c = rw (
  to_z-of_z w64 c.args.radius (search rules),
  c.case.ensures,
  c.rows.ensures.rows,
  c.chosen.ensures,
) at c.best_range.ensures.best
