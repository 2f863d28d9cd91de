use Rattle.report_compare.proofs.Common.{◌+◌, Ok, Err, map, arith, refl, sym, subst, none-some}
use Rattle.report_compare.proofs.Common.{length-map, market_of, schedules_of, proposal_of, report_of, told_of}
use Rattle.report_compare.proofs.Common.{report_lines, answers_of, right_of, ◌≡◌, ℕ, ℤ, Result, Some, List, length}
use Rattle.report_compare.proofs.Common.{slice_get, AllZip, flat_map, Schedule, Market, AnyUnit, units, Proposal, IsTop}
use Rattle.report_compare.proofs.Common.{inl, inr}
use Rattle.report_compare.proofs.Common.{IsSettled, Report, IsRightReport, Compares, told_lines, Answers, titles}
use Rattle.report_compare.proofs.Common.{told_from, whole_lines, WrongLine}
use Rattle.report_compare.proofs.RightReports.{right_is, count_zipped}
use Rattle.report_compare.proofs.Lemmas.{read_item, row_made, row_long, mine_whole, right_whole, compared_as}
use Rattle.report_compare.proofs.Lemmas.{number_behind, all_right, first_wrong, not_right, IsMade}
use Rattle.report_compare.specs.declared.audited.Audited.{Audited}
use Rattle.report_compare.proofs.report.first_difference.Goals as goal
use Rattle.price_settle.specs.declared.settlement.Settlement.{Settlement}
use Rattle.report_compare.proofs.report.first_difference.Goals.{After-index-rows-chosen}

-- the chosen row of the run
module _ (c : After-index-rows-chosen) where
  abbrev audited : Audited
  audited = c.args.audited.now

  abbrev m : Market
  m = market_of audited.case.now

  abbrev plan : List Schedule
  plan = schedules_of audited.plan.now

  abbrev r : Report
  r = report_of audited.report.now

  abbrev rows : List Proposal
  rows = map proposal_of c.args.rows.now

  abbrev k : ℕ
  k = c.row_of_greatest_dual_value-chosen.result

  abbrev row : Proposal
  row = proposal_of c.index-rows-chosen.result

  at : slice_get rows k ≡ Some row
  at = read_item proposal_of c.args.rows.now k c.index-rows-chosen.result
      c.row_of_greatest_dual_value-chosen.ensures.place
      c.index-rows-chosen.is

  made : IsMade m row
  made = row_made m audited.cost r.budget r.ahead rows k row c.requires.run at

  long : length row.prices.energy ≡ m.periods
  long = row_long m row made c.index-rows-chosen.result.supply_length

  -- what the units earn at its prices, and the payments
  module _ (earned : List ℤ) (s : Settlement) (tops : AllZip (λ u e. IsTop u row.prices e) (units m) earned)
      (settled : IsSettled m plan row.prices s.scheduled.items s.payments.items s.surplus s.total) where
    abbrev a : Answers
    a = answers_of earned s made.schedules

    abbrev right : Report
    right = right_of m a r.budget r.ahead audited.cost rows (k + 1) row.value s.surplus s.total

    is_right : IsRightReport m plan r.budget r.ahead right
    is_right =
        let counts = c.settlement_has_entry_for_each_unit.ensures m plan row.prices s.scheduled.items s.payments.items
        s.surplus s.total audited.feasible settled in
        right_is m plan r.budget r.ahead audited.cost rows row (k + 1) a s.surplus s.total audited.cost_is
        c.requires.run c.row_of_greatest_dual_value-chosen.ensures.number (number_behind rows k row at)
        made.fit made.totals tops counts.0 counts.1 settled

    lined : (o : Result ℕ WrongLine) →
        Compares 1 o (whole_lines r (flat_map told_lines (map told_of audited.report.now.lines.items)))
        (whole_lines right (flat_map told_lines (told_from a 0 (titles m)))) →
        Compares 1 o (report_lines r) (report_lines right)
    lined o told =
        compared_as o _ (report_lines r) _ (report_lines right) (mine_whole audited.report.now audited.order)
        (right_whole m a r.budget r.ahead audited.cost rows (k + 1) row.value s.surplus s.total) told

pub row_of_greatest_dual_value-chosen-requires : goal.row_of_greatest_dual_value-chosen-requires
row_of_greatest_dual_value-chosen-requires c =
    let long = length-map c.args.rows.now proposal_of in
    let least = c.args.audited.now.bounds.budget_at_least in
    elim c.requires.run.whole [
      | inl all ↦ omega (arith, long, least, all)
      | inr some ↦ let within = some.2 in omega (arith, long, within)
    ]

pub bounds-rows-chosen : goal.bounds-rows-chosen
bounds-rows-chosen c = c.row_of_greatest_dual_value-chosen.ensures.place

pub earn_all-requires-clause-some : goal.earn_all-requires-clause-some
earn_all-requires-clause-some c = (schedules_of c.args.audited.now.plan.now, c.args.audited.now.feasible.feasible)

pub earn_all-requires-clause-bench : goal.earn_all-requires-clause-bench
earn_all-requires-clause-bench c = c.requires.compare_room.bench

pub earn_all-requires-clause-buffer : goal.earn_all-requires-clause-buffer
earn_all-requires-clause-buffer c = c.requires.compare_room.answer

pub earn_all-requires-clause-room : goal.earn_all-requires-clause-room
earn_all-requires-clause-room c = c.requires.compare_room.earned

pub settle-requires-clause-feasible : goal.settle-requires-clause-feasible
settle-requires-clause-feasible c = c.args.audited.now.feasible

pub settle-requires-clause-best : goal.settle-requires-clause-best
settle-requires-clause-best c =
    let market = market_of c.args.audited.now.case.now in
    let prices = (proposal_of c.index-rows-chosen.result).prices in
    subst (λ (es : List ℤ). AllZip (λ (u : AnyUnit) (e : ℤ). IsTop u prices e) (units market) es)
    (sym c.as_slice.ensures) c.earn_all.ensures.tops

pub settle-requires-clause-scheduled : goal.settle-requires-clause-scheduled
settle-requires-clause-scheduled c = c.requires.compare_room.scheduled

pub settle-requires-clause-payments : goal.settle-requires-clause-payments
settle-requires-clause-payments c = c.requires.compare_room.payments

pub compare_report-requires-clause-rows : goal.compare_report-requires-clause-rows
compare_report-requires-clause-rows c =
    let long = length-map c.args.rows.now proposal_of in
    let within = c.requires.run.within in
    let most = c.args.audited.now.bounds.budget_at_most in
    omega (arith, long, within, most)

pub compare_report-requires-clause-chosen : goal.compare_report-requires-clause-chosen
compare_report-requires-clause-chosen c =
    let long = length-map c.args.rows.now proposal_of in
    let within = c.requires.run.within in
    let most = c.args.audited.now.bounds.budget_at_most in
    let index = c.row_of_greatest_dual_value-chosen.ensures.place in
    omega (arith, long, within, most, index)

pub earn_all-requires-clause-horizon : goal.earn_all-requires-clause-horizon
earn_all-requires-clause-horizon c = long (goal.at.earn_all-requires-clause-horizon c).After-index-rows-chosen

pub settle-requires-clause-horizon : goal.settle-requires-clause-horizon
settle-requires-clause-horizon c = long (goal.at.settle-requires-clause-horizon c).After-index-rows-chosen

pub compare_report-requires-clause-horizon : goal.compare_report-requires-clause-horizon
compare_report-requires-clause-horizon c = long (goal.at.compare_report-requires-clause-horizon
    c).After-index-rows-chosen

pub compare_report-requires-clause-earned : goal.compare_report-requires-clause-earned
compare_report-requires-clause-earned c =
    count_zipped _ (market_of c.args.audited.now.case.now) c.earn_all.new.into.items c.earn_all.ensures.tops

pub compare_report-requires-clause-compare_room : goal.compare_report-requires-clause-compare_room
compare_report-requires-clause-compare_room c =
    let audited = c.args.audited.now in
    let m = market_of audited.case.now in
    let plan = schedules_of audited.plan.now in
    let row = proposal_of c.index-rows-chosen.result in
    let settlement = c.settle.new.into in
    let counts = c.settlement_has_entry_for_each_unit.ensures m plan row.prices settlement.scheduled.items
    settlement.payments.items settlement.surplus settlement.total audited.feasible
    c.settle.ensures.settled in
    let long = count_zipped _ m c.earn_all.new.into.items c.earn_all.ensures.tops in
    record {
      bench = c.earn_all.ensures.bench;
      answer = c.earn_all.ensures.buffer;
      earned = omega (arith, long);
      scheduled = counts.0;
      payments = counts.1;
    }

pub compare_report-requires-clause-value : goal.compare_report-requires-clause-value
compare_report-requires-clause-value c =
    let d = (goal.at.compare_report-requires-clause-value c).After-index-rows-chosen in
    c.dual_values_are_within.ensures (m d) (row d).prices (row d).value c.args.audited.now.case.now.valid
    c.index-rows-chosen.result.prices.valid (long d) (made d).value

pub returns-in-Ok-clause-right : goal.returns-in-Ok-clause-right
returns-in-Ok-clause-right c =
    let d = (goal.at.returns-in-Ok-clause-right c).After-index-rows-chosen in
    let earned = c.earn_all.new.into.items in
    let s = c.settle.new.into in
    let tops = c.earn_all.ensures.tops in
    let settled = c.settle.ensures.settled in
    let lines = lined d earned s tops settled (Ok c.in-Ok.field-0)
    (c.in-Ok.ensures (made d).schedules (made d).fit) in (
      λ e. all_right c.text_determines_the_report.ensures (r d) (right d earned s tops settled) (m d) (plan d)
          (r d).budget (r d).ahead c.in-Ok.field-0 c.right_report_has_form.ensures c.args.audited.now.bounds
          (is_right d earned s tops settled) lines,
      λ h. refl,
    )

pub returns-in-Err-clause-right : goal.returns-in-Err-clause-right
returns-in-Err-clause-right c =
    let d = (goal.at.returns-in-Err-clause-right c).After-index-rows-chosen in
    let earned = c.earn_all.new.into.items in
    let s = c.settle.new.into in
    let tops = c.earn_all.ensures.tops in
    let settled = c.settle.ensures.settled in
    let lines = lined d earned s tops settled (Err c.in-Err.wrong)
    (c.in-Err.ensures (made d).schedules (made d).fit) in (
      λ e. absurd (none-some c.in-Err.wrong.line (sym e)),
      λ h. absurd (not_right c.text_determines_the_report.ensures (r d) (right d earned s tops settled) (m d) (plan d)
          (r d).budget (r d).ahead c.in-Err.wrong c.one_report_is_right.ensures (is_right d earned s tops settled) lines
          h),
    )

pub returns-in-Err-clause-wrong : goal.returns-in-Err-clause-wrong
returns-in-Err-clause-wrong c =
    let d = (goal.at.returns-in-Err-clause-wrong c).After-index-rows-chosen in
    let earned = c.earn_all.new.into.items in
    let s = c.settle.new.into in
    let tops = c.earn_all.ensures.tops in
    let settled = c.settle.ensures.settled in
    let lines = lined d earned s tops settled (Err c.in-Err.wrong)
    (c.in-Err.ensures (made d).schedules (made d).fit) in (
      right d earned s tops settled,
      is_right d earned s tops settled,
      first_wrong c.text_determines_the_report.ensures (r d) (right d earned s tops settled) c.in-Err.wrong lines,
    )
