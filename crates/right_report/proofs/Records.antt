-- What the record of a finished board tells of its chosen row.
use Rattle.right_report.proofs.Common.{◌≡◌, ℕ, suc, ◌+◌, ◌-◌, ◌<◌, ◌≤◌, ℤ, pos, ◌-ℤ◌, Some, Option, List, ◌++◌, map}
use Rattle.right_report.proofs.Common.{length, slice_get, refl, sym, ap, ◌∙◌, subst, arith, length-append, length-map}
use Rattle.right_report.proofs.Common.{get_or-map, slice_get_within, get_or_from_slice_get, AllZip, range_with_len}
use Rattle.right_report.proofs.Common.{option_map_or, Answer, Content, rules_of, row_of, schedules_in, IsLegalHistory}
use Rattle.right_report.proofs.Common.{own_rows, posts, answer_at, answers, prices_at, AnswersOfHistoryFitTheirTasks}
use Rattle.right_report.proofs.Common.{EachRowHasAnswerOfEachUnit}
use Rattle.right_report.proofs.Common.{FinishedHasRow, FinishedHistoryIsWholeRun, AnyUnit, Market, NamedThermalUnit}
use Rattle.right_report.proofs.Common.{NamedRenewableUnit, NamedBidUnit, PriceLists, Schedule, units, unit_count}
use Rattle.right_report.proofs.Common.{earnings, IsTop, Proposal, Fits, HasTotals, IsRun, IsFeasible, int_at, IsSettled}
use Rattle.right_report.proofs.Common.{length_same, length-zip_with, Settlement, OneIsChosen, UnitLine, unit_lines}
use Rattle.right_report.proofs.Common.{HasNames, thermal_names, renewable_names, bid_names, line_of, lines_from}
use Rattle.right_report.proofs.Common.{chosen_of, report_of, IsSettledRecord, ReportOfFinishedBoardIsRight}
use Rattle.right_report.proofs.Common.{SettlementHasEntryForEachUnit, AnswersToRowEarnTheMost}
use Rattle.std.proofs.lemmas.Simd.{map-map}
use Rattle.right_report.proofs.ChosenRow.{one_is_chosen}
use Rattle.right_report.proofs.UnitLines.{units_length, lines_append, lines_map, lines_names, lines_zip, zip_each}
use Rattle.right_report.proofs.UnitLines.{numbers_at}

-- where there is a row, the chosen number counts one of them
pub chosen_is : OneIsChosen
chosen_is = one_is_chosen

-- ---- the answers to the chosen row

one_unit : {X : Type 0} (o : Option X) (x y : X) → o ≡ Some x → o ≡ Some y → x ≡ y
one_unit o x y h i = (cc)

-- an answer fits the unit at the prices, and comes with what the unit earns at best
pub record IsAnswerAt (u : AnyUnit) (π : PriceLists) (a : Answer) : Type 0 where
  pub fit : Fits u π a.schedule
  pub top : IsTop u π a.earned

-- the lists of a settlement have a number for each unit
pub settled_lengths : SettlementHasEntryForEachUnit
settled_lengths m plan π scheduled payments surplus sum f h =
    let us = units_length m in
    let plans = length_same (λ u s. IsFeasible u m.periods s) (units m) plan f.feasible in
    let tops = length_same (λ u e. IsTop u π e) (units m) h.tops h.best in
    let a = ap length h.scheduled_is ∙ length-zip_with (λ u s. earnings u π s) (units m) plan plans in
    let b = ap length h.payments_are ∙ length-zip_with (λ e s. e -ℤ s) h.tops scheduled (omega (arith, tops, a)) in
    (omega (arith, a, us), omega (arith, b, tops, us))

module _ (answered : AnswersOfHistoryFitTheirTasks) (made : EachRowHasAnswerOfEachUnit) (has_row : FinishedHasRow)
    (finished_run : FinishedHistoryIsWholeRun Fits) where
  module _ (c : Content) (k : ℕ) (row : Proposal) (ahead : 1 ≤ c.setup.ahead)
      (is : slice_get (own_rows c) k ≡ Some row) where
    abbrev kept : ℕ → Answer
    kept u = answer_at (rules_of c.setup) (posts c.events) (suc k) u

    inside : k < length (own_rows c)
    inside = slice_get_within (own_rows c) k row is

    row_made : row ≡ row_of c.setup.market (prices_at (rules_of c.setup) (posts c.events) (suc k))
        (answers (rules_of c.setup) (posts c.events) (suc k))
    row_made = sym (get_or_from_slice_get (own_rows c) k row row is) ∙ (made c.setup c.events ahead k row inside).made

    pub row_totals : HasTotals c.setup.market
        (map (λ u. (kept u).schedule) (range_with_len 0 (unit_count c.setup.market))) row
    row_totals =
        let m = c.setup.market in
        let all = answers (rules_of c.setup) (posts c.events) (suc k) in
        let π = prices_at (rules_of c.setup) (posts c.events) (suc k) in
        let totals : HasTotals m (schedules_in all) (row_of m π all) = record { supply = refl; reserve = refl } in
        subst (λ (ss : List Schedule). HasTotals m ss row)
        (map-map (λ (a : Answer). a.schedule) kept (range_with_len 0 (unit_count m)))
        (subst (HasTotals m (schedules_in all)) (sym row_made) totals)

    pub answer_is : (u : ℕ) (x : AnyUnit) → IsLegalHistory c.setup c.events →
        slice_get (units c.setup.market) u ≡ Some x → IsAnswerAt x row.prices (kept u)
    answer_is u x legal there =
        let g = rules_of c.setup in
        let p = posts c.events in
        let within = slice_get_within (units c.setup.market) u x there in
        let unit : u < unit_count c.setup.market = omega (arith, within, units_length c.setup.market) in
        let post = (made c.setup c.events ahead k row inside).each u unit in
        let right = (answered c.setup c.events (suc k) u post.0 legal post.1).right in
        let found : IsAnswerAt right.unit (prices_at g p (suc k)) post.0.1 = record {
          fit = right.fit;
          top = record { schedule = post.0.1.schedule; best = right.fit.best; earns = right.earned };
        } in
        let same = one_unit (slice_get (units c.setup.market) u) right.unit x right.is there in
        let answer : post.0.1 ≡ kept u =
        sym (ap (λ (o : Option (ℕ × Answer)). option_map_or (λ (y : ℕ × Answer). y.1) o g.missing) post.1) in
        let prices : prices_at g p (suc k) ≡ row.prices = sym (ap (λ (r : Proposal). r.prices) row_made) in
        subst (λ (π : PriceLists). IsAnswerAt x π (kept u)) prices
        (subst (IsAnswerAt x (prices_at g p (suc k))) answer
        (subst (λ (v : AnyUnit). IsAnswerAt v (prices_at g p (suc k)) post.0.1) same found))

  -- what the units earn at best at the prices of a row, as the answers tell it
  pub tops_at : AnswersToRowEarnTheMost
  tops_at c k row ahead legal is earned count each =
      zip_each (λ u e. IsTop u row.prices e) (units c.setup.market) earned (units_length c.setup.market ∙ sym count)
      (λ u x there.
      let within = slice_get_within (units c.setup.market) u x there in
      let unit : u < unit_count c.setup.market = omega (arith, within, units_length c.setup.market) in
      subst (IsTop x row.prices) (sym (each u unit)) (answer_is c k row ahead is u x legal there).top)

  -- ---- the report

  abbrev all_names : Market → List (List ℕ)
  all_names m = thermal_names m ++ renewable_names m ++ bid_names m

  names_length : (m : Market) → length (all_names m) ≡ unit_count m
  names_length m =
      let a = length-map m.thermal (λ (n : NamedThermalUnit). n.name) in
      let b = length-map m.flat (λ (n : NamedRenewableUnit). n.name) in
      let d = length-map m.bids (λ (n : NamedBidUnit). n.name) in
      omega (
        arith,
        a,
        b,
        d,
        length-append (thermal_names m ++ renewable_names m) (bid_names m),
        length-append (thermal_names m) (renewable_names m),
      )

  three_lists : (line : ℕ → List ℕ → UnitLine) (xs ys zs : List (List ℕ)) (a b : ℕ) → length xs ≡ a →
      a + length ys ≡ b →
      lines_from line 0 xs ++ lines_from line a ys ++ lines_from line b zs ≡ lines_from line 0 (xs ++ ys ++ zs)
  three_lists line xs ys zs a b e f =
      let first : 0 + length xs ≡ a = omega (arith, e) in
      let second : 0 + length (xs ++ ys) ≡ b = omega (arith, e, f, length-append xs ys) in
      sym (lines_append line 0 (xs ++ ys) zs
      ∙ ap (λ (n : ℕ). lines_from line 0 (xs ++ ys) ++ lines_from line n zs) second
      ∙ ap (λ (ls : List UnitLine). ls ++ lines_from line b zs)
      (lines_append line 0 xs ys ∙ ap (λ (n : ℕ). lines_from line 0 xs ++ lines_from line n ys) first))

  all_lines : (c : Content) (s : Settlement) →
      unit_lines (report_of c s) ≡ lines_from (line_of c s (chosen_of c)) 0 (all_names c.setup.market)
  unfolding report_of
  all_lines c s =
      let m = c.setup.market in
      three_lists (line_of c s (chosen_of c)) (thermal_names m) (renewable_names m) (bid_names m) (length m.thermal)
      (length m.thermal + length m.flat)
      (length-map m.thermal (λ (n : NamedThermalUnit). n.name))
      (ap (λ (n : ℕ). length m.thermal + n) (length-map m.flat (λ (n : NamedRenewableUnit). n.name)))

  -- the settlement's numbers, as the lines tell them
  told_numbers : (line : ℕ → List ℕ → UnitLine) (part : UnitLine → ℤ) (numbers : List ℤ) (names : List (List ℕ)) →
      ((k : ℕ) (name : List ℕ) → part (line k name) ≡ int_at numbers k) → length numbers ≡ length names →
      map part (lines_from line 0 names) ≡ numbers
  told_numbers line part numbers names same count =
      lines_map line part (int_at numbers) same 0 names ∙ numbers_at numbers (length names) count

  value_is_row : (rows : List Proposal) (k : ℕ) (row : Proposal) → slice_get rows k ≡ Some row →
      int_at (map (λ (r : Proposal). r.value) rows) k ≡ row.value
  value_is_row rows k row is =
      get_or-map (λ (r : Proposal). r.value) rows k row (pos 0) (slice_get_within rows k row is) ∙
      ap (λ (r : Proposal). r.value) (get_or_from_slice_get rows k row row is)

  report_names : (c : Content) (s : Settlement) → HasNames c.setup.market (report_of c s)
  unfolding report_of
  report_names c s =
      let line = line_of c s (chosen_of c) in
      let m = c.setup.market in
      record {
        thermal = lines_names line (λ k name. refl) 0 (thermal_names m);
        renewable = lines_names line (λ k name. refl) (length m.thermal) (renewable_names m);
        bids = lines_names line (λ k name. refl) (length m.thermal + length m.flat) (bid_names m);
      }

  -- what is said of all lines
  record AreLines (c : Content) (s : Settlement) (row : Proposal) (lines : List UnitLine) : Type 0 where
    fit : AllZip (λ u (l : UnitLine). Fits u row.prices l.response) (units c.setup.market) lines
    totals : HasTotals c.setup.market (map (λ (l : UnitLine). l.response) lines) row
    earned : AllZip (λ u (l : UnitLine). IsTop u row.prices l.earned) (units c.setup.market) lines
    settled : IsSettled c.setup.market c.setup.plan row.prices (map (λ (l : UnitLine). l.scheduled) lines)
        (map (λ (l : UnitLine). l.payment) lines) s.surplus s.total

  are_lines : (c : Content) (s : Settlement) (row : Proposal) (k : ℕ) → IsSettledRecord c s row →
      slice_get (own_rows c) k ≡ Some row →
      AreLines c s row (lines_from (line_of c s (suc k)) 0 (all_names c.setup.market))
  are_lines c s row k h is =
      let m = c.setup.market in
      let names = all_names m in
      let line = line_of c s (suc k) in
      let count = units_length m ∙ sym (names_length m) in
      let answered = λ (u : ℕ) (x : AnyUnit) (name : List ℕ) (there : slice_get (units m) u ≡ Some x). answer_is c k row
      h.some_ahead is u x h.legal there in
      let lengths = settled_lengths m c.setup.plan row.prices s.scheduled.items s.payments.items s.surplus s.total
      h.feasible h.settled in
      let responses = lines_map line (λ (l : UnitLine). l.response)
      (λ u. (answer_at (rules_of c.setup) (posts c.events) (suc k) u).schedule) (λ u name. refl) 0 names in
      let scheduled = told_numbers line (λ (l : UnitLine). l.scheduled) s.scheduled.items names (λ u name. refl)
      (lengths.0 ∙ sym (names_length m)) in
      let payments = told_numbers line (λ (l : UnitLine). l.payment) s.payments.items names (λ u name. refl)
      (lengths.1 ∙ sym (names_length m)) in
      record {
        fit = lines_zip line (λ u l. Fits u row.prices l.response) (units m) 0 names count (λ u x name there.
            let same : u ≡ 0 + u = omega arith in
            subst (λ (n : ℕ). Fits x row.prices (line n name).response) same (answered u x name there).fit);
        totals = subst (λ (ss : List Schedule). HasTotals m ss row) (sym responses)
            (subst (λ (n : ℕ). HasTotals m
            (map (λ u. (answer_at (rules_of c.setup) (posts c.events) (suc k) u).schedule) (range_with_len 0 n))
            row) (sym (names_length m))
            (row_totals c k row h.some_ahead is));
        earned = lines_zip line (λ u l. IsTop u row.prices l.earned) (units m) 0 names count (λ u x name there.
            let same : u ≡ 0 + u = omega arith in
            subst (λ (n : ℕ). IsTop x row.prices (line n name).earned) same (answered u x name there).top);
        settled = subst (λ (xs : List ℤ). IsSettled m c.setup.plan row.prices xs
            (map (λ (l : UnitLine). l.payment) (lines_from line 0 names)) s.surplus s.total) (sym scheduled)
            (subst (λ (xs : List ℤ). IsSettled m c.setup.plan row.prices s.scheduled.items xs s.surplus s.total)
            (sym payments) h.settled);
      }

  lines_are : (c : Content) (s : Settlement) (row : Proposal) → IsSettledRecord c s row →
      AreLines c s row (unit_lines (report_of c s))
  lines_are c s row h =
      let some = has_row c h.some_ahead h.some_budget h.finished in
      let index = chosen_is (own_rows c) some in
      let at : chosen_of c - 1 ≡ index.0 = omega (arith, index.2) in
      let is = subst (λ (n : ℕ). slice_get (own_rows c) n ≡ Some row) at h.chosen in
      let same = all_lines c s ∙ ap (λ (n : ℕ). lines_from (line_of c s n) 0 (all_names c.setup.market)) index.2 in
      subst (AreLines c s row) (sym same) (are_lines c s row index.0 h is)

  pub record_is_right : ReportOfFinishedBoardIsRight
  unfolding report_of
  record_is_right c s row h =
      let lines = lines_are c s row h in
      let m = c.setup.market in
      record {
        periods_are = refl;
        units_are = refl;
        budget_is = refl;
        ahead_is = refl;
        cost_is = h.cost;
        run = subst (λ (cost : ℤ). IsRun Fits m cost c.setup.budget c.setup.ahead (own_rows c)) h.cost
            (finished_run c.setup c.events h.some_ahead h.some_unit h.legal h.finished);
        chosen_is = refl;
        row = row;
        is_chosen = h.chosen;
        value_is = value_is_row (own_rows c) (chosen_of c - 1) row h.chosen;
        names = report_names c s;
        responses_fit = lines.fit;
        totals = lines.totals;
        earned = lines.earned;
        settled = lines.settled;
        gap_is = refl;
      }
