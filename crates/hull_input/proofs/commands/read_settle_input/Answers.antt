use Rattle.hull_input.proofs.Common.{arith, ◌∙◌, planned_of, IsInput, IsPriced, with_prices}
use Rattle.hull_input.specs.Answers.{IsPricedAnswer}
use Rattle.hull_input.proofs.Lemmas.{prices_refused, unread, unread_is, prices_added, are_prices_added, refused_then}
use Rattle.hull_input.proofs.Lemmas.{fault_handed_on, are_named, read_named}
use Rattle.hull_input.proofs.commands.read_settle_input.Goals as goal

pub returns-in_err-input-clause-answers : goal.returns-in_err-input-clause-answers
returns-in_err-input-clause-answers g c =
    let words = c.args.words.now in
    let told = g.F.Shelf.told c.args.shelf.now in
    let h = c.in_err-input.ensures.answers in
    let read = unread (told words.prices_name.items) in
    fault_handed_on g.F.Shelf.told g.F.Shelf.faults g.F.Shelf.last c.args.shelf.now c.read_case_and_schedule.new.shelf
    (with_prices words.case_name.items words.schedule_name.items words.prices_name.items) IsPricedAnswer
    c.from_residual.result c.in_err-input.field-0.0 c.from_residual.ensures.1 (prices_added h.0 read)
    (are_prices_added told g.F.Shelf.last _ _ _ words.case_name.items words.schedule_name.items words.prices_name.items
    h.0 read c.in_err-input.ensures.shelf.later (λ any. omega arith)
    (are_named g.F.Shelf.told g.F.Shelf.faults g.F.Shelf.last c.args.shelf.now c.read_case_and_schedule.new.shelf _ _ _
    _
    c.as_str-case_name.ensures c.as_str-schedule_name.ensures h.0 h.1)
    (unread_is (told words.prices_name.items) _))
    (refused_then (IsInput h.0) (IsPriced (prices_added h.0 read)) _ h.2)

pub returns-in_err-prices-clause-answers : goal.returns-in_err-prices-clause-answers
returns-in_err-prices-clause-answers g c =
    let words = c.args.words.now in
    let told = g.F.Shelf.told c.args.shelf.now in
    let h = c.in_ok-input.ensures.answers in
    let k = c.in_err-prices.ensures.answers in
    fault_handed_on g.F.Shelf.told g.F.Shelf.faults g.F.Shelf.last c.args.shelf.now c.read_prices_file.new.shelf
    (with_prices words.case_name.items words.schedule_name.items words.prices_name.items) IsPricedAnswer
    c.from_residual-in_err-prices.result c.in_err-prices.field-0.0 c.from_residual-in_err-prices.ensures.1
    (prices_added h.0 k.0)
    (are_prices_added told g.F.Shelf.last _ _ _ words.case_name.items words.schedule_name.items words.prices_name.items
    h.0 k.0 c.in_ok-input.ensures.shelf.later c.in_err-prices.ensures.shelf.later
    (are_named g.F.Shelf.told g.F.Shelf.faults g.F.Shelf.last c.args.shelf.now c.read_case_and_schedule.new.shelf _ _ _
    _
    c.as_str-case_name.ensures c.as_str-schedule_name.ensures h.0 h.1)
    (read_named g.F.Shelf.told g.F.Shelf.faults g.F.Shelf.last c.read_case_and_schedule.new.shelf
    c.read_prices_file.new.shelf
    told _ _
    c.as_str-prices_name.ensures c.in_ok-input.ensures.shelf.told_same k.0 k.1))
    (prices_refused (prices_added h.0 k.0) (planned_of c.in_ok-input.input) h.2 _ k.2)

pub returns-clause-answers : goal.returns-clause-answers
returns-clause-answers g c =
    let words = c.args.words.now in
    let told = g.F.Shelf.told c.args.shelf.now in
    let h = c.in_ok-input.ensures.answers in
    let k = c.in_ok-prices.ensures.answers in (
      prices_added h.0 k.0,
      are_prices_added told g.F.Shelf.last _ _ _ words.case_name.items words.schedule_name.items words.prices_name.items
          h.0 k.0 c.in_ok-input.ensures.shelf.later c.in_ok-prices.ensures.shelf.later
          (are_named g.F.Shelf.told g.F.Shelf.faults g.F.Shelf.last c.args.shelf.now c.read_case_and_schedule.new.shelf
          _ _ _ _
          c.as_str-case_name.ensures c.as_str-schedule_name.ensures h.0 h.1)
          (read_named g.F.Shelf.told g.F.Shelf.faults g.F.Shelf.last c.read_case_and_schedule.new.shelf
          c.read_prices_file.new.shelf told _ _
          c.as_str-prices_name.ensures c.in_ok-input.ensures.shelf.told_same k.0 k.1),
      (h.2, k.2),
    )

pub returns-clause-shelf : goal.returns-clause-shelf
returns-clause-shelf g c = record {
  told_same = c.in_ok-prices.ensures.shelf.told_same ∙ c.in_ok-input.ensures.shelf.told_same;
  later = λ any.
      let early = c.in_ok-input.ensures.shelf.later any in
      let late = c.in_ok-prices.ensures.shelf.later any in
      omega (arith, early, late);
}
