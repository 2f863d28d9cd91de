use Rattle.hull_input.proofs.Common.{arith, ◌∙◌, planned_of, prices_of, settle_asked, with_mixture}
use Rattle.hull_input.specs.Answers.{IsMixedAnswer}
use Rattle.hull_input.proofs.Lemmas.{priced_refused, mixture_refused, unread, unread_is, mixture_added}
use Rattle.hull_input.proofs.Lemmas.{are_mixture_added, fault_handed_on, read_named}
use Rattle.hull_input.proofs.commands.read_certify_input.Goals as goal

pub returns-in_err-priced-clause-answers : goal.returns-in_err-priced-clause-answers
returns-in_err-priced-clause-answers g c =
    let words = c.args.words.now in
    let told = g.F.Shelf.told c.args.shelf.now in
    let h = c.in_err-priced.ensures.answers in
    let read = unread (told words.mixture_name.items) in
    fault_handed_on g.F.Shelf.told g.F.Shelf.faults g.F.Shelf.last c.args.shelf.now c.read_settle_input.new.shelf
    (with_mixture (settle_asked words.names) words.mixture_name.items) IsMixedAnswer
    c.from_residual.result c.in_err-priced.field-0.0 c.from_residual.ensures.1 (mixture_added h.0 read)
    (are_mixture_added told g.F.Shelf.last _ _ _ (settle_asked words.names) words.mixture_name.items h.0 read
    c.in_err-priced.ensures.shelf.later (λ any. omega arith) h.1 (unread_is (told words.mixture_name.items) _))
    (priced_refused (mixture_added h.0 read) _ h.2)

pub returns-in_err-mixture-clause-answers : goal.returns-in_err-mixture-clause-answers
returns-in_err-mixture-clause-answers g c =
    let words = c.args.words.now in
    let told = g.F.Shelf.told c.args.shelf.now in
    let priced = c.in_ok-priced.priced in
    let h = c.in_ok-priced.ensures.answers in
    let k = c.in_err-mixture.ensures.answers in
    fault_handed_on g.F.Shelf.told g.F.Shelf.faults g.F.Shelf.last c.args.shelf.now c.read_mixture_file.new.shelf
    (with_mixture (settle_asked words.names) words.mixture_name.items) IsMixedAnswer
    c.from_residual-in_err-mixture.result c.in_err-mixture.field-0.0 c.from_residual-in_err-mixture.ensures.1
    (mixture_added h.0 k.0)
    (are_mixture_added told g.F.Shelf.last _ _ _ (settle_asked words.names) words.mixture_name.items h.0 k.0
    c.in_ok-priced.ensures.shelf.later c.in_err-mixture.ensures.shelf.later h.1
    (read_named g.F.Shelf.told g.F.Shelf.faults g.F.Shelf.last c.read_settle_input.new.shelf
    c.read_mixture_file.new.shelf
    told _ _
    c.as_str-mixture_name.ensures c.in_ok-priced.ensures.shelf.told_same k.0 k.1))
    (mixture_refused (mixture_added h.0 k.0) (planned_of priced.input) h.2.0 (prices_of priced.prices) h.2.1 _ k.2)

pub returns-clause-answers : goal.returns-clause-answers
returns-clause-answers g c =
    let words = c.args.words.now in
    let told = g.F.Shelf.told c.args.shelf.now in
    let h = c.in_ok-priced.ensures.answers in
    let k = c.in_ok-mixture.ensures.answers in (
      mixture_added h.0 k.0,
      are_mixture_added told g.F.Shelf.last _ _ _ (settle_asked words.names) words.mixture_name.items h.0 k.0
          c.in_ok-priced.ensures.shelf.later c.in_ok-mixture.ensures.shelf.later h.1
          (read_named g.F.Shelf.told g.F.Shelf.faults g.F.Shelf.last c.read_settle_input.new.shelf
          c.read_mixture_file.new.shelf told _ _
          c.as_str-mixture_name.ensures c.in_ok-priced.ensures.shelf.told_same k.0 k.1),
      ((h.2.0, h.2.1), k.2),
    )

pub returns-clause-shelf : goal.returns-clause-shelf
returns-clause-shelf g c = record {
  told_same = c.in_ok-mixture.ensures.shelf.told_same ∙ c.in_ok-priced.ensures.shelf.told_same;
  later = λ any.
      let early = c.in_ok-priced.ensures.shelf.later any in
      let late = c.in_ok-mixture.ensures.shelf.later any in
      omega (arith, early, late);
}
