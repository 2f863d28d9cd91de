use Rattle.hull_words.proofs.Common.{sym, arith, inl, inr}
use Rattle.hull_words.proofs.Lemmas.{number_in-long, number_in-other, number_in-below, number_in-above}
use Rattle.hull_words.proofs.Lemmas.{number_in-within, parsed, not_parsed}
use Rattle.hull_words.proofs.word_text.number_in_range.Goals as goal
use Rattle.hull_words.proofs.word_text.number_in_range.Goals.{then-text-gt20-via-then-text-gt20}
use Rattle.hull_words.proofs.word_text.number_in_range.Goals.{then-text-gt20-via-else-text-gt20+then-not-is_digits}

pub returns-then-text-gt20-clause-exact : goal.returns-then-text-gt20-clause-exact
returns-then-text-gt20-clause-exact c =
    elim c.then-text-gt20.branch [
      | then-text-gt20-via-then-text-gt20 w ↦
          sym (number_in-long c.args.least c.args.most c.args.text.now w.if-text-gt20.true)
      | then-text-gt20-via-else-text-gt20+then-not-is_digits w ↦
          sym (number_in-other c.args.least c.args.most c.args.text.now (sym w.if-not-is_digits.ensures))
    ]

pub returns-in_err-value-clause-exact : goal.returns-in_err-value-clause-exact
returns-in_err-value-clause-exact c =
    rw c.from_residual.ensures
    (sym (not_parsed c.args.least c.args.most c.args.text.now c.parse.result (omega arith) c.parse.ensures.value.0
    (sym c.if-not-is_digits.ensures) c.in_err-value.ensures.value))

pub returns-then-value-least-clause-exact : goal.returns-then-value-least-clause-exact
returns-then-value-least-clause-exact c =
    let p = parsed c.args.text.now c.parse.result c.in_ok-value.value c.parse.ensures.value.0
    (sym c.if-not-is_digits.ensures) c.in_ok-value.ensures.value in
    elim c.then-value-least.either [
      | inl below ↦ sym (number_in-below c.args.least c.args.most c.args.text.now (omega (arith, p.1)))
      | inr above ↦ sym (number_in-above c.args.least c.args.most c.args.text.now (omega (arith, p.1, above.1)))
    ]

pub returns-clause-exact : goal.returns-clause-exact
returns-clause-exact c =
    let p = parsed c.args.text.now c.parse.result c.in_ok-value.value c.parse.ensures.value.0
    (sym c.if-not-is_digits.ensures) c.in_ok-value.ensures.value in
    rw p.1 (sym (number_in-within c.args.least c.args.most c.args.text.now p.0 c.if-text-gt20.false
    (sym c.if-not-is_digits.ensures) (omega arith) (omega arith)))
