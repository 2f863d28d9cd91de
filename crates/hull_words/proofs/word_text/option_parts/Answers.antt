use Rattle.hull_words.proofs.Common.{sym, lit<, Some, None}
use Rattle.std.proofs.lemmas.Str.Pattern.{split_once_first}
use Rattle.hull_words.proofs.Lemmas.{is_option-false, stripped, name-before, name-whole, value-behind, value-none}
use Rattle.hull_words.proofs.word_text.option_parts.Goals as goal

pub returns-in_err-text-clause-option : goal.returns-in_err-text-clause-option
returns-in_err-text-clause-option c =
    rw c.from_residual.ensures (sym (is_option-false c.args.word.now c.in_err-text.ensures.cases))

pub returns-in-Some-clause-option : goal.returns-in-Some-clause-option
returns-in-Some-clause-option c =
    let p = c.in_ok-text.ensures.cases in
    sym (stripped c.args.word.now c.in_ok-text.text.now p.0 p.1.0 p.1.1 p.2).option

pub returns-in-Some-clause-name : goal.returns-in-Some-clause-name
returns-in-Some-clause-name c =
    let p = c.in_ok-text.ensures.cases in
    let parts = split_once_first 61 c.in_ok-text.text.now (Some (c.in-Some.name, c.in-Some.value))
    c.in-Some.ensures.cases (lit< tt) in
    name-before c.args.word.now c.in_ok-text.text.now c.in-Some.name.now
    (stripped c.args.word.now c.in_ok-text.text.now p.0 p.1.0 p.1.1 p.2).rest parts.1

pub returns-in-Some-clause-value : goal.returns-in-Some-clause-value
returns-in-Some-clause-value c =
    let p = c.in_ok-text.ensures.cases in
    let parts = split_once_first 61 c.in_ok-text.text.now (Some (c.in-Some.name, c.in-Some.value))
    c.in-Some.ensures.cases (lit< tt) in
    value-behind c.args.word.now c.in_ok-text.text.now c.in-Some.value.now
    (stripped c.args.word.now c.in_ok-text.text.now p.0 p.1.0 p.1.1 p.2).rest parts.0 parts.2

pub returns-in-None-clause-option : goal.returns-in-None-clause-option
returns-in-None-clause-option c =
    let p = c.in_ok-text.ensures.cases in
    sym (stripped c.args.word.now c.in_ok-text.text.now p.0 p.1.0 p.1.1 p.2).option

pub returns-in-None-clause-name : goal.returns-in-None-clause-name
returns-in-None-clause-name c =
    let p = c.in_ok-text.ensures.cases in
    let whole = split_once_first 61 c.in_ok-text.text.now None c.in-None.ensures.cases (lit< tt) in
    name-whole c.args.word.now c.in_ok-text.text.now
    (stripped c.args.word.now c.in_ok-text.text.now p.0 p.1.0 p.1.1 p.2).rest whole

pub returns-in-None-clause-value : goal.returns-in-None-clause-value
returns-in-None-clause-value c =
    let p = c.in_ok-text.ensures.cases in
    let whole = split_once_first 61 c.in_ok-text.text.now None c.in-None.ensures.cases (lit< tt) in
    value-none c.args.word.now c.in_ok-text.text.now
    (stripped c.args.word.now c.in_ok-text.text.now p.0 p.1.0 p.1.1 p.2).rest whole
