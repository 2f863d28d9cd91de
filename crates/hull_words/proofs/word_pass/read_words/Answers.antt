use Rattle.std.proofs.lemmas.Result.{err_from_is_err_and}
use Rattle.hull_words.proofs.Common.{found_so_far}
use Rattle.hull_words.proofs.Lemmas.{words_of-none, words_of-unknown, words_of-fault, words_of-found}
use Rattle.hull_words.proofs.word_pass.read_words.Goals as goal

pub returns-in_default : goal.returns-in_default
returns-in_default c = words_of-none c.args.words.now c.in_default.ensures.cases

pub returns-in_default-named : goal.returns-in_default-named
returns-in_default-named c =
    words_of-unknown c.args.words.now c.in-Some.later.now c.in-Some.first.now c.as_str.result.now
    c.in-Some.ensures.cases.0 c.as_str.ensures.value c.in_default-named.ensures

pub returns-in_err-given : goal.returns-in_err-given
returns-in_err-given c =
    let p = err_from_is_err_and c.from_residual.result c.from_residual.ensures.1 in
    rw (p.1, p.2) (words_of-fault c.args.words.now c.in-Some.later.now c.in-Some.first.now c.as_str.result.now
    c.in-Some-named.command c.in_err-given.field-0.0
    c.in-Some.ensures.cases.0 c.as_str.ensures.value c.in-Some-named.ensures c.in_err-given.ensures.read)

pub returns : goal.returns
returns c =
    rw (words_of-found c.args.words.now c.in-Some.later.now c.in-Some.first.now c.as_str.result.now
    c.in-Some-named.command (found_so_far c.in_ok-given.given)
    c.in-Some.ensures.cases.0 c.as_str.ensures.value c.in-Some-named.ensures c.in_ok-given.ensures.read)
    c.command_of_values.ensures
