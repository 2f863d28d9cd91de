use Rattle.text_tokens.proofs.Common.{word, number, ◌∙◌, sym}
use Rattle.text_tokens.specs.Small.{decimal_of}
use Rattle.text_tokens.proofs.Lemmas.{number_and_comma_step}
use Rattle.text_tokens.proofs.reader.Reader.number_and_comma.Goals as goal

pub returns-then-rest-len-eq44-clause-some : goal.returns-then-rest-len-eq44-clause-some
returns-then-rest-len-eq44-clause-some c =
    let known = c.in_ok-small.ensures in
    let now = c.pass_blanks.new.self in
    let taken = number_and_comma_step now.bytes.now c.bytes_from-rest.result.now now.at
    (word (number (decimal_of c.in_ok-small.small))) c.in_ok-small.len c.bytes_from-rest.ensures
    known.is known.first.0 known.first.1 c.if-len-rest.true c.if-rest-len-eq44.true in
    record { part = taken.part; parts = sym c.pass_blanks.ensures.rest ∙ taken.parts; kinds_are = taken.kinds_are }
