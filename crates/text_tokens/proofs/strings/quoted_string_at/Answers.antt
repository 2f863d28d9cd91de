use Rattle.text_tokens.proofs.Common.{◌≡◌, ap, arith, is_utf8-from_IsUtf8, string_of, len_or}
use Rattle.text_tokens.proofs.Lemmas.{no_string, not_utf8, string_of_len, closed, not_utf8_test}
use Rattle.text_tokens.proofs.strings.quoted_string_at.Goals as goal

pub returns-in_err-len-clause-none : goal.returns-in_err-len-clause-none
returns-in_err-len-clause-none c = rw c.from_residual.ensures (no_string c.args.bytes.now c.in_err-len.ensures.is)

pub returns-in-Err-clause-none : goal.returns-in-Err-clause-none
returns-in-Err-clause-none c =
    not_utf8 c.args.bytes.now c.in_ok-len.len c.in_ok-len.ensures.is (not_utf8_test _ c.in-Err.ensures.cases.0)

pub invariant_of-result-clause-closed : goal.invariant_of-result-clause-closed
invariant_of-result-clause-closed c =
    closed c.args.bytes.now c.in_ok-len.len c.in_ok-len.ensures.is (is_utf8-from_IsUtf8 _ c.in-Ok.ensures.cases.1)

pub returns-in-Ok-clause-some : goal.returns-in-Ok-clause-some
returns-in-Ok-clause-some c = string_of_len c.args.bytes.now c.in_ok-len.len c.in_ok-len.ensures.is
    (is_utf8-from_IsUtf8 _ c.in-Ok.ensures.cases.1)

pub invariant_of-result-clause-within : goal.invariant_of-result-clause-within
invariant_of-result-clause-within c =
    let is = string_of_len c.args.bytes.now c.in_ok-len.len c.in_ok-len.ensures.is
    (is_utf8-from_IsUtf8 _ c.in-Ok.ensures.cases.1) in
    let n : len_or (string_of c.args.bytes.now) ≡ c.in_ok-len.len = ap len_or is in
    omega (arith, n, c.in_ok-len.ensures.within)
