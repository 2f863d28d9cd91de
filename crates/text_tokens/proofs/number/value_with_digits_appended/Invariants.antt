use Rattle.text_tokens.proofs.Common.{◌≡◌, ◌^◌, ◌<◌, drop, value_from}
use Rattle.text_tokens.proofs.number.value_with_digits_appended.Given as goal

abbrev pub invariant-loop-b : goal.invariant-loop-b
invariant-loop-b l =
    record { so_far : value_from l.n (drop l.b-index l.digits) ≡ value_from l.before l.digits; small : l.n < 10 ^ 30 }
