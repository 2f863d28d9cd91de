use Rattle.text_tokens.proofs.Common.{◌≡◌, ◌≤◌, drop, value_from, value}
use Rattle.text_tokens.proofs.number.value_of_digits_within_limit.Given as goal

abbrev pub invariant-loop-b : goal.invariant-loop-b
invariant-loop-b l =
    record { so_far : value_from l.n (drop l.b-index l.digits) ≡ value l.digits; small : l.n ≤ l.limit }
