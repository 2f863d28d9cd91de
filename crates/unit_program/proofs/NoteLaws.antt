-- How many entries a spell has in a log.
use Rattle.unit_program.proofs.Common.{◌≡◌, ℕ, zero, suc, ◌<◌, Some, List, inl, inr, ap, sym, ◌∙◌, arith}
use Rattle.unit_program.proofs.Common.{left_from, entry_at, Logged, Passed}
use Rattle.std.proofs.lemmas.Bool.{cases_eq, cond-false, ne_eqb}
use Rattle.slope_list.specs.declared.slopes.Lowest.{Lowest}

-- where an end is noted, there is an entry
pub end_within : (log : List Logged) (i n k : ℕ) (e : Lowest) → (left_from log i n k).end ≡ Some e → k < n
end_within log i zero k e is = cc
end_within log i (suc n) k e is = elim (cases_eq k n) [
  | inl z ↦ omega arith
  | inr other ↦
      let before = cond-false _ (entry_at log i).passed (left_from log (entry_at log i).before n k)
      (ne_eqb k n other) in
      let low = end_within log (entry_at log i).before n k e (ap (λ (p : Passed). p.end) (sym before) ∙ is) in
      omega arith
]
