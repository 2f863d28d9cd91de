-- The bound that `hull bound` prints holds.
use Rattle.law_outcome.proofs.Common.{◌≡◌, ℕ, ◌-◌, ◌≤◌, List, slice_get, Some, Option, Result, Ok, ◌∙◌, subst, arith}
use Rattle.law_outcome.proofs.Common.{slice_get_within, Proposal, chosen_number, plan_cost, Asked, BoundAsked, bound}
use Rattle.law_outcome.proofs.Common.{WordFault, words_of, OneIsChosen, End, Done, Cut, Refused, Reads, PlannedCase}
use Rattle.law_outcome.proofs.Common.{command_for, IsBoundText, AreReads, Ends, status_at, OverReads, IsBoundPromised}
use Rattle.law_outcome.proofs.Common.{WordsHaveNumbersInRange}
use Rattle.law_parts.specs.BoundLaws.{RunBoundsHold}
use Rattle.hull_command.specs.Sizes.{HasSizes}
use Rattle.law_outcome.proofs.OutcomeLaws.{status_within}

-- there is a row, so a row is chosen
chosen_low : OneIsChosen → (rows : List Proposal) (chosen : ℕ) (row : Proposal) → chosen ≡ chosen_number rows →
    slice_get rows (chosen - 1) ≡ Some row → 1 ≤ chosen
chosen_low one rows chosen row is at =
    let inside = slice_get_within rows (chosen - 1) row at in
    let k = one rows (omega (arith, inside)) in
    let number = is ∙ k.2 in
    omega (arith, number)

module _ (words_have_sizes : WordsHaveNumbersInRange) (holds : RunBoundsHold) (one : OneIsChosen) where
  promised : (a : BoundAsked) → HasSizes (bound a) → (i : PlannedCase) (gained : List ℕ → Type 0) (text : List ℕ) →
      IsBoundText a.run.proposals a.run.ahead a.radius i text → gained text
      → IsBoundPromised a i gained
  promised a sizes i gained text (r, right, range, limit, best, is) printed =
      let first = chosen_low one r.rows r.chosen right.row right.chosen_is right.is_chosen in
      record {
        report = r;
        right = right;
        row = right.row;
        chosen = right.is_chosen;
        value = right.value_is;
        range = range;
        limit = limit;
        best = best;
        holds = holds i.market (plan_cost i.market i.plan) a.run.proposals a.run.ahead r.rows r.chosen right.row
            a.radius range limit
            sizes.0.ahead_in.at_least sizes.1.at_least right.run first right.is_chosen best;
        printed = subst gained is printed;
      }

  pub bound_at_0 : (a : BoundAsked) (words : List (List ℕ)) (told : List ℕ → Option (List ℕ))
      (rose gained short : List ℕ → Type 0) (n : ℕ) (reads : Reads) (e : End)
      → AreReads told rose (command_for (words_of words)).name_of reads →
      Ends (command_for (words_of words)) reads gained short e → n ≡ status_at e → words_of words ≡ Ok (bound a) →
      n ≡ 0
      → OverReads (command_for (words_of words)) told rose
      (λ reads. (i : PlannedCase) × (command_for (words_of words)).IsDue reads (Ok i) × IsBoundPromised a i gained)
  bound_at_0 a words told rose gained short n reads Done are (i, due, text, shown, printed) is same z = (
    reads,
    are,
    (
      i,
      due,
      promised a (words_have_sizes words (bound a) same) i gained text
          (subst (λ (v : Result Asked WordFault). (command_for v).IsText reads i text) same shown) printed,
    ),
  )
  bound_at_0 a words told rose gained short n reads Cut are ends is same z = absurd (omega (arith, is, z))
  bound_at_0 a words told rose gained short n reads (Refused f) are ends is same z =
      absurd (omega (arith, is, z, (status_within f).0))
