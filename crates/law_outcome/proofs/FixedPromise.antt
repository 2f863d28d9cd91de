-- What is promised of the two runs of `hull fixed`.
use Rattle.law_outcome.proofs.Common.{◌≡◌, ℕ, ◌-◌, ◌≤◌, List, Option, Result, Ok, refl, sym, ◌∙◌, subst, arith, pos}
use Rattle.law_outcome.proofs.Common.{Market, Schedule, RunPricesAreWithin, PaymentsAreAtLeastZero}
use Rattle.law_outcome.proofs.Common.{WordsHaveNumbersInRange}
use Rattle.law_outcome.proofs.Common.{IsFeasiblePlan, plan_cost, fixed_market, Asked, PriceAsked, fixed, words_of}
use Rattle.law_outcome.proofs.Common.{WordFault, PaymentsOfFixedReportSideMakeUpTheGap, End, done_whole, Cut, Refused}
use Rattle.law_outcome.proofs.Common.{OverReads}
use Rattle.law_outcome.proofs.Common.{IsFixedPromised, command_for, IsFixedText, AreReads, Ends, status_at, Reads}
use Rattle.law_outcome.proofs.Common.{PlannedCase}
use Rattle.uc_model.specs.Laws.{ReserveFrom0}
use Rattle.right_report.specs.RightSide.{ToldSide}
use Rattle.right_report.specs.RightSide.{IsRightSide}
use Rattle.law_outcome.specs.Laws.{PaysFrom0}
use Rattle.law_outcome.proofs.OutcomeLaws.{status_within, accepted_is_feasible}

-- a right side of a run over the same periods
pays_from_0 : RunPricesAreWithin → PaymentsAreAtLeastZero →
    (given ran : Market) (plan : List Schedule) (budget ahead : ℕ) (s : ToldSide) → 1 ≤ ahead →
    ran.periods ≡ given.periods → IsFeasiblePlan given plan → IsRightSide given ran plan budget ahead s → PaysFrom0 s
pays_from_0 priced nothing given ran plan budget ahead s some same feasible right =
    let prices = priced ran (plan_cost ran plan) budget ahead right.rows (s.chosen - 1) right.row some right.run
    right.is_chosen in
    let length = prices.reserve_horizon in
    let asks : ReserveFrom0 given right.row.prices =
    record {
      horizon = prices.horizon ∙ same;
      reserve =
          λ k lt. (prices.reserve k (pos 0) (omega (arith, lt, length, same))).at_least;
    } in
    let paid = nothing given plan s.prices right.scheduled s.payments s.surplus s.total feasible
    (subst (ReserveFrom0 given) (sym right.prices_are) asks) right.settled in
    record { payments = paid.0; surplus = paid.1 }

module _ (words_have_sizes : WordsHaveNumbersInRange) (made_up : PaymentsOfFixedReportSideMakeUpTheGap)
    (priced : RunPricesAreWithin)
    (nothing : PaymentsAreAtLeastZero) where
  promised : (a : PriceAsked) (i : PlannedCase) (gained : List ℕ → Type 0) (text : List ℕ) → 1 ≤ a.ahead →
      IsFeasiblePlan i.market i.plan → i.cost ≡ plan_cost i.market i.plan → IsFixedText a.proposals a.ahead i text →
      gained text → IsFixedPromised a i gained
  promised a i gained text some feasible cost (hull, held, is_hull, is_held, is) printed = record {
    hull = hull;
    held = held;
    hull_right = is_hull;
    held_right = is_held;
    hull_made_up = made_up i.market i.market i.plan a.proposals a.ahead hull feasible is_hull;
    held_made_up = made_up i.market (fixed_market i.market i.plan) i.plan a.proposals a.ahead held feasible is_held;
    hull_from_0 = pays_from_0 priced nothing i.market i.market i.plan a.proposals a.ahead hull some refl feasible
        is_hull;
    held_from_0 = pays_from_0 priced nothing i.market (fixed_market i.market i.plan) i.plan a.proposals a.ahead held
        some refl feasible is_held;
    cost = cost;
    printed = subst gained is printed;
  }

  pub fixed_at_0 : (a : PriceAsked) (words : List (List ℕ)) (told : List ℕ → Option (List ℕ))
      (rose gained short : List ℕ → Type 0) (n : ℕ) (reads : Reads) (e : End)
      → AreReads told rose (command_for (words_of words)).name_of reads →
      Ends (command_for (words_of words)) reads gained short e → n ≡ status_at e → words_of words ≡ Ok (fixed a) →
      n ≡ 0
      → OverReads (command_for (words_of words)) told rose
      (λ reads. (i : PlannedCase) × (command_for (words_of words)).IsDue reads (Ok i) × IsFixedPromised a i gained)
  fixed_at_0 a words told rose gained short n reads done_whole are (i, due, text, shown, printed) is same z =
      let accepted = accepted_is_feasible (words_of words) reads i due in (
        reads,
        are,
        (
          i,
          due,
          promised a i gained text (words_have_sizes words (fixed a) same).ahead_in.at_least
              accepted.0 accepted.1
              (subst (λ (v : Result Asked WordFault). (command_for v).IsText reads i text) same shown)
              printed,
        ),
      )
  fixed_at_0 a words told rose gained short n reads Cut are ends is same z = absurd (omega (arith, is, z))
  fixed_at_0 a words told rose gained short n reads (Refused f) are ends is same z =
      absurd (omega (arith, is, z, (status_within f).0))
