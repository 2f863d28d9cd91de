-- What a search found, with the settlement at its prices, and the answer of a search.
use Rattle.hull_command.proofs.Common.{◌≡◌, pos, Ok, sym, subst, ◌∙◌, market_of, schedules_of, Reads, IsInput, Then}
use Rattle.hull_command.proofs.Common.{planned_of, IsCommandAnswer, command_for, convex, convex_asked, mixture_of}
use Rattle.convex_search.specs.FoundPrices.{FoundPrices, IsFound}
use Rattle.convex_search.specs.declared.goals.Goal.{Goal}
use Rattle.hull_words.specs.declared.command.ConvexWords.{ConvexWords}
use Rattle.hull_report.specs.ConvexText.{convex_of}
use Rattle.report_form.specs.ConvexText.{convex_text}
use Rattle.hull_input.specs.Steps.{IsWithinRounds, rounds_for}
use Rattle.hull_input.specs.declared.input.Input.{Input}
use Rattle.price_settle.specs.Settled.{IsSettledAt, settled_of}
use Rattle.hull_command.specs.Answers.{IsFoundIn, found_in}
use Rattle.hull_command.specs.declared.answer.Answer.TheVariants.{Convex}
use Rattle.hull_command.specs.declared.answer.FoundInput.{FoundInput}
use Rattle.hull_command.specs.declared.answer.SettledInput.{SettledInput}
use Rattle.uc_model.specs.Data.{PriceLists}

-- the settlement is that of the schedule at the prices that were found
pub found_and_settled : (input : Input) (g : Goal) (f : FoundPrices) (s : SettledInput) → s.input ≡ input →
    IsFound (market_of input.case) g f →
    IsSettledAt (market_of s.input.case) (schedules_of s.input.plan) f.prices (settled_of s.settled) →
    IsFound (market_of s.input.case) g (record {
      prices = (settled_of s.settled).row.prices;
      mixture = f.mixture;
      bound = f.bound;
      made = f.made;
    })
found_and_settled input g f s same found settled =
    let at = sym settled.prices in
    subst (λ (y : Input). IsFound (market_of y.case) g (record {
      prices = (settled_of s.settled).row.prices;
      mixture = f.mixture;
      bound = f.bound;
      made = f.made;
    })) (sym same)
    (subst (λ (π : PriceLists). IsFound (market_of input.case) g (record {
      prices = π;
      mixture = f.mixture;
      bound = f.bound;
      made = f.made;
    })) at found)

module _ (words : ConvexWords) (input : Input) (x : FoundInput) (same : x.settled.input ≡ input)
    (within : x.goal.within ≡ pos words.within) (rounds : x.goal.rounds ≡ rounds_for words.rounds (market_of
    input.case))
    (found : IsFoundIn x) where
  pub answers_convex : (reads : Reads) → Then (IsInput reads) (IsWithinRounds words.rounds) (Ok (planned_of input))
      → IsCommandAnswer (command_for (Ok (convex (convex_asked words)))) reads (Ok (Convex x))
  answers_convex reads due = (
    planned_of input,
    due,
    λ text printed. (
      found_in x,
      subst (λ (g : Goal). IsFound (market_of input.case) g (found_in x))
          (λ i. record { within = within i; rounds = rounds i })
          (subst (λ (y : Input). IsFound (market_of y.case) x.goal (found_in x)) same found.found),
      settled_of x.settled.settled,
      subst (λ (y : Input). IsSettledAt (market_of y.case) (schedules_of y.plan) (found_in x).prices (settled_of
          x.settled.settled)) same found.settled,
      printed ∙
          (λ i. convex_text (convex_of (market_of (same i).case) (same i).cost (settled_of x.settled.settled)
          (mixture_of x.mixture) (within i) (rounds i) x.made x.bound)),
    ),
  )
