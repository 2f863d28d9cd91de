-- The answer of a settlement at given prices.
use Rattle.hull_command.proofs.Common.{◌≡◌, Ok, refl, subst, market_of, schedules_of, PricesFile, Reads, IsInput}
use Rattle.hull_command.proofs.Common.{IsPricesFile, planned_of, IsCommandAnswer, command_for, settle, settle_asked}
use Rattle.uc_model.specs.Data.{PriceLists}
use Rattle.hull_words.specs.declared.command.SettleWords.{SettleWords}
use Rattle.hull_report.specs.SettledText.{settlement_of}
use Rattle.report_form.specs.SettlementText.{settlement_text}
use Rattle.hull_input.specs.declared.input.Input.{Input}
use Rattle.price_settle.specs.Settled.{IsSettledAt, settled_of}
use Rattle.hull_command.specs.declared.answer.Answer.TheVariants.{Settle}
use Rattle.hull_command.specs.declared.answer.SettledInput.{SettledInput}

module _ (input : Input) (s : SettledInput) (same : s.input ≡ input) (prices : PriceLists)
    (settled : IsSettledAt (market_of s.input.case) (schedules_of s.input.plan) prices (settled_of s.settled)) where
  pub answers_settle : (words : SettleWords) (reads : Reads) → IsInput reads (Ok (planned_of input)) →
      IsPricesFile (market_of input.case).periods (reads PricesFile) (Ok prices)
      → IsCommandAnswer (command_for (Ok (settle (settle_asked words)))) reads (Ok (Settle s))
  answers_settle words reads is file = (
    planned_of input,
    (Ok (planned_of input), is, (Ok prices, file, refl)),
    λ text printed. (
      prices,
      file,
      settled_of s.settled,
      subst (λ (x : Input). IsSettledAt (market_of x.case) (schedules_of x.plan) prices (settled_of s.settled)) same
          settled,
      subst (λ (x : Input). text ≡ settlement_text (settlement_of (market_of x.case) x.cost (settled_of s.settled)))
          same printed,
    ),
  )
