-- A run that is ready completes its command.
use Rattle.hull_command.proofs.Common.{◌≡◌, ℕ, Result, Ok, sym, subst, try_text, Terms, TopFault, PlannedCase}
use Rattle.hull_command.proofs.Common.{planned_run, IsReportText, IsInput, IsWithinWork, IsMade, Then, Reads, Completes}
use Rattle.hull_command.proofs.Common.{command_for, try, try_asked, HasNumbers, rest_with}
use Rattle.hull_command.specs.Rest.{IsOfInputAlone, left_of, texts_of, run_with}
use Rattle.hull_words.specs.declared.command.PriceWords.{PriceWords}
use Rattle.hull_words.specs.declared.command.TryWords.{TryWords}
use Rattle.hull_command.specs.declared.ready.Purpose.{Purpose}
use Rattle.hull_command.specs.declared.ready.Purpose.TheVariants.{Price, Try, Bound, Fixed, Audit}

by_numbers : (P : (budget ahead : ℕ) → Type 0) (b a c d : ℕ) → b ≡ c → a ≡ d → P b a → P c d
by_numbers P b a c d e f p = subst (P c) f (subst (λ (n : ℕ). P n a) e p)

left_as : (purpose : Purpose) (c : PlannedCase) (found : Result PlannedCase TopFault) → IsOfInputAlone purpose →
    left_of purpose c found → found ≡ Ok c
left_as Price c found one left = left
left_as (Try number) c found one left = left
left_as (Bound radius) c found one left = left
left_as Fixed c found one left = left
left_as (Audit report) c found one left = absurd one

module _ (terms : Terms) where
  pub completes_run : (words : PriceWords) (purpose : Purpose) (reads : Reads) → IsOfInputAlone purpose
      → HasNumbers words terms → Then (IsInput reads) (IsWithinWork words.proposals) (Ok (planned_run terms))
      → Completes (run_with words purpose) reads (rest_with purpose (planned_run terms) terms.budget terms.ahead)
  completes_run words purpose reads one n is = record {
    due = λ found left. subst (Then (IsInput reads) (IsWithinWork words.proposals))
        (sym (left_as purpose (planned_run terms) found one left)) is;
    text = λ i text printed. by_numbers (λ (b a : ℕ). texts_of purpose b a i text) terms.budget terms.ahead
        words.proposals words.ahead n.budget n.ahead printed;
  }

  pub completes_try : (words : TryWords) (reads : Reads) → terms.budget ≡ words.proposals → terms.ahead ≡ words.ahead
      → Then (IsMade words.number) (IsWithinWork words.proposals) (Ok (planned_run terms))
      → Completes (command_for (Ok (try (try_asked words)))) reads
      (rest_with (Try words.number) (planned_run terms) terms.budget terms.ahead)
  completes_try words reads budget ahead is = record {
    due = λ found e. subst (Then (IsMade words.number) (IsWithinWork words.proposals)) (sym e) is;
    text = λ i text printed. by_numbers (λ (b a : ℕ). IsReportText (try_text words.number) b a i text) terms.budget
        terms.ahead words.proposals words.ahead budget ahead printed;
  }
