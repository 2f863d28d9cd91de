-- The answer of a certificate.
use Rattle.hull_command.proofs.Common.{◌≡◌, Ok, refl, subst, ap, ◌∙◌, unsigned_abs, market_of, schedules_of}
use Rattle.hull_command.proofs.Common.{PricesFile, MixtureFile, Reads, IsInput, IsPricesFile, IsMixtureFile}
use Rattle.hull_command.proofs.Common.{planned_of, IsCommandAnswer, IsCertifiedAt, command_for, certify}
use Rattle.hull_command.proofs.Common.{certify_asked, MixtureLists, mixture_bound}
use Rattle.uc_model.specs.Data.{PriceLists}
use Rattle.hull_words.specs.declared.command.CertifyWords.{CertifyWords}
use Rattle.hull_report.specs.CertifiedText.{certificate_of}
use Rattle.report_form.specs.CertificateText.{certificate_text}
use Rattle.hull_input.specs.declared.input.Input.{Input}
use Rattle.price_settle.specs.Settled.{IsSettledAt, settled_of}
use Rattle.hull_command.specs.declared.answer.Answer.TheVariants.{Certify}
use Rattle.hull_command.specs.declared.answer.CertifiedInput.{CertifiedInput}

module _ (words : CertifyWords) (input : Input) (x : CertifiedInput) (same : x.settled.input ≡ input) (π : PriceLists)
    (mixture : MixtureLists) (certified : IsCertifiedAt π mixture words.radius x) where
  bound_is : x.within.bound ≡ mixture_bound (market_of input.case) mixture π words.radius
  bound_is = certified.bound_is ∙ ap (λ (y : Input). mixture_bound (market_of y.case) mixture π words.radius) same

  pub answers_certify : (reads : Reads) → IsInput reads (Ok (planned_of input)) →
      IsPricesFile (market_of input.case).periods (reads PricesFile) (Ok π) →
      IsMixtureFile (market_of input.case) (reads MixtureFile) (Ok mixture)
      → IsCommandAnswer (command_for (Ok (certify (certify_asked words)))) reads (Ok (Certify x))
  answers_certify reads is prices file = (
    planned_of input,
    (Ok (planned_of input), is, (Ok (planned_of input), (Ok π, prices, refl), (Ok mixture, file, refl))),
    λ text printed. (
      π,
      prices,
      mixture,
      file,
      settled_of x.settled.settled,
      subst (λ (y : Input). IsSettledAt (market_of y.case) (schedules_of y.plan) π (settled_of x.settled.settled)) same
          certified.settled,
      printed ∙
          (λ i. certificate_text (certificate_of (market_of (same i).case) (same i).cost (settled_of x.settled.settled)
          (unsigned_abs (certified.radius_is i)) (bound_is i))),
    ),
  )
