-- What is promised of a certificate of given prices.
use Rattle.law_outcome.proofs.Common.{◌≡◌, ℕ, ℤ, pos, ◌⊎◌, inl, inr, List, Option, Some, Result, Ok, Err, refl, sym, ap}
use Rattle.law_outcome.proofs.Common.{◌∙◌, subst, arith, slice_get, unsigned_abs, ◌≤ℤ◌, PriceLists, Market, Asked}
use Rattle.law_outcome.proofs.Common.{CertifyAsked, certify, WordFault, status_of, fault_line, CaseFile, ScheduleFile}
use Rattle.law_outcome.proofs.Common.{PricesFile, MixtureFile, TopFault, End, Done, Cut, Refused, Reads, bytes_of, Then}
use Rattle.law_outcome.proofs.Common.{IsInput, IsPriced, IsMixtureFile, PlannedCase, command_for, IsReadOf, AreReads}
use Rattle.law_outcome.proofs.Common.{with_mixture, HasText, Ends, status_at, OverReads, HasNoPrices, IsCertifyPromised}
use Rattle.law_outcome.proofs.Common.{HasNoMixture, WordsHaveNumbersInRange, words_of, BytesAreThoseRead}
use Rattle.law_outcome.proofs.Common.{SettlementsAddUp}
use Rattle.law_outcome.proofs.Common.{mixture_fault, MixtureLists, IsMixture}
use Rattle.law_parts.specs.BoundLaws.{ArePriced}
use Rattle.uc_text.specs.Files.{text, value}
use Rattle.law_parts.specs.CaseLaws.{CasesAreWithin}
use Rattle.uc_mixture.specs.Laws.{MixtureFileHasOneValueOrOneFault}
use Rattle.uc_mixture.specs.MixtureFiles.{IsMixtureFileOf}
use Rattle.uc_prices.specs.Laws.{PricesFileHasOneValueOrOneFault, HaveForm, PricesArePerPeriodAndWithinLimits}
use Rattle.law_parts.specs.MixtureLaws.{MixtureBoundHolds, MixtureBoundReachesCentre, PaymentsReachLeast}
use Rattle.gap_proof.specs.MixtureLaws.{MixturesBreakNoRule}
use Rattle.gap_proof.specs.MixtureBound.{mixture_bound}
use Rattle.gap_proof.specs.MixtureRefused.{EntryRefusal, mixture_refusals}
use Rattle.report_form.specs.CertificateText.{certificate_text}
use Rattle.hull_report.specs.CertifiedText.{certificate_of}
use Rattle.law_outcome.proofs.OutcomeLaws.{status_within, same_fault, bytes_fault, priced_fault, mixture_file_fault}
use Rattle.law_outcome.proofs.OutcomeLaws.{input_fault, accepted_is_feasible, InputParts, input_parts}
use Rattle.law_outcome.proofs.SettlePromise.{prices_parts, from_zero, too_many, of_priced}

-- the bytes of a mixture that was read
pub record MixtureParts (reads : Reads) (m : Market) (x : MixtureLists) : Type 0 where
  pub bytes : List ℕ
  pub is_read : reads MixtureFile ≡ Some bytes
  pub is_mixture : IsMixtureFileOf m bytes (Ok x)
  pub mixed : IsMixture m x

module _ (got : BytesAreThoseRead) where
  pub mixture_parts : (reads : Reads) (m : Market) (x : MixtureLists) → IsMixtureFile m (reads MixtureFile) (Ok x) →
      MixtureParts reads m x
  mixture_parts reads m x (Ok y, (Ok bytes, is, (Ok z, found, e)), (mixed, none, left)) =
      let back : z ≡ y = cc in
      record {
        bytes = bytes;
        is_read = got MixtureFile (reads MixtureFile) bytes is;
        is_mixture = subst (λ (w : MixtureLists). IsMixtureFileOf m bytes (Ok w)) (back ∙ sym left) found;
        mixed = subst (IsMixture m) (sym left) mixed;
      }
  mixture_parts reads m x (Ok y, (Ok bytes, is, (Err (text t), found, e)), checked) = absurd cc
  mixture_parts reads m x (Ok y, (Ok bytes, is, (Err (value t), found, e)), checked) = absurd cc
  mixture_parts reads m x (Ok y, (Err g, is, e), checked) = absurd cc
  mixture_parts reads m x (Err g, file, e) = absurd cc

  pub certified_parts : (a : CertifyAsked) (reads : Reads) (i : PlannedCase) →
      (command_for (Ok (certify a))).IsDue reads (Ok i) → InputParts reads i
  certified_parts a reads i (Ok c, input, (Ok d, (Ok π, prices, k), (Ok x, file, e))) = let same : c ≡ i = cc in
      subst (InputParts reads) same (input_parts got reads c input)
  certified_parts a reads i (Ok c, input, (Ok d, (Err g, prices, k), (Ok x, file, e))) = absurd cc
  certified_parts a reads i (Ok c, input, (Ok d, priced, (Err g, file, e))) = absurd cc
  certified_parts a reads i (Ok c, input, (Err g, priced, e)) = absurd cc
  certified_parts a reads i (Err g, input, e) = absurd cc

-- prices over the periods are within their limits
priced_of : (m : Market) (bytes : List ℕ) (π : PriceLists) → HaveForm m.periods bytes π → ArePriced m π
priced_of m bytes π asks = record {
  horizon = asks.energy;
  reserve_horizon = asks.reserve;
  energy = asks.energy_within;
  reserve = asks.reserve_within;
}

-- ---- the promise

-- what holds of cases, prices, settlements and mixtures
pub record Holds : Type 0 where
  pub within : CasesAreWithin
  pub form : PricesArePerPeriodAndWithinLimits
  pub add_up : SettlementsAddUp
  pub bound : MixtureBoundHolds
  pub reaches : MixtureBoundReachesCentre
  pub least : PaymentsReachLeast

module _ (got : BytesAreThoseRead) (holds : Holds) (a : CertifyAsked) (wide : pos 0 ≤ℤ a.radius)
    (told : List ℕ → Option (List ℕ)) (rose gained : List ℕ → Type 0) where
  pub certify_promised : (reads : Reads) → AreReads told rose (with_mixture a.names a.mixture_name) reads →
      HasText (command_for (Ok (certify a))) reads gained → IsCertifyPromised a told gained
  certify_promised reads are (i, due, shown, (π, file, x, mixture_file, s, settled, is), printed) =
      let m = i.market in
      let parts = certified_parts got a reads i due in
      let prices = prices_parts got reads m.periods π file in
      let mixture = mixture_parts got reads m x mixture_file in
      let cost = (accepted_is_feasible (Ok (certify a)) reads i due).1 in
      let asks = holds.form m.periods prices.bytes π prices.is_prices in
      let limits = holds.within parts.case_bytes m parts.is_case in
      let limit = mixture_bound m x π a.radius in
      record {
        case_bytes = parts.case_bytes;
        case_told = subst (IsReadOf (told a.names.case_name) (rose a.names.case_name)) parts.case_read (are CaseFile);
        schedule_bytes = parts.plan_bytes;
        schedule_told = subst (IsReadOf (told a.names.schedule_name) (rose a.names.schedule_name)) parts.plan_read
            (are ScheduleFile);
        prices_bytes = prices.bytes;
        prices_told = subst (IsReadOf (told a.names.prices_name) (rose a.names.prices_name)) prices.is_read
            (are PricesFile);
        mixture_bytes = mixture.bytes;
        mixture_told = subst (IsReadOf (told a.mixture_name) (rose a.mixture_name)) mixture.is_read (are MixtureFile);
        market = m;
        is_case = parts.is_case;
        plan = i.plan;
        is_plan = parts.is_plan;
        feasible = parts.feasible;
        prices = π;
        is_prices = prices.is_prices;
        mixture = x;
        is_mixture = mixture.is_mixture;
        mixed = mixture.mixed;
        settlement = s;
        settled = settled;
        adds_up = holds.add_up m i.plan π s parts.feasible (from_zero m prices.bytes π asks) settled;
        limit = limit;
        limit_is = refl;
        holds = λ ρ value box dual. holds.bound m x π a.radius ρ value limits mixture.mixed box dual;
        reached = holds.reaches m x π a.radius s.row.value limits mixture.mixed (priced_of m prices.bytes π asks) wide
            settled.value;
        paid = λ ρ scheduled payments surplus sum box settles. holds.least m i.plan x π a.radius ρ scheduled payments
            surplus sum limits parts.feasible mixture.mixed box settles;
        printed = subst gained
            (is ∙ ap (λ (c : ℤ). certificate_text (certificate_of m c s (unsigned_abs a.radius) limit)) cost) printed;
      }

-- ---- the refusal of a mixture

module _ (got : BytesAreThoseRead) (one : MixtureFileHasOneValueOrOneFault) (unrefused : MixturesBreakNoRule)
    (a : CertifyAsked)
    (gained short : List ℕ → Type 0) (reads : Reads) (f : TopFault)
    (lines : gained (fault_line f) ⊎ short (fault_line f))
    (due_f : (command_for (Ok (certify a))).IsDue reads (Err f)) where
  abbrev IsSo : Type 0
  IsSo = (i : PlannedCase) × HasNoMixture (command_for (Ok (certify a))) gained short reads i

  -- a mixture that breaks a rule has a schedule that isn't feasible
  never_mixed : (m : Market) (x y : MixtureLists) (r : EntryRefusal) → y ≡ x →
      slice_get (mixture_refusals m y) 0 ≡ Some r → IsMixture m x → ⊥
  never_mixed m x y r same first mixed =
      let none = ap (λ (rs : List EntryRefusal). slice_get rs 0) (unrefused m x mixed) in
      let moved = ap (λ (z : MixtureLists). slice_get (mixture_refusals m z) 0) same in
      absurd cc

  module _ (ten : status_of f ≡ 10) (i : PlannedCase) (input : IsInput reads (Ok i)) where
    of_mixture_file : IsMixtureFile i.market (reads MixtureFile) (Err f) → IsSo
    of_mixture_file (Ok y, (Ok bytes, is, (Ok z, found, e)), (rule, is_rule, first)) =
        let back : z ≡ y = cc in
        let found_y = subst (λ (w : MixtureLists). IsMixtureFileOf i.market bytes (Ok w)) back found in (
          i,
          record {
            fault = f;
            status = ten;
            due = due_f;
            written = lines;
            input = input;
            bytes = bytes;
            is_read = got MixtureFile (reads MixtureFile) bytes is;
            cause = inr (inr (y, rule, found_y, is_rule, first));
            none = λ fits x other mixed.
                let same = one i.market bytes (Ok y) (Ok x) found_y other in
                let is_same : y ≡ x = cc in
                never_mixed i.market x y _ is_same first mixed;
          },
        )
    of_mixture_file (Ok y, (Ok bytes, is, (Err (text t), found, e)), checked) = absurd cc
    of_mixture_file (Ok y, (Ok bytes, is, (Err (value t), found, e)), checked) = absurd cc
    of_mixture_file (Ok y, (Err g, is, e), checked) = absurd cc
    of_mixture_file (Err g, (Ok bytes, is, (Ok z, found, k)), e) = absurd cc
    of_mixture_file (Err g, (Ok bytes, is, (Err first, found, k)), e) = (
      i,
      record {
        fault = f;
        status = ten;
        due = due_f;
        written = lines;
        input = input;
        bytes = bytes;
        is_read = got MixtureFile (reads MixtureFile) bytes is;
        cause = inr (inl (first, found, same_fault f g e ∙ same_fault g (mixture_fault first) k));
        none = λ fits x other mixed. let same = one i.market bytes (Err first) (Ok x) found other in absurd cc;
      },
    )
    of_mixture_file (Err g, (Err h, is, k), e) =
        let same : Err f ≡ bytes_of MixtureFile (reads MixtureFile) =
        ap Err (same_fault f g e ∙ same_fault g h k) ∙ is in
        elim (bytes_fault MixtureFile (reads MixtureFile) f same) [
          | inl p ↦ let two : status_of f ≡ 2 = ap status_of p.0 in absurd (omega (arith, ten, two))
          | inr big ↦
              let many = too_many MixtureFile (reads MixtureFile) (ap Err (sym big) ∙ same) in (
                i,
                record {
                  fault = f;
                  status = ten;
                  due = due_f;
                  written = lines;
                  input = input;
                  bytes = many.0;
                  is_read = many.1;
                  cause = inl (many.2, big);
                  none = λ fits x other mixed. let long = many.2 in omega (arith, fits, long);
                },
              )
        ]

  pub of_certifiable : status_of f ≡ 10 → (command_for (Ok (certify a))).IsDue reads (Err f) → IsSo
  of_certifiable ten (Ok i, input, (Ok d, (Ok π, prices, k), (Ok x, file, e))) = absurd cc
  of_certifiable ten (Ok i, input, (Ok d, (Ok π, prices, k), (Err g, file, e))) =
      let same : d ≡ i = cc in
      of_mixture_file ten i input (subst (λ (c : PlannedCase). IsMixtureFile c.market (reads MixtureFile) (Err f)) same
      (subst (λ (h : TopFault). IsMixtureFile d.market (reads MixtureFile) (Err h)) (sym (same_fault f g e)) file))
  of_certifiable ten (Ok i, input, (Ok d, (Err g, prices, k), mixture)) = absurd cc
  of_certifiable ten (Ok i, input, (Err g, priced, e)) =
      elim (priced_fault reads i f
      (subst (λ (h : TopFault). IsPriced reads i (Err h)) (sym (same_fault f g e)) priced)) [
        | inl p ↦ let two : status_of f ≡ 2 = ap status_of p.0 in absurd (omega (arith, ten, two))
        | inr nine ↦ absurd (omega (arith, ten, nine))
      ]
  of_certifiable ten (Err g, input, e) =
      elim (input_fault reads f (subst (λ (h : TopFault). IsInput reads (Err h)) (sym (same_fault f g e)) input)) [
        | inl p ↦ let two : status_of f ≡ 2 = ap status_of p.0 in absurd (omega (arith, ten, two))
        | inr (inl p) ↦ let two : status_of f ≡ 2 = ap status_of p.0 in absurd (omega (arith, ten, two))
        | inr (inr p) ↦ let most = p.1 in absurd (omega (arith, ten, most))
      ]

-- where the fault is one of prices, it refuses the input with its prices
mixture_status : (m : Market) (reads : Reads) (f : TopFault) → status_of f ≡ 9 →
    IsMixtureFile m (reads MixtureFile) (Err f) → ⊥
mixture_status m reads f nine file =
    elim (mixture_file_fault m (reads MixtureFile) f file) [
      | inl p ↦ let two : status_of f ≡ 2 = ap status_of p.0 in omega (arith, nine, two)
      | inr ten ↦ omega (arith, nine, ten)
    ]

refused_prices : (a : CertifyAsked) (reads : Reads) (f : TopFault) → status_of f ≡ 9 →
    (command_for (Ok (certify a))).IsDue reads (Err f) → Then (IsInput reads) (IsPriced reads) (Err f)
refused_prices a reads f nine (Ok i, input, (Ok d, priced, (Ok x, file, e))) = absurd cc
refused_prices a reads f nine (Ok i, input, (Ok d, priced, (Err g, file, e))) =
    absurd (mixture_status d.market reads f nine
    (subst (λ (h : TopFault). IsMixtureFile d.market (reads MixtureFile) (Err h)) (sym (same_fault f g e)) file))
refused_prices a reads f nine (Ok i, input, (Err g, priced, e)) =
    (Ok i, input, subst (λ (h : TopFault). IsPriced reads i (Err h)) (sym (same_fault f g e)) priced)
refused_prices a reads f nine (Err g, input, e) = (Err g, input, e)

-- ---- all three

module _ (got : BytesAreThoseRead) (sizes : WordsHaveNumbersInRange) (holds : Holds)
    (one_prices : PricesFileHasOneValueOrOneFault) (one : MixtureFileHasOneValueOrOneFault)
    (unrefused : MixturesBreakNoRule) (a : CertifyAsked) (told : List ℕ → Option (List ℕ))
    (rose gained short : List ℕ → Type 0) where
  abbrev Promise : Result Asked WordFault → ℕ → Type 0
  Promise w n =
      (n ≡ 0 → IsCertifyPromised a told gained)
      × (n ≡ 9 → OverReads (command_for w) told rose
      (λ reads. (i : PlannedCase) × HasNoPrices (command_for w) gained short reads i))
      × (n ≡ 10 → OverReads (command_for w) told rose
      (λ reads. (i : PlannedCase) × HasNoMixture (command_for w) gained short reads i))

  certified : pos 0 ≤ℤ a.radius → (n : ℕ) (reads : Reads) (e : End) →
      AreReads told rose (command_for (Ok (certify a))).name_of reads →
      Ends (command_for (Ok (certify a))) reads gained short e → n ≡ status_at e → Promise (Ok (certify a)) n
  certified wide n reads Done are ends is = (
    λ z. certify_promised got holds a wide told rose gained reads are ends,
    λ z. absurd (omega (arith, is, z)),
    λ z. absurd (omega (arith, is, z)),
  )
  certified wide n reads Cut are ends is =
      (λ z. absurd (omega (arith, is, z)), λ z. absurd (omega (arith, is, z)), λ z. absurd (omega (arith, is, z)))
  certified wide n reads (Refused f) are (inl due, lines) is = (
    λ z. absurd (omega (arith, is, z, (status_within f).0)),
    λ z. (
      reads,
      are,
      of_priced got one_prices (command_for (Ok (certify a))) gained short reads f lines (sym is ∙ z)
          due (refused_prices a reads f (sym is ∙ z) due),
    ),
    λ z. (reads, are, of_certifiable got one unrefused a gained short reads f lines due (sym is ∙ z) due),
  )
  certified wide n reads (Refused f) are (inr memory, lines) is =
      let seven : n ≡ 7 = is ∙ ap status_of memory in (
        λ z. absurd (omega (arith, seven, z)),
        λ z. absurd (omega (arith, seven, z)),
        λ z. absurd (omega (arith, seven, z)),
      )

  pub certificate_holds : (words : List (List ℕ)) (n : ℕ) (reads : Reads) (e : End) →
      AreReads told rose (command_for (words_of words)).name_of reads →
      Ends (command_for (words_of words)) reads gained short e → n ≡ status_at e → words_of words ≡ Ok (certify a) →
      Promise (words_of words) n
  certificate_holds words n reads e are ends is same =
      subst (λ (v : Result Asked WordFault). Promise v n) (sym same)
      (certified (sizes words (certify a) same).at_least n reads e
      (subst (λ (v : Result Asked WordFault). AreReads told rose (command_for v).name_of reads) same are)
      (subst (λ (v : Result Asked WordFault). Ends (command_for v) reads gained short e) same ends) is)
