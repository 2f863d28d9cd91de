-- What is promised of a settlement at given prices.
use Rattle.law_outcome.proofs.Common.{◌≡◌, ℕ, ℤ, ◌<◌, ◌⊎◌, inl, inr, Bool, true, false, List, Option, None, Some}
use Rattle.law_outcome.proofs.Common.{Result, Ok, Err, refl, sym, ap, ◌∙◌, subst, arith, length, nat_lt, if◌then◌else◌}
use Rattle.law_outcome.proofs.Common.{ltb-true, MOST_BYTES, PriceLists, Asked, SettleAsked, settle, WordFault}
use Rattle.law_outcome.proofs.Common.{status_of, fault_line, CaseFile, ScheduleFile, PricesFile, TopFault, TooBig, End}
use Rattle.law_outcome.proofs.Common.{Done, Cut, Refused, Reads, bytes_of, IsInput, IsPricesFile, IsPriced, Then}
use Rattle.law_outcome.proofs.Common.{Market, PlannedCase, command_for, IsReadOf, AreReads, with_prices, HasText, Ends}
use Rattle.law_outcome.proofs.Common.{status_at, OverReads, IsSettlePromised, HasNoPrices, Command, pos}
use Rattle.law_outcome.proofs.Common.{BytesAreThoseRead, SettlementsAddUp, prices_fault}
use Rattle.uc_text.specs.Files.{text, value}
use Rattle.uc_prices.specs.PricesFiles.{IsPricesOf}
use Rattle.report_form.specs.SettlementText.{settlement_text}
use Rattle.hull_report.specs.SettledText.{settlement_of}
use Rattle.hull_fault.specs.declared.fault.FileKind.{FileKind}
use Rattle.uc_model.specs.Laws.{ReserveFrom0}
use Rattle.uc_prices.specs.Kept.{IsPriceOf}
use Rattle.uc_prices.specs.Laws.{PricesFileHasOneValueOrOneFault, HaveForm, PricesArePerPeriodAndWithinLimits}
use Rattle.uc_prices.specs.declared.fault.PriceField.TheVariants.{Reserve}
use Rattle.std.proofs.lemmas.List.Elements.{All-get_or}
use Rattle.law_outcome.proofs.OutcomeLaws.{status_within, same_fault, bytes_fault, input_fault, accepted_is_feasible}
use Rattle.law_outcome.proofs.OutcomeLaws.{InputParts, input_parts}

-- the bytes of prices that were read
pub record PricesParts (reads : Reads) (periods : ℕ) (π : PriceLists) : Type 0 where
  pub bytes : List ℕ
  pub is_read : reads PricesFile ≡ Some bytes
  pub is_prices : IsPricesOf periods bytes (Ok π)

module _ (got : BytesAreThoseRead) where
  pub prices_parts : (reads : Reads) (periods : ℕ) (π : PriceLists) → IsPricesFile periods (reads PricesFile) (Ok π) →
      PricesParts reads periods π
  prices_parts reads periods π (Ok bytes, is, (Ok ρ, found, e)) =
      let same : ρ ≡ π = cc in
      record {
        bytes = bytes;
        is_read = got PricesFile (reads PricesFile) bytes is;
        is_prices = subst (λ (x : PriceLists). IsPricesOf periods bytes (Ok x)) same found;
      }
  prices_parts reads periods π (Ok bytes, is, (Err (text t), found, e)) = absurd cc
  prices_parts reads periods π (Ok bytes, is, (Err (value t), found, e)) = absurd cc
  prices_parts reads periods π (Err g, is, e) = absurd cc

  pub settled_parts : (a : SettleAsked) (reads : Reads) (i : PlannedCase) →
      (command_for (Ok (settle a))).IsDue reads (Ok i) → InputParts reads i
  settled_parts a reads i (Ok c, input, (Ok π, file, e)) = let same : c ≡ i = cc in
      subst (InputParts reads) same (input_parts got reads c input)
  settled_parts a reads i (Ok c, input, (Err g, file, e)) = absurd cc
  settled_parts a reads i (Err g, input, e) = absurd cc

-- ---- the promise

-- the prices of a file ask nothing below 0 for reserve
pub from_zero : (m : Market) (bytes : List ℕ) (π : PriceLists) → HaveForm m.periods bytes π → ReserveFrom0 m π
from_zero m bytes π asks = record {
  horizon = asks.energy;
  reserve =
      λ k lt. (All-get_or (IsPriceOf Reserve) π.reserve k (pos 0) (omega (arith, lt, asks.reserve))
      asks.reserve_within).at_least;
}

module _ (got : BytesAreThoseRead) (add_up : SettlementsAddUp) (form : PricesArePerPeriodAndWithinLimits)
    (a : SettleAsked)
    (told : List ℕ → Option (List ℕ)) (rose gained : List ℕ → Type 0) where
  pub settle_promised : (reads : Reads) → AreReads told rose (with_prices a.case_name a.schedule_name a.prices_name)
      reads → HasText (command_for (Ok (settle a))) reads gained → IsSettlePromised a told gained
  settle_promised reads are (i, due, shown, (π, file, s, settled, is), printed) =
      let parts = settled_parts got a reads i due in
      let prices = prices_parts got reads i.market.periods π file in
      let cost = (accepted_is_feasible (Ok (settle a)) reads i due).1 in
      let asks = form i.market.periods prices.bytes π prices.is_prices in
      let from_0 = from_zero i.market prices.bytes π asks in
      record {
        case_bytes = parts.case_bytes;
        case_told = subst (IsReadOf (told a.case_name) (rose a.case_name)) parts.case_read (are CaseFile);
        schedule_bytes = parts.plan_bytes;
        schedule_told = subst (IsReadOf (told a.schedule_name) (rose a.schedule_name)) parts.plan_read
            (are ScheduleFile);
        prices_bytes = prices.bytes;
        prices_told = subst (IsReadOf (told a.prices_name) (rose a.prices_name)) prices.is_read (are PricesFile);
        market = i.market;
        is_case = parts.is_case;
        plan = i.plan;
        is_plan = parts.is_plan;
        feasible = parts.feasible;
        prices = π;
        is_prices = prices.is_prices;
        settlement = s;
        settled = settled;
        adds_up = add_up i.market i.plan π s parts.feasible from_0 settled;
        printed = subst gained (is ∙ ap (λ (c : ℤ). settlement_text (settlement_of i.market c s)) cost) printed;
      }

-- ---- the refusal of prices

-- bytes that are too many
pub too_many : (file : FileKind) (read : Option (List ℕ)) → Err (TooBig file) ≡ bytes_of file read →
    (bytes : List ℕ) × (read ≡ Some bytes) × (MOST_BYTES < length bytes)
too_many file None e = absurd cc
too_many file (Some bytes) e =
    (bytes, refl, ltb-true MOST_BYTES (length bytes) (long (nat_lt MOST_BYTES (length bytes)) e))
  where
    long : (b : Bool) → Err (TooBig file) ≡ (if b then Err (TooBig file) else Ok bytes) → b ≡ true
    long true e = refl
    long false e = absurd cc

module _ (got : BytesAreThoseRead) (one : PricesFileHasOneValueOrOneFault) (c : Command)
    (gained short : List ℕ → Type 0) (reads : Reads)
    (f : TopFault) (lines : gained (fault_line f) ⊎ short (fault_line f))
    (nine : status_of f ≡ 9) (due_f : c.IsDue reads (Err f)) where
  abbrev IsSo : Type 0
  IsSo = (i : PlannedCase) × HasNoPrices c gained short reads i

  pub of_file : (i : PlannedCase) → IsInput reads (Ok i) → IsPricesFile i.market.periods (reads PricesFile) (Err f) →
      IsSo
  of_file i input (Ok bytes, is, (Ok π, found, e)) = absurd cc
  of_file i input (Ok bytes, is, (Err first, found, e)) = (
    i,
    record {
      fault = f;
      status = nine;
      due = due_f;
      written = lines;
      input = input;
      bytes = bytes;
      is_read = got PricesFile (reads PricesFile) bytes is;
      cause = inr (first, found, same_fault f (prices_fault first) e);
      none = λ fits π other. let same = one i.market.periods bytes (Err first) (Ok π) found other in absurd cc;
    },
  )
  of_file i input (Err g, is, e) =
      let same : Err f ≡ bytes_of PricesFile (reads PricesFile) = ap Err (same_fault f g e) ∙ is in
      elim (bytes_fault PricesFile (reads PricesFile) f same) [
        | inl p ↦ let two : status_of f ≡ 2 = ap status_of p.0 in absurd (omega (arith, nine, two))
        | inr big ↦
            let many = too_many PricesFile (reads PricesFile) (ap Err (sym big) ∙ same) in (
              i,
              record {
                fault = f;
                status = nine;
                due = due_f;
                written = lines;
                input = input;
                bytes = many.0;
                is_read = many.1;
                cause = inl (many.2, big);
                none = λ fits π other. let long = many.2 in omega (arith, fits, long);
              },
            )
      ]

  pub of_input : (g : TopFault) → ◌≡◌ {A = Result PlannedCase TopFault} (Err f) (Err g) → IsInput reads (Err g) → IsSo
  of_input g e input =
      elim (input_fault reads f (subst (λ (h : TopFault). IsInput reads (Err h)) (sym (same_fault f g e)) input)) [
        | inl p ↦ let two : status_of f ≡ 2 = ap status_of p.0 in absurd (omega (arith, nine, two))
        | inr (inl p) ↦ let two : status_of f ≡ 2 = ap status_of p.0 in absurd (omega (arith, nine, two))
        | inr (inr p) ↦ let most = p.1 in absurd (omega (arith, nine, most))
      ]

  pub of_priced : Then (IsInput reads) (IsPriced reads) (Err f) → IsSo
  of_priced (Ok i, input, (Ok π, file, e)) = absurd cc
  of_priced (Ok i, input, (Err g, file, e)) =
      of_file i input (subst (λ (h : TopFault). IsPricesFile i.market.periods (reads PricesFile) (Err h))
      (sym (same_fault f g e)) file)
  of_priced (Err g, input, e) = of_input g e input

-- ---- both

module _ (got : BytesAreThoseRead) (add_up : SettlementsAddUp) (form : PricesArePerPeriodAndWithinLimits)
    (one : PricesFileHasOneValueOrOneFault)
    (a : SettleAsked) (told : List ℕ → Option (List ℕ)) (rose gained short : List ℕ → Type 0) where
  abbrev Promise : Result Asked WordFault → ℕ → Type 0
  Promise w n =
      (n ≡ 0 → IsSettlePromised a told gained)
      × (n ≡ 9 → OverReads (command_for w) told rose
      (λ reads. (i : PlannedCase) × HasNoPrices (command_for w) gained short reads i))

  settled : (n : ℕ) (reads : Reads) (e : End) → AreReads told rose (command_for (Ok (settle a))).name_of reads →
      Ends (command_for (Ok (settle a))) reads gained short e → n ≡ status_at e → Promise (Ok (settle a)) n
  settled n reads Done are ends is =
      (λ z. settle_promised got add_up form a told rose gained reads are ends, λ z. absurd (omega (arith, is, z)))
  settled n reads Cut are ends is = (λ z. absurd (omega (arith, is, z)), λ z. absurd (omega (arith, is, z)))
  settled n reads (Refused f) are (inl due, lines) is = (
    λ z. absurd (omega (arith, is, z, (status_within f).0)),
    λ z. (reads, are, of_priced got one (command_for (Ok (settle a))) gained short reads f lines (sym is ∙ z) due due),
  )
  settled n reads (Refused f) are (inr memory, lines) is =
      let seven : n ≡ 7 = is ∙ ap status_of memory in (
        λ z. absurd (omega (arith, seven, z)),
        λ z. absurd (omega (arith, seven, z)),
      )

  pub settlement_holds : (w : Result Asked WordFault) (n : ℕ) (reads : Reads) (e : End) →
      AreReads told rose (command_for w).name_of reads → Ends (command_for w) reads gained short e → n ≡ status_at e →
      w ≡ Ok (settle a) → Promise w n
  settlement_holds w n reads e are ends is same =
      subst (λ (v : Result Asked WordFault). Promise v n) (sym same)
      (settled n reads e
      (subst (λ (v : Result Asked WordFault). AreReads told rose (command_for v).name_of reads) same are)
      (subst (λ (v : Result Asked WordFault). Ends (command_for v) reads gained short e) same ends) is)
