-- What is promised of a search for convex hull prices.
use Rattle.law_outcome.proofs.Common.{◌≡◌, ℕ, ℤ, pos, Bool, true, false, List, Option, Result, Ok, Err, sym, ap, ◌∙◌}
use Rattle.law_outcome.proofs.Common.{subst, arith, nat_lt, if◌then◌else◌, ◌≤ℤ◌, PriceLists, Market, Asked, ConvexAsked}
use Rattle.law_outcome.proofs.Common.{convex, WordFault, CaseFile, ScheduleFile, End, Done, Cut, Refused, Reads}
use Rattle.law_outcome.proofs.Common.{PlannedCase, command_for, IsReadOf, AreReads, case_and_schedule, HasText, Ends}
use Rattle.law_outcome.proofs.Common.{status_at, words_of, BytesAreThoseRead, SettlementsAddUp, rounds_for}
use Rattle.law_outcome.proofs.Common.{IsConvexPromised}
use Rattle.std.specs.Prelude.{neg_ℤ, ◌+ℤ◌}
use Rattle.std.proofs.lemmas.Int.{ints, clamps}
use Rattle.law_parts.specs.BoundLaws.{ArePriced, IsInBox}
use Rattle.law_parts.specs.MixtureLaws.{MixtureBoundHolds, MixtureBoundReachesCentre, PaymentsReachLeast}
use Rattle.law_parts.proofs.Box.{priced_of, priced_in_box}
use Rattle.law_parts.specs.CaseLaws.{CasesAreWithin}
use Rattle.uc_model.specs.Laws.{ReserveFrom0}
use Rattle.uc_model.specs.Limits.{price_limit}
use Rattle.convex_search.specs.FoundPrices.{everywhere}
use Rattle.gap_proof.specs.MixtureLaws.{least_paid}
use Rattle.report_form.specs.ConvexText.{convex_text}
use Rattle.hull_report.specs.ConvexText.{convex_of}
use Rattle.uc_model.specs.Systems.{plan_cost}
use Rattle.law_outcome.proofs.OutcomeLaws.{status_within, accepted_is_feasible, same_input, InputParts, input_parts}

-- ---- all prices are round any

lowest : (b : Bool) → neg_ℤ price_limit ≤ℤ (if b then neg_ℤ price_limit else pos 0)
lowest true = omega (arith, ints)
lowest false = omega (arith, ints)

everywhere_in_box : (m : Market) (centre π : PriceLists) → ArePriced m centre → ArePriced m π →
    IsInBox m centre everywhere π
everywhere_in_box m centre π at prices = record {
  horizon = prices.horizon;
  inside = λ j lt.
      let there = (priced_in_box m centre (pos 0) at (omega (arith, ints))).inside j lt in
      let here = (priced_in_box m π (pos 0) prices (omega (arith, ints))).inside j lt in
      let a = there.at_least in
      let b = there.at_most in
      let c = here.at_least in
      let d = here.at_most in
      let low = lowest (nat_lt j m.periods) in
      record {
        at_least = omega (arith, ints, clamps, a, b, c, d, low);
        at_most = omega (arith, ints, clamps, a, b, c, d, low);
      };
}

reserve_from_zero : (m : Market) (π : PriceLists) → ArePriced m π → ReserveFrom0 m π
reserve_from_zero m π prices = record {
  horizon = prices.horizon;
  reserve = λ k lt. let length = prices.reserve_horizon in
      (prices.reserve k (pos 0) (omega (arith, lt, length))).at_least;
}

-- ---- the promise

convex_parts : BytesAreThoseRead → (a : ConvexAsked) (reads : Reads) (i : PlannedCase) →
    (command_for (Ok (convex a))).IsDue reads (Ok i) → InputParts reads i
convex_parts got a reads i (Ok c, input, work) =
    subst (InputParts reads) (same_input (rounds_for a.rounds c.market) c i work) (input_parts got reads c input)
convex_parts got a reads i (Err g, input, e) = absurd cc

module _ (got : BytesAreThoseRead) (within : CasesAreWithin) (add_up : SettlementsAddUp) (bound : MixtureBoundHolds)
    (reaches : MixtureBoundReachesCentre) (least : PaymentsReachLeast) (a : ConvexAsked)
    (told : List ℕ → Option (List ℕ)) (rose gained short : List ℕ → Type 0) where
  promised : (reads : Reads) → AreReads told rose (case_and_schedule a.case_name a.schedule_name) reads →
      HasText (command_for (Ok (convex a))) reads gained → IsConvexPromised a told gained
  promised reads are (i, due, shown, (f, found, s, settled, is), printed) =
      let m = i.market in
      let π = f.prices in
      let parts = convex_parts got a reads i due in
      let cost = (accepted_is_feasible (Ok (convex a)) reads i due).1 in
      let limits = within parts.case_bytes m parts.is_case in
      let priced = priced_of m π found.prices.horizon found.prices.within in
      let rounds = rounds_for a.rounds m in
      record {
        case_bytes = parts.case_bytes;
        case_told = subst (IsReadOf (told a.case_name) (rose a.case_name)) parts.case_read (are CaseFile);
        schedule_bytes = parts.plan_bytes;
        schedule_told = subst (IsReadOf (told a.schedule_name) (rose a.schedule_name)) parts.plan_read
            (are ScheduleFile);
        market = m;
        is_case = parts.is_case;
        plan = i.plan;
        is_plan = parts.is_plan;
        feasible = parts.feasible;
        found = f;
        prices = priced;
        settlement = s;
        settled = settled;
        adds_up = add_up m i.plan π s parts.feasible (reserve_from_zero m π priced) settled;
        mixed = found.mixture;
        holds = λ ρ value prices dual. subst (λ (b : ℤ). value ≤ℤ b) (sym found.bound)
            (bound m f.mixture π everywhere ρ value limits found.mixture (everywhere_in_box m π ρ priced prices) dual);
        reached = subst (λ (b : ℤ). s.row.value ≤ℤ b) (sym found.bound)
            (reaches m f.mixture π everywhere s.row.value limits found.mixture priced (omega (arith, ints))
            settled.value);
        paid = λ ρ scheduled payments surplus sum prices settles.
            subst (λ (b : ℤ). least_paid (plan_cost m i.plan) b ≤ℤ (sum +ℤ surplus)) (sym found.bound)
            (least m i.plan f.mixture π everywhere ρ scheduled payments surplus sum limits parts.feasible found.mixture
            (everywhere_in_box m π ρ priced prices) settles);
        made = found.made;
        near = λ lt. found.near lt s.row.value settled.value;
        printed = subst gained
            (is ∙ ap (λ (c : ℤ). convex_text (convex_of m c s f.mixture (pos a.within) rounds f.made f.bound))
            cost) printed;
      }

  pub convex_at_0 : (words : List (List ℕ)) (n : ℕ) (reads : Reads) (e : End) →
      AreReads told rose (command_for (words_of words)).name_of reads →
      Ends (command_for (words_of words)) reads gained short e → n ≡ status_at e → words_of words ≡ Ok (convex a) →
      n ≡ 0 → IsConvexPromised a told gained
  convex_at_0 words n reads Done are ends is same z =
      promised reads
      (subst (λ (v : Result Asked WordFault). AreReads told rose (command_for v).name_of reads) same are)
      (subst (λ (v : Result Asked WordFault). HasText (command_for v) reads gained) same ends)
  convex_at_0 words n reads Cut are ends is same z = absurd (omega (arith, is, z))
  convex_at_0 words n reads (Refused f) are ends is same z = absurd (omega (arith, is, z, (status_within f).0))
