-- Jobs after a deal, and what they added up.
use Rattle.audit_check.proofs.Common.{◌≡◌, ℕ, ◌≤◌, ℤ, List, [], ◌∷◌, map, length, refl, sym, ap, ◌∙◌, subst, subst₂}
use Rattle.audit_check.proofs.Common.{arith, length-map, length-range_with_len, All, AllZip, range_with_len}
use Rattle.audit_check.proofs.Common.{slice_index_or, HasRun, EarningsAreWithin, EarnedSumsAreWithin, UnitsAreWithin}
use Rattle.audit_check.proofs.Common.{AnyUnit, PriceLists, Schedule, Market, units, unit_count, earnings, IsTop, IsUnit}
use Rattle.audit_check.proofs.Common.{IsEarned, IsSum, IsMarket, ArePrices, market_of, prices_of, Fits, zip_with}
use Rattle.audit_check.proofs.Common.{head_of, tail_of, all_nil, all_cons, length_same, length-zip_with, Answerer, Sums}
use Rattle.audit_check.proofs.Common.{HasBegun, HaveBegun, AreSumsOf, AreWithin, AreSumsOfAll}
use Rattle.audit_check.proofs.Fitting.{Plan}
use Rattle.audit_check.proofs.Keeping.{few_units}
use Rattle.audit_check.proofs.Small.{within_wider}

abbrev pub work_of : Answerer → Market × PriceLists
work_of j = (market_of j.case.now, prices_of j.prices)

abbrev pub runs_of : Answerer → List ℕ
runs_of j = j.numbers.items

abbrev pub spare_of : Answerer → ℕ
spare_of j = j.left

pub record IsAt (m : Market) (π : PriceLists) (j : Answerer) : Type 0 where
  pub market : market_of j.case.now ≡ m
  pub prices : prices_of j.prices ≡ π

module _ (m : Market) (π : PriceLists) where
  pub after : (old new : List Answerer) → HaveBegun m π old → AllZip (HasRun work_of runs_of spare_of) old new →
      All (IsAt m π) new
  after [] [] begun zip = all_nil (IsAt m π)
  after [] (y ∷ ys) begun zip = absurd zip
  after (x ∷ xs) [] begun zip = absurd zip
  after (x ∷ xs) (y ∷ ys) begun zip =
      let h = head_of (HasBegun m π) x xs begun in
      let same = zip.0.works_on in
      all_cons (IsAt m π) y ys
      (record {
        market = ap (λ (p : Market × PriceLists). p.0) same ∙ h.market;
        prices =
            ap (λ (p : Market × PriceLists). p.1) same ∙ h.prices;
      })
      (after xs ys (tail_of (HasBegun m π) x xs begun) zip.1)

  pub none_run : (old : List Answerer) → HaveBegun m π old → All (λ j. runs_of j ≡ []) old
  none_run old begun k d less = (begun k d less).numbers

  pub spared : (n : ℕ) (old : List Answerer) → HaveBegun m π old → n ≡ unit_count m → All (λ j. n ≤ spare_of j) old
  spared n old begun e k d less = let left = (begun k d less).left in omega (arith, left, e)

  kept_at : (j : Answerer) → IsAt m π j → ∥ AreSumsOf m π (runs_of j) j.sums ∥₁
  kept_at j at = subst₂ (λ (n : Market) (ρ : PriceLists). ∥ AreSumsOf n ρ (runs_of j) j.sums ∥₁) at.market at.prices
      j.kept

  pub all_kept : (jobs : List Answerer) → All (IsAt m π) jobs → All (λ j. ∥ AreSumsOf m π (runs_of j) j.sums ∥₁) jobs
  all_kept jobs at k d less = kept_at (slice_index_or jobs k d) (at k d less)

  within_at : (j : Answerer) → IsAt m π j → AreWithin m.periods 12288 j.sums
  within_at j at =
      let few = few_units (market_of j.case.now) j.case.now.valid in
      let count = j.count in
      subst (λ (n : Market). AreWithin n.periods 12288 j.sums) at.market
      (within_wider (market_of j.case.now).periods (length j.numbers.items) 12288 j.sums (omega (arith, few, count))
      j.within)

  pub all_within : (periods : ℕ) (jobs : List Answerer) → All (IsAt m π) jobs → m.periods ≡ periods →
      All (λ (j : Answerer). AreWithin periods 12288 j.sums) jobs
  all_within periods jobs at e k d less = subst (λ (p : ℕ). AreWithin p 12288 (slice_index_or jobs k d).sums) e
      (within_at (slice_index_or jobs k d) (at k d less))

  pub all_for : (jobs : List Answerer) → All (IsAt m π) jobs → All (λ (j : Answerer). market_of j.case.now ≡ m) jobs
  all_for jobs at k d less = (at k d less).market

  -- ---- what all units earn

  earned_each : EarningsAreWithin → ArePrices π → (us : List AnyUnit) (ss : List Schedule) → All IsUnit us →
      Plan π us ss → All IsEarned (zip_with (λ u s. earnings u π s) us ss)
  earned_each bound are [] ss limits fit = all_nil IsEarned
  earned_each bound are (u ∷ us) [] limits fit = absurd fit
  earned_each bound are (u ∷ us) (s ∷ ss) limits fit =
      all_cons IsEarned (earnings u π s) (zip_with (λ u s. earnings u π s) us ss)
      (bound u π s (head_of IsUnit u us limits) are fit.0.best.feasible)
      (earned_each bound are us ss (tail_of IsUnit u us limits) fit.1)

  pub earned_sum : UnitsAreWithin → EarningsAreWithin → EarnedSumsAreWithin → IsMarket m → ArePrices π → (s : Sums) →
      AreSumsOfAll m π s → IsSum s.earned
  earned_sum limited bound sum limits are s all =
      let long = length-zip_with (λ u s. earnings u π s) (units m) all.schedules
      (length_same (λ u s. Fits u π s) (units m) all.schedules all.fit) in
      subst IsSum (sym all.earned) (sum m (zip_with (λ u s. earnings u π s) (units m) all.schedules) limits
      (omega (arith, long)) (earned_each bound are (units m) all.schedules (limited m limits) all.fit))

  pub tops : (us : List AnyUnit) (ss : List Schedule) → Plan π us ss →
      AllZip (λ u e. IsTop u π e) us (zip_with (λ u s. earnings u π s) us ss)
  tops [] [] fit = tt
  tops [] (s ∷ ss) fit = absurd fit
  tops (u ∷ us) [] fit = absurd fit
  tops (u ∷ us) (s ∷ ss) fit = (record { schedule = s; best = fit.0.best; earns = refl }, tops us ss fit.1)

-- a list over the horizon is as long as it
pub as_long : (n : ℕ) (f : ℕ → ℤ) (xs : List ℤ) → xs ≡ map f (range_with_len 0 n) → length xs ≡ n
as_long n f xs is = ap length is ∙ (length-map (range_with_len 0 n) f ∙ length-range_with_len 0 n)
