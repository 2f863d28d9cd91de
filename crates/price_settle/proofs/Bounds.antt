-- What one of a plan's schedules, or a best schedule, earns is within the limit of a unit's earnings.
use Rattle.price_settle.proofs.Common.{◌≡◌, ℕ, zero, suc, ℤ, Some, List, [], ◌∷◌, length, sym, ◌∙◌, subst, All, AllZip}
use Rattle.price_settle.proofs.Common.{slice_get, AnyUnit, PriceLists, Schedule, earnings, IsTop, IsUnit, IsEarned}
use Rattle.price_settle.proofs.Common.{ArePrices, IsFeasible, zip_with, none_some, same_item, head_of, tail_of}
use Rattle.uc_model.specs.BoundLaws.{EarningsAreWithin}

module _ (law : EarningsAreWithin) (π : PriceLists) (prices : ArePrices π) where
  pub scheduled_within : (us : List AnyUnit) (ss : List Schedule) (i : ℕ) (x : ℤ) → All IsUnit us →
      AllZip (λ u s. IsFeasible u (length π.energy) s) us ss →
      slice_get (zip_with (λ (u : AnyUnit) (s : Schedule). earnings u π s) us ss) i ≡ Some x → IsEarned x
  scheduled_within [] ss i x limits z e = absurd (none_some x e)
  scheduled_within (u ∷ us) [] i x limits z e = absurd (none_some x e)
  scheduled_within (u ∷ us) (s ∷ ss) zero x limits z e =
      subst IsEarned (sym (same_item (earnings u π s) x e)) (law u π s (head_of IsUnit u us limits) prices z.0)
  scheduled_within (u ∷ us) (s ∷ ss) (suc i) x limits z e =
      scheduled_within us ss i x (tail_of IsUnit u us limits) z.1 e

  pub best_within : (us : List AnyUnit) (es : List ℤ) (i : ℕ) (x : ℤ) → All IsUnit us →
      AllZip (λ (u : AnyUnit) (e : ℤ). IsTop u π e) us es → slice_get es i ≡ Some x → IsEarned x
  best_within [] [] i x limits z e = absurd (none_some x e)
  best_within [] (t ∷ es) i x limits z e = absurd z
  best_within (u ∷ us) [] i x limits z e = absurd z
  best_within (u ∷ us) (t ∷ es) zero x limits z e =
      subst IsEarned (z.0.earns ∙ sym (same_item t x e))
      (law u π z.0.schedule (head_of IsUnit u us limits) prices z.0.best.feasible)
  best_within (u ∷ us) (t ∷ es) (suc i) x limits z e = best_within us es i x (tail_of IsUnit u us limits) z.1 e
