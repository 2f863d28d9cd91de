-- What all units earn.
use Rattle.convex_search.proofs.Common.{◌≡◌, ◌≤◌, ℤ, List, [], ◌∷◌, length, sym, subst, arith, All, AllZip, all_nil}
use Rattle.convex_search.proofs.Common.{all_cons, head_of, tail_of, AnyUnit, PriceLists, Market, units, IsTop, IsEarned}
use Rattle.convex_search.proofs.Common.{IsUnit, IsMarket, ArePrices}
use Rattle.plain_lists.proofs.ListLaws.{length_same}
use Rattle.price_space.proofs.EarnedSums.{few_units}
use Rattle.uc_model.specs.BoundLaws.{EarningsAreWithin}
use Rattle.uc_model.specs.PlanLaws.{UnitNumbersGoByKind}
use Rattle.unit_program.specs.Tops.{AreTops}

tops_earned : EarningsAreWithin → (π : PriceLists) → ArePrices π → (us : List AnyUnit) (es : List ℤ) → All IsUnit us →
    AllZip (λ u e. IsTop u π e) us es → All IsEarned es
tops_earned law π prices [] [] limits z = all_nil IsEarned
tops_earned law π prices [] (e ∷ es) limits z = absurd z
tops_earned law π prices (u ∷ us) [] limits z = absurd z
tops_earned law π prices (u ∷ us) (e ∷ es) limits z =
    all_cons IsEarned e es (subst IsEarned z.0.earns
    (law u π z.0.schedule (head_of IsUnit u us limits) prices z.0.best.feasible))
    (tops_earned law π prices us es (tail_of IsUnit u us limits) z.1)

pub all_earned : EarningsAreWithin → (m : Market) (π : PriceLists) (es : List ℤ) → ArePrices π → All IsUnit (units m) →
    AreTops m π es → All IsEarned es
all_earned law m π es prices limits tops = tops_earned law π prices (units m) es limits tops

pub earned_count : (m : Market) (π : PriceLists) (es : List ℤ) → AreTops m π es → length es ≡ length (units m)
earned_count m π es tops = sym (length_same (λ u e. IsTop u π e) (units m) es tops)

pub few_earned : UnitNumbersGoByKind → (m : Market) (π : PriceLists) (es : List ℤ) → IsMarket m → AreTops m π es →
    length es ≤ 12288
few_earned numbered m π es valid tops =
    let count = earned_count m π es tops in
    let whole = (numbered m).count in
    let few = few_units m valid in
    omega (arith, count, whole, few)
