-- What all units earn, and what sums of it are worth.
use Rattle.plan_settle.proofs.Common.{◌≡◌, ℤ, List, [], ◌∷◌, length, refl, ap, ◌∙◌, All}
use Rattle.plan_settle.proofs.Common.{AllZip, all_nil, all_cons, zip_with, AnyUnit, PriceLists, Schedule, IsTop}
use Rattle.plan_settle.proofs.Common.{earnings, IsEarned, IsUnit, ArePrices, Fits, head_of, tail_of}
use Rattle.plan_settle.proofs.Common.{Market, units, unit_count, length_same}
use Rattle.plan_settle.proofs.Common.{length-zip_with, UnitNumbersGoByKind}
use Rattle.uc_model.specs.BoundLaws.{EarningsAreWithin}
use Rattle.plan_settle.proofs.Answered.{AreAll}

-- what the least of the best responses earns is what the best earn
pub tops_of : (π : PriceLists) (us : List AnyUnit) (rs : List Schedule) → AllZip (λ u r. Fits u π r) us rs →
    AllZip (λ u e. IsTop u π e) us (zip_with (λ u r. earnings u π r) us rs)
tops_of π [] [] z = tt
tops_of π [] (r ∷ rs) z = absurd z
tops_of π (u ∷ us) [] z = absurd z
tops_of π (u ∷ us) (r ∷ rs) z = (record { schedule = r; best = z.0.best; earns = refl }, tops_of π us rs z.1)

pub all_earned : EarningsAreWithin → (π : PriceLists) → ArePrices π → (us : List AnyUnit) (rs : List Schedule) →
    All IsUnit us → AllZip (λ u r. Fits u π r) us rs → All IsEarned (zip_with (λ u r. earnings u π r) us rs)
all_earned law π prices [] [] limits z = all_nil IsEarned
all_earned law π prices [] (r ∷ rs) limits z = absurd z
all_earned law π prices (u ∷ us) [] limits z = absurd z
all_earned law π prices (u ∷ us) (r ∷ rs) limits z =
    all_cons IsEarned (earnings u π r) (zip_with (λ v t. earnings v π t) us rs)
    (law u π r (head_of IsUnit u us limits) prices z.0.best.feasible)
    (all_earned law π prices us rs (tail_of IsUnit u us limits) z.1)

-- as many as units
pub count_of : UnitNumbersGoByKind → (m : Market) (π : PriceLists) (rs : List Schedule) (es : List ℤ) → AreAll m π rs
    es →
    length es ≡ unit_count m
count_of numbered m π rs es h =
    ap length h.earned ∙ length-zip_with (λ u r. earnings u π r) (units m) rs
    (length_same (λ u r. Fits u π r) (units m) rs h.fit) ∙ (numbered m).count
