-- Sums of what the units of a market earn.
use Rattle.price_space.proofs.Common.{◌≡◌, ℕ, zero, suc, ◌+◌, ◌≤◌, ℤ, ◌+ℤ◌, List, [], ◌∷◌, take, ap, arith, ints, Some}
use Rattle.price_space.proofs.Common.{slice_get, total, Market, IsMarket}
use Rattle.plain_lists.proofs.ListLaws.{none_some, same_item}
use Rattle.uc_model.specs.Data.{unit_count}

pub total_more : (xs : List ℤ) (i : ℕ) (x : ℤ) → slice_get xs i ≡ Some x →
    total (take (i + 1) xs) ≡ total (take i xs) +ℤ x
total_more [] i x e = absurd (none_some x e)
total_more (y ∷ ys) zero x e = let a = same_item y x e in omega (arith, ints, a)
total_more (y ∷ ys) (suc i) x e =
    let next : suc i + 1 ≡ suc (i + 1) = omega arith in
    let n = ap (λ (j : ℕ). total (take j (y ∷ ys))) next in
    omega (arith, ints, n, total_more ys i x e)

-- no more units than there can be
pub few_units : (m : Market) → IsMarket m → unit_count m ≤ 12288
few_units m h =
    let a = h.thermal_count in
    let b = h.flat_count in
    let c = h.bid_count in
    omega (arith, a, b, c)
