-- Among the items of a list that pass, one is first in a total order.
use Rattle.right_report.proofs.Common.{◌≡◌, ◌⊎◌, inl, inr, true, false, List, [], ◌∷◌, refl, sym, ap, ◌∙◌, cases_Bool}
use Rattle.right_report.proofs.Common.{false≢true, upto, tied_itself, IsTotalOrder, is_gt, ordering_reverse, Ordering}
use Rattle.right_report.proofs.Common.{Less, Equal, Greater}
use Rattle.right_report.proofs.Listing.{IsIn}

turned : (o : Ordering) → is_gt (ordering_reverse o) ≡ true → is_gt o ≡ false
turned Less h = refl
turned Equal h = refl
turned Greater h = absurd (false≢true h)

module _ {X : Type 0} (cmp : X → X → Ordering) (order : IsTotalOrder cmp) (Passes : X → Type 0) where
  -- no item that passes comes before x
  abbrev pub IsBehind : List X → X → Type 0
  IsBehind xs x = (y : X) → IsIn y xs → Passes y → is_gt (cmp x y) ≡ false

  -- no item passes
  abbrev pub NonePasses : List X → Type 0
  NonePasses xs = (y : X) → IsIn y xs → Passes y → ⊥

  -- an item that passes and before which none comes that does
  abbrev pub First : List X → Type 0
  First xs = (x : X) × Passes x × IsBehind xs x

  itself : (x y : X) → x ≡ y → is_gt (cmp x y) ≡ false
  itself x y same = ap (λ z. is_gt (cmp x z)) (sym same) ∙ ap is_gt (tied_itself order x)

  behind_more : (x z : X) (zs : List X) → (Passes z → is_gt (cmp x z) ≡ false) → IsBehind zs x → IsBehind (z ∷ zs) x
  behind_more x z zs here h y (inl same) p = rw (← same) (here (rw same p))
  behind_more x z zs here h y (inr there) p = h y there p

  none_more : (z : X) (zs : List X) → (Passes z → ⊥) → NonePasses zs → NonePasses (z ∷ zs)
  none_more z zs here h y (inl same) p = here (rw same p)
  none_more z zs here h y (inr there) p = h y there p

  alone : (x : X) (zs : List X) → NonePasses zs → IsBehind zs x
  alone x zs h y there p = absurd (h y there p)

  before : (x z : X) → is_gt (cmp x z) ≡ true → is_gt (cmp z x) ≡ false
  before x z h = turned (cmp z x) (ap is_gt (sym (order.antisymm x z)) ∙ h)

  behind_first : (x z : X) (zs : List X) → is_gt (cmp z x) ≡ false → IsBehind zs x → IsBehind zs z
  behind_first x z zs less h y there p = upto order z x y less (h y there p)

  one_more : (z : X) (zs : List X) → Dec (Passes z) → NonePasses zs ⊎ First zs → NonePasses (z ∷ zs) ⊎ First (z ∷ zs)
  one_more z zs (no fails) (inl none) = inl (none_more z zs fails none)
  one_more z zs (no fails) (inr first) =
      inr (first.0, first.1, behind_more first.0 z zs (λ p. absurd (fails p)) first.2)
  one_more z zs (yes p) (inl none) = inr (z, p, behind_more z z zs (λ _. itself z z refl) (alone z zs none))
  one_more z zs (yes p) (inr first) = elim (cases_Bool (is_gt (cmp first.0 z))) [
    | inl late ↦ inr (
      z,
      p,
      behind_more z z zs (λ _. itself z z refl)
          (behind_first first.0 z zs (before first.0 z late) first.2),
    )
    | inr early ↦ inr (first.0, first.1, behind_more first.0 z zs (λ _. early) first.2)
  ]

  pub none_or_first : ((x : X) → Dec (Passes x)) → (xs : List X) → NonePasses xs ⊎ First xs
  none_or_first decide [] = inl (λ y there p. there)
  none_or_first decide (z ∷ zs) = one_more z zs (decide z) (none_or_first decide zs)
