-- Each move keeps the rule.
use Rattle.task_deal.proofs.Common.{◌≡◌, ℕ, zero, suc, ◌+◌, ◌-◌, ◌<◌, List, [], ◌∷◌, ◌++◌, set, sym, refl, ap, ◌∙◌}
use Rattle.task_deal.proofs.Common.{subst, arith, some, some-injective, some-ne-none, get_elem?, Pushes, Takes, Finds}
use Rattle.task_deal.proofs.Common.{FindsFew, Admits, Forks, Merges, Learns, Account, sum_of, account, IsHelper}
use Rattle.task_deal.proofs.Common.{AreHelpers, IsFair, Fits, IsSettled}
use Rattle.task_deal.proofs.Sums.{sum_of-append, sum_of_push, sum_of_set}

helpers_set : (vs : List Account) (i : ℕ) (w : Account) → IsHelper w → AreHelpers vs → AreHelpers (set vs i w)
helpers_set [] i w is hs = hs
helpers_set (v ∷ vs) zero w is hs = (is, hs.1)
helpers_set (v ∷ vs) (suc i) w is hs = (hs.0, helpers_set vs i w is hs.1)

helpers_push : (vs : List Account) (w : Account) → IsHelper w → AreHelpers vs → AreHelpers (vs ++ w ∷ [])
helpers_push [] w is hs = (is, hs)
helpers_push (v ∷ vs) w is hs = (hs.0, helpers_push vs w is hs.1)

helper_at : (vs : List Account) (i : ℕ) (v : Account) → get_elem? vs i ≡ some v → AreHelpers vs → IsHelper v
helper_at [] i v at hs = absurd (some-ne-none v (sym at))
helper_at (x ∷ vs) zero v at hs = subst IsHelper (some-injective _ _ at) hs.0
helper_at (x ∷ vs) (suc i) v at hs = helper_at vs i v at hs.1

idle : (vs : List Account) (h : ℕ → ℕ) → sum_of (λ v. v.parts) vs ≡ 0 → AreHelpers vs →
    sum_of (λ v. sum_of h v.taken) vs ≡ 0
idle [] h none hs = refl
idle (v ∷ vs) h none hs = let e : sum_of h v.taken ≡ 0 = ap (sum_of h) (hs.0.1 (omega (arith, none))) in
    omega (arith, e, idle vs h (omega (arith, none)) hs.1)

pub begins : IsFair [] (account 0 [] [] ∷ [])
begins = (refl, (λ h. refl), tt)

pub pushes : (port : ℕ) (v : Account) (xs : List ℕ) → port ≡ 0 →
    Pushes IsFair port v xs (λ w. w ≡ account v.parts (v.put ++ xs) v.taken)
pushes zero v xs e items [] fair at = absurd fair
pushes zero v xs e items (o ∷ vs) fair at = let same : o ≡ v = some-injective _ _ at in
    let w = account v.parts (v.put ++ xs) v.taken in (
      w,
      subst (λ (u : Account). IsFair (items ++ xs) (account u.parts (u.put ++ xs) u.taken ∷ vs)) same (
        fair.0,
        (λ h. omega (arith, fair.1 h, sum_of-append h o.put xs, sum_of-append h items xs)),
        fair.2,
      ),
      refl,
    )
pushes (suc p) v xs e items vs fair at = absurd (omega (arith, e))

takes_own : (v : Account) (most : ℕ) → Takes IsFair 0 v most (λ xs w. w ≡ account v.parts v.put (v.taken ++ xs))
takes_own v most xs items [] some_left few fair at = absurd fair
takes_own v most xs items (o ∷ vs) some_left few fair at = let same : o ≡ v = some-injective _ _ at in
    let w = account v.parts v.put (v.taken ++ xs) in (
      w,
      subst (λ (u : Account). IsFair items (account u.parts u.put (u.taken ++ xs) ∷ vs)) same (
        fair.0,
        (λ h. omega (arith, fair.1 h, sum_of-append h o.taken xs, sum_of-append h xs items)),
        fair.2,
      ),
      refl,
    )

pub takes_owner : (port : ℕ) (v : Account) (most : ℕ) → port ≡ 0 →
    Takes IsFair port v most (λ xs w. w ≡ account v.parts v.put (v.taken ++ xs))
takes_owner zero v most e = takes_own v most
takes_owner (suc p) v most e = absurd (omega (arith, e))

pub takes : (port : ℕ) (v : Account) (most : ℕ) → 0 < v.parts →
    Takes IsFair port v most (λ xs w. w ≡ account v.parts v.put (v.taken ++ xs))
takes zero v most part xs items vs some_left few fair at = takes_own v most xs items vs some_left few fair at
takes (suc p) v most part xs items [] some_left few fair at = absurd fair
takes (suc p) v most part xs items (o ∷ vs) some_left few fair at = let w = account v.parts v.put (v.taken ++ xs) in
    let mine = helper_at vs p v at fair.2 in (
      w,
      (
        (let s = sum_of_set (λ (u : Account). u.parts) vs p v w at in omega (arith, s, fair.0)),
        (λ h. let s = sum_of_set (λ (u : Account). sum_of h u.taken) vs p v w at in
            omega (arith, s, fair.1 h, sum_of-append h v.taken xs, sum_of-append h xs items)),
        helpers_set vs p w (mine.0, λ none. absurd (omega (arith, none, part))) fair.2,
      ),
      refl,
    )

pub finds : (port : ℕ) (v : Account) → Finds IsFair port v (IsSettled v)
finds zero v [] fair at = absurd fair
finds zero v (o ∷ vs) fair at =
    subst IsSettled (some-injective _ _ at) (λ none h. omega (arith, fair.1 h, idle vs h (sym fair.0 ∙ none) fair.2))
finds (suc p) v [] fair at = absurd fair
finds (suc p) v (o ∷ vs) fair at = let mine = helper_at vs p v at fair.2 in
    λ none h. ap (sum_of h) mine.0 ∙ sym (ap (sum_of h) (mine.1 none))

pub finds_few : (port : ℕ) (v : Account) → FindsFew IsFair 0 port v (IsSettled v)
finds_few port v [] views few fair at = finds port v views fair at
finds_few port v (x ∷ xs) views few fair at = absurd (omega (arith, few))

pub admits : Admits IsFair (account 0 [] [])
admits items [] fair = absurd fair
admits items (o ∷ vs) fair = (
  omega (arith, fair.0, sum_of_push (λ (u : Account). u.parts) vs (account 0 [] [])),
  (λ h. omega (arith, fair.1 h, sum_of_push (λ (u : Account). sum_of h u.taken) vs (account 0 [] []))),
  helpers_push vs (account 0 [] []) (refl, λ _. refl) fair.2,
)

pub forks : (port : ℕ) (v : Account) → port ≡ 0 →
    Forks IsFair port v (account (v.parts + 1) v.put v.taken) (account 1 [] [])
forks zero v e items [] fair at = absurd fair
forks zero v e items (o ∷ vs) fair at =
    subst (λ (u : Account). IsFair items (account (u.parts + 1) u.put u.taken ∷ (vs ++ account 1 [] [] ∷ [])))
    (some-injective _ _ at) (
      omega (arith, fair.0, sum_of_push (λ (u : Account). u.parts) vs (account 1 [] [])),
      (λ h. omega (arith, fair.1 h, sum_of_push (λ (u : Account). sum_of h u.taken) vs (account 1 [] []))),
      helpers_push vs (account 1 [] []) (refl, λ _. refl) fair.2,
    )
forks (suc p) v e items vs fair at = absurd (omega (arith, e))

pub merges : (port : ℕ) (v : Account) (other : ℕ) (w : Account) → port ≡ 0 →
    Merges IsFair port v other w (account (v.parts - w.parts) v.put (v.taken ++ w.taken)) (account 0 [] [])
merges (suc p) v other w e items vs fair at two there = absurd (omega (arith, e))
merges zero v other w e items [] fair at two there = absurd fair
merges zero v zero w e items (o ∷ vs) fair at two there = absurd (two refl)
merges zero v (suc q) w e items (o ∷ vs) fair at two there = let gone = account 0 [] [] in
    subst (λ (u : Account). IsFair items (account (u.parts - w.parts) u.put (u.taken ++ w.taken) ∷ set vs q gone))
    (some-injective _ _ at) (
      (let s = sum_of_set (λ (u : Account). u.parts) vs q w gone there in omega (arith, s, fair.0)),
      (λ h. let s = sum_of_set (λ (u : Account). sum_of h u.taken) vs q w gone there in
          omega (arith, s, fair.1 h, sum_of-append h o.taken w.taken)),
      helpers_set vs q gone (refl, λ _. refl) fair.2,
    )

pub fits : (port : ℕ) (v : Account) → port ≡ 0 → Learns IsFair port v (λ items. Fits v)
fits zero v e items [] fair at = absurd fair
fits zero v e items (o ∷ vs) fair at = subst Fits (some-injective _ _ at) (λ h. omega (arith, fair.1 h))
fits (suc p) v e items vs fair at = absurd (omega (arith, e))

pub drains : (port : ℕ) (v : Account) → port ≡ 0 →
    Takes IsFair port v 1 (λ xs w. (w ≡ account v.parts v.put (v.taken ++ xs)) × Fits w)
drains zero v e xs items [] some_left few fair at = absurd fair
drains zero v e xs items (o ∷ vs) some_left few fair at = let same : o ≡ v = some-injective _ _ at in
    let w = account v.parts v.put (v.taken ++ xs) in (
      w,
      subst (λ (u : Account). IsFair items (account u.parts u.put (u.taken ++ xs) ∷ vs)) same (
        fair.0,
        (λ h. omega (arith, fair.1 h, sum_of-append h o.taken xs, sum_of-append h xs items)),
        fair.2,
      ),
      (
        refl,
        subst (λ (u : Account). Fits (account u.parts u.put (u.taken ++ xs))) same
            (λ h. omega (arith, fair.1 h, sum_of-append h o.taken xs, sum_of-append h xs items)),
      ),
    )
drains (suc p) v e xs items vs some_left few fair at = absurd (omega (arith, e))
