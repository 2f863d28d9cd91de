-- What tests that passed say: the parts of a reading that gave a value.
use Rattle.law_parts.proofs.ReaderNames.{few, full, ◌≡◌, ℕ, ◌+◌, ◌≤◌, ◌==◌, Bool, true, false, List, [], ◌∷◌, ◌++◌}
use Rattle.law_parts.proofs.ReaderNames.{length}
use Rattle.law_parts.proofs.ReaderNames.{Result, Ok, Err, refl, subst, ap, arith, true≢false, ltb-false, eqb-true}
use Rattle.law_parts.proofs.ReaderNames.{not, ℤ}
use Rattle.law_parts.proofs.ReaderNames.{pos, negsuc, unsigned_abs, nat_abs, nat_lt, int_lt, length-append, All}
use Rattle.law_parts.proofs.ReaderNames.{All-nil}
use Rattle.law_parts.proofs.ReaderNames.{All-push, IsFrom, IsPower, IsCost, IsStartCost, Value, Pair, Read, Keys, key}
use Rattle.law_parts.proofs.ReaderNames.{under}
use Rattle.law_parts.proofs.ReaderNames.{part, items, decimal, amount, cost, time_within, rounded, each, refuse}
use Rattle.law_parts.proofs.ReaderNames.{position}
use Rattle.law_parts.proofs.ReaderNames.{Site, item_at, field_at, units, site, of_value}
use Rattle.uc_model.specs.declared.kinds.Kind.{Kind}
use Rattle.uc_model.specs.declared.limits.TheConstants.{MOST_OF_A_KIND}
use Rattle.uc_field.specs.Forms.{list, object}
use Rattle.uc_text.specs.Magnitudes.{most_power, most_cost}
use Rattle.uc_text.specs.Words.{◌>>=◌, ◌>>◌}
use Rattle.uc_field.specs.declared.fault.Field.{Field}
use Rattle.uc_field.proofs.Fits.{not_above, within}

-- ---- one test after the other

pub ok_same : {A F : Type 0} (x y : A) → ◌≡◌ {A = Result A F} (Ok x) (Ok y) → x ≡ y
ok_same x y e = cc

pub bind_ok : {A B F : Type 0} (r : Result A F) (f : A → Result B F) (y : B) → (r >>= f) ≡ Ok y →
    (x : A) × (r ≡ Ok x) × (f x ≡ Ok y)
bind_ok (Ok x) f y e = (x, refl, e)
bind_ok (Err d) f y e = absurd cc

pub of_value_ok : {A F : Type 0} (r : Result A F) (x : A) → of_value r ≡ Ok x → r ≡ Ok x
of_value_ok (Ok y) x e = let same : y ≡ x = cc in cc
of_value_ok (Err f) x e = absurd cc

pub passed : {B F : Type 0} (f : F) (b : Bool) (r : Result B F) (y : B) → (refuse f b >> r) ≡ Ok y →
    (b ≡ false) × (r ≡ Ok y)
passed f true r y e = absurd cc
passed f false r y e = (refl, e)

pub not_false : (b : Bool) → not b ≡ false → b ≡ true
not_false true e = refl
not_false false e = absurd (true≢false e)

pub same_count : (a b : ℕ) → not (a == b) ≡ false → a ≡ b
same_count a b e = eqb-true a b (not_false (a == b) e)

-- ---- the items of a list

pub each_keeps : {A B F : Type 0} (Kept : List A → Type 0) (read : List A → B → Result A F) →
    ((front : List A) (v : B) (x : A) → Kept front → read front v ≡ Ok x → Kept (front ++ x ∷ []))
    → (vs : List B) (front all : List A) → Kept front → each read front vs ≡ Ok all → Kept all
unfolding each
each_keeps Kept read step [] front all kept e = subst Kept (ok_same front all e) kept
each_keeps Kept read step (v ∷ vs) front all kept e =
    let r = bind_ok (read front v) (λ x. each read (front ++ x ∷ []) vs) all e in
    each_keeps Kept read step vs (front ++ r.0 ∷ []) all (step front v r.0 kept r.1) r.2

pub each_count : {A B F : Type 0} (read : List A → B → Result A F) (vs : List B) (front all : List A) →
    each read front vs ≡ Ok all → length all ≡ length front + length vs
unfolding each
each_count read [] front all e = let same = ap length (ok_same front all e) in omega arith
each_count read (v ∷ vs) front all e =
    let r = bind_ok (read front v) (λ x. each read (front ++ x ∷ []) vs) all e in
    let rest = each_count read vs (front ++ r.0 ∷ []) all r.2 in
    let more = length-append front (r.0 ∷ []) in
    omega arith

pub items_count : {A : Type 0} (read : Site → List A → Value → Read A) (at : Site) (vs : List Value) (all : List A) →
    items read at vs ≡ Ok all → length all ≡ length vs
items_count read at vs all e =
    let count = each_count (λ before. read (item_at at (position before)) before) vs [] all e in omega arith

pub few_ok : {A : Type 0} (Kept : List A → Type 0) (read : Site → List A → Value → Read A) (most : ℕ) (at : Site)
    (v : Value) (all : List A) → Kept [] →
    ((front : List A) (w : Value) (x : A) → Kept front → read at front w ≡ Ok x → Kept (front ++ x ∷ []))
    → few read most at v ≡ Ok all → (length all ≤ most) × Kept all
unfolding few
few_ok Kept read most at v all none step e =
    let vs = bind_ok (list at v) _ all e in
    let within = passed _ _ _ all vs.2 in
    let count = each_count (read at) vs.0 [] all within.1 in
    let le = ltb-false most (length vs.0) within.0 in
    (omega (arith, count, le), each_keeps Kept (read at) step vs.0 [] all none within.1)

pub full_ok : (periods : ℕ) (at : Site) (v : Value) (vs : List Value) → full periods at v ≡ Ok vs → length vs ≡ periods
unfolding full
full_ok periods at v vs e =
    let found = bind_ok (list at v) _ vs e in
    let sized = passed _ _ _ vs found.2 in
    subst (λ (ws : List Value). length ws ≡ periods) (ok_same found.0 vs sized.1)
    (same_count (length found.0) periods sized.0)

-- ---- a key

pub part_ok : {A : Type 0} (at : Site) (name : List ℕ) (form : Site → Value → Read A) (members : List Pair) (x : A) →
    part at name form members ≡ Ok x → (v : Value) × (form at v ≡ Ok x)
part_ok at name form members x e = let found = bind_ok (under at name members) (λ v. form at v) x e in
    (found.0, found.2)

pub key_ok : {A : Type 0} (o : Keys) (f : Field) (form : Site → Value → Read A) (x : A) → key o f form ≡ Ok x →
    (v : Value) × (form (field_at o.at f) v ≡ Ok x)
key_ok o f form x e = let found = bind_ok _ (λ v. form (field_at o.at f) v) x e in (found.0, found.2)

-- ---- a number

pub amount_ok : (scale limit : ℕ) (at : Site) (v : Value) (n : ℤ) → amount scale limit at v ≡ Ok n →
    IsFrom (pos 0) (pos limit) n
unfolding amount
amount_ok scale limit at v n e =
    let d = bind_ok (decimal at v) _ n e in
    let above = passed _ _ _ n d.2 in
    let below = passed _ _ _ n above.1 in
    subst (λ (k : ℤ). IsFrom (pos 0) (pos limit) k) (ok_same (rounded d.0 scale) n below.1)
    (not_above limit (rounded d.0 scale) above.0 below.0)

pub power_ok : (at : Site) (v : Value) (n : ℤ) → amount 3 most_power at v ≡ Ok n → IsPower n
power_ok at v n e = amount_ok 3 most_power at v n e

pub start_cost_ok : (at : Site) (v : Value) (n : ℤ) → amount 6 most_cost at v ≡ Ok n → IsStartCost n
start_cost_ok at v n e = amount_ok 6 most_cost at v n e

pub cost_ok : (at : Site) (v : Value) (n : ℤ) → cost at v ≡ Ok n → IsCost n
unfolding cost
cost_ok at v n e =
    let d = bind_ok (decimal at v) _ n e in
    let above = passed _ _ _ n d.2 in
    subst (λ (k : ℤ). IsCost k) (ok_same (rounded d.0 6) n above.1) (within most_cost (rounded d.0 6) above.0)

few_periods : (limit : ℕ) (x : ℤ) → nat_lt limit (unsigned_abs x) ≡ false → int_lt x (pos 0) ≡ false → nat_abs x ≤ limit
few_periods limit (pos m) above below = ltb-false _ _ above
few_periods limit (negsuc m) above below = absurd (true≢false below)

pub time_ok : (limit : ℕ) (at : Site) (v : Value) (n : ℕ) → time_within limit at v ≡ Ok n → n ≤ limit
unfolding time_within
time_ok limit at v n e =
    let d = bind_ok (decimal at v) _ n e in
    let whole = passed _ _ _ n d.2 in
    let above = passed _ _ _ n whole.1 in
    let below = passed _ _ _ n above.1 in
    subst (λ (k : ℕ). k ≤ limit) (ok_same (nat_abs (rounded d.0 0)) n below.1)
    (few_periods limit (rounded d.0 0) above.0 below.0)

-- ---- the units of a kind

pub units_ok : {A : Type 0} (P : A → Type 0) (field : Field) (kind : Kind) (read : Site → Pair → Read A) →
    ((at : Site) (m : Pair) (x : A) → read at m ≡ Ok x → P x)
    → (at : Site) (v : Value) (all : List A) → units field kind read at v ≡ Ok all →
    (length all ≤ MOST_OF_A_KIND) × All P all
unfolding units
units_ok P field kind read one at v all e =
    let ms = bind_ok (object at v) _ all e in
    let few = passed _ _ _ all ms.2 in
    let count = each_count (λ before. read (site field kind (position before))) ms.0 [] all few.1 in
    let le = ltb-false MOST_OF_A_KIND (length ms.0) few.0 in (
      omega (arith, count, le),
      each_keeps (All P) (λ before. read (site field kind (position before)))
          (λ front m x kept is. All-push P front x kept (one _ m x is)) ms.0 [] all (All-nil P) few.1,
    )
