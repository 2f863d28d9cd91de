-- How the bytes of a name are escaped.
use Rattle.report_form.proofs.Common.{◌≡◌, ℕ, ◌<◌, ◌≤◌, ◌/◌, ◌%◌, ◌&&◌, Bool, true, false, nat_lt, List, [], ◌∷◌, refl}
use Rattle.report_form.proofs.Common.{ap, arith, flat_map, list_all, nat_tests, Decides-ltb, hex_of, stands_as_is}
use Rattle.report_form.proofs.Common.{escaped}

pub escaped-plain : (b : ℕ) → stands_as_is b ≡ true → escaped b ≡ b ∷ []
unfolding escaped
escaped-plain b h = rw h refl

pub escaped-control : (b : ℕ) → stands_as_is b ≡ false → b < 32 →
    escaped b ≡ 92 ∷ 117 ∷ 48 ∷ 48 ∷ hex_of (b / 16) ∷ hex_of (b % 16) ∷ []
unfolding escaped
escaped-control b h low = rw (h, (Decides-ltb b 32).1 low) refl

pub escaped-behind : (b : ℕ) → stands_as_is b ≡ false → 32 ≤ b → escaped b ≡ 92 ∷ b ∷ []
unfolding escaped
escaped-behind b h high = let e : nat_lt b 32 ≡ false = grind (arith, nat_tests) in rw (h, e) refl

both-left : (a b : Bool) → (a && b) ≡ true → a ≡ true
both-left true b h = refl
both-left false b h = h

both-right : (a b : Bool) → (a && b) ≡ true → b ≡ true
both-right true b h = h
both-right false b h = elim b as (λ b. b ≡ true) [ true ↦ refl | false ↦ h ]

-- where no byte needs an escape, the name stands as it is
pub escaped_all_plain : (name : List ℕ) → list_all stands_as_is name ≡ true → flat_map escaped name ≡ name
escaped_all_plain [] h = refl
escaped_all_plain (b ∷ bs) h =
    rw (escaped-plain b (both-left (stands_as_is b) (list_all stands_as_is bs) h))
    (ap (λ t. b ∷ t) (escaped_all_plain bs (both-right (stands_as_is b) (list_all stands_as_is bs) h)))
