-- What `each` reads, item by item, as a loop does. These hold over all types, so that no clause can state them.
use Rattle.std.proofs.Common.{◌≡◌, ℕ, ◌+◌, ◌<◌, ◌≤◌, List, [], ◌∷◌, ◌++◌, length, map, get_or}
use Rattle.std.proofs.Common.{drop, Result, Ok, Err, refl, sym, ap, ◌∙◌, drop-cons, add-one, arith}
use Rattle.std.proofs.lemmas.Grind.{common_steps}
use Rattle.std.proofs.lemmas.List.{nil_from_length, length-drop}
use Rattle.uc_text.specs.Given.{Fails}
use Rattle.uc_text.specs.Words.{each}
use Rattle.uc_text.specs.declared.stop.Stop.{Stop}
use Rattle.uc_text.specs.declared.stop.Stop.TheVariants as stops

-- what is still to be read, beginning with this one
split : {T B : Type 0} (seen : T → B) (ts : List T) (i : ℕ) (t : T)
    → i < length ts → t ≡ get_or ts i t
    → map seen (drop i ts) ≡ seen t ∷ map seen (drop (i + 1) ts)
split seen ts i t lt is = rw (drop-cons ts i t lt, ← is, add-one i) refl

pub goes_on : {A B T F : Type 0} (read : List A → B → Result A F) (seen : T → B) (ts : List T)
    (i : ℕ) (t : T) (front : List A) (x : A) (total : Result (List A) F)
    → i < length ts → t ≡ get_or ts i t
    → read front (seen t) ≡ Ok x → each read front (map seen (drop i ts)) ≡ total
    → each read (front ++ x ∷ []) (map seen (drop (i + 1) ts)) ≡ total
unfolding each
goes_on read seen ts i t front x total lt is h so_far =
    let one : each read front (map seen (drop i ts))
    ≡ each read (front ++ x ∷ []) (map seen (drop (i + 1) ts)) =
    ap (each read front) (split seen ts i t lt is) ∙ rw h refl in
    sym one ∙ so_far

abbrev failed : {A F : Type 0} → F → Result A F
failed f = Err f

pub ends : {A B T F : Type 0} (e : Stop F) (read : List A → B → Result A F) (seen : T → B)
    (ts : List T) (i : ℕ) (t : T) (front : List A) (total : Result (List A) F)
    → i < length ts → t ≡ get_or ts i t
    → Fails e (read front (seen t)) → each read front (map seen (drop i ts)) ≡ total
    → Fails e total
unfolding each
ends stops.Memory read seen ts i t front total lt is h so_far = tt
ends (stops.Fault f) read seen ts i t front total lt is h so_far =
    let one : each read front (map seen (drop i ts)) ≡ failed f =
    ap (each read front) (split seen ts i t lt is) ∙ rw h refl in
    sym so_far ∙ one

pub is_done : {A B T F : Type 0} (read : List A → B → Result A F) (seen : T → B) (ts : List T)
    (i : ℕ) (front : List A) (total : Result (List A) F)
    → length ts ≤ i → each read front (map seen (drop i ts)) ≡ total → total ≡ Ok front
unfolding each
is_done read seen ts i front total le so_far =
    let none : drop i ts ≡ [] = nil_from_length (drop i ts) (omega (arith, length-drop i ts)) in
    sym so_far ∙ ap (λ rest. each read front (map seen rest)) none

-- one more is read
pub counted : {A : Type 0} (xs ys : List A) (x : A) (i : ℕ)
    → ys ≡ xs ++ x ∷ [] → length xs ≡ i → length ys ≡ i + 1
counted xs ys x i pushed count = ap length pushed ∙ grind (arith, common_steps, count)
