-- No schedule comes before one whose powers are at most its own, where all else is the same.
use Rattle.flat_answer.proofs.Common.{◌≡◌, ℕ, suc, ◌≤◌, ◌<◌, Bool, cond, List, [], ◌∷◌, ◌++◌, map, reverse, length}
use Rattle.flat_answer.proofs.Common.{get_or, refl, sym, subst, arith, reverse-append, Schedule, ComesBefore}
use Rattle.flat_answer.proofs.Common.{tie_numbers}
use Rattle.std.proofs.lemmas.List.Elements.{AllZip-push}
use Rattle.std.specs.List.{AllZip}
use Rattle.std.specs.Cmp.Lexicographic.{slice_cmp}
use Rattle.std.specs.Ordering.{nat_cmp, ordering_then}
use Rattle.std.specs.declared.cmp.Ordering.TheVariants.{Less, Equal, Greater}
use Rattle.std.proofs.lemmas.Bool.Decides.{nat_tests}

abbrev AtMost : ℕ → ℕ → Type 0
AtMost x y = y ≤ x

not_less : (x y : ℕ) → y ≤ x → nat_cmp x y ≡ Less → ⊥
not_less x y h e = grind (arith, nat_tests)

not_before : (xs ys : List ℕ) → AllZip AtMost xs ys → slice_cmp nat_cmp xs ys ≡ Less → ⊥
not_before [] [] h e = cc
not_before [] (y ∷ ys) h e = absurd h
not_before (x ∷ xs) [] h e = absurd h
not_before (x ∷ xs) (y ∷ ys) h e =
    let order = nat_cmp x y in
    (elim order as (λ o. order ≡ o → ordering_then o (slice_cmp nat_cmp xs ys) ≡ Less → ⊥) [
      | Less ↦ λ is f. not_less x y h.0 is
      | Greater ↦ λ is f. cc
      | Equal ↦ λ is f. not_before xs ys h.1 f
    ]) refl e

same_zip : (xs : List ℕ) → AllZip AtMost xs xs
same_zip [] = tt
same_zip (x ∷ xs) = (omega arith, same_zip xs)

zip_append : (xs ys us vs : List ℕ) → AllZip AtMost xs ys → AllZip AtMost us vs → AllZip AtMost (xs ++ us) (ys ++ vs)
zip_append [] [] us vs h i = i
zip_append [] (y ∷ ys) us vs h i = absurd h
zip_append (x ∷ xs) [] us vs h i = absurd h
zip_append (x ∷ xs) (y ∷ ys) us vs h i = (h.0, zip_append xs ys us vs h.1 i)

zip_reverse : (xs ys : List ℕ) → AllZip AtMost xs ys → AllZip AtMost (reverse xs) (reverse ys)
zip_reverse [] [] h = tt
zip_reverse [] (y ∷ ys) h = absurd h
zip_reverse (x ∷ xs) [] h = absurd h
zip_reverse (x ∷ xs) (y ∷ ys) h =
    let e = reverse-append (x ∷ []) xs in
    let f = reverse-append (y ∷ []) ys in
    let inner = AllZip-push AtMost (reverse xs) (reverse ys) x y (zip_reverse xs ys h.1) h.0 in
    subst (λ (zs : List ℕ). AllZip AtMost zs (reverse (y ∷ ys))) (sym e)
    (subst (λ (zs : List ℕ). AllZip AtMost (reverse xs ++ x ∷ []) zs) (sym f) inner)

zip_from : (xs ys : List ℕ) → length xs ≡ length ys → ((k : ℕ) → k < length xs → get_or ys k 0 ≤ get_or xs k 0) →
    AllZip AtMost xs ys
zip_from [] [] e h = tt
zip_from [] (y ∷ ys) e h = absurd (omega (arith, e))
zip_from (x ∷ xs) [] e h = absurd (omega (arith, e))
zip_from (x ∷ xs) (y ∷ ys) e h =
    (h 0 (omega arith), zip_from xs ys (omega (arith, e)) (λ k i. h (suc k) (omega (arith, i))))

pub not_first : (a b : Schedule) → a.on ≡ b.on → a.reserve ≡ b.reserve → length a.power ≡ length b.power →
    ((k : ℕ) → k < length a.power → get_or b.power k 0 ≤ get_or a.power k 0) → ComesBefore a b → ⊥
not_first a b on reserve lengths powers =
    let flags : List Bool → List ℕ = λ (bs : List Bool). map (λ (x : Bool). cond x 1 0) (reverse bs) in
    let first = subst (λ (bs : List Bool). AllZip AtMost (flags a.on) (flags bs)) on (same_zip (flags a.on)) in
    let second = zip_reverse a.power b.power (zip_from a.power b.power lengths powers) in
    let third = subst (λ (rs : List ℕ). AllZip AtMost (reverse a.reserve) (reverse rs)) reserve
    (same_zip (reverse a.reserve)) in
    not_before (tie_numbers a) (tie_numbers b)
    (zip_append (flags a.on ++ reverse a.power) (flags b.on ++ reverse b.power) (reverse a.reserve) (reverse b.reserve)
    (zip_append (flags a.on) (flags b.on) (reverse a.power) (reverse b.power) first second) third)
