-- What was read has the shape of a mixture.
use Rattle.uc_mixture.proofs.Common.{◌≡◌, List, [], ◌∷◌, length, arith, All, AllZip}
use Rattle.plain_lists.proofs.ListLaws.{head_of, tail_of}

-- P of each of as many items
pub zipped : {A B : Type 0} (P : B → Type 0) (xs : List A) (ys : List B) → length ys ≡ length xs → All P ys →
    AllZip (λ (x : A) (y : B). P y) xs ys
zipped P [] [] count h = tt
zipped P [] (y ∷ ys) count h = absurd (omega (arith, count))
zipped P (x ∷ xs) [] count h = absurd (omega (arith, count))
zipped P (x ∷ xs) (y ∷ ys) count h = (head_of P y ys h, zipped P xs ys (omega (arith, count)) (tail_of P y ys h))
